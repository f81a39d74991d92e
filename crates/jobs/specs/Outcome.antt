-- What the program answers where no device fails and memory is found: its status, the lines that it prints, and the
-- name and the bytes of the file that it writes.
use Rattle.std.specs.Prelude.{◌≡◌, ℕ, List, [], ◌∷◌, Option, Some, None, option_map}
use Rattle.goat_io.specs.Files.{Files, with_file}
use Rattle.command_line.specs.Words.{Job}
use Rattle.jobs.specs.Stages.{AllPass, FirstEnds}
use Rattle.command_line.specs.Forms.{WordsOf, IsNoForm}
use Rattle.jobs.specs.Jobs.{stages, Done}
use Rattle.command_line.specs.Lines.{usage_line}

-- the words are of no form; or the first stage of their job that doesn't pass ends the run; or all pass and the job is
-- done
pub data Outcome (words : List (List ℕ)) (files : Files) (status : ℕ) (lines : List (List ℕ))
    (write : Option (List ℕ × List ℕ)) : Type 0 where
  usage : IsNoForm words → status ≡ 1 → lines ≡ usage_line ∷ [] → write ≡ None →
      Outcome words files status lines write
  ended : (job : Job) → WordsOf words job → FirstEnds files (stages job) status lines → write ≡ None →
      Outcome words files status lines write
  done : (job : Job) → WordsOf words job → AllPass files (stages job) → Done job files lines write → status ≡ 0 →
      Outcome words files status lines write

-- the files after the file that is written, if any; every other file is as before
abbrev pub files_after : Files → Option (List ℕ × List ℕ) → Files
files_after files None = files
files_after files (Some write) = with_file files write.0 write.1

-- the same of a folder that may tell its files or not
abbrev pub told_after : Option Files → Option (List ℕ × List ℕ) → Option Files
told_after told write = option_map (λ files. files_after files write) told
