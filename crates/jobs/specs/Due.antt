-- Which status a run has to answer, known without the bytes that it prints and writes.
use Rattle.std.specs.Prelude.{◌≡◌, ℕ, List, [], ◌∷◌, Option, Some, None, ◌⊎◌}
use Rattle.goat_io.specs.Files.{Files}
use Rattle.command_line.specs.Words.{Job}
use Rattle.jobs.specs.Stages.{AllPass, FirstEnds}
use Rattle.command_line.specs.Forms.{WordsOf, IsNoForm}
use Rattle.jobs.specs.Jobs.{output_of, stages}

-- the status that is due, and the name of the file that is written with it, if any
pub data IsDue (words : List (List ℕ)) (files : Files) (status : ℕ) (output : Option (List ℕ)) : Type 0 where
  usage : IsNoForm words → status ≡ 1 → output ≡ None → IsDue words files status output
  ended : (job : Job) (lines : List (List ℕ)) → WordsOf words job → FirstEnds files (stages job) status lines →
      output ≡ None → IsDue words files status output
  done : (job : Job) → WordsOf words job → AllPass files (stages job) → status ≡ 0 → output ≡ output_of job →
      IsDue words files status output

-- one of these numbers
abbrev pub IsOneOf : List ℕ → ℕ → Type 0
IsOneOf [] n = ⊥
IsOneOf (x ∷ xs) n = (n ≡ x) ⊎ IsOneOf xs n

-- the statuses that may come in place of the one that is due: a failed read or put, running out of memory, and a failed
-- write where a file is written
abbrev pub instead : Option (List ℕ) → List ℕ
instead None = 4 ∷ 10 ∷ 14 ∷ []
instead (Some output) = 4 ∷ 9 ∷ 10 ∷ 14 ∷ []
