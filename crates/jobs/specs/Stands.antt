-- What stands after a run, however it ends: the answer, what the sink holds, what the folder holds, and which counts
-- rose. The files are those that the folder tells, or, where it tells none, some files as they were read.
use Rattle.std.specs.Prelude.{◌≡◌, ◌≢◌, ℕ, List, [], ◌∷◌, ◌++◌, Option, Some, IfSome, take}
use Rattle.std.specs.List.{concat}
use Rattle.goat_io.specs.declared.folder_counts.FolderCounts.{FolderCounts}
use Rattle.goat_io.specs.Count.{Rose}
use Rattle.goat_io.specs.Files.{Files, IsWrittenInPart}
use Rattle.goat_io.specs.Written.{told_with_piece}
use Rattle.command_line.specs.Words.{Job}
use Rattle.jobs.specs.Stages.{Stage, IsThere, AllPass}
use Rattle.command_line.specs.Forms.{WordsOf}
use Rattle.jobs.specs.Jobs.{stages, Prints, Awaits}
use Rattle.jobs.specs.Outcome.{Outcome, told_after}
use Rattle.command_line.specs.Lines.{no_memory_line}
use Rattle.jobs.specs.Lines.{read_fault_line, write_fault_line}

-- the files that a folder tells, if it tells them, and its four counts
pub record FolderState : Type 0 where
  pub told : Option Files
  pub counts : FolderCounts

-- the bytes that a sink tells, if it tells them, and its count of faults
pub record SinkState : Type 0 where
  pub told : Option (List ℕ)
  pub faults : ℕ

abbrev pub folder_state : Option Files → FolderCounts → FolderState
folder_state files counts = record { told = files; counts = counts }

abbrev pub sink_state : Option (List ℕ) → ℕ → SinkState
sink_state bytes faults = record { told = bytes; faults = faults }

-- these are the files that are told, if they are
abbrev pub AreFiles : Option Files → Files → Type 0
AreFiles told files = IfSome told (λ known. files ≡ known)

-- ---- counts

-- the count rose where this status is the one that tells of it, and is as before with every other
pub record RisesWith (own status before after : ℕ) : Type 0 where
  pub rose : status ≡ own → Rose before after
  pub stays : status ≢ own → after ≡ before

-- what a status tells of the counts of a folder
pub record Counted (status : ℕ) (before after : FolderCounts) : Type 0 where
  pub misses : RisesWith 2 status before.misses after.misses
  pub excesses : RisesWith 3 status before.excesses after.excesses
  pub read_faults : RisesWith 4 status before.read_faults after.read_faults
  pub write_faults : RisesWith 9 status before.write_faults after.write_faults

-- the folder is as before
pub record FolderStays (before after : FolderState) : Type 0 where
  pub told : after.told ≡ before.told
  pub counts : Counted 0 before.counts after.counts

-- these bytes were appended, and no fault was counted
pub record Appends (bytes : List ℕ) (before after : SinkState) : Type 0 where
  pub told : after.told ≡ told_with_piece before.told bytes
  pub faults : after.faults ≡ before.faults

-- these bytes were appended, the last of them by a put that failed
pub record FailsAfter (bytes : List ℕ) (before after : SinkState) : Type 0 where
  pub told : after.told ≡ told_with_piece before.told bytes
  pub faults : Rose before.faults after.faults

-- ---- what a run came to

-- the words name a job with this stage, and all earlier ones pass
pub record ComesTo (words : List (List ℕ)) (files : Files) (stage : Stage) : Type 0 where
  pub job : Job
  pub form : WordsOf words job
  pub earlier : List Stage
  pub later : List Stage
  pub stages_are : stages job ≡ earlier ++ stage ∷ later
  pub pass : AllPass files earlier

-- the status that a run came to, the lines that go with it, and the files: an outcome; or a read, or the write of an
-- outcome that writes, failed
pub data Account (words : List (List ℕ)) (files : Files) (status : ℕ) (lines : List (List ℕ))
    (before after : Option Files) : Type 0 where
  outcome : (write : Option (List ℕ × List ℕ)) → Outcome words files status lines write →
      after ≡ told_after before write → Account words files status lines before after
  read_fault : (name : List ℕ) → ComesTo words files (IsThere name) → status ≡ 4 →
      lines ≡ read_fault_line name ∷ [] →
      after ≡ before → Account words files status lines before after
  write_fault : (text : List (List ℕ)) (output file : List ℕ) → Outcome words files 0 text (Some (output, file)) →
      status ≡ 9 → lines ≡ write_fault_line output ∷ [] → IsWrittenInPart before after output file →
      Account words files status lines before after

-- a run has come to a stage that prints these lines before it is known whether it ends the run
pub record IsPrinting (words : List (List ℕ)) (files : Files) (lines : List (List ℕ)) : Type 0 where
  pub stage : Stage
  pub comes : ComesTo words files stage
  pub prints : Prints files stage lines

-- a run has come to a stage that has printed these lines, and not all
pub record IsAwaiting (words : List (List ℕ)) (files : Files) (lines : List (List ℕ)) : Type 0 where
  pub stage : Stage
  pub comes : ComesTo words files stage
  pub awaits : Awaits files stage lines

-- the lines that a run was printing: those of what it came to, or those of a stage
pub data Printing (words : List (List ℕ)) (files : Files) (lines : List (List ℕ))
    (before after : FolderState) : Type 0 where
  of_account : (status : ℕ) → Account words files status lines before.told after.told →
      Counted status before.counts after.counts → Printing words files lines before after
  of_stage : IsPrinting words files lines → FolderStays before after → Printing words files lines before after

-- ---- what stands

-- after these bytes it was told that the run is out of memory, with status 14; or that put failed too; or it was out
-- of memory, and nothing more is told
pub data TellsWant (bytes : List ℕ) (answer : ℕ) (before after : SinkState) : Type 0 where
  told : answer ≡ 14 → Appends (bytes ++ no_memory_line) before after → TellsWant bytes answer before after
  failed : (kept : ℕ) → answer ≡ 10 → FailsAfter (bytes ++ take kept no_memory_line) before after →
      TellsWant bytes answer before after
  untold : answer ≡ 14 → Appends bytes before after → TellsWant bytes answer before after

-- all lines were appended; or the put of a line failed, and nothing more was put; or the run was out of memory for a
-- line, or before the first one, or before it was known what the next one of a stage is
pub data Stands (words : List (List ℕ)) (files : Files) (answer : ℕ) (folder folder_after : FolderState)
    (sink sink_after : SinkState) : Type 0 where
  whole : (lines : List (List ℕ)) → Account words files answer lines folder.told folder_after.told →
      Counted answer folder.counts folder_after.counts → Appends (concat lines) sink sink_after →
      Stands words files answer folder folder_after sink sink_after
  cut_in_line : (earlier later : List (List ℕ)) (line : List ℕ) (kept : ℕ) →
      Printing words files (earlier ++ line ∷ later) folder folder_after → answer ≡ 10 →
      FailsAfter (concat earlier ++ take kept line) sink sink_after →
      Stands words files answer folder folder_after sink sink_after
  wanting : (earlier later : List (List ℕ)) (line : List ℕ) →
      Printing words files (earlier ++ line ∷ later) folder folder_after →
      TellsWant (concat earlier) answer sink sink_after → Stands words files answer folder folder_after sink sink_after
  wanting_first : FolderStays folder folder_after → TellsWant [] answer sink sink_after →
      Stands words files answer folder folder_after sink sink_after
  wanting_next : (lines : List (List ℕ)) → IsAwaiting words files lines → FolderStays folder folder_after →
      TellsWant (concat lines) answer sink sink_after → Stands words files answer folder folder_after sink sink_after

-- the same, where some of the folder's files stand for it
pub record RunStands (words : List (List ℕ)) (answer : ℕ) (folder folder_after : FolderState)
    (sink sink_after : SinkState) : Type 0 where
  pub files : Files
  pub are_files : AreFiles folder.told files
  pub stands : Stands words files answer folder folder_after sink sink_after
