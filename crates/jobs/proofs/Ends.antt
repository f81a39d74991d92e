-- From what a stage answers to how the run is over.
use Rattle.std.proofs.Common.{◌≡◌, ℕ, inl, inr, List, [], ◌∷◌, ◌++◌, None, refl, sym, ◌∙◌, subst}
use Rattle.goat_io.specs.Files.{Files}
use Rattle.command_line.specs.Words.{Job}
use Rattle.command_line.specs.Lines.{usage_line}
use Rattle.command_line.specs.Last.{Last, Says, Wants}
use Rattle.jobs.specs.Stages.{Stage, IsThere, Fits, status_of, Ends, AllPass, FirstEnds}
use Rattle.command_line.specs.Forms.{WordsOf, IsNoForm}
use Rattle.jobs.specs.Jobs.{stages}
use Rattle.jobs.specs.Outcome as outcome
use Rattle.jobs.specs.Stands as stands
use Rattle.jobs.specs.Stands.{FolderState, SinkState, AreFiles, Account, Counted, FolderStays, ComesTo}
use Rattle.jobs.specs.Endings as ends
use Rattle.jobs.specs.Endings.{ReadFails, RunEnds, JobEnds}
use Rattle.jobs.proofs.Told.{some_files, as_before, uncounted, stays_itself, appends_nothing}
use Rattle.jobs.proofs.Passes.{met_passes}

-- the stage is the first that isn't met
pub first_ends : (files : Files) (earlier later : List Stage) (stage : Stage) (lines : List (List ℕ)) →
    AllPass files earlier → Ends files stage lines → FirstEnds files (earlier ++ stage ∷ later) (status_of stage) lines
first_ends files [] later stage lines pass is = inl (refl, is)
first_ends files (first ∷ earlier) later stage lines pass is =
    inr (pass.0, first_ends files earlier later stage lines pass.1 is)

-- no form of the command line has the words
pub usage_ends : (words : List (List ℕ)) (folder : FolderState) (sink : SinkState) → IsNoForm words →
    RunEnds words (Says 1 usage_line) folder folder sink sink
usage_ends words folder sink none = let some = some_files folder.told in record {
  files = some.files;
  are_files = some.are_files;
  is_over = record {
    earlier = [];
    account = stands.outcome None (outcome.usage none refl refl refl) (as_before folder.told);
    counted = uncounted refl (stays_itself folder).counts;
    appends = appends_nothing sink;
  };
}

module _ {job : Job} {folder after : FolderState} (sink : SinkState) where
  -- the run was out of memory before the first line
  pub wants_first : FolderStays folder after → JobEnds job Wants folder after sink sink
  wants_first stays = let some = some_files folder.told in record {
    ends =
        λ words form.
        record { files = some.files; are_files = some.are_files; is_over = ends.first stays (appends_nothing sink) };
  }

  -- the job has a last line to print, and no other was printed
  pub has_last : {files : Files} {status : ℕ} {line : List ℕ} → AreFiles folder.told files →
      ((words : List (List ℕ)) → WordsOf words job → Account words files status (line ∷ []) folder.told after.told) →
      Counted status folder.counts after.counts → JobEnds job (Says status line) folder after sink sink
  has_last {files} are account counted = record {
    ends = λ words form. record {
      files = files;
      are_files = are;
      is_over = record {
        earlier = [];
        account = account words form;
        counted = counted;
        appends = appends_nothing sink;
      };
    };
  }

  -- a stage ends the run with one line
  pub says_ends : (files : Files) {line : List ℕ} (earlier later : List Stage) (stage : Stage) →
      AreFiles folder.told files →
      stages job ≡ earlier ++ stage ∷ later → AllPass files earlier → Ends files stage (line ∷ []) →
      after.told ≡ folder.told →
      Counted (status_of stage) folder.counts after.counts →
      JobEnds job (Says (status_of stage) line) folder after sink sink
  says_ends files {line} earlier later stage are in_stages pass is same counted =
      let first = subst (λ list. FirstEnds files list (status_of stage) (line ∷ [])) (sym in_stages)
      (first_ends files earlier later stage (line ∷ []) pass is) in
      has_last {files = files} are
      (λ words form. stands.outcome None (outcome.ended job form first refl) (same ∙ as_before folder.told)) counted

  -- the file that a job begins with was not read
  pub read_ends : {name : List ℕ} {limit : ℕ} {last : Last} (later : List Stage) →
      stages job ≡ IsThere name ∷ Fits name limit ∷ later →
      ReadFails name limit folder after last → JobEnds job last folder after sink sink
  read_ends {name} {limit} later in_stages (ends.missing files are absent says same counted) =
      rw says (says_ends files [] (Fits name limit ∷ later) (IsThere name) are in_stages tt (absent, refl) same counted)
  read_ends {name} {limit} later in_stages (ends.too_long files are above says same counted) =
      rw says (says_ends files (IsThere name ∷ []) later (Fits name limit) are in_stages
      (met_passes files (IsThere name) (above.0, above.1), tt) (above, refl) same counted)
  read_ends {name} {limit} later in_stages (ends.failed says same counted) =
      let some = some_files folder.told in
      rw says (has_last some.are_files (λ words form.
      let comes : ComesTo words some.files (IsThere name) =
      record
      { job = job; form = form; earlier = []; later = Fits name limit ∷ later; stages_are = in_stages; pass = tt }
      in
      stands.read_fault name comes refl refl same) counted)
  read_ends later in_stages (ends.wanting wants stays) = rw wants (wants_first stays)
