-- How a job without stages is answered: it reads no file, and writes none.
use Rattle.std.proofs.Common.{◌≡◌, ℕ, inl, inr, List, [], ◌∷◌, Option, Some, None, refl, sym, ap, ◌∙◌, subst}
use Rattle.goat_io.specs.Files.{Files}
use Rattle.base.proofs.Laws.{nil_is_no_append}
use Rattle.command_line.specs.Words.{Job, Selftest, Help, Version}
use Rattle.jobs.specs.Stages.{IsThere, FirstEnds}
use Rattle.command_line.specs.Forms.{WordsOf}
use Rattle.jobs.specs.Jobs.{about, stages, output_of, Done}
use Rattle.jobs.specs.Outcome as outcome
use Rattle.jobs.specs.Outcome.{Outcome}
use Rattle.jobs.specs.Due.{IsOneOf}
use Rattle.jobs.specs.MetPremises.{SomeJobsHaveNoStage}
use Rattle.jobs.specs.Stands as stands
use Rattle.jobs.specs.Stands.{FolderState, SinkState, Account, TellsWant, Stands}
use Rattle.command_line.proofs.Laws.{one_job}
use Rattle.jobs.proofs.Due.{done_under}

-- it writes none
bare_writes_nothing : (job : Job) → stages job ≡ [] → output_of job ≡ None
bare_writes_nothing (Selftest number) bare = refl
bare_writes_nothing (Help topic) bare = refl
bare_writes_nothing Version bare = refl
bare_writes_nothing _ bare = absurd (cc (bare))

pub some_jobs_have_no_stage : SomeJobsHaveNoStage
some_jobs_have_no_stage = record {
  selftest = λ number. refl;
  help = λ topic. refl;
  version = refl;
  show = λ input output none. absurd (cc (none));
  parts = λ input options none. absurd (cc (none));
}

module _ {words : List (List ℕ)} {mine : Job} (form : WordsOf words mine) (bare : stages mine ≡ []) where
  no_stage : (job : Job) → WordsOf words job → stages job ≡ []
  no_stage job other = ap stages (one_job words job mine other form) ∙ bare

  no_end : (files : Files) (job : Job) (status : ℕ) (lines : List (List ℕ)) → WordsOf words job →
      FirstEnds files (stages job) status lines → ⊥
  no_end files job status lines other first =
      subst (λ list. FirstEnds files list status lines) (no_stage job other) first

  nothing_written : (files : Files) (job : Job) (lines : List (List ℕ)) (output file : List ℕ) → WordsOf words job →
      Done job files lines (Some (output, file)) → ⊥
  nothing_written files job lines output file other did =
      let here : Done mine files lines (Some (output, file)) =
      subst (λ j. Done j files lines (Some (output, file))) (one_job words job mine other form) did in
      let none : None ≡ Some output =
      sym (bare_writes_nothing mine bare) ∙ done_under (about mine).does files lines (Some (output, file)) here in
      absurd (cc (none))

  no_write : (files : Files) (text : List (List ℕ)) (output file : List ℕ) →
      Outcome words files 0 text (Some (output, file)) → ⊥
  no_write files text output file (outcome.usage none s l w) = none mine form
  no_write files text output file (outcome.ended job other first w) = no_end files job 0 text other first
  no_write files text output file (outcome.done job other pass did s) =
      nothing_written files job text output file other did

  account_of : {files : Files} {status : ℕ} {lines : List (List ℕ)} {before after : Option Files} →
      Account words files status lines before after → status ≡ 0
  account_of (stands.outcome write (outcome.usage none s l w) told) = absurd (none mine form)
  account_of {files} {status} {lines} (stands.outcome write (outcome.ended job other first w) told) =
      absurd (no_end files job status lines other first)
  account_of (stands.outcome write (outcome.done job other pass did s) told) = s
  account_of (stands.read_fault name comes s l told) =
      absurd (nil_is_no_append comes.earlier (IsThere name) comes.later
      (sym (no_stage comes.job comes.form) ∙ comes.stages_are))
  account_of {files} (stands.write_fault text output file out s l told) = absurd (no_write files text output file out)

  of_want : {bytes : List ℕ} {answer : ℕ} {s t : SinkState} → TellsWant bytes answer s t →
      IsOneOf (0 ∷ 10 ∷ 14 ∷ []) answer
  of_want (stands.told is appends) = inr (inr (inl is))
  of_want (stands.failed kept is fails) = inr (inl is)
  of_want (stands.untold is appends) = inr (inr (inl is))

  pub answered : {files : Files} {answer : ℕ} {folder after : FolderState} {s t : SinkState} →
      Stands words files answer folder after s t → IsOneOf (0 ∷ 10 ∷ 14 ∷ []) answer
  answered (stands.whole lines account counted appends) = inl (account_of account)
  answered (stands.cut_in_line earlier later line kept printing ten fails) = inr (inl ten)
  answered (stands.wanting earlier later line printing tells) = of_want tells
  answered (stands.wanting_first stays tells) = of_want tells
  answered (stands.wanting_next lines printing stays tells) = of_want tells
