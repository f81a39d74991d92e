-- From a run that is over but for its last line, and what became of that line, to what stands.
use Rattle.std.proofs.Common.{◌≡◌, ℕ, List, [], ◌∷◌, ◌++◌, sym, ap, ◌∙◌, subst, take}
use Rattle.std.proofs.lemmas.List.{append-nil}
use Rattle.std.proofs.lemmas.List.Folds.{concat-append}
use Rattle.std.specs.List.{concat}
use Rattle.goat_io.specs.Files.{Files}
use Rattle.command_line.specs.Last.{Last, Says, SaysNothing, SinkFailed, Wants}
use Rattle.jobs.specs.Stands as stands
use Rattle.jobs.specs.Stands.{FolderState, SinkState, Account, Counted, Appends, TellsWant, Stands, RunStands}
use Rattle.jobs.specs.Endings as ends
use Rattle.jobs.specs.Endings.{IsOver, RunEnds, PrintsLast}
use Rattle.jobs.proofs.Told.{some_files, stays_itself, appends_both, fails_then, tells_then}

concat-snoc : (lines : List (List ℕ)) (line : List ℕ) → concat (lines ++ line ∷ []) ≡ concat lines ++ line
concat-snoc lines line = concat-append lines (line ∷ []) ∙ ap (λ t. concat lines ++ t) (append-nil line)

module _ {words : List (List ℕ)} {files : Files} {answer : ℕ} {folder after : FolderState} {s u : SinkState} where
  -- all lines were printed
  whole_then : {status : ℕ} {lines : List (List ℕ)} → answer ≡ status →
      Account words files status lines folder.told after.told →
      Counted status folder.counts after.counts → Appends (concat lines) s u →
      Stands words files answer folder after s u
  whole_then {lines} is account counted appends =
      stands.whole lines (subst (λ n. Account words files n lines folder.told after.told) (sym is) account)
      (subst (λ n. Counted n folder.counts after.counts) (sym is) counted) appends

  stands_then : (t : SinkState) (last : Last) → IsOver words files last folder after s t → PrintsLast last answer t u →
      Stands words files answer folder after s u
  stands_then t (Says status line) over (ends.whole is appends) =
      let text =
      subst (λ text. Appends text s u) (sym (concat-snoc over.earlier line)) (appends_both over.appends appends) in
      whole_then is over.account over.counted text
  stands_then t (Says status line) over (ends.failed kept is fails) =
      stands.cut_in_line over.earlier [] line kept (stands.of_account status over.account over.counted) is
      (fails_then over.appends fails)
  stands_then t (Says status line) over (ends.wanting tells) =
      stands.wanting over.earlier [] line (stands.of_account status over.account over.counted)
      (tells_then over.appends tells)
  stands_then t SaysNothing over prints =
      whole_then prints.answer_is over.account over.counted
      (subst (λ sink. Appends (concat over.lines) s sink) (sym prints.same) over.appends)
  stands_then t SinkFailed over prints =
      let fails =
      subst (λ sink. stands.FailsAfter (concat over.earlier ++ take over.kept over.line) s sink) (sym prints.same)
      over.fails in
      stands.cut_in_line over.earlier over.later over.line over.kept over.printing prints.answer_is fails
  stands_then t Wants (ends.for_line earlier later line printing appends) tells =
      stands.wanting earlier later line printing (tells_then appends tells)
  stands_then t Wants (ends.first stays appends) tells = stands.wanting_first stays (tells_then appends tells)
  stands_then t Wants (ends.next lines printing stays appends) tells =
      stands.wanting_next lines printing stays (tells_then appends tells)

pub run_stands : {words : List (List ℕ)} {answer : ℕ} {folder after : FolderState} {s t u : SinkState} (last : Last) →
    RunEnds words last folder after s t → PrintsLast last answer t u → RunStands words answer folder after s u
run_stands {t} last run prints = record {
  files = run.files;
  are_files = run.are_files;
  stands = stands_then t last run.is_over prints;
}

-- no room for a line was found
pub no_room : {words : List (List ℕ)} {answer : ℕ} {folder : FolderState} {s t : SinkState} → TellsWant [] answer s t →
    RunStands words answer folder folder s t
no_room {folder} tells = let some = some_files folder.told in record {
  files = some.files;
  are_files = some.are_files;
  stands = stands.wanting_first (stays_itself folder) tells;
}
