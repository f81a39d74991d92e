-- The fold over commands, one command on; and what a text makes of a song in one way.
use Rattle.std.proofs.Common.{◌≡◌, ℕ, ◌+◌, ◌<◌, List, [], ◌∷◌, ◌++◌, length, take, drop}
use Rattle.std.proofs.Common.{get_or, Result, Ok, Err, Option, Some, None, refl, sym, ap, ◌∙◌, ◌⊎◌}
use Rattle.std.proofs.Common.{◌↔◌, inl, inr, subst, arith}
use Rattle.std.specs.List.{Contains}
use Rattle.std.proofs.lemmas.List.{take-append-drop, take_more, drop_more}
use Rattle.song_model.specs.declared.songs.Song.{Song}
use Rattle.edit_ops.specs.declared.edits.Edit.{Edit}
use Rattle.edit_ops.specs.declared.edits.EditFault.{EditFault}
use Rattle.edit_ops.specs.declared.edits.EditFault.TheVariants as by_edit
use Rattle.edit_history.specs.History.{History, begun, song_after, song_of, after_edit, after_undo, after_redo}
use Rattle.edit_history.proofs.Laws.{edit_never, unrefused_is_done, IsReached, begun_reached, reached_has_song}
use Rattle.edit_history.proofs.Laws.{edit_reached, undo_reached, redo_reached}
use Rattle.edit_script.specs.declared.commands.Action.{Action}
use Rattle.edit_script.specs.declared.commands.Action.TheVariants as action
use Rattle.edit_script.specs.declared.commands.Command.{Command}
use Rattle.edit_script.specs.declared.kinds.RunKind.{RunKind}
use Rattle.edit_script.specs.declared.kinds.RunKind.TheVariants.{NoSuchPlace, OutOfLimit, BadValue, NothingToUndo}
use Rattle.edit_script.specs.declared.kinds.RunKind.TheVariants.{NothingToRedo, NoMemory}
use Rattle.edit_script.specs.Scripts.{IsScript}
use Rattle.edit_script.specs.Runs.{Stop, kind_of, edit_done, step_done, after_action, fold_of, fold_on}
use Rattle.edit_script.specs.Edited.{IsEditedBy, FailsAt, no_script, not_done, kind_words, bad_line_words, failure_words}
use Rattle.edit_script.specs.Held.{IsNotDone, refused, wanting, StopsAt}
use Rattle.edit_script.specs.EditLaws.{EditsInOneWay, LeavesWhatItUndoes}
use Rattle.edit_script.proofs.ScriptLaws.{one_script, one_bad_line, no_bad_line, script_or_bad_line}

-- ---- the fold

step_on : (history middle : History) (line : ℕ) (step : Result History RunKind)
    (some all : History → Result History Stop) (wanted : Result History Stop) →
    ((after : History) → some after ≡ Ok middle → all after ≡ wanted) → fold_on history line step some ≡ Ok middle →
    fold_on history line step all ≡ wanted
step_on history middle line (Ok after) some all wanted each done = each after done
step_on history middle line (Err kind) some all wanted each done = absurd (cc (done))

-- what the first commands have made is gone on with
pub fold_goes_on : (history middle : History) (earlier later : List Command) →
    fold_of history earlier ≡ Ok middle → fold_of history (earlier ++ later) ≡ fold_of middle later
fold_goes_on history middle [] later done =
    let same : history ≡ middle = cc (done) in ap (λ h. fold_of h later) same
fold_goes_on history middle (command ∷ earlier) later done =
    step_on history middle command.line (after_action history command.action) (λ after. fold_of after earlier)
    (λ after. fold_of after (earlier ++ later)) (fold_of middle later)
    (λ after goes. fold_goes_on after middle earlier later goes) done

pub fold_step : (history middle after : History) (earlier : List Command) (command : Command) →
    fold_of history earlier ≡ Ok middle → after_action middle command.action ≡ Ok after →
    fold_of history (earlier ++ command ∷ []) ≡ Ok after
fold_step history middle after earlier command done step =
    fold_goes_on history middle earlier (command ∷ []) done
    ∙ ap (λ s. fold_on middle command.line s (λ h. fold_of h [])) step

pub fold_stops : (history middle : History) (earlier later : List Command) (command : Command) (kind : RunKind) →
    fold_of history earlier ≡ Ok middle → after_action middle command.action ≡ Err kind →
    fold_of history (earlier ++ command ∷ later) ≡ Err (record { line = command.line; kind = kind; before = middle })
fold_stops history middle earlier later command kind done step =
    fold_goes_on history middle earlier (command ∷ later) done
    ∙ ap (λ s. fold_on middle command.line s (λ h. fold_of h later)) step

-- ---- the loop over commands

pub step_in : (start now after : History) (commands : List Command) (i : ℕ) (d : Command) → i < length commands →
    fold_of start (take i commands) ≡ Ok now → after_action now (get_or commands i d).action ≡ Ok after →
    fold_of start (take (i + 1) commands) ≡ Ok after
step_in start now after commands i d lt done step =
    ap (fold_of start) (take_more commands i d lt)
    ∙ fold_step start now after (take i commands) (get_or commands i d) done step

parts_at : (commands : List Command) (i : ℕ) (d : Command) → i < length commands →
    commands ≡ take i commands ++ get_or commands i d ∷ drop (i + 1) commands
parts_at commands i d lt =
    sym (take-append-drop i commands)
    ∙ ap (λ (more : List Command). take i commands ++ more) (drop_more commands i d lt)

-- ---- why a command isn't done

-- what the fold says, or memory
or_memory : (history : History) (what : Action) (kind : RunKind) → IsNotDone history what kind →
    (kind ≡ NoMemory) ⊎ (after_action history what ≡ Err kind)
or_memory history what kind (refused e) = inr e
or_memory history what kind (wanting edit after is done want) = inl want

-- an edit for which the session has this reason
edit_not_done : (history : History) (edit : Edit) (fault : EditFault) →
    (fault ≡ by_edit.NoSuchPlace → after_edit history edit ≡ Err by_edit.NoSuchPlace) →
    (fault ≡ by_edit.OutOfLimit → after_edit history edit ≡ Err by_edit.OutOfLimit) →
    (fault ≡ by_edit.BadValue → after_edit history edit ≡ Err by_edit.BadValue) →
    (after_edit history edit ≡ Err by_edit.NoSuchPlace → fault ≡ by_edit.NoSuchPlace) →
    (after_edit history edit ≡ Err by_edit.OutOfLimit → fault ≡ by_edit.OutOfLimit) →
    (after_edit history edit ≡ Err by_edit.BadValue → fault ≡ by_edit.BadValue) →
    IsNotDone history (action.Edit edit) (kind_of fault)
unfolding after_action
edit_not_done history edit by_edit.NoSuchPlace place limit value is_place is_limit is_value =
    refused (ap edit_done (place refl))
edit_not_done history edit by_edit.OutOfLimit place limit value is_place is_limit is_value =
    refused (ap edit_done (limit refl))
edit_not_done history edit by_edit.BadValue place limit value is_place is_limit is_value =
    refused (ap edit_done (value refl))
edit_not_done history edit by_edit.NoMemory place limit value is_place is_limit is_value =
    let done = unrefused_is_done history edit (λ e. let never = is_place e in cc (never))
    (λ e. let never = is_limit e in cc (never)) (λ e. let never = is_value e in cc (never)) in
    wanting edit done.0 refl done.1 refl

pub session_not_done : {T : Type 0} (history : History) (edit : Edit) (fault : EditFault) (r : Result T EditFault) →
    r ≡ Err fault → ((r ≡ Err by_edit.NoSuchPlace) ↔ (after_edit history edit ≡ Err by_edit.NoSuchPlace)) →
    ((r ≡ Err by_edit.OutOfLimit) ↔ (after_edit history edit ≡ Err by_edit.OutOfLimit)) →
    ((r ≡ Err by_edit.BadValue) ↔ (after_edit history edit ≡ Err by_edit.BadValue)) →
    IsNotDone history (action.Edit edit) (kind_of fault)
session_not_done history edit fault r is place limit value =
    edit_not_done history edit fault (λ e. place.0 (is ∙ ap Err e)) (λ e. limit.0 (is ∙ ap Err e))
    (λ e. value.0 (is ∙ ap Err e)) (λ e. let same = place.1 e in cc (is, same))
    (λ e. let same = limit.1 e in cc (is, same)) (λ e. let same = value.1 e in cc (is, same))

pub stopped_in : (start now after : History) (commands all : List Command) (i : ℕ) (d : Command) (kind : RunKind) →
    commands ≡ all → i < length commands → after ≡ now → fold_of start (take i commands) ≡ Ok now →
    IsNotDone now (get_or commands i d).action kind →
    (kind ≡ NoMemory)
    ⊎ (fold_of start all ≡ Err (record { line = (get_or commands i d).line; kind = kind; before = after }))
stopped_in start now after commands all i d kind same lt stays done why =
    let command = get_or commands i d in
    elim (or_memory now command.action kind why) [
      | inl out ↦ inl out
      | inr step ↦
          inr (ap (fold_of start) (sym same ∙ parts_at commands i d lt)
          ∙ fold_stops start now (take i commands) (drop (i + 1) commands) command kind done step
          ∙ ap (λ (before : History). Err (record { line = command.line; kind = kind; before = before })) (sym stays))
    ]

pub held_in : (start now after : History) (commands all : List Command) (i : ℕ) (d : Command) (kind : RunKind) →
    commands ≡ all → i < length commands → after ≡ now → fold_of start (take i commands) ≡ Ok now →
    IsNotDone now (get_or commands i d).action kind →
    StopsAt (record { line = (get_or commands i d).line; kind = kind }) start all after
held_in start now after commands all i d kind same lt stays done why = record {
  earlier = take i commands;
  command = get_or commands i d;
  later = drop (i + 1) commands;
  parts = sym same ∙ parts_at commands i d lt;
  line_is = refl;
  done = done ∙ ap Ok (sym stays);
  why = subst (λ (h : History). IsNotDone h (get_or commands i d).action kind) (sym stays) why;
}

-- ---- what the fold comes to

edit_done_never : (r : Result History EditFault) → (r ≡ Err by_edit.NoMemory → ⊥) → edit_done r ≡ Err NoMemory → ⊥
edit_done_never (Ok after) never e = cc (e)
edit_done_never (Err by_edit.NoSuchPlace) never e = cc (e)
edit_done_never (Err by_edit.OutOfLimit) never e = cc (e)
edit_done_never (Err by_edit.BadValue) never e = cc (e)
edit_done_never (Err by_edit.NoMemory) never e = never refl

step_done_never : (kind : RunKind) (step : Option History) → (kind ≡ NoMemory → ⊥) →
    step_done kind step ≡ Err NoMemory → ⊥
step_done_never kind (Some after) never e = cc (e)
step_done_never kind None never e = let same : kind ≡ NoMemory = cc (e) in never same

action_never : (history : History) (what : Action) → after_action history what ≡ Err NoMemory → ⊥
unfolding after_action
action_never history (action.Edit edit) e = edit_done_never (after_edit history edit) (edit_never history edit) e
action_never history action.Undo e = step_done_never NothingToUndo (after_undo history) (λ n. cc (n)) e
action_never history action.Redo e = step_done_never NothingToRedo (after_redo history) (λ n. cc (n)) e

fold_on_never : (history : History) (line : ℕ) (step : Result History RunKind)
    (others : History → Result History Stop) (stop : Stop) → (step ≡ Err NoMemory → ⊥) →
    ((after : History) → others after ≡ Err stop → stop.kind ≡ NoMemory → ⊥) →
    fold_on history line step others ≡ Err stop → stop.kind ≡ NoMemory → ⊥
fold_on_never history line (Ok after) others stop here later e = later after e
fold_on_never history line (Err kind) others stop here later e =
    let s : Stop = record { line = line; kind = kind; before = history } in
    let same : s ≡ stop = cc (e) in
    λ want. here (ap Err (ap (λ (x : Stop). x.kind) same ∙ want))

-- memory never stops it
fold_never : (history : History) (commands : List Command) (stop : Stop) → fold_of history commands ≡ Err stop →
    stop.kind ≡ NoMemory → ⊥
fold_never history [] stop e = absurd (cc (e))
fold_never history (command ∷ commands) stop e =
    fold_on_never history command.line (after_action history command.action) (λ after. fold_of after commands) stop
    (action_never history command.action) (λ after f. fold_never after commands stop f) e

edit_done_reached : (first : Song) (history after : History) (edit : Edit) (r : Result History EditFault) →
    IsReached first history → after_edit history edit ≡ r → edit_done r ≡ Ok after → IsReached first after
edit_done_reached first history after edit (Ok made) is e d =
    let same : made ≡ after = cc (d) in edit_reached first history after edit is (e ∙ ap Ok same)
edit_done_reached first history after edit (Err fault) is e d = absurd (cc (d))

step_done_is : (kind : RunKind) (step : Option History) (after : History) → step_done kind step ≡ Ok after →
    step ≡ Some after
step_done_is kind (Some made) after e = let same : made ≡ after = cc (e) in ap Some same
step_done_is kind None after e = absurd (cc (e))

action_reached : (first : Song) (history after : History) (what : Action) → IsReached first history →
    after_action history what ≡ Ok after → IsReached first after
unfolding after_action
action_reached first history after (action.Edit edit) is e =
    edit_done_reached first history after edit (after_edit history edit) is refl e
action_reached first history after action.Undo is e =
    undo_reached first history after is (step_done_is NothingToUndo (after_undo history) after e)
action_reached first history after action.Redo is e =
    redo_reached first history after is (step_done_is NothingToRedo (after_redo history) after e)

fold_on_reached : (first : Song) (history end : History) (line : ℕ) (step : Result History RunKind)
    (others : History → Result History Stop) →
    ((after : History) → step ≡ Ok after → others after ≡ Ok end → IsReached first end) →
    fold_on history line step others ≡ Ok end → IsReached first end
fold_on_reached first history end line (Ok after) others each e = each after refl e
fold_on_reached first history end line (Err kind) others each e = absurd (cc (e))

fold_reached : (first : Song) (history end : History) (commands : List Command) → IsReached first history →
    fold_of history commands ≡ Ok end → IsReached first end
fold_reached first history end [] is e = let same : history ≡ end = cc (e) in subst (IsReached first) same is
fold_reached first history end (command ∷ commands) is e =
    fold_on_reached first history end command.line (after_action history command.action)
    (λ after. fold_of after commands)
    (λ after step f. fold_reached first after end commands
    (action_reached first history after command.action is step) f) e

-- ---- a song and a text

use_same : (text : List ℕ) (song : Song) (c d : List Command) (x y : Result History Stop) → IsScript text c →
    IsScript text d → fold_of (begun song) c ≡ x → fold_of (begun song) d ≡ y → x ≡ y
use_same text song c d x y p q e f = sym e ∙ ap (fold_of (begun song)) (one_script text c d p q) ∙ f

one_song : (text : List ℕ) (song a b : Song) → IsEditedBy text song a → IsEditedBy text song b → a ≡ b
one_song text song a b p q =
    let same = use_same text song p.commands q.commands _ _ p.is_script q.is_script p.done q.done in
    let history : p.history ≡ q.history = cc (same) in
    let songs = sym p.after_is ∙ ap song_of history ∙ q.after_is in
    cc (songs)

same_stop : (text : List ℕ) (song : Song) (c d : List Command) (p q : Stop) → IsScript text c → IsScript text d →
    fold_of (begun song) c ≡ Err p → fold_of (begun song) d ≡ Err q → p ≡ q
same_stop text song c d p q is is2 e f = let same = use_same text song c d _ _ is is2 e f in cc (same)

one_failure : (text : List ℕ) (song : Song) (line other : ℕ) (words others : List ℕ) → FailsAt text song line words →
    FailsAt text song other others → (line ≡ other) × (words ≡ others)
one_failure text song line other words others (no_script bad said) (no_script bad2 said2) =
    (one_bad_line text line other bad bad2, said ∙ sym said2)
one_failure text song line other words others (no_script bad said) (not_done d q is2 f at2 said2) =
    absurd (no_bad_line text d line is2 bad)
one_failure text song line other words others (not_done c p is e at said) (no_script bad2 said2) =
    absurd (no_bad_line text c other is bad2)
one_failure text song line other words others (not_done c p is e at said) (not_done d q is2 f at2 said2) =
    let same = same_stop text song c d p q is is2 e f in (
      at ∙ ap (λ (stop : Stop). stop.line) same ∙ sym at2,
      said ∙ ap (λ (stop : Stop). kind_words stop.kind) same ∙ sym said2,
    )

never_both : (text : List ℕ) (song after : Song) (line : ℕ) (words : List ℕ) → IsEditedBy text song after →
    FailsAt text song line words → ⊥
never_both text song after line words p (no_script bad said) = no_bad_line text p.commands line p.is_script bad
never_both text song after line words p (not_done c q is e at said) =
    let same = use_same text song p.commands c _ _ p.is_script is p.done e in cc (same)

word_of_kind : (kind : RunKind) → (kind ≡ NoMemory → ⊥) → Contains failure_words (kind_words kind)
word_of_kind NoSuchPlace never = (1, omega arith, refl)
word_of_kind OutOfLimit never = (2, omega arith, refl)
word_of_kind BadValue never = (3, omega arith, refl)
word_of_kind NothingToUndo never = (4, omega arith, refl)
word_of_kind NothingToRedo never = (5, omega arith, refl)
word_of_kind NoMemory never = absurd (never refl)

one_of_six : (text : List ℕ) (song : Song) (line : ℕ) (words : List ℕ) → FailsAt text song line words →
    Contains failure_words words
one_of_six text song line words (no_script bad said) =
    let first : Contains failure_words bad_line_words = (0, omega arith, refl) in
    subst (λ (w : List ℕ). Contains failure_words w) (sym said) first
one_of_six text song line words (not_done c stop is e at said) =
    subst (λ (w : List ℕ). Contains failure_words w) (sym said)
    (word_of_kind stop.kind (fold_never (begun song) c stop e))

run_of_script : (text : List ℕ) (song : Song) (c : List Command) (r : Result History Stop) → IsScript text c →
    fold_of (begun song) c ≡ r →
    ((after : Song) × IsEditedBy text song after) ⊎ ((line : ℕ) × (words : List ℕ) × FailsAt text song line words)
run_of_script text song c (Ok history) is e =
    let made = reached_has_song song history (fold_reached song (begun song) history c (begun_reached song) e) in
    inl (made.0, record { commands = c; is_script = is; history = history; done = e; after_is = made.1 })
run_of_script text song c (Err stop) is e =
    inr (stop.line, kind_words stop.kind, not_done c stop is e refl refl)

one_of_both : (text : List ℕ) (song : Song) →
    ((after : Song) × IsEditedBy text song after) ⊎ ((line : ℕ) × (words : List ℕ) × FailsAt text song line words)
one_of_both text song = elim (script_or_bad_line text) [
  | inl (c, one) ↦ run_of_script text song c (fold_of (begun song) c) one.is_script refl
  | inr (number, one) ↦ inr (number, bad_line_words, no_script one.is_bad refl)
]

pub edits_in_one_way : EditsInOneWay
edits_in_one_way = record {
  one_song = one_song;
  one_failure = one_failure;
  one_of_six = one_of_six;
  one_of_both = one_of_both;
  never_both = never_both;
}

pub leaves_what_it_undoes : LeavesWhatItUndoes
leaves_what_it_undoes text song commands history is e none =
    let reached = fold_reached song (begun song) history commands (begun_reached song) e in
    record {
      commands = commands;
      is_script = is;
      history = history;
      done = e;
      after_is = ap (song_after history.first) none ∙ ap Ok reached.first_is;
    }
