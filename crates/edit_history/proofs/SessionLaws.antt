-- What the calls of a session keep, and that each is a step of its history.
use Rattle.std.proofs.Common.{◌≡◌, ◌+◌, ◌≤◌, List, [], ◌∷◌, ◌++◌, length, Ok, Err, Some}
use Rattle.std.proofs.Common.{IsSome, IsErrOf, vec_len, vec_capacity, refl, sym, ap, ◌∙◌, arith}
use Rattle.std.specs.Global.{Vec}
use Rattle.song_model.specs.declared.songs.Song.{Song}
use Rattle.edit_ops.specs.declared.edits.Edit.{Edit}
use Rattle.edit_ops.specs.declared.edits.EditFault.{EditFault}
use Rattle.edit_ops.specs.declared.inverses.Inverse.{Inverse}
use Rattle.edit_ops.specs.Edits.{edited}
use Rattle.edit_ops.specs.Back.{back}
use Rattle.edit_history.specs.declared.done.Done.{Done}
use Rattle.edit_history.specs.History.{History, song_of, joined, after_edit, after_undo, after_redo}
use Rattle.edit_history.specs.Kept.{unwound, edits_of, history_kept, Stands, CanFollow, IsKept}
use Rattle.edit_history.proofs.KeptLaws.{stands_push, stands_pop, unwound_is, stands_unwound, song_is, follow_push, follow_pop}
use Rattle.edit_history.proofs.StepLaws.{edit_is, undo_push, redo_push, refused_as, not_refused}

edits_push : (dones : List Done) (done : Done) → edits_of (dones ++ done ∷ []) ≡ edits_of dones ++ done.edit ∷ []
edits_push [] done = refl
edits_push (first ∷ dones) done = ap (λ (es : List Edit). first.edit ∷ es) (edits_push dones done)

same_song : (a b : Song) → Some a ≡ Some b → a ≡ b
same_song a b e = cc

pub kept_song : (song : Song) (standing undone : Vec Done) → IsKept song standing undone →
    song_of (history_kept song standing.items undone.items) ≡ Ok song
kept_song song standing undone kept = song_is (unwound song standing.items) song standing.items kept.stands

pub kept_new : (song : Song) (standing undone : Vec Done) → standing.items ≡ [] → undone.items ≡ [] →
    IsKept song standing undone
unfolding Stands CanFollow
kept_new song standing undone none gone = record {
  stands = rw none refl;
  end = song;
  follows = rw gone refl;
  standing_room = omega (arith, standing.ok.0, standing.ok.1, undone.ok.0, ap length none, ap length gone);
  undone_room = omega (arith, undone.ok.0, undone.ok.1, standing.ok.0, ap length none, ap length gone);
}

-- ---- edit

module _ (song next : Song) (standing undone standing_next undone_next : Vec Done) (done : Done)
    (kept : IsKept song standing undone) (edit : edited song done.edit ≡ Ok next)
    (leads : back next done.inverse ≡ Some song) (joins : standing_next.items ≡ standing.items ++ done ∷ [])
    (gone : undone_next.items ≡ []) where
  abbrev pub edit_first : Song
  edit_first = unwound song standing.items

  edit_stands : Stands edit_first (standing.items ++ done ∷ []) next
  edit_stands = stands_push edit_first song next standing.items done kept.stands edit leads

  pub kept_edit : vec_len standing_next ≤ vec_capacity standing_next →
      vec_len standing_next ≤ vec_capacity undone_next →
      IsKept next standing_next undone_next
  unfolding CanFollow
  kept_edit a b = record {
    stands = rw joins (stands_unwound edit_first next (standing.items ++ done ∷ []) edit_stands);
    end = next;
    follows = rw gone refl;
    standing_room = omega (arith, a, undone_next.ok.0, ap length gone);
    undone_room = omega (arith, b, undone_next.ok.0, ap length gone);
  }

  pub step_edit : after_edit (history_kept song standing.items undone.items) done.edit
      ≡ Ok (history_kept next standing_next.items undone_next.items)
  step_edit =
      let before = history_kept song standing.items undone.items in
      let same = unwound_is edit_first next (standing.items ++ done ∷ []) edit_stands in
      edit_is before done.edit song (kept_song song standing undone kept)
      ∙ ap (joined before done.edit) edit
      ∙ rw (joins, gone, same, edits_push standing.items done) refl

-- ---- undo

module _ (song before : Song) (standing undone standing_next undone_next : Vec Done) (done moved : Done)
    (kept : IsKept song standing undone) (was : standing.items ≡ standing_next.items ++ done ∷ []) where
  pub can_undo : IsSome (back song done.inverse)
  can_undo =
      let last = stands_pop (unwound song standing.items) song standing_next.items done (rw (sym was) kept.stands) in
      rw last.back_is refl

  module _ (leads : back song done.inverse ≡ Some before) (same : moved.edit ≡ done.edit)
      (again : back before moved.inverse ≡ Some song) (joins : undone_next.items ≡ undone.items ++ moved ∷ []) where
    abbrev pub undo_first : Song
    undo_first = unwound song standing.items

    left_stands : Stands undo_first standing_next.items before
    left_stands =
        let last = stands_pop undo_first song standing_next.items done (rw (sym was) kept.stands) in
        let is : before ≡ last.before = same_song before last.before (sym leads ∙ last.back_is) in
        rw is last.stands

    last_edit : edited before moved.edit ≡ Ok song
    last_edit =
        let last = stands_pop undo_first song standing_next.items done (rw (sym was) kept.stands) in
        let is : before ≡ last.before = same_song before last.before (sym leads ∙ last.back_is) in
        rw (is, same) last.edit

    pub kept_undo : vec_len standing_next + vec_len undone_next ≤ vec_capacity standing_next →
        vec_len standing_next + vec_len undone_next ≤ vec_capacity undone_next → IsKept before standing_next undone_next
    kept_undo a b = record {
      stands = stands_unwound undo_first before standing_next.items left_stands;
      end = kept.end;
      follows = rw joins (follow_push before song kept.end undone.items moved kept.follows last_edit again);
      standing_room = a;
      undone_room = b;
    }

    pub step_undo : after_undo (history_kept song standing.items undone.items)
        ≡ Some (history_kept before standing_next.items undone_next.items)
    step_undo =
        let f = unwound_is undo_first before standing_next.items left_stands in
        rw (f, joins, edits_push undone.items moved, same)
        (ap (λ (es : List Edit). after_undo (record {
          first = undo_first;
          standing = es;
          undone = edits_of
              undone.items;
        }))
        (ap edits_of was ∙ edits_push standing_next.items done)
        ∙ undo_push undo_first (edits_of standing_next.items) (edits_of undone.items) done.edit)

-- ---- redo

module _ (song next : Song) (standing undone standing_next undone_next : Vec Done) (done moved : Done)
    (kept : IsKept song standing undone) (was : undone.items ≡ undone_next.items ++ done ∷ []) where
  pub can_redo : IsSome (back song done.inverse)
  can_redo =
      let f = follow_pop song kept.end undone_next.items done (rw (sym was) kept.follows) in
      rw f.back_is refl

  module _ (leads : back song done.inverse ≡ Some next) (same : moved.edit ≡ done.edit)
      (again : back next moved.inverse ≡ Some song) (joins : standing_next.items ≡ standing.items ++ moved ∷ []) where
    abbrev pub redo_first : Song
    redo_first = unwound song standing.items

    rest_follows : CanFollow next undone_next.items kept.end
    rest_follows =
        let f = follow_pop song kept.end undone_next.items done (rw (sym was) kept.follows) in
        let is : next ≡ f.next = same_song next f.next (sym leads ∙ f.back_is) in
        rw is f.follows

    next_edit : edited song moved.edit ≡ Ok next
    next_edit =
        let f = follow_pop song kept.end undone_next.items done (rw (sym was) kept.follows) in
        let is : next ≡ f.next = same_song next f.next (sym leads ∙ f.back_is) in
        rw (is, same) f.edit

    all_stand : Stands redo_first (standing.items ++ moved ∷ []) next
    all_stand = stands_push redo_first song next standing.items moved kept.stands next_edit again

    pub kept_redo : vec_len standing_next + vec_len undone_next ≤ vec_capacity standing_next →
        vec_len standing_next + vec_len undone_next ≤ vec_capacity undone_next → IsKept next standing_next undone_next
    kept_redo a b = record {
      stands = rw joins (stands_unwound redo_first next (standing.items ++ moved ∷ []) all_stand);
      end = kept.end;
      follows = rest_follows;
      standing_room = a;
      undone_room = b;
    }

    pub step_redo : after_redo (history_kept song standing.items undone.items)
        ≡ Some (history_kept next standing_next.items undone_next.items)
    step_redo =
        let f = unwound_is redo_first next (standing.items ++ moved ∷ []) all_stand in
        rw (joins, f, edits_push standing.items moved, same)
        (ap (λ (es : List Edit). after_redo (record {
          first = redo_first;
          standing = edits_of standing.items;
          undone = es;
        }))
        (ap edits_of was ∙ edits_push undone_next.items done)
        ∙ redo_push redo_first (edits_of standing.items) (edits_of undone_next.items) done.edit)

-- ---- refusals

same_fault : {T : Type 0} (found fault : EditFault) → IsErrOf {T = T} {E = EditFault} (Err found) fault → found ≡ fault
same_fault found fault e = cc

-- the fault of an edit of the song is that of an edit of the history
pub same_refusal : (song : Song) (standing undone : Vec Done) (history : History) (edit : Edit)
    (found fault : EditFault) →
    IsKept song standing undone → history_kept song standing.items undone.items ≡ history →
    (IsErrOf {T = Inverse} {E = EditFault} (Err found) fault → edited song edit ≡ Err fault)
    × (edited song edit ≡ Err fault → IsErrOf {T = Inverse} {E = EditFault} (Err found) fault) →
    (IsErrOf {T = Unit {0}} {E = EditFault} (Err found) fault → after_edit history edit ≡ Err fault)
    × (after_edit history edit ≡ Err fault → IsErrOf {T = Unit {0}} {E = EditFault} (Err found) fault)
same_refusal song standing undone history edit found fault kept is both =
    let faults = refused_as history edit song fault (ap song_of (sym is) ∙ kept_song song standing undone kept) in (
      λ e. faults.0 (both.0 (ap Err (same_fault {T = Unit {0}} found fault e))),
      λ e. ap Err (same_fault {T = Inverse} found fault (both.1 (faults.1 e))),
    )

-- an edit that was done has no fault
pub no_refusal : (history next : History) (edit : Edit) (fault : EditFault) → after_edit history edit ≡ Ok next →
    (IsErrOf {T = Unit {0}} {E = EditFault} (Ok tt) fault → after_edit history edit ≡ Err fault)
    × (after_edit history edit ≡ Err fault → IsErrOf {T = Unit {0}} {E = EditFault} (Ok tt) fault)
no_refusal history next edit fault done = (
  λ e. absurd (cc),
  λ e. absurd (not_refused history next edit fault done e),
)
