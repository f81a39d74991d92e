-- The steps of a history, and their ways back.
use Rattle.std.proofs.Common.{◌≡◌, ℕ, suc, ◌-◌, ◌==◌, false, List, [], ◌∷◌, ◌++◌, length}
use Rattle.std.proofs.Common.{Result, Ok, Err, Some, refl, sym, ap, ◌∙◌, arith, length-append}
use Rattle.std.proofs.Math.Seq.{take-append_seam, drop-append_seam}
use Rattle.std.proofs.lemmas.Bool.Decides.{nat_tests}
use Rattle.song_model.specs.declared.songs.Song.{Song}
use Rattle.edit_ops.specs.declared.edits.Edit.{Edit}
use Rattle.edit_ops.specs.declared.edits.EditFault.{EditFault}
use Rattle.edit_ops.specs.Edits.{edited}
use Rattle.edit_history.specs.History.{History, but_last, last, joined, song_after, after_edit, after_undo, after_redo}
use Rattle.edit_history.specs.HistoryLaws.{RedoUndoesUndo, UndoUndoesRedo}
use Rattle.edit_history.proofs.KeptLaws.{song_push}

-- ---- the last edit

one_long : (edits : List Edit) (edit : Edit) → length (edits ++ edit ∷ []) ≡ suc (length edits)
one_long edits edit = omega (arith, length-append edits (edit ∷ []))

but_last_push : (edits : List Edit) (edit : Edit) → but_last (edits ++ edit ∷ []) ≡ edits
but_last_push edits edit =
    let n : length (edits ++ edit ∷ []) - 1 ≡ length edits = omega (arith, one_long edits edit) in
    rw n (take-append_seam edits (edit ∷ []))

last_push : (edits : List Edit) (edit : Edit) → last (edits ++ edit ∷ []) ≡ edit ∷ []
last_push edits edit =
    let n : length (edits ++ edit ∷ []) - 1 ≡ length edits = omega (arith, one_long edits edit) in
    rw n (drop-append_seam edits (edit ∷ []))

pub record Split (edits : List Edit) : Type 0 where
  pub rest : List Edit
  pub edit : Edit
  pub is : edits ≡ rest ++ edit ∷ []

pub split_last : (first : Edit) (edits : List Edit) → Split (first ∷ edits)
split_last first [] = record { rest = []; edit = first; is = refl }
split_last first (edit ∷ edits) =
    let s = split_last edit edits in
    record { rest = first ∷ s.rest; edit = s.edit; is = ap (λ (es : List Edit). first ∷ es) s.is }

-- ---- the steps where there is a last edit

not_none : (n : ℕ) → (suc n == 0) ≡ false
not_none n = grind (arith, nat_tests)

pub undo_push : (first : Song) (standing undone : List Edit) (edit : Edit) →
    after_undo (record { first = first; standing = standing ++ edit ∷ []; undone = undone })
    ≡ Some (record { first = first; standing = standing; undone = undone ++ edit ∷ [] })
unfolding after_undo
undo_push first standing undone edit =
    let some : (length (standing ++ edit ∷ []) == 0) ≡ false = rw (one_long standing edit)
    (not_none (length standing)) in
    rw (some, but_last_push standing edit, last_push standing edit) refl

pub redo_push : (first : Song) (standing undone : List Edit) (edit : Edit) →
    after_redo (record { first = first; standing = standing; undone = undone ++ edit ∷ [] })
    ≡ Some (record { first = first; standing = standing ++ edit ∷ []; undone = undone })
unfolding after_redo
redo_push first standing undone edit =
    let some : (length (undone ++ edit ∷ []) == 0) ≡ false = rw (one_long undone edit) (not_none (length undone)) in
    rw (some, but_last_push undone edit, last_push undone edit) refl

pub same_history : (a b : History) → Some a ≡ Some b → a ≡ b
same_history a b e = cc

pub undo_none : (first : Song) (undone : List Edit) (other : History) →
    after_undo (record { first = first; standing = []; undone = undone }) ≡ Some other → ⊥
unfolding after_undo
undo_none first undone other e = absurd (cc)

pub redo_none : (first : Song) (standing : List Edit) (other : History) →
    after_redo (record { first = first; standing = standing; undone = [] }) ≡ Some other → ⊥
unfolding after_redo
redo_none first standing other e = absurd (cc)

undone_again : (first : Song) (standing undone : List Edit) (other : History) →
    after_undo (record { first = first; standing = standing; undone = undone }) ≡ Some other →
    after_redo other ≡ Some (record { first = first; standing = standing; undone = undone })
undone_again first [] undone other e = absurd (undo_none first undone other e)
undone_again first (edit ∷ edits) undone other e =
    let s = split_last edit edits in
    let h : History = record { first = first; standing = s.rest; undone = undone ++ s.edit ∷ [] } in
    let is : h ≡ other =
    same_history h other (sym (undo_push first s.rest undone s.edit)
    ∙ ap (λ (es : List Edit). after_undo (record { first = first; standing = es; undone = undone })) (sym s.is) ∙ e) in
    ap after_redo (sym is) ∙ redo_push first s.rest undone s.edit
    ∙ ap (λ (es : List Edit). Some (record { first = first; standing = es; undone = undone })) (sym s.is)

redone_again : (first : Song) (standing undone : List Edit) (other : History) →
    after_redo (record { first = first; standing = standing; undone = undone }) ≡ Some other →
    after_undo other ≡ Some (record { first = first; standing = standing; undone = undone })
redone_again first standing [] other e = absurd (redo_none first standing other e)
redone_again first standing (edit ∷ edits) other e =
    let s = split_last edit edits in
    let h : History = record { first = first; standing = standing ++ s.edit ∷ []; undone = s.rest } in
    let is : h ≡ other =
    same_history h other (sym (redo_push first standing s.rest s.edit)
    ∙ ap (λ (es : List Edit). after_redo (record { first = first; standing = standing; undone = es })) (sym s.is)
    ∙ e) in
    ap after_undo (sym is) ∙ undo_push first standing s.rest s.edit
    ∙ ap (λ (es : List Edit). Some (record { first = first; standing = standing; undone = es })) (sym s.is)

pub redo_undoes_undo : RedoUndoesUndo
redo_undoes_undo history undone e = undone_again history.first history.standing history.undone undone e

pub undo_undoes_redo : UndoUndoesRedo
undo_undoes_redo history redone e = redone_again history.first history.standing history.undone redone e

-- ---- an edit

pub edit_is : (history : History) (edit : Edit) (song : Song) → song_after history.first history.standing ≡ Ok song →
    after_edit history edit ≡ joined history edit (edited song edit)
unfolding after_edit
edit_is history edit song e = ap (joined history edit) (song_push history.first song history.standing edit e)

joined_err : (history : History) (edit : Edit) (r : Result Song EditFault) (fault : EditFault) →
    joined history edit r ≡ Err fault → r ≡ Err fault
joined_err history edit (Ok song) fault e = absurd (cc)
joined_err history edit (Err other) fault e = let same : other ≡ fault = cc in ap Err same

-- an edit of a history is refused as one of its song is
pub refused_as : (history : History) (edit : Edit) (song : Song) (fault : EditFault) →
    song_after history.first history.standing ≡ Ok song →
    (edited song edit ≡ Err fault → after_edit history edit ≡ Err fault)
    × (after_edit history edit ≡ Err fault → edited song edit ≡ Err fault)
refused_as history edit song fault e = (
  λ r. edit_is history edit song e ∙ ap (joined history edit) r,
  λ r. joined_err history edit (edited song edit) fault (sym (edit_is history edit song e) ∙ r),
)

pub not_refused : (history next : History) (edit : Edit) (fault : EditFault) → after_edit history edit ≡ Ok next →
    after_edit history edit ≡ Err fault → ⊥
not_refused history next edit fault e r = let same : Ok next ≡ Err fault = sym e ∙ r in cc
