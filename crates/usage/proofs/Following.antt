-- The rows that programs come to, marked one after the other.
use Rattle.std.proofs.Common.{◌≡◌, ℕ, ◌<◌, ◌≤◌, ◌⊎◌, Bool, true, false, List, length, get_or}
use Rattle.std.proofs.Common.{set, replicate, Option, Some, None, IfSome, refl, sym, ◌∙◌, ap, subst, inl, inr}
use Rattle.std.proofs.Common.{arith}
use Rattle.std.specs.Prelude.{if◌then◌else◌}
use Rattle.std.specs.List.{sum_by}
use Rattle.std.proofs.lemmas.Bool.{cases_eq}
use Rattle.std.proofs.lemmas.List.{get_or-set_same, get_or-set_other, length-set}
use Rattle.std.proofs.lemmas.List.Sums.{sum_by-set}
use Rattle.base.proofs.Laws.{same_some}
use Rattle.song_model.specs.declared.tables.TableRow.{TableRow}
use Rattle.song_model.specs.declared.tables.TableName.{TableName}
use Rattle.play_model.specs.Reached.{led_to}
use Rattle.usage.specs.Marks.{IsMarked, AreMarks}
use Rattle.usage.specs.Building.{Adds, SomeBelow}
use Rattle.usage.specs.Programs.{IsClosed, IsReachedFrom, first, next, ComesFrom}
use Rattle.usage.proofs.AddedMarks.{adds_same, none_marked, marks_from_none, marked_inside}

-- how many rows aren't marked
pub left_over : List Bool → ℕ
left_over marks = sum_by (λ m. if m then 0 else 1) marks

-- marks on the way along one program: what was marked and what it has come to, closed but for the row that is next
pub record IsFollowing (name : TableName) (rows : List TableRow) (from : ℕ) (old marks : List Bool)
    (next_row : Option ℕ) : Type 0 where
  pub count : length marks ≡ 257
  pub kept : (q : ℕ) → IsMarked old q → IsMarked marks q
  pub sound : (q : ℕ) → IsMarked marks q → IsMarked old q ⊎ IsReachedFrom name rows (λ p. p ≡ from) q
  pub comes : (q : ℕ) → next_row ≡ Some q → (q ≤ 256) × IsReachedFrom name rows (λ p. p ≡ from) q
  pub closed : (p q : ℕ) → IsMarked marks p → led_to name rows p ≡ Some q → IsMarked marks q ⊎ (next_row ≡ Some q)
  pub begun : IsMarked marks from ⊎ (next_row ≡ Some from)

pub starts : (name : TableName) (rows : List TableRow) (from : ℕ) (old : List Bool) → length old ≡ 257 → from ≤ 256 →
    IsClosed name rows old →
    IsFollowing name rows from old old (Some from)
starts name rows from old count low shut = record {
  count = count;
  kept = λ q m. m;
  sound = λ q m. inl m;
  comes = λ q e. (let is : q ≡ from = sym (same_some from q e) in (omega arith, first is));
  closed = λ p q m e. inl (shut.led p q m e);
  begun = inr refl;
}

marked_other : (marks : List Bool) (p q : ℕ) → IsMarked marks q → p < length marks → IsMarked (set marks p true) q
marked_other marks p q m inside = elim (cases_eq q p) [
  | inl here ↦ rw here (get_or-set_same marks p true false inside)
  | inr other ↦ get_or-set_other marks p q true false other ∙ m
]

marked_here : (marks : List Bool) (p : ℕ) → p < length marks → IsMarked (set marks p true) p
marked_here marks p inside = get_or-set_same marks p true false inside

marked_of : (marks : List Bool) (p q : ℕ) → IsMarked (set marks p true) q → IsMarked marks q ⊎ (q ≡ p)
marked_of marks p q m = elim (cases_eq q p) [
  | inl here ↦ inr here
  | inr other ↦ inl (sym (get_or-set_other marks p q true false other) ∙ m)
]

pub goes_on : (name : TableName) (rows : List TableRow) (from p : ℕ) (old marks : List Bool) (next_row : Option ℕ) →
    IsFollowing name rows from old marks (Some p) → next_row ≡ led_to name rows p → IfSome next_row (λ q. q ≤ 256) →
    IsFollowing name rows from old (set marks p true) next_row
goes_on name rows from p old marks next_row f is small =
    let here = f.comes p refl in
    let low = here.0 in
    let n = f.count in
    let inside : p < length marks = omega arith in
    record {
      count = length-set marks p true ∙ f.count;
      kept = λ q m. marked_other marks p q (f.kept q m) inside;
      sound = λ q m. (let w = marked_of marks p q m in elim w [
        | inl before ↦ f.sound q before
        | inr now ↦ inr (subst (λ (x : ℕ). IsReachedFrom name rows (λ (y : ℕ). y ≡ from) x) (sym now) here.1)
      ]);
      comes = λ q e. (some_small next_row q small e, next p here.1 (sym is ∙ e));
      closed = λ a q m e. (let w = marked_of marks p a m in elim w [
        | inl before ↦ (let v = f.closed a q before e in elim v [
          | inl there ↦ inl (marked_other marks p q there inside)
          | inr next_is ↦ inl (subst (λ (x : ℕ). IsMarked (set marks p true) x) (same_some p q next_is)
              (marked_here marks p inside))
        ])
        | inr now ↦ inr (is ∙ sym (ap (λ (x : ℕ). led_to name rows x) now) ∙ e)
      ]);
      begun = (let w = f.begun in elim w [
        | inl there ↦ inl (marked_other marks p from there inside)
        | inr next_is ↦ inl (subst (λ (x : ℕ). IsMarked (set marks p true) x) (same_some p from next_is)
            (marked_here marks p inside))
      ]);
    }
  where
    some_small : (o : Option ℕ) (q : ℕ) → IfSome o (λ r. r ≤ 256) → o ≡ Some q → q ≤ 256
    some_small o q h e = rw e at h

-- the next row has a mark
pub row_inside : {name : TableName} {rows : List TableRow} {from p : ℕ} {old marks : List Bool} {next_row : Option ℕ} →
    IsFollowing name rows from old marks next_row → next_row ≡ Some p → p < 257
row_inside {p = p} f is = let low = (f.comes p is).0 in omega arith

-- one row less is left over
pub falls : (marks : List Bool) (p : ℕ) → p < length marks → get_or marks p false ≡ false →
    left_over (set marks p true) < left_over marks
unfolding left_over
falls marks p inside unmarked =
    let e = sum_by-set (λ (m : Bool). if m then 0 else 1) marks p true false inside in
    let f = rw unmarked at e in
    omega arith

-- ---- the end

reached_are : (name : TableName) (rows : List TableRow) (from : ℕ) (marks : List Bool) → IsClosed name rows marks →
    IsMarked marks from →
    (q : ℕ) → IsReachedFrom name rows (λ p. p ≡ from) q → IsMarked marks q
reached_are name rows from marks shut begun q (first is) = rw is begun
reached_are name rows from marks shut begun q (next p r e) =
    shut.led p q (reached_are name rows from marks shut begun p r) e

pub record IsFollowed (name : TableName) (rows : List TableRow) (from : ℕ) (old marks : List Bool) : Type 0 where
  pub closed : IsClosed name rows marks
  pub marked : Adds (IsReachedFrom name rows (λ p. p ≡ from)) old marks

followed : (name : TableName) (rows : List TableRow) (from : ℕ) (old marks : List Bool) (next_row : Option ℕ) →
    IsFollowing name rows from old marks next_row → IsClosed name rows marks → IsMarked marks from →
    IsFollowed name rows from old marks
followed name rows from old marks next_row f shut begun = record {
  closed = shut;
  marked = record {
    each = λ q. (
      f.sound q,
      λ (w : IsMarked old q ⊎ IsReachedFrom name rows (λ p. p ≡ from) q).
          elim w [ inl m ↦ f.kept q m | inr r ↦ reached_are name rows from marks shut begun q r ],
    );
  };
}

-- the program ends
pub ends : (name : TableName) (rows : List TableRow) (from : ℕ) (old marks : List Bool) →
    IsFollowing name rows from old marks None → IsFollowed name rows from old marks
ends name rows from old marks f =
    followed name rows from old marks None f
    (record { led = λ p q m e. (let w = f.closed p q m e in elim w [ inl there ↦ there | inr none ↦ absurd (cc) ]) })
    (let w = f.begun in elim w [ inl there ↦ there | inr none ↦ absurd (cc) ])

-- it comes to a row that is marked
pub meets : (name : TableName) (rows : List TableRow) (from p : ℕ) (old marks : List Bool) →
    IsFollowing name rows from old marks (Some p) → IsMarked marks p →
    IsFollowed name rows from old marks
meets name rows from p old marks f m =
    followed name rows from old marks (Some p) f
    (record {
      led = λ a q n e. (let w = f.closed a q n e in
          elim w [ inl there ↦ there | inr is ↦ subst (λ (x : ℕ). IsMarked marks x) (same_some p q is) m ]);
    })
    (let w = f.begun in elim w [
      | inl there ↦ there
      | inr is ↦ subst (λ (x : ℕ). IsMarked marks x) (same_some p from is)
          m
    ])

-- ---- from all pointers

-- no mark leads on
pub nothing_is_closed : (name : TableName) (rows : List TableRow) → IsClosed name rows (replicate 257 false)
nothing_is_closed name rows = record { led = λ p q m e. absurd (none_marked 257 p m) }

reached_by : (name : TableName) (rows : List TableRow) (pointers : List Bool) (from : ℕ) → IsMarked pointers from →
    (p : ℕ) → IsReachedFrom name rows (λ q. q ≡ from) p → IsReachedFrom name rows (IsMarked pointers) p
reached_by name rows pointers from m p (first is) = first (rw is m)
reached_by name rows pointers from m p (next q r e) = next q (reached_by name rows pointers from m q r) e

comes_from : (name : TableName) (rows : List TableRow) (pointers : List Bool) (i : ℕ) → length pointers ≤ i →
    (p : ℕ) → IsReachedFrom name rows (IsMarked pointers) p → SomeBelow (ComesFrom name rows pointers) i p
comes_from name rows pointers i end p (first m) = record {
  k = p;
  below = marked_inside pointers i p end m;
  stands = record { pointer = m; reached = first refl };
}
comes_from name rows pointers i end p (next q r e) =
    let s = comes_from name rows pointers i end q r in
    record {
      k = s.k;
      below = s.below;
      stands = record
          { pointer = s.stands.pointer; reached = next q s.stands.reached e };
    }

pub all_reached : (name : TableName) (rows : List TableRow) (pointers : List Bool) (i : ℕ) {new : List Bool} →
    length pointers ≤ i →
    Adds (SomeBelow (ComesFrom name rows pointers) i) (replicate 257 false) new →
    AreMarks (IsReachedFrom name rows (IsMarked pointers)) new
all_reached name rows pointers i end a =
    marks_from_none 257 (adds_same (IsReachedFrom name rows (IsMarked pointers))
    (λ p s. reached_by name rows pointers s.k s.stands.pointer p s.stands.reached)
    (λ p r. comes_from name rows pointers i end p r) a)
