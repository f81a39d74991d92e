-- The rows that stay stand for all rows, and the map to them keeps programs.
use Rattle.std.proofs.Common.{◌≡◌, ◌≢◌, ℕ, ◌+◌, ◌-◌, ◌<◌, ◌≤◌, Bool, true, false, not}
use Rattle.std.proofs.Common.{◌&&◌, ◌||◌, ◌==◌, List, length, map, refl, sym, ◌∙◌, ap, subst, inl}
use Rattle.std.proofs.Common.{inr, arith}
use Rattle.std.proofs.lemmas.Bool.{and_parts, and_from, cases_Bool, eqb-true, eqb-false, eq-eqb, ne_eqb}
use Rattle.std.proofs.lemmas.List.{length-map, get_or-map}
use Rattle.song_model.specs.declared.tables.TableRow.{TableRow}
use Rattle.song_model.specs.LookUp.{IsNumbered, zero_table_row}
use Rattle.packing_rules.specs.Segments.{ProgramTable, IsWhole, row_of, is_jump_row, is_end, begins, first_row, is_in}
use Rattle.packing_rules.specs.Segments.{jumps, is_closed_at, is_closed, first_equal, keeps, stand_in}
use Rattle.packing_rules.specs.ProgramMaps.{retargeted, row_at, KeepsPrograms}
use Rattle.packing_rules.proofs.Numbers.{all_at}
use Rattle.packing_rules.proofs.Segments.{same_segment, InSegment, segment_of, IsRowOf, row_of_segment, is_in_from, goes_on_here}
use Rattle.packing_rules.proofs.EqualSegments.{Alike, IsFirstEqual, open_stays, first_is, first_of_first}

-- ---- words

pub stands_for : (table : ProgramTable) (p : ℕ) → table.reached p ≡ true →
    stand_in table p ≡ first_equal table (first_row table p) + (p - first_row table p)
unfolding stand_in
stands_for table p reached = rw reached refl

pub stands_for_none : (table : ProgramTable) (p : ℕ) → table.reached p ≡ false → stand_in table p ≡ 0
unfolding stand_in
stands_for_none table p none = rw none refl

pub keeps_from : (table : ProgramTable) (p s : ℕ) → table.reached p ≡ true → first_row table p ≡ s →
    first_equal table s ≡ s → keeps table p ≡ true
unfolding keeps
keeps_from table p s reached first same =
    and_from (table.reached p) _ reached
    (eq-eqb (first_equal table (first_row table p)) (first_row table p) (ap (first_equal table) first ∙ same ∙ sym first))

pub record IsKept (table : ProgramTable) (p : ℕ) : Type 0 where
  pub reached : table.reached p ≡ true
  pub same : first_equal table (first_row table p) ≡ first_row table p

pub kept_parts : (table : ProgramTable) (p : ℕ) → keeps table p ≡ true → IsKept table p
unfolding keeps
kept_parts table p is =
    let parts = and_parts (table.reached p) _ is in
    record { reached = parts.0; same = eqb-true (first_equal table (first_row table p)) (first_row table p) parts.1 }

-- ---- jumps of closed segments

or_second : (a b : Bool) → a ≡ false → (a || b) ≡ true → b ≡ true
or_second true b e h = absurd cc
or_second false b e h = h

own_jump : (table : ProgramTable) (s p : ℕ) → IsWhole table → is_closed table s ≡ true → IsRowOf table s p →
    is_jump_row (row_of table p) ≡ true → (row_of table p).right ≢ 0 → is_in table s (row_of table p).right ≡ true
unfolding is_closed
own_jump table s p whole closed row jump some =
    let stored = whole.stored p row.reached in
    let first = stored.first in
    let last = stored.last in
    let at : is_closed_at table s p ≡ true =
    all_at (is_closed_at table s) 1 (length table.rows) p closed first (omega arith) in
    let parts = and_parts (not (table.entries p) || _) _ at in
    let inside = is_in_from table s p row.reached row.first in
    let reached = row.reached in
    let h : jumps table s p (row_of table p).right ≡ true =
    or_second (not (table.reached p && is_jump_row (row_of table p))) (jumps table s p (row_of table p).right)
    (rw (reached, jump) refl) parts.1 in
    or_second ((row_of table p).right == 0) (is_in table s (row_of table p).right) (ne_eqb (row_of table p).right 0 some)
    (rw inside at h)

-- ---- what stands for a row

same_rows : (x y : TableRow) → x.left ≡ y.left → x.right ≡ y.right → x ≡ y
same_rows x y l r =
    let with_left : ℕ → TableRow = λ k. record { left = k; right = x.right } in
    let with_right : ℕ → TableRow = λ k. record { left = y.left; right = k } in
    ap with_left l ∙ ap with_right r

-- the row of segment t as far from its first row as p is from that of its own segment
pub record StandsAt (table : ProgramTable) (p s t d : ℕ) : Type 0 where
  pub place : p ≡ s + d
  pub at : stand_in table p ≡ t + d
  pub least : 1 ≤ t
  pub most : t ≤ s
  pub is : IsRowOf table t (t + d)
  pub stays : first_equal table t ≡ t
  pub row : retargeted (stand_in table) (row_of table (t + d)) ≡ retargeted (stand_in table) (row_of table p)

-- in a segment that stays
stands_itself : (table : ProgramTable) (p s d : ℕ) → InSegment table p → table.reached p ≡ true → first_row table p ≡ s →
    p ≡ s + d → first_equal table s ≡ s → StandsAt table p s s d
stands_itself table p s d inside reached first place same = record {
  place = place;
  at = stands_for table p reached ∙ (rw (first, same) (off p s d place));
  least = subst (λ k. 1 ≤ k) first inside.least;
  most = omega arith;
  is = subst (IsRowOf table s) place (record { reached = reached; first = first });
  stays = same;
  row = ap (λ k. retargeted (stand_in table) (row_of table k)) (sym place);
}
  where
    off : (p s d : ℕ) → p ≡ s + d → s + (p - s) ≡ s + d
    off p s d e = omega arith

-- where a jump of one closed segment leads, and the same jump of an equal one
same_targets : (table : ProgramTable) (s t x y : ℕ) → IsWhole table → first_equal table s ≡ t → first_equal table t ≡ t →
    is_in table s x ≡ true → is_in table t y ≡ true → x + t ≡ y + s → stand_in table y ≡ stand_in table x
same_targets table s t x y whole here there in_s in_t far =
    let one = row_of_segment table s x in_s in
    let other = row_of_segment table t y in_t in
    let one_is : stand_in table x ≡ t + (x - s) =
    stands_for table x one.reached ∙ ap (λ (k : ℕ). first_equal table k + (x - k)) one.first
    ∙ ap (λ (k : ℕ). k + (x - s)) here in
    let other_is : stand_in table y ≡ t + (y - t) =
    stands_for table y other.reached ∙ ap (λ (k : ℕ). first_equal table k + (y - k)) other.first
    ∙ ap (λ (k : ℕ). k + (y - t)) there in
    let s_low : s ≤ x = subst (λ (k : ℕ). k ≤ x) one.first (segment_of table x whole one.reached).most in
    let t_low : t ≤ y = subst (λ (k : ℕ). k ≤ y) other.first (segment_of table y whole other.reached).most in
    other_is ∙ ap (λ (k : ℕ). t + k) (distance s t x y s_low t_low far) ∙ sym one_is
  where
    distance : (s t x y : ℕ) → s ≤ x → t ≤ y → x + t ≡ y + s → y - t ≡ x - s
    distance s t x y a b e = omega arith

-- rows that are alike, of closed segments that are equal
same_targeted : (table : ProgramTable) (s t p q : ℕ) → IsWhole table → first_equal table s ≡ t →
    first_equal table t ≡ t → is_closed table s ≡ true → is_closed table t ≡ true → IsRowOf table s p → IsRowOf table t q →
    Alike s t (row_of table p) (row_of table q) →
    retargeted (stand_in table) (row_of table q) ≡ retargeted (stand_in table) (row_of table p)
same_targeted table s t p q whole here there closed_s closed_t row_p row_q alike =
    by_jump (is_jump_row (row_of table p)) refl
  where
    jump_too : (b : Bool) → is_jump_row (row_of table p) ≡ b → is_jump_row (row_of table q) ≡ b
    jump_too b e = ap (λ (k : ℕ). k == 0xFF) (sym alike.left) ∙ e

    targets : (b : Bool) → ((row_of table p).right == 0) ≡ b → is_jump_row (row_of table p) ≡ true →
        stand_in table (row_of table q).right ≡ stand_in table (row_of table p).right
    targets true e jump =
        let none = eqb-true (row_of table p).right 0 e in
        ap (stand_in table) (alike.stops jump none ∙ sym none)
    targets false e jump =
        let some = eqb-false (row_of table p).right 0 e in
        same_targets table s t (row_of table p).right (row_of table q).right whole here there
        (own_jump table s p whole closed_s row_p jump some)
        (own_jump table t q whole closed_t row_q (jump_too true jump) (alike.goes jump some))
        (alike.far jump some)

    by_jump : (b : Bool) → is_jump_row (row_of table p) ≡ b →
        retargeted (stand_in table) (row_of table q) ≡ retargeted (stand_in table) (row_of table p)
    by_jump false e =
        let e' = jump_too false e in
        rw (e, e') (same_rows (row_of table q) (row_of table p) (sym alike.left) (sym (alike.right e)))
    by_jump true e =
        let e' = jump_too true e in
        rw (e, e')
        (same_rows (record (row_of table q) { right = stand_in table (row_of table q).right })
        (record (row_of table p) { right = stand_in table (row_of table p).right }) (sym alike.left)
        (targets ((row_of table p).right == 0) refl e))

-- in a closed segment
stands_first : (table : ProgramTable) (p s d : ℕ) → IsWhole table → InSegment table p → table.reached p ≡ true →
    first_row table p ≡ s → p ≡ s + d → is_closed table s ≡ true → StandsAt table p s (first_equal table s) d
stands_first table p s d whole inside reached first place closed =
    let some : 1 ≤ s = subst (λ (k : ℕ). 1 ≤ k) first inside.least in
    let begun : begins table s ≡ true = subst (λ (k : ℕ). begins table k ≡ true) first inside.begun in
    let one : IsFirstEqual table s (first_equal table s) = first_is table s some begun closed in
    let stays : first_equal table (first_equal table s) ≡ first_equal table s =
    first_of_first table s some begun closed in
    let stored = whole.stored p reached in
    let last = stored.last in
    let same = one.such.equal.at d (small p s d (length table.rows) place some last) in
    let here : is_in table s (s + d) ≡ true =
    is_in_from table s (s + d) (subst (λ (k : ℕ). table.reached k ≡ true) place reached)
    (ap (first_row table) (sym place) ∙ first) in
    let row : IsRowOf table (first_equal table s) (first_equal table s + d) =
    row_of_segment table (first_equal table s) (first_equal table s + d) (sym same.there ∙ here) in
    record {
      place = place;
      at =
          stands_for table p reached ∙ ap (λ (k : ℕ). first_equal table k + (p - k)) first
          ∙ ap (λ (k : ℕ). first_equal table s + k) (off p s d place);
      least = one.least;
      most = one.most;
      is = row;
      stays = stays;
      row =
          same_targeted table s (first_equal table s) p (first_equal table s + d) whole refl stays closed one.such.closed
          (record { reached = reached; first = first }) row
          (subst (λ (k : ℕ). Alike s (first_equal table s) (row_of table k) (row_of table (first_equal table s + d)))
          (sym place) (same.alike here));
    }
  where
    small : (p s d n : ℕ) → p ≡ s + d → 1 ≤ s → p ≤ n → d < n
    small p s d n e some last = omega arith

    off : (p s d : ℕ) → p ≡ s + d → p - s ≡ d
    off p s d e = omega arith

pub stands_at : (table : ProgramTable) (p : ℕ) → IsWhole table → table.reached p ≡ true →
    (t : ℕ) × StandsAt table p (first_row table p) t (p - first_row table p)
stands_at table p whole reached =
    let inside = segment_of table p whole reached in
    let most = inside.most in
    let place : p ≡ first_row table p + (p - first_row table p) = omega arith in
    elim (cases_Bool (is_closed table (first_row table p))) [
      | inl closed ↦ (
        first_equal table (first_row table p),
        stands_first table p (first_row table p) (p - first_row table p) whole inside reached refl place closed,
      )
      | inr fails ↦ (
        first_row table p,
        stands_itself table p (first_row table p) (p - first_row table p) inside reached refl place
            (open_stays table (first_row table p) fails),
      )
    ]

-- ---- the laws

-- what stands for a row stays
pub stand_in_stays : (table : ProgramTable) (p : ℕ) → IsWhole table → table.reached p ≡ true →
    keeps table (stand_in table p) ≡ true
stand_in_stays table p whole reached =
    let found = stands_at table p whole reached in
    let stands = found.1 in
    rw stands.at
    (keeps_from table (found.0 + (p - first_row table p)) found.0 stands.is.reached stands.is.first stands.stays)

-- a row that stays stands for itself
pub kept_stands : (table : ProgramTable) (p : ℕ) → IsWhole table → keeps table p ≡ true → stand_in table p ≡ p
kept_stands table p whole is =
    let kept = kept_parts table p is in
    let inside = segment_of table p whole kept.reached in
    stands_for table p kept.reached ∙ ap (λ (k : ℕ). k + (p - first_row table p)) kept.same
    ∙ back (first_row table p) p inside.most
  where
    back : (s p : ℕ) → s ≤ p → s + (p - s) ≡ p
    back s p low = omega arith

-- where its program goes on, the next row stays too
pub next_stays : (table : ProgramTable) (p : ℕ) → IsWhole table → keeps table p ≡ true →
    is_end table.pulse (row_of table p) ≡ false → keeps table (p + 1) ≡ true
next_stays table p whole is goes =
    let kept = kept_parts table p is in
    let same = same_segment table p (goes_on_here table p kept.reached goes) in
    keeps_from table (p + 1) (first_row table p) (whole.next p kept.reached goes) same kept.same

pub numbered_map : (f : TableRow → TableRow) (rows : List TableRow) (n : ℕ) → IsNumbered rows n →
    row_at (map f rows) n ≡ f (row_at rows n)
numbered_map f rows n is =
    let first = is.first in
    let last = is.last in
    let some : (n == 0) ≡ false = ne_eqb n 0 (λ (e : n ≡ 0). omega arith) in
    rw some (get_or-map f rows (n - 1) zero_table_row zero_table_row (omega arith))

pub numbered_length : (f : TableRow → TableRow) (rows : List TableRow) (n : ℕ) → IsNumbered rows n → IsNumbered (map f rows) n
numbered_length f rows n is = record { first = is.first; last = subst (λ (k : ℕ). n ≤ k) (sym (length-map rows f)) is.last }

none_at_0 : (table : ProgramTable) → IsWhole table → (b : Bool) → table.reached 0 ≡ b → stand_in table 0 ≡ 0
none_at_0 table whole true e = absurd (let first = (whole.stored 0 e).first in omega arith)
none_at_0 table whole false e = stands_for_none table 0 e

stand_in_stored : (table : ProgramTable) (p : ℕ) → IsWhole table → table.reached p ≡ true →
    IsNumbered table.rows (stand_in table p)
stand_in_stored table p whole reached =
    let found = stands_at table p whole reached in
    let stands = found.1 in
    let inside = segment_of table p whole reached in
    whole.stored (stand_in table p) (rw stands.at stands.is.reached)

pub stand_ins_keep : (table : ProgramTable) → IsWhole table →
    KeepsPrograms table.pulse table.reached table.rows (map (retargeted (stand_in table)) table.rows) (stand_in table)
stand_ins_keep table whole = record {
  nothing = none_at_0 table whole (table.reached 0) refl;
  stored = λ p reached.
      numbered_length (retargeted (stand_in table)) table.rows (stand_in table p) (stand_in_stored table p whole reached);
  row = λ p reached.
      let found = stands_at table p whole reached in
      let stands = found.1 in
      numbered_map (retargeted (stand_in table)) table.rows (stand_in table p) (stand_in_stored table p whole reached)
      ∙ ap (λ (k : ℕ). retargeted (stand_in table) (row_of table k)) stands.at ∙ stands.row;
  goes_on = whole.next;
  target = whole.target;
  next = λ p reached goes.
      let same = same_segment table p (goes_on_here table p reached goes) in
      stands_for table (p + 1) (whole.next p reached goes)
      ∙ ap (λ (k : ℕ). first_equal table k + (p + 1 - k)) same
      ∙ one_more (first_equal table (first_row table p)) (first_row table p) p (segment_of table p whole reached).most
      ∙ ap (λ (k : ℕ). k + 1) (sym (stands_for table p reached));
}
  where
    one_more : (t s p : ℕ) → s ≤ p → t + (p + 1 - s) ≡ t + (p - s) + 1
    one_more t s p low = omega arith
