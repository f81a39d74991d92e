-- The rows of a segment.
use Rattle.std.proofs.Common.{◌≡◌, ℕ, zero, suc, ◌+◌, ◌-◌, ◌≤◌, ◌⊎◌, Bool, true, false, not}
use Rattle.std.proofs.Common.{◌&&◌, ◌||◌, ◌==◌, refl, sym, ◌∙◌, ap, inl, inr, arith}
use Rattle.std.proofs.lemmas.Bool.{and_parts, and_from, cases_Bool, eqb-true, eq-eqb}
use Rattle.packing_rules.specs.Segments.{ProgramTable, IsWhole, row_of, is_end, begins, first_row, is_in}

-- ---- one row after the other

first_where_begins : (table : ProgramTable) (p : ℕ) → begins table (suc p) ≡ true → first_row table (suc p) ≡ suc p
unfolding first_row
first_where_begins table p is = rw is refl

first_where_not : (table : ProgramTable) (p : ℕ) → begins table (suc p) ≡ false →
    first_row table (suc p) ≡ first_row table p
unfolding first_row
first_where_not table p is = rw is refl

-- a segment doesn't begin at a reached row exactly where the row before is reached and isn't its last
pub record GoesOn (table : ProgramTable) (p : ℕ) : Type 0 where
  pub reached : table.reached p ≡ true
  pub goes : is_end table.pulse (row_of table p) ≡ false

goes_on : (table : ProgramTable) (p : ℕ) → table.reached (suc p) ≡ true → begins table (suc p) ≡ false → GoesOn table p
goes_on table p reached is =
    let less : suc p - 1 ≡ p = omega arith in
    let parts : (table.reached p ≡ true) × (is_end table.pulse (row_of table p) ≡ false) =
    both (table.reached (suc p)) (table.reached p) (is_end table.pulse (row_of table p)) reached (rw less at is) in
    record { reached = parts.0; goes = parts.1 }
  where
    both : (here before ended : Bool) → here ≡ true → (here && (not before || ended)) ≡ false →
        (before ≡ true) × (ended ≡ false)
    both true true false h e = (refl, refl)
    both true true true h e = absurd cc
    both true false ended h e = absurd cc
    both false before ended h e = absurd cc

begins_not : (table : ProgramTable) (p : ℕ) → GoesOn table p → begins table (suc p) ≡ false
begins_not table p on =
    let less : suc p - 1 ≡ p = omega arith in
    let e : is_end table.pulse (row_of table p) ≡ false = on.goes in
    rw less (rw (on.reached, e) (none (table.reached (suc p))))
  where
    none : (here : Bool) → (here && (false || false)) ≡ false
    none true = refl
    none false = refl

pub same_segment : (table : ProgramTable) (p : ℕ) → GoesOn table p → first_row table (p + 1) ≡ first_row table p
same_segment table p on =
    let more : p + 1 ≡ suc p = omega arith in
    rw more (first_where_not table p (begins_not table p on))

begins_reached : (table : ProgramTable) (p : ℕ) → begins table p ≡ true → table.reached p ≡ true
begins_reached table p is = (and_parts (table.reached p) _ is).0

-- ---- the segment of a reached row

pub record InSegment (table : ProgramTable) (p : ℕ) : Type 0 where
  pub least : 1 ≤ first_row table p
  pub most : first_row table p ≤ p
  pub begun : begins table (first_row table p) ≡ true
  pub reached : (q : ℕ) → first_row table p ≤ q → q ≤ p → table.reached q ≡ true
  pub first : (q : ℕ) → first_row table p ≤ q → q ≤ p → first_row table q ≡ first_row table p

-- at its first row
at_first : (table : ProgramTable) (p : ℕ) → begins table (suc p) ≡ true → InSegment table (suc p)
at_first table p is =
    let e = first_where_begins table p is in
    record {
      least = rw e (omega arith);
      most = rw e (omega arith);
      begun = rw e is;
      reached = λ q low high.
          let same : q ≡ suc p = only (first_row table (suc p)) q (suc p) e low high in
          rw same (begins_reached table (suc p) is);
      first = λ q low high.
          let same : q ≡ suc p = only (first_row table (suc p)) q (suc p) e low high in
          ap (first_row table) same;
    }
  where
    only : (f q p : ℕ) → f ≡ p → f ≤ q → q ≤ p → q ≡ p
    only f q p e low high = omega arith

last_or_before : (q p : ℕ) → q ≤ suc p → (q ≡ suc p) ⊎ (q ≤ p)
last_or_before q p most = grind arith

-- at a row behind it
at_next : (table : ProgramTable) (p : ℕ) → table.reached (suc p) ≡ true → begins table (suc p) ≡ false →
    InSegment table p → InSegment table (suc p)
at_next table p reached is before =
    let e = first_where_not table p is in
    record {
      least = rw e before.least;
      most = let most = before.most in rw e (omega arith);
      begun = rw e before.begun;
      reached = λ q low high. elim (last_or_before q p high) [
        | inl last ↦ rw last reached
        | inr earlier ↦ before.reached q (rw e at low) earlier
      ];
      first = λ q low high. elim (last_or_before q p high) [
        | inl last ↦ ap (first_row table) last
        | inr earlier ↦ before.first q (rw e at low) earlier ∙ sym e
      ];
    }

pub segment_of : (table : ProgramTable) (p : ℕ) → IsWhole table → table.reached p ≡ true → InSegment table p
segment_of table zero whole reached = absurd (let first = (whole.stored 0 reached).first in omega arith)
segment_of table (suc p) whole reached = elim (cases_Bool (begins table (suc p))) [
  | inl is ↦ at_first table p is
  | inr not_here ↦ at_next table p reached not_here
      (segment_of table p whole (goes_on table p reached not_here).reached)
]

-- ---- words

pub is_in_from : (table : ProgramTable) (s q : ℕ) → table.reached q ≡ true → first_row table q ≡ s → is_in table s q ≡ true
is_in_from table s q reached first =
    and_from (table.reached q) (first_row table q == s) reached (eq-eqb (first_row table q) s first)

pub record IsRowOf (table : ProgramTable) (s q : ℕ) : Type 0 where
  pub reached : table.reached q ≡ true
  pub first : first_row table q ≡ s

pub row_of_segment : (table : ProgramTable) (s q : ℕ) → is_in table s q ≡ true → IsRowOf table s q
row_of_segment table s q is =
    let parts = and_parts (table.reached q) (first_row table q == s) is in
    record { reached = parts.0; first = eqb-true (first_row table q) s parts.1 }

-- a segment's rows have no gap: where a row isn't in it, no later one is
pub not_behind : (table : ProgramTable) (s q : ℕ) → IsWhole table → s ≤ q → is_in table s q ≡ false →
    is_in table s (q + 1) ≡ false
not_behind table s q whole low not_here = elim (cases_Bool (is_in table s (q + 1))) [
  | inl is ↦ absurd
      (let row = row_of_segment table s (q + 1) is in
      let segment = segment_of table (q + 1) whole row.reached in
      let e = row.first in
      let reached : table.reached q ≡ true = segment.reached q (rw e low) (omega arith) in
      let first : first_row table q ≡ s = segment.first q (rw e low) (omega arith) ∙ e in
      let here = is_in_from table s q reached first in
      cc)
  | inr fails ↦ fails
]

-- a row and the next one, where its program goes on
pub goes_on_here : (table : ProgramTable) (p : ℕ) → table.reached p ≡ true →
    is_end table.pulse (row_of table p) ≡ false → GoesOn table p
goes_on_here table p reached goes = record { reached = reached; goes = goes }
