-- The first row of each row's segment, row by row.
use Rattle.std.proofs.Common.{◌≡◌, ℕ, suc, ◌+◌, ◌-◌, ◌<◌, ◌≤◌, ◌⊎◌, Bool, true, false}
use Rattle.std.proofs.Common.{not, ◌&&◌, ◌||◌, ◌==◌, if◌then◌else◌, List, length, get_or, refl, sym}
use Rattle.std.proofs.Common.{◌∙◌, ap, subst, inl, inr, arith}
use Rattle.std.proofs.Math.ListN.{set}
use Rattle.std.proofs.lemmas.List.{get_or-set_same, get_or-set_other, length-set}
use Rattle.std.proofs.lemmas.Bool.{cases_Bool}
use Rattle.song_model.specs.declared.tables.TableRow.{TableRow}
use Rattle.packing_rules.specs.Segments.{ProgramTable, IsWhole, row_of, is_end, begins, first_row, is_in}
use Rattle.packing_rules.specs.ProgramMaps.{row_at}
use Rattle.table_pack.specs.Marks.{is_marked}
use Rattle.table_pack.specs.Programs.{IsTableOf, AreSegments}

-- after the first i rows
pub record IsWalked (table : ProgramTable) (i : ℕ) (firsts : List ℕ) (first : ℕ) (goes_on : Bool) : Type 0 where
  pub long : length firsts ≡ 256
  pub done : (p : ℕ) → p ≤ i → get_or firsts p 0 ≡ first_row table p
  pub here : first ≡ first_row table i
  pub goes : goes_on ≡ (table.reached i && not (is_end table.pulse (row_of table i)))

none_at_0 : (table : ProgramTable) → IsWhole table → (b : Bool) → table.reached 0 ≡ b → b ≡ false
none_at_0 table whole true e = absurd (let first = (whole.stored 0 e).first in omega arith)
none_at_0 table whole false e = refl

pub not_at_0 : (table : ProgramTable) → IsWhole table → table.reached 0 ≡ false
not_at_0 table whole = none_at_0 table whole (table.reached 0) refl

first_at_0 : (table : ProgramTable) → first_row table 0 ≡ 0
unfolding first_row
first_at_0 table = refl

pub walked_none : (table : ProgramTable) (firsts : List ℕ) → IsWhole table → length firsts ≡ 256 →
    get_or firsts 0 0 ≡ 0 → IsWalked table 0 firsts 0 false
walked_none table firsts whole long zeros = record {
  long = long;
  done = λ p low. let none : p ≡ 0 = omega arith in
      ap (λ (k : ℕ). get_or firsts k 0) none ∙ zeros ∙ sym (first_at_0 table) ∙ ap (first_row table) (sym none);
  here = sym (first_at_0 table);
  goes = let none = not_at_0 table whole in rw none refl;
}

begins_next : (table : ProgramTable) (i : ℕ) (goes_on : Bool) →
    goes_on ≡ (table.reached i && not (is_end table.pulse (row_of table i))) →
    begins table (i + 1) ≡ (table.reached (i + 1) && not goes_on)
begins_next table i goes_on e =
    let less : i + 1 - 1 ≡ i = omega arith in
    rw less (ap (λ (b : Bool). table.reached (i + 1) && b) (turned (table.reached i) (is_end table.pulse (row_of table i)))
    ∙ ap (λ (b : Bool). table.reached (i + 1) && not b) (sym e))
  where
    turned : (a b : Bool) → (not a || b) ≡ not (a && not b)
    turned true true = refl
    turned true false = refl
    turned false b = refl

first_where : (table : ProgramTable) (i : ℕ) (b : Bool) → begins table (i + 1) ≡ b → (first : ℕ) →
    first ≡ first_row table i → (if_begins : ℕ) → (b ≡ true → if_begins ≡ i + 1) → (b ≡ false → if_begins ≡ first) →
    if_begins ≡ first_row table (i + 1)
unfolding first_row
first_where table i true is first e next here there =
    let more : i + 1 ≡ suc i = omega arith in
    here refl ∙ rw more (let h : begins table (suc i) ≡ true = rw more at is in rw h refl)
first_where table i false is first e next here there =
    let more : i + 1 ≡ suc i = omega arith in
    there refl ∙ e ∙ rw more (let h : begins table (suc i) ≡ false = rw more at is in rw h refl)

last_or_before : (p i : ℕ) → p ≤ i + 1 → (p ≡ i + 1) ⊎ (p ≤ i)
last_or_before p i most = grind arith

-- one row more, where a segment begins there or doesn't
pub walked_more : (table : ProgramTable) (i : ℕ) (firsts : List ℕ) (first next : ℕ) (goes_on begun on : Bool) →
    IsWalked table i firsts first goes_on → i + 1 < 256 →
    begun ≡ (table.reached (i + 1) && not goes_on) → (begun ≡ true → next ≡ i + 1) → (begun ≡ false → next ≡ first) →
    on ≡ (table.reached (i + 1) && not (is_end table.pulse (row_of table (i + 1)))) →
    IsWalked table (i + 1) (set firsts (i + 1) next) next on
walked_more table i firsts first next goes_on begun on w room begun_is here there on_is =
    let is : begins table (i + 1) ≡ begun = begins_next table i goes_on w.goes ∙ sym begun_is in
    let e : next ≡ first_row table (i + 1) = first_where table i begun is first w.here next here there in
    record {
      long = length-set firsts (i + 1) next ∙ w.long;
      done = λ p low. elim (last_or_before p i low) [
        | inl last ↦ ap (λ (k : ℕ). get_or (set firsts (i + 1) next) k 0) last
            ∙ get_or-set_same firsts (i + 1) next 0 (subst (λ (k : ℕ). i + 1 < k) (sym w.long) room)
            ∙ e ∙ ap (first_row table) (sym last)
        | inr before ↦ get_or-set_other firsts (i + 1) p next 0 (λ (z : p ≡ i + 1). absurd (omega arith)) ∙ w.done p before
      ];
      here = e;
      goes = on_is;
    }

-- the same, as the row and its mark are read
pub walked_read : (table : ProgramTable) (rows : List TableRow) (marks : List Bool) (pulse : Bool) (i : ℕ)
    (firsts : List ℕ) (first next : ℕ) (goes_on on : Bool) (row : TableRow) → IsTableOf table rows marks pulse →
    IsWalked table i firsts first goes_on → i + 1 < 256 →
    next ≡ (if get_or marks (i + 1) false && not goes_on then i + 1 else first) →
    on ≡ (get_or marks (i + 1) false && not (is_end pulse row)) → row ≡ row_at rows (i + 1) →
    IsWalked table (i + 1) (set firsts (i + 1) next) next on
walked_read table rows marks pulse i firsts first next goes_on on row is w room next_is on_is row_is =
    walked_more table i firsts first next goes_on (get_or marks (i + 1) false && not goes_on) on w room
    (ap (λ (b : Bool). b && not goes_on) (sym (is.reached (i + 1))))
    (λ e. next_is ∙ ap (λ (b : Bool). if b then i + 1 else first) e)
    (λ e. next_is ∙ ap (λ (b : Bool). if b then i + 1 else first) e)
    (on_is ∙ ap (λ (b : Bool). b && not (is_end pulse row)) (sym (is.reached (i + 1)))
    ∙ ap (λ (r : TableRow). table.reached (i + 1) && not (is_end pulse r))
    (row_is ∙ ap (λ (r : List TableRow). row_at r (i + 1)) (sym is.rows_are))
    ∙ ap (λ (b : Bool). table.reached (i + 1) && not (is_end b (row_of table (i + 1)))) (sym is.pulse_is))

-- all rows
pub walked_all : (table : ProgramTable) (rows : List TableRow) (marks : List Bool) (pulse : Bool) (i : ℕ) (firsts : List ℕ)
    (first : ℕ) (goes_on : Bool) → IsTableOf table rows marks pulse → length rows ≤ i →
    IsWalked table i firsts first goes_on → AreSegments table rows marks firsts
walked_all table rows marks pulse i firsts first goes_on is all w = record {
  firsts_are = record {
    whole = is.whole;
    at = λ p reached.
        let last = (is.whole.stored p reached).last in
        let count : length table.rows ≡ length rows = ap (λ (r : List TableRow). length r) is.rows_are in
        w.done p (omega arith);
  };
  rows_are = is.rows_are;
  reached = is.reached;
}

-- ---- is_in

pub in_where_marked : (table : ProgramTable) (rows : List TableRow) (marks : List Bool) (firsts : List ℕ) (s p : ℕ) →
    AreSegments table rows marks firsts → is_marked marks p ≡ true → (get_or firsts p 0 == s) ≡ is_in table s p
in_where_marked table rows marks firsts s p are marked =
    let reached : table.reached p ≡ true = are.reached p ∙ marked in
    rw reached (ap (λ (k : ℕ). k == s) (are.firsts_are.at p reached))

pub not_in_where_not : (table : ProgramTable) (rows : List TableRow) (marks : List Bool) (firsts : List ℕ) (s p : ℕ) →
    AreSegments table rows marks firsts → is_marked marks p ≡ false → false ≡ is_in table s p
not_in_where_not table rows marks firsts s p are fails =
    let none : table.reached p ≡ false = are.reached p ∙ fails in rw none refl

pub not_in_behind : (table : ProgramTable) (rows : List TableRow) (marks : List Bool) (firsts : List ℕ) (s p : ℕ) →
    AreSegments table rows marks firsts → length rows < p → false ≡ is_in table s p
not_in_behind table rows marks firsts s p are behind = elim (cases_Bool (table.reached p)) [
  | inl is ↦ absurd
      (let last = (are.firsts_are.whole.stored p is).last in
      let count : length table.rows ≡ length rows = ap (λ (r : List TableRow). length r) are.rows_are in
      omega arith)
  | inr none ↦ rw none refl
]
