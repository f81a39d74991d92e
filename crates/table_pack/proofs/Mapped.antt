-- What stands for each row, row by row.
use Rattle.std.proofs.Common.{◌≡◌, ℕ, ◌+◌, ◌-◌, ◌<◌, ◌≤◌, ◌⊎◌, Bool, true, false}
use Rattle.std.proofs.Common.{◌&&◌, ◌==◌, if◌then◌else◌, List, length, get_or, refl, sym, ◌∙◌, ap}
use Rattle.std.proofs.Common.{subst, inl, inr, arith}
use Rattle.std.proofs.Math.ListN.{set}
use Rattle.std.proofs.lemmas.List.{get_or-set_same, get_or-set_other, length-set}
use Rattle.std.proofs.lemmas.Bool.{cases_Bool, and_parts}
use Rattle.song_model.specs.declared.tables.TableRow.{TableRow}
use Rattle.packing_rules.specs.Segments.{ProgramTable, IsWhole, begins, first_row, first_equal, keeps, stand_in}
use Rattle.packing_rules.proofs.Laws.{segment_of, stands_at, stands_for, stands_for_none}
use Rattle.table_pack.specs.Programs.{IsTableOf, AreSegments, AreEquals, AreStaying, IsMapOf, programs_of}
use Rattle.table_pack.proofs.FirstRows.{not_at_0}

keeps_none : (table : ProgramTable) (p : ℕ) → table.reached p ≡ false → keeps table p ≡ false
unfolding keeps
keeps_none table p none = rw none refl

keeps_some : (table : ProgramTable) (p : ℕ) → table.reached p ≡ true →
    keeps table p ≡ (first_equal table (first_row table p) == first_row table p)
unfolding keeps
keeps_some table p reached = rw reached refl

-- after the first i rows
pub record MapSoFar (table : ProgramTable) (i : ℕ) (keep : List Bool) (to : List ℕ) : Type 0 where
  pub keep_long : length keep ≡ 256
  pub to_long : length to ≡ 256
  pub kept : (q : ℕ) → q ≤ i → get_or keep q false ≡ keeps table q
  pub stands : (q : ℕ) → q ≤ i → get_or to q 0 ≡ stand_in table q
  pub unkept : (q : ℕ) → i < q → get_or keep q false ≡ false
  pub none : (q : ℕ) → i < q → get_or to q 0 ≡ 0

pub map_none : (table : ProgramTable) (keep : List Bool) (to : List ℕ) → IsWhole table → length keep ≡ 256 →
    length to ≡ 256 → ((q : ℕ) → get_or keep q false ≡ false) → ((q : ℕ) → get_or to q 0 ≡ 0) → MapSoFar table 0 keep to
map_none table keep to whole keep_long to_long all_false all_zero = record {
  keep_long = keep_long;
  to_long = to_long;
  kept = λ q low. let e : q ≡ 0 = omega arith in
      all_false q ∙ sym (ap (keeps table) e ∙ keeps_none table 0 (not_at_0 table whole));
  stands = λ q low. let e : q ≡ 0 = omega arith in
      all_zero q ∙ sym (ap (stand_in table) e ∙ stands_for_none table 0 (not_at_0 table whole));
  unkept = λ q _. all_false q;
  none = λ q _. all_zero q;
}

last_or_before : (p i : ℕ) → p ≤ i + 1 → (p ≡ i + 1) ⊎ (p ≤ i)
last_or_before p i most = grind arith

-- a row with its mark, its segment's first row, and that of the one that stays
pub row_mapped : (table : ProgramTable) (p : ℕ) (marked : Bool) (first stays : ℕ) → table.reached p ≡ marked →
    (marked ≡ true → first ≡ first_row table p) → (marked ≡ true → stays ≡ first_equal table (first_row table p)) →
    ((marked && (stays == first)) ≡ keeps table p)
    × ((if marked then stays + (p - first) else 0) ≡ stand_in table p)
row_mapped table p true first stays reached first_is stays_is = (
  ap (λ (k : ℕ). k == first) (stays_is refl) ∙ ap (λ (k : ℕ). first_equal table (first_row table p) == k) (first_is refl)
      ∙ sym (keeps_some table p reached),
  ap (λ (k : ℕ). k + (p - first)) (stays_is refl)
      ∙ ap (λ (k : ℕ). first_equal table (first_row table p) + (p - k)) (first_is refl)
      ∙ sym (stands_for table p reached),
)
row_mapped table p false first stays reached first_is stays_is =
    (sym (keeps_none table p reached), sym (stands_for_none table p reached))

pub map_more : (table : ProgramTable) (i : ℕ) (keep : List Bool) (to : List ℕ) (k : Bool) (t : ℕ) →
    MapSoFar table i keep to → i + 1 < 256 → k ≡ keeps table (i + 1) →
    t ≡ stand_in table (i + 1) → MapSoFar table (i + 1) (set keep (i + 1) k) (set to (i + 1) t)
map_more table i keep to k t so_far room k_is t_is = record {
  keep_long = length-set keep (i + 1) k ∙ so_far.keep_long;
  to_long = length-set to (i + 1) t ∙ so_far.to_long;
  kept = λ q low. elim (last_or_before q i low) [
    | inl last ↦ ap (λ (j : ℕ). get_or (set keep (i + 1) k) j false) last
        ∙ get_or-set_same keep (i + 1) k false (subst (λ (n : ℕ). i + 1 < n) (sym so_far.keep_long) room)
        ∙ k_is ∙ ap (keeps table) (sym last)
    | inr before ↦ get_or-set_other keep (i + 1) q k false (λ (z : q ≡ i + 1). absurd (omega arith)) ∙ so_far.kept q before
  ];
  stands = λ q low. elim (last_or_before q i low) [
    | inl last ↦ ap (λ (j : ℕ). get_or (set to (i + 1) t) j 0) last
        ∙ get_or-set_same to (i + 1) t 0 (subst (λ (n : ℕ). i + 1 < n) (sym so_far.to_long) room)
        ∙ t_is ∙ ap (stand_in table) (sym last)
    | inr before ↦ get_or-set_other to (i + 1) q t 0 (λ (z : q ≡ i + 1). absurd (omega arith)) ∙ so_far.stands q before
  ];
  unkept = λ q low. get_or-set_other keep (i + 1) q k false (λ (z : q ≡ i + 1). absurd (omega arith))
      ∙ so_far.unkept q (omega arith);
  none = λ q low. get_or-set_other to (i + 1) q t 0 (λ (z : q ≡ i + 1). absurd (omega arith)) ∙ so_far.none q (omega arith);
}

up_to_or_behind : (q i : ℕ) → (q ≤ i) ⊎ (i < q)
up_to_or_behind q i = grind arith

not_reached : (table : ProgramTable) (q : ℕ) → IsWhole table → length table.rows < q → table.reached q ≡ false
not_reached table q whole behind = elim (cases_Bool (table.reached q)) [
  | inl is ↦ absurd (let last = (whole.stored q is).last in omega arith)
  | inr none ↦ none
]

pub map_all : (table : ProgramTable) (i : ℕ) (keep : List Bool) (to : List ℕ) → IsWhole table → length table.rows ≤ i →
    MapSoFar table i keep to → IsMapOf table keep to
map_all table i keep to whole all so_far = record {
  keep_is = λ q. elim (up_to_or_behind q i) [
    | inl low ↦ so_far.kept q low
    | inr behind ↦ so_far.unkept q behind ∙ sym (keeps_none table q (not_reached table q whole (omega arith)))
  ];
  to_is = λ q. elim (up_to_or_behind q i) [
    | inl low ↦ so_far.stands q low
    | inr behind ↦ so_far.none q behind ∙ sym (stands_for_none table q (not_reached table q whole (omega arith)))
  ];
}

-- the same, as the mark and the first rows are read
pub map_read : (table : ProgramTable) (rows : List TableRow) (marks : List Bool) (firsts equals : List ℕ) (i : ℕ)
    (keep : List Bool) (to : List ℕ) (first : ℕ) (k : Bool) (t : ℕ) → AreSegments table rows marks firsts →
    AreEquals table equals → MapSoFar table i keep to → i + 1 < 256 → first ≡ get_or firsts (i + 1) 0 →
    k ≡ (get_or marks (i + 1) false && (get_or equals first 0 == get_or firsts (i + 1) 0)) →
    t ≡ (if get_or marks (i + 1) false then get_or equals first 0 + (i + 1 - get_or firsts (i + 1) 0) else 0) →
    MapSoFar table (i + 1) (set keep (i + 1) k) (set to (i + 1) t)
map_read table rows marks firsts equals i keep to first k t are equal so_far room first_is k_is t_is =
    let mapped = row_mapped table (i + 1) (get_or marks (i + 1) false) (get_or firsts (i + 1) 0) (get_or equals first 0)
    (are.reached (i + 1))
    (λ marked. are.firsts_are.at (i + 1) (are.reached (i + 1) ∙ marked))
    (λ marked.
    let reached : table.reached (i + 1) ≡ true = are.reached (i + 1) ∙ marked in
    let here : first ≡ first_row table (i + 1) = first_is ∙ are.firsts_are.at (i + 1) reached in
    ap (λ (j : ℕ). get_or equals j 0) here
    ∙ equal (first_row table (i + 1)) (segment_of table (i + 1) are.firsts_are.whole reached).begun) in
    map_more table i keep to k t so_far room (k_is ∙ mapped.0) (t_is ∙ mapped.1)

-- ---- what the callers know

pub equals_low : (table : ProgramTable) (p : ℕ) → IsWhole table → table.reached p ≡ true →
    first_equal table (first_row table p) ≤ first_row table p
equals_low table p whole reached =
    let found = stands_at table p whole reached in
    let most = found.1.most in
    let at = found.1.at in
    let e = stands_for table p reached in
    omega arith

pub staying : (table : ProgramTable) (rows : List TableRow) (marks : List Bool) (firsts equals : List ℕ) →
    AreSegments table rows marks firsts → AreEquals table equals → AreStaying rows marks firsts equals
staying table rows marks firsts equals are equal = record {
  first = λ p low marked.
      let reached : table.reached p ≡ true = are.reached p ∙ marked in
      subst (λ (k : ℕ). k ≤ p) (sym (are.firsts_are.at p reached)) (segment_of table p are.firsts_are.whole reached).most;
  stays = λ p low marked.
      let reached : table.reached p ≡ true = are.reached p ∙ marked in
      let first = are.firsts_are.at p reached in
      let begun = (segment_of table p are.firsts_are.whole reached).begun in
      let is : get_or equals (get_or firsts p 0) 0 ≡ first_equal table (first_row table p) =
      ap (λ (k : ℕ). get_or equals k 0) first ∙ equal (first_row table p) begun in
      let low = equals_low table p are.firsts_are.whole reached in
      subst (λ (k : ℕ). k ≤ get_or firsts p 0) (sym is)
      (subst (λ (k : ℕ). first_equal table (first_row table p) ≤ k) (sym first) low);
}

pub table_of : (rows : List TableRow) (marks entries : List Bool) (pulse : Bool) →
    IsWhole (programs_of rows marks entries pulse) → IsTableOf (programs_of rows marks entries pulse) rows marks pulse
table_of rows marks entries pulse whole = record { whole = whole; rows_are = refl; reached = λ p. refl; pulse_is = refl }

pub stored_begin : (table : ProgramTable) (s : ℕ) → IsWhole table → begins table s ≡ true → s ≤ length table.rows
stored_begin table s whole begun = (whole.stored s (and_parts (table.reached s) _ begun).0).last
