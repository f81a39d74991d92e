-- Equal segments, distance by distance, and the first one among those that are different.
use Rattle.std.proofs.Common.{◌≡◌, ◌≢◌, ℕ, zero, suc, ◌+◌, ◌-◌, ◌<◌, ◌≤◌, ◌⊎◌}
use Rattle.std.proofs.Common.{Bool, true, false, not, List, [], ◌∷◌, ◌++◌, length, get_or, Contains, refl}
use Rattle.std.proofs.Common.{sym, ◌∙◌, ap, subst, inl, inr, arith}
use Rattle.std.proofs.Math.ListN.{set}
use mathlib.Core.Bool.{beq}
use Rattle.std.proofs.lemmas.List.{get_or-set_same, get_or-set_other, length-set}
use Rattle.std.proofs.lemmas.List.Elements.{All-contains, Contains-append_left, Contains-push, Contains-push_cases}
use Rattle.std.specs.List.{All}
use Rattle.std.proofs.lemmas.Bool.{cases_Bool, cases_eq, and_parts}
use Rattle.song_model.specs.declared.tables.TableRow.{TableRow}
use Rattle.packing_rules.specs.Segments.{ProgramTable, IsWhole, row_of, begins, first_row, is_in, is_closed, are_alike}
use Rattle.packing_rules.specs.Segments.{are_equal, first_equal}
use Rattle.packing_rules.specs.ProgramMaps.{row_at}
use Rattle.packing_rules.proofs.Laws.{segment_of, row_of_segment, is_in_from, not_behind, alike_parts, alike_from}
use Rattle.packing_rules.proofs.Laws.{SameAt, AreEqual, equal_parts, equal_from, equal_back, equal_on, such_from}
use Rattle.packing_rules.proofs.Laws.{open_stays, first_is, first_of_first}
use Rattle.table_pack.specs.Programs.{IsDifferent, AreDifferent, IsAsked}

-- ---- two segments

pub rows_there : (table : ProgramTable) (rows : List TableRow) (p : ℕ) → table.rows ≡ rows → row_at rows p ≡ row_of table p
rows_there table rows p are = ap (λ (r : List TableRow). row_at r p) (sym are)

-- both have a row at the distance, and these are alike
pub both_there : (table : ProgramTable) (rows : List TableRow) (s t d : ℕ) → table.rows ≡ rows →
    is_in table s (s + d) ≡ true → is_in table t (t + d) ≡ true →
    are_alike s t (row_at rows (s + d)) (row_at rows (t + d)) ≡ true → SameAt table s t d
both_there table rows s t d are one other alike = record {
  there = one ∙ sym other;
  alike = λ _. alike_parts s t (row_of table (s + d)) (row_of table (t + d))
      (subst (λ (r : List TableRow). are_alike s t (row_at r (s + d)) (row_at r (t + d)) ≡ true) (sym are) alike);
}

pub one_apart : (table : ProgramTable) (s t d : ℕ) → d < length table.rows → is_in table s (s + d) ≢ is_in table t (t + d) →
    false ≡ are_equal table s t
one_apart table s t d small apart = elim (cases_Bool (are_equal table s t)) [
  | inl is ↦ absurd (apart ((equal_parts table s t is).at d small).there)
  | inr fails ↦ sym fails
]

pub rows_apart : (table : ProgramTable) (rows : List TableRow) (s t d : ℕ) → table.rows ≡ rows → d < length table.rows →
    is_in table s (s + d) ≡ true → are_alike s t (row_at rows (s + d)) (row_at rows (t + d)) ≡ false →
    false ≡ are_equal table s t
rows_apart table rows s t d are small inside apart = elim (cases_Bool (are_equal table s t)) [
  | inl is ↦ absurd
      (let same = alike_from s t (row_of table (s + d)) (row_of table (t + d))
      (((equal_parts table s t is).at d small).alike inside) in
      let other : are_alike s t (row_of table (s + d)) (row_of table (t + d)) ≡ false =
      subst (λ (r : List TableRow). are_alike s t (row_at r (s + d)) (row_at r (t + d)) ≡ false) (sym are) apart in
      cc)
  | inr fails ↦ sym fails
]

-- behind a distance at which a segment has no row it has none
none_behind : (table : ProgramTable) (s d more : ℕ) → IsWhole table → is_in table s (s + d) ≡ false →
    is_in table s (s + (d + more)) ≡ false
none_behind table s d zero whole none = let e : d + 0 ≡ d = omega arith in rw e none
none_behind table s d (suc more) whole none =
    let e : s + (d + suc more) ≡ s + (d + more) + 1 = omega arith in
    rw e (not_behind table s (s + (d + more)) whole (omega arith) (none_behind table s d more whole none))

below_or_behind : (e d : ℕ) → (e < d) ⊎ (d ≤ e)
below_or_behind e d = grind arith

-- both have ended
pub both_ended : (table : ProgramTable) (s t d : ℕ) → IsWhole table → is_in table s (s + d) ≡ false →
    is_in table t (t + d) ≡ false → ((e : ℕ) → e < d → SameAt table s t e) → true ≡ are_equal table s t
both_ended table s t d whole one other so_far =
    sym (equal_from table s t (record {
      at = λ e small. elim (below_or_behind e d) [
        | inl below ↦ so_far e below
        | inr behind ↦
            (let is : d + (e - d) ≡ e = omega arith in
            let first : is_in table s (s + e) ≡ false =
            subst (λ (k : ℕ). is_in table s (s + k) ≡ false) is (none_behind table s d (e - d) whole one) in
            let second : is_in table t (t + e) ≡ false =
            subst (λ (k : ℕ). is_in table t (t + k) ≡ false) is (none_behind table t d (e - d) whole other) in
            record { there = first ∙ sym second; alike = λ h. absurd cc })
      ];
    }))

pub all_same : (table : ProgramTable) (s t d : ℕ) → length table.rows ≤ d → ((e : ℕ) → e < d → SameAt table s t e) →
    true ≡ are_equal table s t
all_same table s t d all so_far =
    sym (equal_from table s t (record { at = λ e small. so_far e (omega arith) }))

same_or_before : (e d : ℕ) → e < d + 1 → (e ≡ d) ⊎ (e < d)
same_or_before e d low = grind arith

pub one_more : (table : ProgramTable) (s t d : ℕ) → ((e : ℕ) → e < d → SameAt table s t e) → SameAt table s t d →
    (e : ℕ) → e < d + 1 → SameAt table s t e
one_more table s t d so_far here e low = elim (same_or_before e d low) [
  | inl same ↦ subst (SameAt table s t) (sym same) here
  | inr before ↦ so_far e before
]

pub same_bits : (a b : Bool) → not (beq a b) ≡ false → a ≡ b
same_bits true true e = refl
same_bits false false e = refl
same_bits true false e = absurd cc
same_bits false true e = absurd cc

pub other_bits : (a b : Bool) → not (beq a b) ≡ true → a ≢ b
other_bits true true e = λ _. absurd cc
other_bits false false e = λ _. absurd cc
other_bits true false e = λ h. absurd cc
other_bits false true e = λ h. absurd cc

-- with the rows as they are read
pub read_apart : (table : ProgramTable) (rows : List TableRow) (s t d : ℕ) (x y : TableRow) → table.rows ≡ rows →
    d < length table.rows → is_in table s (s + d) ≡ true → x ≡ row_at rows (s + d) → y ≡ row_at rows (t + d) →
    are_alike s t x y ≡ false → false ≡ are_equal table s t
read_apart table rows s t d x y are small inside x_is y_is apart =
    rows_apart table rows s t d are small inside
    (subst (λ (k : TableRow). are_alike s t (row_at rows (s + d)) k ≡ false) y_is
    (subst (λ (k : TableRow). are_alike s t k y ≡ false) x_is apart))

pub read_there : (table : ProgramTable) (rows : List TableRow) (s t d : ℕ) (x y : TableRow) → table.rows ≡ rows →
    is_in table s (s + d) ≡ true → is_in table t (t + d) ≡ true → x ≡ row_at rows (s + d) → y ≡ row_at rows (t + d) →
    are_alike s t x y ≡ true → SameAt table s t d
read_there table rows s t d x y are one other x_is y_is alike =
    both_there table rows s t d are one other
    (subst (λ (k : TableRow). are_alike s t (row_at rows (s + d)) k ≡ true) y_is
    (subst (λ (k : TableRow). are_alike s t k y ≡ true) x_is alike))

-- ---- the first one

-- a segment begins at a row from 1 on exactly where the row is in the segment that begins there
pub begins_there : (table : ProgramTable) (s : ℕ) → IsWhole table → is_in table s s ≡ true → begins table s ≡ true
begins_there table s whole is =
    let row = row_of_segment table s s is in
    subst (λ (k : ℕ). begins table k ≡ true) row.first (segment_of table s whole row.reached).begun

first_there : (table : ProgramTable) (s : ℕ) → begins table s ≡ true → first_row table s ≡ s
unfolding first_row
first_there table zero is = refl
first_there table (suc s) is = rw is refl

pub in_its_own : (table : ProgramTable) (s : ℕ) → begins table s ≡ true → is_in table s s ≡ true
in_its_own table s is =
    let reached = (and_parts (table.reached s) _ is).0 in
    is_in_from table s s reached (first_there table s is)

-- so the two tests agree
pub begins_is : (table : ProgramTable) (s : ℕ) → IsWhole table → is_in table s s ≡ begins table s
begins_is table s whole = elim (cases_Bool (is_in table s s)) [
  | inl is ↦ is ∙ sym (begins_there table s whole is)
  | inr fails ↦ (elim (cases_Bool (begins table s)) [
    | inl begun ↦ absurd (let is = in_its_own table s begun in cc)
    | inr none ↦ fails ∙ sym none
  ])
]

pub begins_from_1 : (table : ProgramTable) (s : ℕ) → IsWhole table → begins table s ≡ true → 1 ≤ s
begins_from_1 table s whole is = (whole.stored s (and_parts (table.reached s) _ is).0).first

-- one of the different segments before s that is equal to it is the first one
pub found_first : (table : ProgramTable) (s t : ℕ) → 1 ≤ s → begins table s ≡ true → is_closed table s ≡ true →
    IsDifferent table s t → AreEqual table s t → t ≡ first_equal table s
found_first table s t some begun closed different equal =
    let one = first_is table s some begun closed in
    elim (order t (first_equal table s)) [
      | inl same ↦ same
      | inr (inl before) ↦ absurd
          (let such = such_from table s t (record { begun = different.begun; closed = different.closed; equal = equal }) in
          let fails = one.before t different.some before in cc)
      | inr (inr behind) ↦ absurd
          (let own = first_is table t different.some different.begun different.closed in
          let such = such_from table t (first_equal table s) (record {
            begun = one.such.begun;
            closed = one.such.closed;
            equal = equal_on table t s (first_equal table s) (equal_back table s t equal) one.such.equal;
          }) in
          let fails = own.before (first_equal table s) one.least
          (subst (λ (k : ℕ). first_equal table s < k) (sym different.first) behind) in
          cc)
    ]
  where
    order : (a b : ℕ) → (a ≡ b) ⊎ ((a < b) ⊎ (b < a))
    order a b = grind arith

-- where none of them is equal it is the first one itself
pub none_first : (table : ProgramTable) (s : ℕ) (list : List ℕ) → 1 ≤ s → begins table s ≡ true →
    is_closed table s ≡ true → AreDifferent table s list → ((t : ℕ) → Contains list t → are_equal table s t ≡ false) →
    s ≡ first_equal table s
none_first table s list some begun closed are none =
    let one = first_is table s some begun closed in
    elim (same_or_less (first_equal table s) s one.most) [
      | inl same ↦ sym same
      | inr less ↦ absurd
          (let there = are.all (first_equal table s) (record {
            some = one.least;
            before = less;
            begun = one.such.begun;
            closed = one.such.closed;
            first = first_of_first table s some begun closed;
          }) in
          let fails = none (first_equal table s) there in
          let equal = equal_from table s (first_equal table s) one.such.equal in
          cc)
    ]
  where
    same_or_less : (a b : ℕ) → a ≤ b → (a ≡ b) ⊎ (a < b)
    same_or_less a b most = grind arith

later : {table : ProgramTable} {s t : ℕ} → IsDifferent table s t → IsDifferent table (s + 1) t
later {table} {s} {t} d = let before = d.before in
    record { some = d.some; before = omega arith; begun = d.begun; closed = d.closed; first = d.first }

earlier : {table : ProgramTable} {s t : ℕ} → IsDifferent table (s + 1) t → t ≢ s → IsDifferent table s t
earlier {table} {s} {t} d other = let before = d.before in
    record { some = d.some; before = below s t before other; begun = d.begun; closed = d.closed; first = d.first }
  where
    below : (s t : ℕ) → t < s + 1 → t ≢ s → t < s
    below s t low other = elim (same_or_before t s low) [ inl same ↦ absurd (other same) | inr before ↦ before ]

-- a segment that isn't different is passed over
pub not_different : (table : ProgramTable) (s : ℕ) (list : List ℕ) → AreDifferent table s list →
    ¬ IsDifferent table (s + 1) s → AreDifferent table (s + 1) list
not_different table s list are none = record {
  each = λ t there. later (are.each t there);
  all = λ t is. elim (cases_eq t s) [
    | inl same ↦ absurd (none (subst (IsDifferent table (s + 1)) same is))
    | inr other ↦ are.all t (earlier is other)
  ];
}

-- another one is added
pub one_different : (table : ProgramTable) (s : ℕ) (list : List ℕ) → AreDifferent table s list →
    IsDifferent table (s + 1) s → AreDifferent table (s + 1) (list ++ s ∷ [])
one_different table s list are is = record {
  each = λ t there. elim (Contains-push_cases list s t there) [
    | inl before ↦ later (are.each t before)
    | inr same ↦ subst (IsDifferent table (s + 1)) same is
  ];
  all = λ t d. elim (cases_eq t s) [
    | inl same ↦ subst (Contains (list ++ s ∷ [])) (sym same) (Contains-push list s)
    | inr other ↦ Contains-append_left list (s ∷ []) t (are.all t (earlier d other))
  ];
}

pub is_different : (table : ProgramTable) (s : ℕ) → 1 ≤ s → begins table s ≡ true → is_closed table s ≡ true →
    s ≡ first_equal table s → IsDifferent table (s + 1) s
is_different table s some begun closed first =
    record { some = some; before = omega arith; begun = begun; closed = closed; first = sym first }

pub none_different : (table : ProgramTable) → AreDifferent table 1 []
none_different table = record {
  each = λ t there. absurd (let low = there.1 in omega arith);
  all = λ t d. let some = d.some in let before = d.before in absurd (omega arith);
}

-- after the first i rows
pub record EqualsSoFar (table : ProgramTable) (i : ℕ) (equals list : List ℕ) : Type 0 where
  pub long : length equals ≡ 256
  pub equal : (s : ℕ) → s ≤ i → begins table s ≡ true → get_or equals s 0 ≡ first_equal table s
  pub different : AreDifferent table (i + 1) list

pub equals_none : (table : ProgramTable) (equals : List ℕ) → IsWhole table → length equals ≡ 256 →
    EqualsSoFar table 0 equals []
equals_none table equals whole long = record {
  long = long;
  equal = λ s low is. let first = begins_from_1 table s whole is in absurd (omega arith);
  different = none_different table;
}

last_or_before : (p i : ℕ) → p ≤ i + 1 → (p ≡ i + 1) ⊎ (p ≤ i)
last_or_before p i most = grind arith

pub equals_more : (table : ProgramTable) (i : ℕ) (equals list new : List ℕ) (t : ℕ) → EqualsSoFar table i equals list →
    i + 1 < 256 → (begins table (i + 1) ≡ true → t ≡ first_equal table (i + 1)) →
    AreDifferent table (i + 1 + 1) new → EqualsSoFar table (i + 1) (set equals (i + 1) t) new
equals_more table i equals list new t so_far room is are = record {
  long = length-set equals (i + 1) t ∙ so_far.long;
  equal = λ s low begun. elim (last_or_before s i low) [
    | inl last ↦ ap (λ (k : ℕ). get_or (set equals (i + 1) t) k 0) last
        ∙ get_or-set_same equals (i + 1) t 0 (subst (λ (n : ℕ). i + 1 < n) (sym so_far.long) room)
        ∙ is (ap (begins table) (sym last) ∙ begun) ∙ ap (first_equal table) (sym last)
    | inr before ↦ get_or-set_other equals (i + 1) s t 0 (λ (z : s ≡ i + 1). absurd (omega arith)) ∙ so_far.equal s before begun
  ];
  different = are;
}

-- ---- one segment

-- what is asked of the different ones before row s
pub asked_open : (table : ProgramTable) (rows : List TableRow) (marks : List Bool) (firsts : List ℕ) (begun closed : Bool)
    (s : ℕ) (list : List ℕ) → IsAsked table rows marks firsts begun closed s list → begun ≡ false ⊎ closed ≡ false →
    (begins table s ≡ true → s ≡ first_equal table s) × AreDifferent table (s + 1) list
asked_open table rows marks firsts begun closed s list asked (inl none) = (
  λ is. absurd (let e = asked.begun_is in cc),
  not_different table s list asked.different (λ d. let is = d.begun in let e = asked.begun_is in cc),
)
asked_open table rows marks firsts begun closed s list asked (inr none) = (
  λ is. sym (open_stays table s (sym asked.closed_is ∙ none)),
  not_different table s list asked.different (λ d. let is = d.closed in let e = asked.closed_is in cc),
)

pub asked_found : (table : ProgramTable) (rows : List TableRow) (marks : List Bool) (firsts : List ℕ) (begun closed : Bool)
    (s t : ℕ) (list : List ℕ) → IsAsked table rows marks firsts begun closed s list → begun ≡ true → closed ≡ true →
    Contains list t → are_equal table s t ≡ true → (t ≡ first_equal table s) × AreDifferent table (s + 1) list
asked_found table rows marks firsts begun closed s t list asked begun_yes closed_yes there equal =
    let begins_yes : begins table s ≡ true = sym asked.begun_is ∙ begun_yes in
    let is_closed_yes : is_closed table s ≡ true = sym asked.closed_is ∙ closed_yes in
    let different = asked.different.each t there in
    let some = begins_from_1 table s asked.segments.firsts_are.whole begins_yes in
    let is = found_first table s t some begins_yes is_closed_yes different (equal_parts table s t equal) in (
      is,
      not_different table s list asked.different
          (λ d. let first = d.first in let before = different.before in absurd (omega arith)),
    )

pub asked_none : (table : ProgramTable) (rows : List TableRow) (marks : List Bool) (firsts : List ℕ) (begun closed : Bool)
    (s : ℕ) (list : List ℕ) → IsAsked table rows marks firsts begun closed s list → begun ≡ true → closed ≡ true →
    All (λ t. are_equal table s t ≡ false) list →
    (s ≡ first_equal table s) × AreDifferent table (s + 1) (list ++ s ∷ [])
asked_none table rows marks firsts begun closed s list asked begun_yes closed_yes none =
    let begins_yes : begins table s ≡ true = sym asked.begun_is ∙ begun_yes in
    let is_closed_yes : is_closed table s ≡ true = sym asked.closed_is ∙ closed_yes in
    let some = begins_from_1 table s asked.segments.firsts_are.whole begins_yes in
    let is = none_first table s list some begins_yes is_closed_yes asked.different
    (λ t there. All-contains (λ (k : ℕ). are_equal table s k ≡ false) list t none there) in
    (is, one_different table s list asked.different (is_different table s some begins_yes is_closed_yes is))
