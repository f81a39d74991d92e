-- Equal segments: equality goes from one to another, and the first one is equal to each.
use Rattle.std.proofs.Common.{◌≡◌, ◌≢◌, ℕ, ◌+◌, ◌<◌, ◌≤◌, ◌⊎◌, Bool, true, false, not}
use Rattle.std.proofs.Common.{◌&&◌, ◌==◌, if◌then◌else◌, length, refl, sym, ◌∙◌, inl, inr, arith}
use Rattle.std.proofs.lemmas.Bool.{and_parts, and_from, cases_Bool, eqb-true, eqb-false, eq-eqb, ne_eqb, not-true}
use Rattle.song_model.specs.declared.tables.TableRow.{TableRow}
use Rattle.packing_rules.specs.Segments.{ProgramTable, row_of, is_jump_row, begins, is_in, is_closed, is_as_far}
use Rattle.packing_rules.specs.Segments.{are_alike, is_equal_at, are_equal, first_equal}
use Rattle.packing_rules.proofs.Numbers.{all_at, all_from, least_found}

-- ---- rows

-- what it means that two rows are alike
pub record Alike (s t : ℕ) (x y : TableRow) : Type 0 where
  pub left : x.left ≡ y.left
  pub right : is_jump_row x ≡ false → x.right ≡ y.right
  pub stops : is_jump_row x ≡ true → x.right ≡ 0 → y.right ≡ 0
  pub goes : is_jump_row x ≡ true → x.right ≢ 0 → y.right ≢ 0
  pub far : is_jump_row x ≡ true → x.right ≢ 0 → x.right + t ≡ y.right + s

pub alike_parts : (s t : ℕ) (x y : TableRow) → are_alike s t x y ≡ true → Alike s t x y
alike_parts s t x y is =
    let parts = and_parts (x.left == y.left) _ is in
    record {
      left = eqb-true x.left y.left parts.0;
      right = λ e. eqb-true x.right y.right (rw e at parts.1);
      stops = λ e none. let h : is_as_far s t x.right y.right ≡ true = rw e at parts.1 in
          eqb-true y.right 0 (rw none at h);
      goes = λ e some. (far_parts x.right y.right (rw e at parts.1) some).0;
      far = λ e some. (far_parts x.right y.right (rw e at parts.1) some).1;
    }
  where
    far_parts : (a b : ℕ) → is_as_far s t a b ≡ true → a ≢ 0 → (b ≢ 0) × (a + t ≡ b + s)
    far_parts a b h some =
        let no : (a == 0) ≡ false = ne_eqb a 0 some in
        let parts = and_parts (not (b == 0)) (a + t == b + s) (rw no at h) in
        (eqb-false b 0 (not-true (b == 0) parts.0), eqb-true (a + t) (b + s) parts.1)

pub alike_from : (s t : ℕ) (x y : TableRow) → Alike s t x y → are_alike s t x y ≡ true
alike_from s t x y a =
    and_from (x.left == y.left) _ (eq-eqb x.left y.left a.left) (by_jump (is_jump_row x) refl)
  where
    by_right : (b : Bool) → (x.right == 0) ≡ b → is_jump_row x ≡ true → is_as_far s t x.right y.right ≡ true
    by_right true e jump = rw e (eq-eqb y.right 0 (a.stops jump (eqb-true x.right 0 e)))
    by_right false e jump =
        let some = eqb-false x.right 0 e in
        let no : (y.right == 0) ≡ false = ne_eqb y.right 0 (a.goes jump some) in
        rw (e, no) (eq-eqb (x.right + t) (y.right + s) (a.far jump some))

    by_jump : (b : Bool) → is_jump_row x ≡ b →
        (if is_jump_row x then is_as_far s t x.right y.right else x.right == y.right) ≡ true
    by_jump true e = rw e (by_right (x.right == 0) refl e)
    by_jump false e = rw e (eq-eqb x.right y.right (a.right e))

alike_itself : (s : ℕ) (x : TableRow) → Alike s s x x
alike_itself s x = record {
  left = refl;
  right = λ _. refl;
  stops = λ _ e. e;
  goes = λ _ e. e;
  far = λ _ _. refl;
}

-- a row that is alike to a jump is one
jump_too : (x y : TableRow) (b : Bool) → x.left ≡ y.left → is_jump_row y ≡ b → is_jump_row x ≡ b
jump_too x y b e is = rw e is

alike_back : (s t : ℕ) (x y : TableRow) → Alike s t x y → Alike t s y x
alike_back s t x y a = record {
  left = sym a.left;
  right = λ e. sym (a.right (jump_too x y false a.left e));
  stops = λ e none. elim (cases_Bool (x.right == 0)) [
    | inl is ↦ eqb-true x.right 0 is
    | inr some ↦ absurd (a.goes (jump_too x y true a.left e) (eqb-false x.right 0 some) none)
  ];
  goes = λ e some none. some (a.stops (jump_too x y true a.left e) none);
  far = λ e some. sym (a.far (jump_too x y true a.left e)
      (λ none. some (a.stops (jump_too x y true a.left e) none)));
}

alike_on : (s t u : ℕ) (x y z : TableRow) → Alike s t x y → Alike t u y z → Alike s u x z
alike_on s t u x y z a b = record {
  left = a.left ∙ b.left;
  right = λ e. a.right e ∙ b.right (jump_too y x false (sym a.left) e);
  stops = λ e none. b.stops (jump_too y x true (sym a.left) e) (a.stops e none);
  goes = λ e some. b.goes (jump_too y x true (sym a.left) e) (a.goes e some);
  far = λ e some.
      sum x.right y.right z.right (a.far e some)
      (b.far (jump_too y x true (sym a.left) e) (a.goes e some));
}
  where
    sum : (i j k : ℕ) → i + t ≡ j + s → j + u ≡ k + t → i + u ≡ k + s
    sum i j k p q = omega arith

-- ---- segments

-- what it means that two segments are alike at a distance from their first rows
pub record SameAt (table : ProgramTable) (s t d : ℕ) : Type 0 where
  pub there : is_in table s (s + d) ≡ is_in table t (t + d)
  pub alike : is_in table s (s + d) ≡ true → Alike s t (row_of table (s + d)) (row_of table (t + d))

pub same_parts : (table : ProgramTable) (s t d : ℕ) → is_equal_at table s t d ≡ true → SameAt table s t d
same_parts table s t d is = by_case (is_in table s (s + d)) refl
  where
    by_case : (b : Bool) → is_in table s (s + d) ≡ b → SameAt table s t d
    by_case true e =
        let parts = and_parts (is_in table t (t + d)) (are_alike s t (row_of table (s + d)) (row_of table (t + d)))
        (rw e at is) in
        record {
          there = e ∙ sym parts.0;
          alike = λ _. alike_parts s t (row_of table (s + d)) (row_of table (t + d)) parts.1;
        }
    by_case false e = record {
      there = e ∙ sym (not-true (is_in table t (t + d)) (rw e at is));
      alike = λ yes_too. absurd cc;
    }

same_from : (table : ProgramTable) (s t d : ℕ) → SameAt table s t d → is_equal_at table s t d ≡ true
same_from table s t d same = by_case (is_in table s (s + d)) refl
  where
    by_case : (b : Bool) → is_in table s (s + d) ≡ b → is_equal_at table s t d ≡ true
    by_case true e =
        rw e
        (and_from (is_in table t (t + d)) (are_alike s t (row_of table (s + d)) (row_of table (t + d)))
        (sym same.there ∙ e)
        (alike_from s t (row_of table (s + d)) (row_of table (t + d)) (same.alike e)))
    by_case false e = let other : is_in table t (t + d) ≡ false = sym same.there ∙ e in rw e (rw other refl)

-- two segments are equal where they are alike at each distance
pub record AreEqual (table : ProgramTable) (s t : ℕ) : Type 0 where
  pub at : (d : ℕ) → d < length table.rows → SameAt table s t d

pub equal_parts : (table : ProgramTable) (s t : ℕ) → are_equal table s t ≡ true → AreEqual table s t
unfolding are_equal
equal_parts table s t is = record {
  at = λ d small.
      same_parts table s t d (all_at (is_equal_at table s t) 0 (length table.rows) d is (omega arith) (omega arith));
}

pub equal_from : (table : ProgramTable) (s t : ℕ) → AreEqual table s t → are_equal table s t ≡ true
unfolding are_equal
equal_from table s t equal =
    all_from (is_equal_at table s t) 0 (length table.rows)
    (λ d low high. same_from table s t d (equal.at d (omega arith)))

pub equal_itself : (table : ProgramTable) (s : ℕ) → AreEqual table s s
equal_itself table s = record {
  at = λ d small. record { there = refl; alike = λ _. alike_itself s (row_of table (s + d)) };
}

pub equal_back : (table : ProgramTable) (s t : ℕ) → AreEqual table s t → AreEqual table t s
equal_back table s t equal = record {
  at = λ d small.
      let same = equal.at d small in
      record {
        there = sym same.there;
        alike = λ is. alike_back s t (row_of table (s + d)) (row_of table (t + d)) (same.alike (same.there ∙ is));
      };
}

pub equal_on : (table : ProgramTable) (s t u : ℕ) → AreEqual table s t → AreEqual table t u → AreEqual table s u
equal_on table s t u one other = record {
  at = λ d small.
      let same = one.at d small in
      let next = other.at d small in
      record {
        there = same.there ∙ next.there;
        alike = λ is.
            alike_on s t u (row_of table (s + d)) (row_of table (t + d)) (row_of table (u + d)) (same.alike is)
            (next.alike (sym same.there ∙ is));
      };
}

-- ---- the first one

-- what is looked for
abbrev pub is_such : ProgramTable → ℕ → ℕ → Bool
is_such table s t = begins table t && is_closed table t && are_equal table s t

pub record IsSuch (table : ProgramTable) (s t : ℕ) : Type 0 where
  pub begun : begins table t ≡ true
  pub closed : is_closed table t ≡ true
  pub equal : AreEqual table s t

pub such_parts : (table : ProgramTable) (s t : ℕ) → is_such table s t ≡ true → IsSuch table s t
such_parts table s t is =
    let parts = and_parts (begins table t && is_closed table t) (are_equal table s t) is in
    let firsts = and_parts (begins table t) (is_closed table t) parts.0 in
    record { begun = firsts.0; closed = firsts.1; equal = equal_parts table s t parts.1 }

pub such_from : (table : ProgramTable) (s t : ℕ) → IsSuch table s t → is_such table s t ≡ true
such_from table s t such =
    and_from (begins table t && is_closed table t) (are_equal table s t)
    (and_from (begins table t) (is_closed table t) such.begun such.closed)
    (equal_from table s t such.equal)

pub itself_is_such : (table : ProgramTable) (s : ℕ) → begins table s ≡ true → is_closed table s ≡ true → IsSuch table s s
itself_is_such table s begun closed = record { begun = begun; closed = closed; equal = equal_itself table s }

pub open_stays : (table : ProgramTable) (s : ℕ) → is_closed table s ≡ false → first_equal table s ≡ s
unfolding first_equal
open_stays table s is = rw is refl

-- the first such segment: it begins at a row from 1 to s, and none before it is such
pub record IsFirstEqual (table : ProgramTable) (s t : ℕ) : Type 0 where
  pub least : 1 ≤ t
  pub most : t ≤ s
  pub such : IsSuch table s t
  pub before : (j : ℕ) → 1 ≤ j → j < t → is_such table s j ≡ false

pub first_is : (table : ProgramTable) (s : ℕ) → 1 ≤ s → begins table s ≡ true → is_closed table s ≡ true →
    IsFirstEqual table s (first_equal table s)
unfolding first_equal
first_is table s some begun closed =
    let found = least_found (is_such table s) 1 s s some (omega arith)
    (such_from table s s (itself_is_such table s begun closed)) in
    let e : first_equal table s ≡ found.at = rw closed (rw found.is refl) in
    record {
      least = rw e found.from;
      most = rw e found.to;
      such = rw e (such_parts table s found.at found.passes);
      before = λ j low high. found.before j low (rw e at high);
    }

-- it is the first one of its own kind
pub first_of_first : (table : ProgramTable) (s : ℕ) → 1 ≤ s → begins table s ≡ true → is_closed table s ≡ true →
    first_equal table (first_equal table s) ≡ first_equal table s
first_of_first table s some begun closed =
    let t = first_equal table s in
    let one : IsFirstEqual table s t = first_is table s some begun closed in
    let other : IsFirstEqual table t (first_equal table t) = first_is table t one.least one.such.begun one.such.closed in
    elim (same_or_less (first_equal table t) t other.most) [
      | inl same ↦ same
      | inr less ↦ absurd
          (let such : is_such table s (first_equal table t) ≡ true =
          such_from table s (first_equal table t) (record {
            begun = other.such.begun;
            closed = other.such.closed;
            equal = equal_on table s t (first_equal table t) one.such.equal other.such.equal;
          }) in
          let fails = one.before (first_equal table t) other.least less in
          cc)
    ]
  where
    same_or_less : (u t : ℕ) → u ≤ t → (u ≡ t) ⊎ (u < t)
    same_or_less u t most = grind arith
