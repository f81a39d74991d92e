-- How sets of numbers are made, one after the other and in loops.
use Rattle.std.proofs.Common.{◌≡◌, ℕ, ◌+◌, ◌<◌, ◌≤◌, ◌⊎◌, List, length, get_or, take, inl, inr, arith, subst}
use Rattle.std.specs.List.{Any}
use Rattle.std.proofs.lemmas.Bool.{cases_lt}
use Rattle.std.proofs.lemmas.List.{take_all}
use Rattle.base.proofs.Laws.{any_of_more, any_more, none_of_nil}
use Rattle.usage.specs.Building.{SomeBelow}
use Rattle.number_range.specs.Sets.{Has, IsSetOf, IsNone, IsMoved, IsSum}
use Rattle.number_range.specs.declared.sets.NumberSet.{NumberSet}

-- the same said in another way
pub set_same : {P : ℕ → Type 0} {set : NumberSet} (Q : ℕ → Type 0) → ((n : ℕ) → P n → Q n) →
    ((n : ℕ) → Q n → P n) → IsSetOf P set → IsSetOf Q set
set_same {P} {set} Q to from s = record {
  each = λ n. (λ (h : Has set n). to n ((s.each n).0 h), λ (q : Q n). (s.each n).1 (from n q));
}

-- the empty set, of numbers that there are none of
pub set_none : {set : NumberSet} (Q : ℕ → Type 0) → ((n : ℕ) → ¬ Q n) → IsSetOf IsNone set → IsSetOf Q set
set_none {set} Q none s = set_same Q (λ n never. absurd never) none s

-- the numbers of both
pub set_both : {P Q : ℕ → Type 0} {a b c : NumberSet} → IsSetOf P a → IsSetOf Q b →
    IsSetOf (λ k. Has a k ⊎ Has b k) c → IsSetOf (λ k. P k ⊎ Q k) c
set_both {P} {Q} {a} {b} {c} p q s =
    set_same (λ k. P k ⊎ Q k)
    (λ n w. elim w [ inl h ↦ inl ((p.each n).0 h) | inr h ↦ inr ((q.each n).0 h) ])
    (λ n w. elim w [ inl h ↦ inl ((p.each n).1 h) | inr h ↦ inr ((q.each n).1 h) ]) s

-- ---- in a loop over a list

pub set_first : {X : Type 0} {set : NumberSet} (Q : X → ℕ → Type 0) (xs : List X) → IsSetOf IsNone set →
    IsSetOf (λ n. Any (λ x. Q x n) (take 0 xs)) set
set_first Q xs s = set_none (λ n. Any (λ x. Q x n) (take 0 xs)) (λ n any. none_of_nil (λ x. Q x n) any) s

pub set_more : {X : Type 0} {a b c : NumberSet} (Q : X → ℕ → Type 0) (xs : List X) (i : ℕ) (d : X) → i < length xs →
    IsSetOf (λ n. Any (λ x. Q x n) (take i xs)) a → IsSetOf (Q (get_or xs i d)) b →
    IsSetOf (λ k. Has a k ⊎ Has b k) c → IsSetOf (λ n. Any (λ x. Q x n) (take (i + 1) xs)) c
set_more Q xs i d inside p q s =
    set_same (λ n. Any (λ x. Q x n) (take (i + 1) xs)) (λ n w. any_more (λ x. Q x n) xs i d inside w)
    (λ n any. any_of_more (λ x. Q x n) xs i d inside any) (set_both p q s)

-- the same for an item as it was read
pub set_item : {X : Type 0} {a b c : NumberSet} (Q : X → ℕ → Type 0) (xs : List X) (i : ℕ) (x : X) → i < length xs →
    x ≡ get_or xs i x → IsSetOf (λ n. Any (λ y. Q y n) (take i xs)) a → IsSetOf (Q x) b →
    IsSetOf (λ k. Has a k ⊎ Has b k) c → IsSetOf (λ n. Any (λ y. Q y n) (take (i + 1) xs)) c
set_item {X} {a} {b} Q xs i x inside is p q s =
    set_more Q xs i x inside p (subst (λ (y : X). IsSetOf (Q y) b) is q) s

pub set_all : {X : Type 0} {set : NumberSet} (Q : X → ℕ → Type 0) (xs : List X) (i : ℕ) → length xs ≤ i →
    IsSetOf (λ n. Any (λ x. Q x n) (take i xs)) set → IsSetOf (λ n. Any (λ x. Q x n) xs) set
set_all {X} {set} Q xs i end s =
    subst (λ (ys : List X). IsSetOf (λ n. Any (λ x. Q x n) ys) set) (take_all i xs end) s

-- ---- in a loop over numbers

pub below_first : {set : NumberSet} (Q : ℕ → ℕ → Type 0) → IsSetOf IsNone set → IsSetOf (SomeBelow Q 0) set
below_first Q s = set_none (SomeBelow Q 0) (λ n some. let b = some.below in omega (arith, b)) s

below_or_on : (Q : ℕ → ℕ → Type 0) (i n : ℕ) → SomeBelow Q (i + 1) n → SomeBelow Q i n ⊎ Q i n
below_or_on Q i n some = elim (cases_lt some.k i) [
  | inl before ↦ inl (record { k = some.k; below = before; stands = some.stands })
  | inr on ↦ (let b = some.below in let e : some.k ≡ i = omega arith in inr (subst (λ (j : ℕ). Q j n) e some.stands))
]

pub below_more : {a b c : NumberSet} (Q : ℕ → ℕ → Type 0) (i : ℕ) → IsSetOf (SomeBelow Q i) a → IsSetOf (Q i) b →
    IsSetOf (λ k. Has a k ⊎ Has b k) c → IsSetOf (SomeBelow Q (i + 1)) c
below_more Q i p q s =
    set_same (SomeBelow Q (i + 1))
    (λ n w. elim w [
      | inl some ↦ record { k = some.k; below = (let b = some.below in omega arith); stands = some.stands }
      | inr on ↦ record { k = i; below = omega arith; stands = on }
    ])
    (below_or_on Q i) (set_both p q s)

-- ---- sums

-- a number of the one set by one of the other
abbrev pub IsMovedIf : NumberSet → NumberSet → ℕ → ℕ → Type 0
IsMovedIf set other by k = Has other by × IsMoved set by k

pub sums_of : {sums : NumberSet} (set other : NumberSet) (i : ℕ) → 128 ≤ i → ((k : ℕ) → Has other k → k < 128) →
    IsSetOf (SomeBelow (IsMovedIf set other) i) sums → IsSetOf (IsSum (Has set) (Has other)) sums
sums_of set other i end small s =
    set_same (IsSum (Has set) (Has other))
    (λ n some. record {
      first = some.stands.1.from;
      second = some.k;
      is_first = some.stands.1.has;
      is_second = some.stands.0;
      is = some.stands.1.is;
    })
    (λ n sum. record {
      k = sum.second;
      below = (let b = small sum.second sum.is_second in omega (arith, b, end));
      stands = (sum.is_second, record { from = sum.first; has = sum.is_first; is = sum.is });
    }) s

sum_as : (P Q : ℕ → Type 0) {IsFirst IsSecond : ℕ → Type 0} (n : ℕ) → ((k : ℕ) → IsFirst k → P k) →
    ((k : ℕ) → IsSecond k → Q k) → IsSum IsFirst IsSecond n → IsSum P Q n
sum_as P Q n first second sum = record {
  first = sum.first;
  second = sum.second;
  is_first = first sum.first sum.is_first;
  is_second = second sum.second sum.is_second;
  is = sum.is;
}

pub sum_of : {IsFirst IsSecond : ℕ → Type 0} {a b c : NumberSet} → IsSetOf IsFirst a → IsSetOf IsSecond b →
    IsSetOf (IsSum (Has a) (Has b)) c → IsSetOf (IsSum IsFirst IsSecond) c
sum_of {IsFirst} {IsSecond} {a} {b} p q s =
    set_same (IsSum IsFirst IsSecond)
    (λ n sum. sum_as IsFirst IsSecond n (λ k has. (p.each k).0 has) (λ k has. (q.each k).0 has) sum)
    (λ n sum. sum_as (Has a) (Has b) n (λ k is. (p.each k).1 is) (λ k is. (q.each k).1 is) sum) s
