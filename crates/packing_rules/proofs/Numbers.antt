-- Tests of the numbers of a stretch.
use Rattle.std.proofs.Common.{◌≡◌, ℕ, zero, suc, ◌+◌, ◌<◌, ◌≤◌, ◌⊎◌, Bool, true, false}
use Rattle.std.proofs.Common.{List, [], ◌∷◌, ◌++◌, Option, Some, refl, ◌∙◌, ap, inl, inr, arith}
use Rattle.std.specs.List.{list_all, find, range_with_len}
use Rattle.std.proofs.lemmas.Bool.{and_parts, and_from, cases_Bool}

-- the first number, or one behind it
first_or_behind : (a k : ℕ) → a ≤ k → (k ≡ a) ⊎ (a + 1 ≤ k)
first_or_behind a k low = grind arith

pub all_at : (test : ℕ → Bool) (a n k : ℕ) → list_all test (range_with_len a n) ≡ true → a ≤ k → k < a + n → test k ≡ true
all_at test a zero k all low high = absurd (omega arith)
all_at test a (suc n) k all low high =
    let parts = and_parts (test a) (list_all test (range_with_len (a + 1) n)) all in
    elim (first_or_behind a k low) [
      | inl is ↦ rw is parts.0
      | inr behind ↦ all_at test (a + 1) n k parts.1 behind (omega arith)
    ]

pub all_from : (test : ℕ → Bool) (a n : ℕ) → ((k : ℕ) → a ≤ k → k < a + n → test k ≡ true) →
    list_all test (range_with_len a n) ≡ true
all_from test a zero each = refl
all_from test a (suc n) each =
    and_from (test a) (list_all test (range_with_len (a + 1) n)) (each a (omega arith) (omega arith))
    (all_from test (a + 1) n (λ k low high. each k (omega arith) (omega arith)))

pub range_more : (a n : ℕ) → range_with_len a (suc n) ≡ range_with_len a n ++ (a + n) ∷ []
range_more a zero = let e : a + 0 ≡ a = omega arith in rw e refl
range_more a (suc n) =
    let e : a + 1 + n ≡ a + suc n = omega arith in
    ap (λ (xs : List ℕ). a ∷ xs) (range_more (a + 1) n ∙ ap (λ (k : ℕ). range_with_len (a + 1) n ++ k ∷ []) e)

-- a number up to k is found, the least that passes
pub record IsFound (test : ℕ → Bool) (a k : ℕ) (found : Option ℕ) : Type 0 where
  pub at : ℕ
  pub is : found ≡ Some at
  pub from : a ≤ at
  pub to : at ≤ k
  pub passes : test at ≡ true
  pub before : (j : ℕ) → a ≤ j → j < at → test j ≡ false

found_first : (test : ℕ → Bool) (a n k : ℕ) → a ≤ k → test a ≡ true →
    IsFound test a k (find test (range_with_len a (suc n)))
found_first test a n k low passes = record {
  at = a;
  is = rw passes refl;
  from = omega arith;
  to = low;
  passes = passes;
  before = λ j above below. absurd (omega arith);
}

found_behind : (test : ℕ → Bool) (a n k : ℕ) → test a ≡ false →
    IsFound test (a + 1) k (find test (range_with_len (a + 1) n)) →
    IsFound test a k (find test (range_with_len a (suc n)))
found_behind test a n k fails found = record {
  at = found.at;
  is = rw fails found.is;
  from = let low = found.from in omega arith;
  to = found.to;
  passes = found.passes;
  before = λ j above below. elim (first_or_behind a j above) [
    | inl is ↦ rw is fails
    | inr behind ↦ found.before j behind below
  ];
}

pub least_found : (test : ℕ → Bool) (a n k : ℕ) → a ≤ k → k < a + n → test k ≡ true →
    IsFound test a k (find test (range_with_len a n))
least_found test a zero k low high passes = absurd (omega arith)
least_found test a (suc n) k low high passes = elim (cases_Bool (test a)) [
  | inl is ↦ found_first test a n k low is
  | inr fails ↦ found_behind test a n k fails
      (least_found test (a + 1) n k (elim (first_or_behind a k low) [
        | inl is ↦ absurd (let e : test a ≡ true = rw is at passes in cc)
        | inr behind ↦ behind
      ]) (omega arith) passes)
]

-- the least number that passes is found
pub found_at : (test : ℕ → Bool) (a n k : ℕ) → a ≤ k → k < a + n → test k ≡ true →
    ((j : ℕ) → a ≤ j → j < k → test j ≡ false) → find test (range_with_len a n) ≡ Some k
found_at test a n k low high passes before =
    let found = least_found test a n k low high passes in
    elim (order found.at k found.to) [
      | inl same ↦ found.is ∙ ap (λ (t : ℕ). Some t) same
      | inr less ↦ absurd (let fails = before found.at found.from less in let passes = found.passes in cc)
    ]
  where
    order : (t k : ℕ) → t ≤ k → (t ≡ k) ⊎ (t < k)
    order t k most = grind arith
