-- Tests of parts, and sums of their bytes: of those that are kept, and of those that are told.
use Rattle.std.proofs.Common.{◌≡◌, ◌≢◌, ℕ, zero, suc, ◌+◌, ◌<◌, ◌==◌, Bool, true, false, not, ◌&&◌}
use Rattle.std.proofs.Common.{List, [], ◌∷◌, refl, sym, ◌∙◌, ap, subst, inl, inr, arith}
use Rattle.std.specs.List.{All, filter, range_with_len, sum_by}
use Rattle.std.proofs.lemmas.Bool.{cases_Bool, and_parts, true≢false}
use Rattle.std.proofs.lemmas.Bool.Decides.{eqb_tells}
use Rattle.std.proofs.lemmas.List.Elements.{All-nil, All-head, All-tail, All-push}
use Rattle.std.proofs.lemmas.List.Sums.{sum_by-cons}
use Rattle.packing_rules.proofs.Laws.{range_more}

filter_keeps : (test : ℕ → Bool) (part : ℕ) (parts : List ℕ) → test part ≡ true →
    filter test (part ∷ parts) ≡ part ∷ filter test parts
filter_keeps test part parts passes = rw passes refl

filter_drops : (test : ℕ → Bool) (part : ℕ) (parts : List ℕ) → test part ≡ false →
    filter test (part ∷ parts) ≡ filter test parts
filter_drops test part parts fails = rw fails refl

-- ---- dropping parts without bytes

-- no part that a test drops has bytes
abbrev pub DropsNone : (ℕ → Bool) → (ℕ → ℕ) → ℕ → Type 0
DropsNone test bytes part = test part ≡ false → bytes part ≡ 0

one_more : (sum rest all here : ℕ) → sum ≡ here + rest → all ≡ here + rest → sum ≡ all
one_more sum rest all here a b = omega (arith, a, b)

none_more : (sum all here : ℕ) → here ≡ 0 → all ≡ here + sum → sum ≡ all
none_more sum all here a b = omega (arith, a, b)

pub dropped_sum : (test : ℕ → Bool) (bytes : ℕ → ℕ) (parts : List ℕ) → All (DropsNone test bytes) parts →
    sum_by bytes (filter test parts) ≡ sum_by bytes parts
dropped_sum test bytes [] none = refl
dropped_sum test bytes (part ∷ parts) none =
    let rest = dropped_sum test bytes parts (All-tail (DropsNone test bytes) part parts none) in
    elim (cases_Bool (test part)) [
      | inl passes ↦
          ap (sum_by bytes) (filter_keeps test part parts passes)
          ∙ sum_by-cons bytes part (filter test parts) ∙ ap (λ n. bytes part + n) rest
          ∙ sym (sum_by-cons bytes part parts)
      | inr fails ↦
          ap (sum_by bytes) (filter_drops test part parts fails) ∙ rest
          ∙ none_more _ _ (bytes part) (All-head (DropsNone test bytes) part parts none fails)
          (sum_by-cons bytes part parts)
    ]

pub all_below : (P : ℕ → Type 0) (count : ℕ) → ((n : ℕ) → n < count → P n) → All P (range_with_len 0 count)
all_below P zero each = All-nil P
all_below P (suc count) each =
    subst (All P) (sym (range_more 0 count))
    (All-push P (range_with_len 0 count) (0 + count)
    (all_below P count (λ n low. each n (omega (arith, low)))) (each (0 + count) (omega arith)))

-- ---- parts that are told

module _ (kept : ℕ → Bool) (bytes : ℕ → ℕ) where
  -- where they are kept and have bytes
  abbrev pub told : ℕ → Bool
  told part = kept part && not (bytes part == 0)

  pub is_told : (part : ℕ) → kept part ≡ true → bytes part ≢ 0 → told part ≡ true
  is_told part is some = elim (eqb_tells (bytes part) 0) [
    | inl none ↦ absurd (some none.1)
    | inr differ ↦ rw (is, differ.0) refl
  ]

  pub told_is : (part : ℕ) → told part ≡ true → (kept part ≡ true) × (bytes part ≢ 0)
  told_is part is = elim (eqb_tells (bytes part) 0) [
    | inl none ↦ absurd (true≢false (sym (rw none.0 at (and_parts (kept part) (not (bytes part == 0)) is).1)))
    | inr differ ↦ ((and_parts (kept part) (not (bytes part == 0)) is).0, differ.1)
  ]

  -- of the parts that are kept those that aren't told have no bytes
  pub told_sum : (parts : List ℕ) →
      sum_by bytes (filter told parts) ≡ sum_by bytes (filter kept parts)
  told_sum [] = refl
  told_sum (part ∷ parts) =
      let rest = told_sum parts in
      elim (cases_Bool (kept part)) [
        | inl is ↦ elim (eqb_tells (bytes part) 0) [
          | inl none ↦
              ap (sum_by bytes) (filter_drops told part parts (rw (is, none.0) refl)) ∙ rest
              ∙ none_more _ _ (bytes part) none.1 (sum_by-cons bytes part (filter kept parts))
              ∙ ap (sum_by bytes) (sym (filter_keeps kept part parts is))
          | inr differ ↦
              ap (sum_by bytes) (filter_keeps told part parts (rw (is, differ.0) refl))
              ∙ sum_by-cons bytes part (filter told parts) ∙ ap (λ n. bytes part + n) rest
              ∙ sym (sum_by-cons bytes part (filter kept parts))
              ∙ ap (sum_by bytes) (sym (filter_keeps kept part parts is))
        ]
        | inr out ↦
            ap (sum_by bytes) (filter_drops told part parts (rw out refl)) ∙ rest
            ∙ ap (sum_by bytes) (sym (filter_drops kept part parts out))
      ]
