-- Where a rule fails, some refusal is the first: ranks are lists of at most four numbers, and no such lists go
-- down without end.
use Rattle.std.proofs.Common.{◌≡◌, ℕ, ◌<◌, ◌≤◌, ◌⊎◌, zero, suc, false, List, [], ◌∷◌}
use Rattle.std.proofs.Common.{length, refl, inl, inr, arith}
use Rattle.std.specs.Ordering.{nat_cmp, is_le}
use Rattle.std.specs.Cmp.Lexicographic.{slice_cmp}
use Rattle.std.proofs.lemmas.Bool.{cases_Bool, cases_order}
use Rattle.std.proofs.lemmas.Bool.Decides.{nat_tests}
use Rattle.song_model.specs.declared.songs.Song.{Song}
use Rattle.play_model.specs.declared.unplayable.Unplayable.{Unplayable}
use Rattle.play_model.specs.declared.unplayable.Unplayable.TheVariants.{
  NoSubtune,
  MissingPattern,
  BadRestart,
  TableOverflow,
  PointerToJump,
}
use Rattle.play_model.specs.Playable.{rank_of, Fails, IsRefusedFor}
use Rattle.play_model.specs.RefusalLaws.{RefusedOrPlayable}

-- ---- numbers

-- it holds of a number where it holds of each lower one
abbrev FollowsFromLower : (ℕ → Type 0) → Type 0
FollowsFromLower P = (x : ℕ) → ((y : ℕ) → y < x → P y) → P x

below_bound : (P : ℕ → Type 0) → FollowsFromLower P → (n x : ℕ) → x < n → P x
below_bound P step zero x h = absurd (omega arith)
below_bound P step (suc n) x h = step x (λ y less. below_bound P step n y (omega arith))

by_lower : (P : ℕ → Type 0) → FollowsFromLower P → (x : ℕ) → P x
by_lower P step x = below_bound P step (suc x) x (omega arith)

-- ---- lists of numbers

record IsBefore (ys xs : List ℕ) : Type 0 where
  is : is_le (slice_cmp nat_cmp xs ys) ≡ false

none_before_empty : (ys : List ℕ) → IsBefore ys [] → ⊥
none_before_empty [] h = (let e = h.is in absurd (cc))
none_before_empty (y ∷ ys) h = (let e = h.is in absurd (cc))

-- a lower number decides, and an equal one leaves it to the next
before_parts : (x y : ℕ) (xs ys : List ℕ) → IsBefore (y ∷ ys) (x ∷ xs) → (y < x) ⊎ ((y ≡ x) × IsBefore ys xs)
before_parts x y xs ys h = (let is = h.is in elim (cases_order y x) [
  | inl e ↦ inr (e, record { is = grind (arith, nat_tests) })
  | inr other ↦ elim other [
    | inl less ↦ inl less
    | inr more ↦ absurd (grind (arith, nat_tests))
  ]
])

-- it holds of a list of at most n numbers where it holds of each such list before it
abbrev FollowsFromBefore : ℕ → (List ℕ → Type 0) → Type 0
FollowsFromBefore n P =
    (xs : List ℕ) → length xs ≤ n → ((ys : List ℕ) → length ys ≤ n → IsBefore ys xs → P ys) → P xs

at_empty : (n : ℕ) (P : List ℕ → Type 0) → FollowsFromBefore n P → P []
at_empty n P step = step [] (omega arith) (λ ys short before. absurd (none_before_empty ys before))

-- under one first number, where it holds under each lower one
under_head : (n : ℕ) (P : List ℕ → Type 0) → FollowsFromBefore (suc n) P → (x : ℕ) →
    ((y : ℕ) → y < x → (ys : List ℕ) → length ys ≤ n → P (y ∷ ys)) → FollowsFromBefore n (λ xs. P (x ∷ xs))
under_head n P step x lower xs short earlier = step (x ∷ xs) (omega arith) before
  where
    before : (ys : List ℕ) → length ys ≤ suc n → IsBefore ys (x ∷ xs) → P ys
    before [] less h = at_empty (suc n) P step
    before (y ∷ ys) less h = elim (before_parts x y xs ys h) [
      | inl down ↦ lower y down ys (omega arith)
      | inr same ↦ rw same.0 (earlier ys (omega arith) same.1)
    ]

by_earlier : (n : ℕ) (P : List ℕ → Type 0) → FollowsFromBefore n P → (xs : List ℕ) → length xs ≤ n → P xs
by_earlier n P step [] h = at_empty n P step
by_earlier zero P step (x ∷ xs) h = absurd (omega arith)
by_earlier (suc n) P step (x ∷ xs) h =
    by_lower (λ z. (ys : List ℕ) → length ys ≤ n → P (z ∷ ys))
    (λ z lower. by_earlier n (λ ys. P (z ∷ ys)) (under_head n P step z lower)) x xs (omega arith)

-- ---- refusals

rank_is_short : (refusal : Unplayable) → length (rank_of refusal) ≤ 4
rank_is_short NoSubtune = omega arith
rank_is_short (MissingPattern s c place pattern) = omega arith
rank_is_short (BadRestart s c) = omega arith
rank_is_short (TableOverflow name row) = omega arith
rank_is_short (PointerToJump name row) = omega arith

-- no rule fails at a place of this rank
abbrev NoneFails : Song → List ℕ → Type 0
NoneFails song rank = (refusal : Unplayable) → rank_of refusal ≡ rank → ¬ Fails song refusal

-- a refusal that fails is the first where none fails before it
is_first : (song : Song) (refusal : Unplayable) → Fails song refusal →
    ((other : Unplayable) → IsBefore (rank_of other) (rank_of refusal) → ¬ Fails song other) →
    IsRefusedFor song refusal
is_first song refusal fails earlier = record {
  is_such = fails;
  first = λ other f. elim (cases_Bool (is_le (slice_cmp nat_cmp (rank_of refusal) (rank_of other)))) [
    | inl after ↦ after
    | inr before ↦ absurd (earlier other (record { is = before }) f)
  ];
}

none_fails : (song : Song) → ((refusal : Unplayable) → ¬ IsRefusedFor song refusal) →
    FollowsFromBefore 4 (NoneFails song)
none_fails song none rank short earlier refusal e fails = none refusal (is_first song refusal fails others)
  where
    others : (other : Unplayable) → IsBefore (rank_of other) (rank_of refusal) → ¬ Fails song other
    others other h = earlier (rank_of other) (rank_is_short other) (rw (← e) h) other refl

pub refused_or_playable_lem : RefusedOrPlayable
refused_or_playable_lem song none refusal =
    by_earlier 4 (NoneFails song) (none_fails song none) (rank_of refusal) (rank_is_short refusal) refusal refl
