-- A list of parts has as many bytes as its parts have together.
use Rattle.std.proofs.Common.{◌≡◌, ◌≢◌, ℕ, zero, suc, ◌+◌, ◌<◌, ◌≤◌, ◌⊎◌, ◌==◌, if◌then◌else◌}
use Rattle.std.proofs.Common.{List, [], ◌∷◌, length, All, refl, ◌∙◌, arith, inl, inr}
use Rattle.std.proofs.lemmas.Bool.{cases_lt, eq-eqb, ne_eqb}
use Rattle.std.proofs.lemmas.List.Elements.{All-head, All-tail}
use Rattle.std.proofs.lemmas.List.Sums.{sum_by-cons}
use Rattle.scope_parts.specs.Parts.{bytes_of}

-- the sum of the numbers below n
abbrev pub below : (ℕ → ℕ) → ℕ → ℕ
below f zero = 0
below f (suc n) = below f n + f n

-- a byte, where it is of the part
abbrev pub one_if : ℕ → ℕ → ℕ
one_if part own = if own == part then 1 else 0

pub one_more : (part own : ℕ) (all : List ℕ) → bytes_of part (own ∷ all) ≡ one_if part own + bytes_of part all
one_more part own all = sum_by-cons (one_if part) own all

-- ---- a byte is of one part

is_one : (part own : ℕ) → own ≡ part → one_if part own ≡ 1
is_one part own is = rw (eq-eqb own part is) refl

is_none : (part own : ℕ) → own ≢ part → one_if part own ≡ 0
is_none part own not = rw (ne_eqb own part not) refl

none_below : (own n : ℕ) → n ≤ own → below (λ part. one_if part own) n ≡ 0
none_below own zero high = refl
none_below own (suc n) high =
    let rest = none_below own n (omega (arith, high)) in
    let last = is_none n own (λ is. omega (arith, high, is)) in
    omega (arith, rest, last)

one_below : (own n : ℕ) → own < n → below (λ part. one_if part own) n ≡ 1
one_below own zero low = absurd (omega (arith, low))
one_below own (suc n) low = elim (cases_lt own n) [
  | inl less ↦
      let rest = one_below own n less in
      let last = is_none n own (λ is. omega (arith, less, is)) in
      omega (arith, rest, last)
  | inr more ↦
      let rest = none_below own n more in
      let last = is_one n own (omega (arith, low, more)) in
      omega (arith, rest, last)
]

-- ---- lists

pub below_same : (f g : ℕ → ℕ) (n : ℕ) → ((k : ℕ) → k < n → f k ≡ g k) → below f n ≡ below g n
below_same f g zero same = refl
below_same f g (suc n) same =
    let rest = below_same f g n (λ k few. same k (omega (arith, few))) in
    let last = same n (omega arith) in
    omega (arith, rest, last)

below_sum : (f g : ℕ → ℕ) (n : ℕ) → below (λ k. f k + g k) n ≡ below f n + below g n
below_sum f g zero = refl
below_sum f g (suc n) = (let rest = below_sum f g n in omega (arith, rest))

-- of the last part, or of one below n
abbrev pub IsPart : ℕ → ℕ → ℕ → Type 0
IsPart last n part = (part ≡ last) ⊎ (part < n)

below_more : (own n : ℕ) (all : List ℕ) →
    below (λ part. bytes_of part (own ∷ all)) n
    ≡ below (λ part. one_if part own) n + below (λ part. bytes_of part all) n
below_more own n all =
    below_same (λ part. bytes_of part (own ∷ all)) (λ part. one_if part own + bytes_of part all) n
    (λ part few. one_more part own all)
    ∙ below_sum (λ part. one_if part own) (λ part. bytes_of part all) n

one_part : (last n own : ℕ) → n ≤ last → IsPart last n own →
    one_if last own + below (λ part. one_if part own) n ≡ 1
one_part last n own high (inl is) =
    let this = is_one last own is in
    let rest = none_below own n (omega (arith, high, is)) in
    omega (arith, this, rest)
one_part last n own high (inr low) =
    let this = is_none last own (λ is. omega (arith, high, low, is)) in
    let rest = one_below own n low in
    omega (arith, this, rest)

nothing_below : (n : ℕ) → below (λ part. 0) n ≡ 0
nothing_below zero = refl
nothing_below (suc n) = (let rest = nothing_below n in omega (arith, rest))

pub counted : (last n : ℕ) → n ≤ last → (all : List ℕ) → All (IsPart last n) all →
    length all ≡ bytes_of last all + below (λ part. bytes_of part all) n
counted last n high [] parts =
    let none = nothing_below n in
    omega (arith, none)
counted last n high (own ∷ all) parts =
    let this = one_part last n own high (All-head (IsPart last n) own all parts) in
    let rest = counted last n high all (All-tail (IsPart last n) own all parts) in
    let more = below_more own n all in
    let mine = one_more last own all in
    omega (arith, this, rest, more, mine)

-- ---- parts that none is of

pub none_of : (part : ℕ) (all : List ℕ) → All (λ own. own ≢ part) all → bytes_of part all ≡ 0
none_of part [] others = refl
none_of part (own ∷ all) others =
    let this = is_none part own (All-head (λ o. o ≢ part) own all others) in
    let rest = none_of part all (All-tail (λ o. o ≢ part) own all others) in
    let more = one_more part own all in
    omega (arith, this, rest, more)
