-- Numbers: halves of words, rests, and places beside a stretch.
use Rattle.std.proofs.Common.{◌≡◌, ℕ, suc, ◌+◌, ◌*◌, ◌/◌, ◌%◌, ◌<◌, ◌≤◌, ◌⊎◌}
use Rattle.std.proofs.Common.{Bool, true, false, bit_and, if◌then◌else◌, inl, inr, arith}
use Rattle.std.proofs.lemmas.Bool.{cases_lt}
use Rattle.std.proofs.lemmas.Nat.{and_le_l, div-add-mod', mod-mul-add, mod_below}

-- the high byte of a word
pub half_small : (n : ℕ) → n < 65536 → n / 256 < 256
half_small n h = omega arith

-- two bytes make a word
pub word_small : {low high : ℕ} → low < 256 → high < 256 → low + 256 * high < 65536
word_small l h = omega arith

-- bits of a byte are a byte
pub and_small : (a b : ℕ) → a < 256 → bit_and a b < 256
and_small a b small = let most = and_le_l a b in omega arith

-- a flag as a number
pub one_if_small : (flag : Bool) → (if flag then 1 else 0) ≤ 1
one_if_small true = omega arith
one_if_small false = omega arith

-- a place that isn't in a stretch is before it or after it
pub outside : (at width q : ℕ) → ((at ≤ q) × (q < at + width) → ⊥) → (q < at) ⊎ (at + width ≤ q)
outside at width q h =
    elim (cases_lt q at) [
      | inl l ↦ inl l
      | inr g ↦ elim (cases_lt q (at + width)) [ inl l ↦ absurd (h (g, l)) | inr k ↦ inr k ]
    ]

-- the rest of the next number: one more, or 0 where it comes round
pub mod_goes_on : (a n m : ℕ) → 0 < n → a % n ≡ m → suc m < n → suc a % n ≡ suc m
mod_goes_on a n m h e lt =
    let split : suc a ≡ (a / n) * n + suc m = omega (arith, div-add-mod' a n) in
    rw split (mod-mul-add (a / n) n (suc m) lt)

pub mod_goes_round : (a n m : ℕ) → 0 < n → a % n ≡ m → n ≤ suc m → suc a % n ≡ 0
mod_goes_round a n m h e ge =
    let below : a % n < n = mod_below a n h in
    let split : suc a ≡ (a / n + 1) * n + 0 = omega (arith, div-add-mod' a n) in
    rw split (mod-mul-add (a / n + 1) n 0 h)
