-- The bits of a sum over the numbers below one, of each the power of two where a test says so.
use Rattle.std.proofs.Common.{◌≡◌, ℕ, zero, suc, ◌+◌, ◌*◌, ◌-◌, ◌%◌, ◌^◌, ◌<◌, ◌≤◌, nat_eq}
use Rattle.std.proofs.Common.{Bool, true, false, if◌then◌else◌, map, List, [], ◌∷◌, ◌++◌}
use Rattle.std.proofs.Common.{refl, sym, ◌∙◌, ap, subst, inl, inr, arith}
use Rattle.std.specs.List.{range_with_len, sum_by}
use Rattle.std.specs.Int.{bit_at}
use Rattle.std.proofs.Math.Nat.{pow-suc}
use Rattle.std.proofs.lemmas.Bool.{cases_lt, agree_below_at, eqb-true}
use Rattle.std.proofs.lemmas.List.FromFn.{map-range_with_len_more}
use Rattle.std.proofs.lemmas.List.Sums.{sum_by-append}
use Rattle.std.proofs.lemmas.Nat.Bits.{bit_at_cat_low, bit_at_cat_high, bit_at_above}
use Rattle.kept_lines.specs.Asked.{bit_if}

-- the bits below n
abbrev pub bits_below : (ℕ → Bool) → ℕ → ℕ
bits_below test n = sum_by (λ bit. bit_if (test bit) bit) (range_with_len 0 n)

-- ---- one number more

map_same : (items : List ℕ) → map (λ (n : ℕ). n) items ≡ items
map_same [] = refl
map_same (x ∷ items) = ap (λ (rest : List ℕ). x ∷ rest) (map_same items)

range_more : (n : ℕ) → range_with_len 0 (n + 1) ≡ range_with_len 0 n ++ n ∷ []
range_more n =
    sym (map_same (range_with_len 0 (n + 1))) ∙ map-range_with_len_more (λ (m : ℕ). m) 0 n n (omega arith)
    ∙ ap (λ (front : List ℕ). front ++ n ∷ []) (map_same (range_with_len 0 n))

sum_more : (number : ℕ → ℕ) (n : ℕ) →
    sum_by number (range_with_len 0 (n + 1)) ≡ sum_by number (range_with_len 0 n) + number n
sum_more number n =
    ap (sum_by number) (range_more n) ∙ sum_by-append number (range_with_len 0 n) (n ∷ [])
    ∙ ap (λ last. sum_by number (range_with_len 0 n) + last) (alone (number n))
  where
    alone : (m : ℕ) → 0 + m ≡ m
    alone m = omega arith

bits_more : (test : ℕ → Bool) (n : ℕ) → bits_below test (n + 1) ≡ bits_below test n + bit_if (test n) n
bits_more test n = sum_more (λ bit. bit_if (test bit) bit) n

one_more : (n : ℕ) → n + 1 ≡ suc n
one_more n = omega arith

bits_next : (test : ℕ → Bool) (n : ℕ) → bits_below test (suc n) ≡ bits_below test n + bit_if (test n) n
bits_next test n = ap (bits_below test) (sym (one_more n)) ∙ bits_more test n

-- with one that is set, and with one that isn't
pub bits_with : (test : ℕ → Bool) (set n : ℕ) → set ≡ bits_below test n → test n ≡ true →
    set + 2 ^ n ≡ bits_below test (n + 1)
bits_with test set n is on =
    rw is (ap (λ (z : Bool). bits_below test n + bit_if z n) (sym on) ∙ sym (bits_more test n))

pub bits_without : (test : ℕ → Bool) (set n : ℕ) → set ≡ bits_below test n → test n ≡ false →
    set ≡ bits_below test (n + 1)
bits_without test set n is off =
    is ∙ same (bits_below test n) ∙ ap (λ (z : Bool). bits_below test n + bit_if z n) (sym off) ∙ sym (bits_more test n)
  where
    same : (m : ℕ) → m ≡ m + 0
    same m = omega arith

-- the bit of a condition fits in a set
pub fits : (bit : ℕ) → bit < 61 → 1 * 2 ^ bit % 2 ^ 128 ≡ 2 ^ bit
fits bit few =
    eqb-true (1 * 2 ^ bit % 2 ^ 128) (2 ^ bit)
    (agree_below_at (λ n. nat_eq (1 * 2 ^ n % 2 ^ 128) (2 ^ n)) (λ n. true) 61 bit refl few)

-- ---- they are few

-- a bit as a number, and where it stands
abbrev as_number : Bool → ℕ
as_number is_set = if is_set then 1 else 0

on_top : (is_set : Bool) (set n : ℕ) → set + bit_if is_set n ≡ as_number is_set * 2 ^ n + set
on_top true set n = omega arith
on_top false set n = omega arith

still_few : (is_set : Bool) (set n : ℕ) → set < 2 ^ n → set + bit_if is_set n < 2 ^ suc n
still_few is_set set n few = by_case is_set (pow-suc 2 n)
  where
    by_case : (z : Bool) → 2 ^ suc n ≡ 2 ^ n * 2 → set + bit_if z n < 2 ^ suc n
    by_case true e = omega (arith, few, e)
    by_case false e = omega (arith, few, e)

pub bits_few : (test : ℕ → Bool) (n : ℕ) → bits_below test n < 2 ^ n
bits_few test zero = omega arith
bits_few test (suc n) =
    subst (λ (set : ℕ). set < 2 ^ suc n) (sym (bits_next test n))
    (still_few (test n) (bits_below test n) n (bits_few test n))

-- ---- they are those that the test says

number_bit : (is_set : Bool) → bit_at (as_number is_set) 0 ≡ as_number is_set
number_bit true = refl
number_bit false = refl

low_bit : (is_set : Bool) (set n bit : ℕ) → bit < n → bit_at (set + bit_if is_set n) bit ≡ bit_at set bit
low_bit is_set set n bit low =
    ap (λ (m : ℕ). bit_at m bit) (on_top is_set set n) ∙ bit_at_cat_low (as_number is_set) n set bit low

top_bit : (is_set : Bool) (set n : ℕ) → set < 2 ^ n → bit_at (set + bit_if is_set n) n ≡ as_number is_set
top_bit is_set set n few =
    ap (λ (m : ℕ). bit_at m n) (on_top is_set set n) ∙ bit_at_cat_high (as_number is_set) n set n few (omega arith)
    ∙ ap (λ (k : ℕ). bit_at (as_number is_set) k) (none n) ∙ number_bit is_set
  where
    none : (m : ℕ) → m - m ≡ 0
    none m = omega arith

at_last : (bit n : ℕ) → n ≤ bit → bit < suc n → bit ≡ n
at_last bit n from low = omega (arith, from, low)

pub bits_are : (test : ℕ → Bool) (n bit : ℕ) → bit < n → bit_at (bits_below test n) bit ≡ as_number (test bit)
bits_are test zero bit low = absurd (omega (arith, low))
bits_are test (suc n) bit low =
    ap (λ (set : ℕ). bit_at set bit) (bits_next test n) ∙ elim (cases_lt bit n) [
      | inl less ↦ low_bit (test n) (bits_below test n) n bit less ∙ bits_are test n bit less
      | inr from ↦ rw (at_last bit n from low) (top_bit (test n) (bits_below test n) n (bits_few test n))
    ]

pub none_above : (test : ℕ → Bool) (n bit : ℕ) → n ≤ bit → bit_at (bits_below test n) bit ≡ 0
none_above test n bit high = bit_at_above (bits_below test n) n bit (bits_few test n) high
