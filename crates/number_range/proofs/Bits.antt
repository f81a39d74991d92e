-- The bits of a set of numbers below 128.
use Rattle.std.proofs.Common.{◌≡◌, ℕ, suc, ◌+◌, ◌-◌, ◌*◌, ◌/◌, ◌%◌, ◌^◌, ◌<◌, ◌≤◌, ◌⊎◌, ◌↔◌}
use Rattle.std.proofs.Common.{bit_or, max, refl, sym, ◌∙◌, ap, inl, inr, arith}
use Rattle.std.specs.Int.{w128, bit_at, rotate_left, leading_zeros}
use Rattle.std.proofs.lemmas.Bool.{cases_lt, cases_eq}
use Rattle.std.proofs.lemmas.Nat.{pow-add, pow_pos, shr_split, leading_top}
use Rattle.std.proofs.lemmas.Nat.Bits.{bit_at-lt, bit_at-zero, bit_at_or, bit_at_above, bit_at_cat_low, bit_at_cat_high}
use Rattle.std.proofs.lemmas.Nat.Bits.{bit_at_set_same, bit_at_set_other}
use Rattle.std.proofs.Math.Nat.{div-div-eq-div-mul, div-eq_of_lt-le}

-- ---- shifts

-- the low bits are those of the rest
low_bit : (n k i : ℕ) → i < k → bit_at (n % 2 ^ k) i ≡ bit_at n i
low_bit n k i below =
    sym (bit_at_cat_low (n / 2 ^ k) k (n % 2 ^ k) i below) ∙ ap (λ m. bit_at m i) (shr_split n k)

shl_low : (n by i : ℕ) → i < by → bit_at (n * 2 ^ by) i ≡ 0
shl_low n by i below =
    let z : n * 2 ^ by + 0 ≡ n * 2 ^ by = omega arith in
    ap (λ m. bit_at m i) (sym z) ∙ bit_at_cat_low n by 0 i below ∙ bit_at-zero i

shl_high : (n by i : ℕ) → by ≤ i → bit_at (n * 2 ^ by) i ≡ bit_at n (i - by)
shl_high n by i from =
    let z : n * 2 ^ by + 0 ≡ n * 2 ^ by = omega arith in
    ap (λ m. bit_at m i) (sym z) ∙ bit_at_cat_high n by 0 i (pow_pos by) from

shr_bit : (n c i : ℕ) → bit_at (n / 2 ^ c) i ≡ bit_at n (c + i)
shr_bit n c i = ap (λ m. m % 2) (div-div-eq-div-mul n (2 ^ c) (2 ^ i) ∙ ap (λ m. n / m) (sym (pow-add 2 c i)))

-- ---- one bit, and both of two

pub only_bit : (n k : ℕ) → n < 128 → bit_at (1 * 2 ^ n % 2 ^ 128) k ≡ 1 ↔ k ≡ n
only_bit n k small = (
  λ (h : bit_at (1 * 2 ^ n % 2 ^ 128) k ≡ 1). elim (cases_eq k n) [
    | inl here ↦ here
    | inr other ↦ absurd (let none = bit_at_set_other w128 0 n small k other ∙ bit_at-zero k in omega (arith, none, h))
  ],
  λ (e : k ≡ n). rw e (bit_at_set_same w128 0 n small),
)

pub either_bit : (a b k : ℕ) → bit_at (bit_or a b) k ≡ 1 ↔ ((bit_at a k ≡ 1) ⊎ (bit_at b k ≡ 1))
either_bit a b k =
    either (bit_at a k) (bit_at b k) (bit_at (bit_or a b) k) (bit_at-lt a k) (bit_at-lt b k) (bit_at_or a b k)
  where
    either : (x y z : ℕ) → x < 2 → y < 2 → z ≡ max x y → (z ≡ 1) ↔ ((x ≡ 1) ⊎ (y ≡ 1))
    either x y z p q e = (
      λ (h : z ≡ 1). elim (cases_eq x 1) [
        | inl one ↦ inl one
        | inr other ↦ inr (omega arith)
      ],
      λ (w : (x ≡ 1) ⊎ (y ≡ 1)). elim w [ inl one ↦ omega arith | inr one ↦ omega arith ],
    )

-- ---- bits that go round

-- a bit that goes round comes from this one
pub record ComesRound (n by k : ℕ) : Type 0 where
  pub from : ℕ
  pub set : bit_at n from ≡ 1
  pub is : k ≡ (from + by) % 128

pub within : (n k : ℕ) → n < 2 ^ 128 → bit_at n k ≡ 1 → k < 128
within n k small set = elim (cases_lt k 128) [
  | inl inside ↦ inside
  | inr past ↦ absurd (let none = bit_at_above n 128 k small past in omega (arith, none, set))
]

high_part : (n by k : ℕ) → by < 128 → n < 2 ^ 128 → bit_at (n * 2 ^ by % 2 ^ 128) k ≡ 1 → ComesRound n by k
high_part n by k small fits set =
    let rest : n * 2 ^ by % 2 ^ 128 < 2 ^ 128 = omega arith in
    let inside : k < 128 = within (n * 2 ^ by % 2 ^ 128) k rest set in
    let whole : bit_at (n * 2 ^ by) k ≡ 1 = sym (low_bit (n * 2 ^ by) 128 k inside) ∙ set in
    elim (cases_lt k by) [
      | inl below ↦ absurd (let none = shl_low n by k below in omega (arith, none, whole))
      | inr from ↦ record { from = k - by; set = sym (shl_high n by k from) ∙ whole; is = omega arith }
    ]

low_part : (n by c k : ℕ) → by < 128 → n < 2 ^ 128 → c ≡ (128 - by) % 128 → bit_at (n / 2 ^ c) k ≡ 1 → ComesRound n by k
low_part n by c k small fits is set =
    let source : bit_at n (c + k) ≡ 1 = sym (shr_bit n c k) ∙ set in
    let inside : c + k < 128 = within n (c + k) fits source in
    record { from = c + k; set = source; is = omega (arith, is, small, inside) }

goes_round : (n by c k : ℕ) → by < 128 → n < 2 ^ 128 → c ≡ (128 - by) % 128 → ComesRound n by k →
    (bit_at (n * 2 ^ by % 2 ^ 128) k ≡ 1) ⊎ (bit_at (n / 2 ^ c) k ≡ 1)
goes_round n by c k small fits c_is r =
    let inside : r.from < 128 = within n r.from fits r.set in
    let is = r.is in
    elim (cases_lt (r.from + by) 128) [
      | inl high ↦
          let k_is : k ≡ r.from + by = omega (arith, is, high) in
          let back : k - by ≡ r.from = omega (arith, k_is) in
          inl (low_bit (n * 2 ^ by) 128 k (omega (arith, k_is, high)) ∙
          shl_high n by k (omega (arith, k_is)) ∙ ap (bit_at n) back ∙ r.set)
      | inr low ↦
          let back : c + k ≡ r.from = omega (arith, is, low, inside, small, c_is) in
          inr (shr_bit n c k ∙ ap (bit_at n) back ∙ r.set)
    ]

pub round_bit : (n by k : ℕ) → by < 128 → n < 2 ^ 128 → bit_at (rotate_left w128 n by) k ≡ 1 ↔ ComesRound n by k
round_bit n by k small fits =
    let by_is : by % 128 ≡ by = omega arith in
    rw by_is (
      λ h. (let w = (either_bit (n * 2 ^ by % 2 ^ 128) (n / 2 ^ ((128 - by) % 128)) k).0 h in elim w [
        | inl high ↦ high_part n by k small fits high
        | inr low ↦ low_part n by ((128 - by) % 128) k small fits refl low
      ]),
      λ r. (either_bit (n * 2 ^ by % 2 ^ 128) (n / 2 ^ ((128 - by) % 128)) k).1
          (goes_round n by ((128 - by) % 128) k small fits refl r),
    )

-- ---- the least and the greatest

pub some_bit : (n k : ℕ) → bit_at n k ≡ 1 → 0 < n
some_bit n k set = elim (cases_eq n 0) [
  | inl none ↦ absurd (let e = bit_at-zero k in let s = rw none at set in omega (arith, e, s))
  | inr some ↦ omega arith
]

-- this bit is set, and none above it
pub record IsTop (n j : ℕ) : Type 0 where
  pub small : j < 128
  pub set : bit_at n j ≡ 1
  pub top : (k : ℕ) → bit_at n k ≡ 1 → k ≤ j

top_of : (n j : ℕ) → j < 128 → 2 ^ j ≤ n → n < 2 ^ suc j → IsTop n j
top_of n j small low high =
    let once : n / 2 ^ j ≡ 1 = div-eq_of_lt-le (2 ^ j) (omega (arith, low)) (omega (arith, pow-add 2 j 1, high)) in
    record {
      small = small;
      set = ap (λ m. m % 2) once;
      top = λ k set. (elim (cases_lt j k) [
        | inl above ↦ absurd (let none = bit_at_above n (suc j) k high above in omega (arith, none, set))
        | inr up_to ↦ up_to
      ]);
    }

pub top_bit : (n : ℕ) → 0 < n → n < 2 ^ 128 → IsTop n (127 - leading_zeros w128 n)
top_bit n some fits =
    let (j, count, low, high) = leading_top 128 n some fits in
    let is : 127 - leading_zeros w128 n ≡ j = omega (arith, count) in
    rw is (top_of n j (omega (arith, count)) low high)
