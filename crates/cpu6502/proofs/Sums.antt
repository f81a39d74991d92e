-- The sum of two bytes and a carry, and its flags, as numbers.
use Rattle.std.specs.Prelude.{◌≡◌, ℕ, ◌+◌, ◌-◌, ◌%◌, ◌<◌, ◌≤◌, Bool, true, false, not}
use Rattle.std.specs.Prelude.{◌↔◌, ◌⊎◌, nat_le, nat_eq}
use Rattle.std.proofs.Common.{refl, ap, arith, inl, inr}
use Rattle.std.proofs.lemmas.Bool.{cases_lt}
use Rattle.std.proofs.lemmas.Bool.Decides.{nat_tests}
use Rattle.cpu6502.specs.declared.cpu.Cpu.{Cpu}
use Rattle.cpu6502.specs.Registers.{one_if}
use Rattle.cpu6502.specs.Arithmetic.{overflows, added}
use Rattle.cpu6502.specs.Sums.{raised, IsSum, IsDifference, SumsAreOfNumbers, DifferencesAreOfNumbers}

carry_at : (s : ℕ) → (nat_le 256 s ≡ true) ↔ (256 ≤ s)
carry_at s = grind (arith, nat_tests)

sign_at : (s : ℕ) → (nat_le 128 s ≡ true) ↔ (128 ≤ s)
sign_at s = grind (arith, nat_tests)

zero_at : (s : ℕ) → (nat_eq s 0 ≡ true) ↔ (s ≡ 0)
zero_at s = grind (arith, nat_tests)

-- the test of the signs, where the byte and the raised numbers are variables
signs : (a m c byte ra rm : ℕ) → a < 256 → m < 256 → c ≤ 1 → byte < 256 →
    (a + m + c ≡ byte) ⊎ (a + m + c ≡ byte + 256) → (a + 128 ≡ ra) ⊎ (a + 128 ≡ ra + 256) →
    (m + 128 ≡ rm) ⊎ (m + 128 ≡ rm + 256) → ra < 256 → rm < 256 →
    (overflows a m byte ≡ false) ↔ ((128 ≤ ra + rm + c) × (ra + rm + c ≤ 383))
signs a m c byte ra rm la lm lc lb s r t lra lrm = grind (arith, nat_tests)

mod_256 : (s : ℕ) → s % 256 < 256
mod_256 s = omega arith

-- a number below 512 and its rest
wrap : (s : ℕ) → s < 512 → (s ≡ s % 256) ⊎ (s ≡ s % 256 + 256)
wrap s l = elim (cases_lt s 256) [
  | inl below ↦ inl (omega arith)
  | inr above ↦ inr (omega arith)
]

raised_is : (byte : ℕ) → byte < 256 → (byte + 128 ≡ raised byte) ⊎ (byte + 128 ≡ raised byte + 256)
raised_is byte l = wrap (byte + 128) (omega arith)

sum_fits : (a m c : ℕ) → a < 256 → m < 256 → c ≤ 1 →
    (overflows a m ((a + m + c) % 256) ≡ false) ↔ ((128 ≤ raised a + raised m + c) × (raised a + raised m + c ≤ 383))
sum_fits a m c la lm lc =
    signs a m c ((a + m + c) % 256) (raised a) (raised m) la lm lc (mod_256 (a + m + c))
    (wrap (a + m + c) (omega arith)) (raised_is a la) (raised_is m lm) (mod_256 (a + 128)) (mod_256 (m + 128))

one_if_small : (flag : Bool) → one_if flag ≤ 1
one_if_small true = omega arith
one_if_small false = omega arith

sum_is : (cpu : Cpu) (m : ℕ) → cpu.a < 256 → m < 256 → IsSum cpu m (added cpu m)
sum_is cpu m la lm = record {
  byte = refl;
  carry = carry_at (cpu.a + m + one_if cpu.c);
  fits = sum_fits cpu.a m (one_if cpu.c) la lm (one_if_small cpu.c);
  shows = record { sign = sign_at _; zero = zero_at _ };
  alone = record { rest = refl };
}

pub sums_are_of_numbers : SumsAreOfNumbers
sums_are_of_numbers place at cpu la lm = (added cpu (at place), refl, sum_is cpu (at place) la lm)

borrow : (flag : Bool) → one_if flag + one_if (not flag) ≡ 1
borrow true = refl
borrow false = refl

complemented : (m n r : ℕ) → m < 256 → (255 - m + 128 ≡ n) ⊎ (255 - m + 128 ≡ n + 256) →
    (m + 128 ≡ r) ⊎ (m + 128 ≡ r + 256) → n < 256 → r < 256 → n + r ≡ 255
complemented m n r l (inl e) (inl f) ln lr = omega arith
complemented m n r l (inl e) (inr f) ln lr = omega arith
complemented m n r l (inr e) (inl f) ln lr = omega arith
complemented m n r l (inr e) (inr f) ln lr = omega arith

-- the complement of a byte is raised to the complement
complement : (m : ℕ) → m < 256 → raised (255 - m) + raised m ≡ 255
complement m l = complemented m (raised (255 - m)) (raised m) l (raised_is (255 - m) (omega arith)) (raised_is m l)
    (mod_256 (255 - m + 128)) (mod_256 (m + 128))

-- the sum with a complement fits where the difference does
turned : (v : Bool) (ra rm rn c b : ℕ) → rn + rm ≡ 255 → c + b ≡ 1 →
    (v ≡ false) ↔ ((128 ≤ ra + rn + c) × (ra + rn + c ≤ 383)) →
    (v ≡ false) ↔ ((rm + b ≤ ra + 128) × (ra ≤ rm + b + 127))
turned v ra rm rn c b e f h = (
  λ clear. let low = (h.0 clear).0 in let high = (h.0 clear).1 in (omega arith, omega arith),
  λ fits. let low = fits.0 in let high = fits.1 in h.1 (omega arith, omega arith),
)

-- the carry of the sum with a complement says that nothing is borrowed
unborrowed : (a m c b : ℕ) → m < 256 → c + b ≡ 1 → (nat_le 256 (a + (255 - m) + c) ≡ true) ↔ (m + b ≤ a)
unborrowed a m c b l e = (
  λ set. let over = (carry_at (a + (255 - m) + c)).0 set in omega arith,
  λ enough. (carry_at (a + (255 - m) + c)).1 (omega arith),
)

difference_is : (cpu : Cpu) (m : ℕ) → cpu.a < 256 → m < 256 → IsDifference cpu m (added cpu (255 - m))
difference_is cpu m la lm =
    let carries = borrow cpu.c in
    let same : cpu.a + (255 - m) + one_if cpu.c ≡ cpu.a + 256 - (m + one_if (not cpu.c)) = omega arith in
    record {
      byte = ap (λ s. s % 256) same;
      carry = unborrowed cpu.a m (one_if cpu.c) (one_if (not cpu.c)) lm carries;
      fits = turned _ (raised cpu.a) (raised m) (raised (255 - m)) (one_if cpu.c) (one_if (not cpu.c))
          (complement m lm) carries (sum_fits cpu.a (255 - m) (one_if cpu.c) la (omega arith) (one_if_small cpu.c));
      shows = record { sign = sign_at _; zero = zero_at _ };
      alone = record { rest = refl };
    }

pub differences_are_of_numbers : DifferencesAreOfNumbers
differences_are_of_numbers place at cpu la lm = (added cpu (255 - at place), refl, difference_is cpu (at place) la lm)
