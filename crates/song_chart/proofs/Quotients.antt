-- Quotients that are rounded up.
use Rattle.std.proofs.Common.{◌≡◌, ℕ, ◌+◌, ◌*◌, ◌<◌, ◌≤◌, max, arith}
use Rattle.std.specs.Int.{div_ceil}
use Rattle.std.proofs.lemmas.Bool.{cases_lt}
use Rattle.std.proofs.lemmas.Grind.{div_ceil_times}
use Rattle.std.proofs.lemmas.Nat.{mul-le}
use Rattle.std.proofs.Common.{inl, inr}

-- so many parts hold all, and one less doesn't
pub enough : (n part : ℕ) → 0 < part → n ≤ div_ceil n part * part
enough n part some = (div_ceil_times n part some).0

pub not_more : (n part : ℕ) → 0 < part → div_ceil n part * part < n + part
not_more n part some = (div_ceil_times n part some).1

-- as many as are enough, when one less isn't, are at least as many as others that are
fewest : (n part k j : ℕ) → n ≤ k * part → j * part < n + part → j ≤ k
fewest n part k j all less =
    elim (cases_lt k j) [
      | inl more ↦
          let one : (k + 1) * part ≤ j * part = mul-le (k + 1) part j part (omega (arith, more)) (omega arith) in
          absurd (omega (arith, one, all, less))
      | inr no_more ↦ no_more
    ]

pub as_many : (n part k : ℕ) → 0 < part → n ≤ k * part → k * part < n + part → k ≡ div_ceil n part
as_many n part k some all less =
    let low = fewest n part k (div_ceil n part) all (not_more n part some) in
    let high = fewest n part (div_ceil n part) k (enough n part some) less in
    omega (arith, low, high)

-- a part that begins before the end
pub begins_inside : (n part k : ℕ) → 0 < part → k < div_ceil n part → k * part < n
begins_inside n part k some few =
    let one : (k + 1) * part ≤ div_ceil n part * part =
    mul-le (k + 1) part (div_ceil n part) part (omega (arith, few)) (omega arith) in
    let less = not_more n part some in
    omega (arith, one, less)

-- at most 800 parts, each of as many as 800 of them take
pub few_parts : (n : ℕ) → div_ceil n (max (div_ceil n 800) 1) ≤ 800
few_parts n =
    let part = max (div_ceil n 800) 1 in
    let some : 0 < part = omega arith in
    let all = enough n 800 (omega arith) in
    let wide : n ≤ 800 * part = omega (arith, all) in
    fewest n part 800 (div_ceil n part) wide (not_more n part some)
