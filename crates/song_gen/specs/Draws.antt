-- Numbers that are drawn one after the other, each below a limit: a linear congruential generator modulo 2 ^ 64, with
-- the multiplier and the increment of Knuth's MMIX. The low bits of such numbers repeat early, so the upper 31 are used.
use Rattle.std.specs.Prelude.{ℕ, zero, suc, ◌+◌, ◌*◌, ◌/◌, ◌%◌, ◌^◌}

-- the number that follows a number
unfoldable pub next : ℕ → ℕ
next x = (x * 6364136223846793005 + 1442695040888963407) % 2 ^ 64

-- the number that is n steps behind x
unfoldable pub after : ℕ → ℕ → ℕ
after x zero = x
after x (suc n) = next (after x n)

-- what a number gives, below a limit
abbrev pub below : ℕ → ℕ → ℕ
below limit x = x / 2 ^ 33 % limit

-- draw n of those that begin with the number x: draw 0 is the first
unfoldable pub draw : ℕ → ℕ → ℕ → ℕ
draw x n limit = below limit (after x (suc n))
