-- Counts of 64 bits that never fall: how often a device refused something.
use Rattle.std.specs.Prelude.{◌≡◌, ℕ, ◌+◌, ◌-◌, ◌^◌, ◌<◌, ◌≤◌, ◌⊎◌, Bool, true, false, min}

-- one more, but the last value of 64 bits stays
abbrev pub next_count : ℕ → ℕ
next_count n = min (n + 1) (2 ^ 64 - 1)

-- the count is greater after the call, or stands at its last value
pub record Rose (before after : ℕ) : Type 0 where
  pub never_falls : before ≤ after
  pub greater : (before < after) ⊎ (2 ^ 64 ≤ after + 1)

-- the count rose where this was the answer, and is as before where it wasn't
abbrev pub Counts : Bool → ℕ → ℕ → Type 0
Counts true before after = Rose before after
Counts false before after = after ≡ before
