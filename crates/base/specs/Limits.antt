-- Lists within a limit.
use Rattle.std.specs.Prelude.{ℕ, ◌≤◌, List, length, All}

-- a list of at most this many items, each of which is as it must be
pub record KeepsLimit {X : Type 0} (limit : ℕ) (P : X → Type 0) (items : List X) : Type 0 where
  pub count : length items ≤ limit
  pub each : All P items
