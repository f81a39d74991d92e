-- A sink in memory as its user sees it.
use Rattle.std.specs.Prelude.{ℕ, List, Bool, ◌==◌}
use Rattle.std.specs.List.{list_any}

-- its bytes, the numbers of the puts that fail, the number of the next put, and the count of faults
pub record MemBytes : Type 0 where
  pub bytes : List ℕ
  pub failing : List ℕ
  pub puts : ℕ
  pub faults : ℕ

-- the next put is one of those that fail
abbrev pub next_put_fails : MemBytes → Bool
next_put_fails sink = list_any (λ n. n == sink.puts) sink.failing
