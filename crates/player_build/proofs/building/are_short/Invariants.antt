-- The patterns so far are short.
use Rattle.std.proofs.Common.{◌≤◌, All, length, take}
use Rattle.player_build.proofs.building.are_short.Given as goal

abbrev pub invariant-loop-pattern : goal.invariant-loop-pattern
invariant-loop-pattern l = record { each : All (λ pattern. length pattern ≤ 256) (take l.pattern-index l.patterns) }
