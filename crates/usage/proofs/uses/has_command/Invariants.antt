use Rattle.std.proofs.Common.{ℕ, ◌<◌}
use Rattle.usage.specs.Marks.{IsMarked}
use Rattle.usage.specs.Building.{marks_of}
use Rattle.usage.proofs.uses.has_command.Given as goal

abbrev pub invariant-loop-command : goal.invariant-loop-command
invariant-loop-command l = (c d : ℕ) → c < l.command → ¬ IsMarked (marks_of l.commands c) d
