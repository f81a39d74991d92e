use Rattle.std.proofs.Common.{ℕ, ◌<◌, ◌≤◌}
use Rattle.play_model.specs.Features.{HasRow, IsAny}
use Rattle.usage.proofs.found.Found.has_commands.Given as goal

abbrev pub invariant-loop-command : goal.invariant-loop-command
invariant-loop-command l = (c : ℕ) → l.from ≤ c → c < l.command → ¬ HasRow l.song c IsAny
