use Rattle.usage.specs.Building.{AddsAt, SomeBelowAt}
use Rattle.usage.specs.Waves.{RowCommands}
use Rattle.usage.proofs.waves.wave_commands.Given as goal

abbrev pub invariant-loop-p : goal.invariant-loop-p
invariant-loop-p l = AddsAt (SomeBelowAt (RowCommands l.song) l.p) l.initial.commands l.commands
