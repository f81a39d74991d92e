use Rattle.usage.specs.Building.{Adds, SomeBelow}
use Rattle.usage.specs.Pointers.{CommandPoints}
use Rattle.usage.proofs.pointers.mark_commands.Given as goal

abbrev pub invariant-loop-command : goal.invariant-loop-command
invariant-loop-command l = Adds (SomeBelow (CommandPoints l.place l.name l.commands) l.command) l.initial.pointers
    l.pointers
