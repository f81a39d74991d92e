use Rattle.usage.specs.Building.{Adds, SomeBelow}
use Rattle.usage.specs.Programs.{IsClosed, ComesFrom}
use Rattle.usage.proofs.programs.reached.Given as goal

abbrev pub invariant-loop-from : goal.invariant-loop-from
invariant-loop-from l = record {
  closed : IsClosed l.name l.rows l.marks;
  marked : Adds (SomeBelow (ComesFrom l.name l.rows l.pointers) l.from) l.initial.marks l.marks;
}
