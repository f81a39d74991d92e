use Rattle.usage.specs.Building.{Adds, AddsAt, SomeBelow, SomeBelowAt}
use Rattle.usage.specs.Rows.{PatternNames, PatternHas, PatternSounds}
use Rattle.usage.proofs.rows.mark_patterns.Given as goal

abbrev pub invariant-loop-n : goal.invariant-loop-n
invariant-loop-n l = record {
  instruments : Adds (SomeBelow (PatternNames l.song) l.n) l.initial.marks.instruments l.marks.instruments;
  commands : AddsAt (SomeBelowAt (PatternHas l.song) l.n) l.initial.marks.commands l.marks.commands;
  notes : Adds (SomeBelow (PatternSounds l.song) l.n) l.initial.marks.notes l.marks.notes;
}
