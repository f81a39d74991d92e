use Rattle.std.proofs.Common.{take}
use Rattle.usage.specs.Building.{Adds, AddsAt, SomeOf, SomeAt}
use Rattle.usage.specs.Rows.{NamesInstrument, HasCommand, HasNote}
use Rattle.usage.proofs.rows.mark_pattern.Given as goal

abbrev pub invariant-loop-row : goal.invariant-loop-row
invariant-loop-row l = record {
  instruments : Adds (SomeOf NamesInstrument (take l.row-index l.rows)) l.initial.marks.instruments l.marks.instruments;
  commands : AddsAt (SomeAt HasCommand (take l.row-index l.rows)) l.initial.marks.commands l.marks.commands;
  notes : Adds (SomeOf HasNote (take l.row-index l.rows)) l.initial.marks.notes l.marks.notes;
}
