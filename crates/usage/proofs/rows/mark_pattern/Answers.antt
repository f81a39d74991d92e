use Rattle.usage.specs.Rows.{NamesInstrument, HasCommand, HasNote}
use Rattle.usage.proofs.AddedMarks.{adds_more, adds_at_more}
use Rattle.usage.proofs.rows.mark_pattern.Goals as goal

pub loop-row-preserved : goal.loop-row-preserved
loop-row-preserved c = record {
  instruments = adds_more NamesInstrument c.args.rows.now c.loop-row.row-index _ c.loop-row-test.true
      c.loop-row.invariant.instruments c.mark_row.ensures.instruments;
  commands = adds_at_more HasCommand c.args.rows.now c.loop-row.row-index _ c.loop-row-test.true
      c.loop-row.invariant.commands c.mark_row.ensures.commands;
  notes = adds_more HasNote c.args.rows.now c.loop-row.row-index _ c.loop-row-test.true
      c.loop-row.invariant.notes c.mark_row.ensures.notes;
}
