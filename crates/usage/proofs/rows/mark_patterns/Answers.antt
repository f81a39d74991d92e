use Rattle.usage.specs.Rows.{PatternNames, PatternHas, PatternSounds}
use Rattle.usage.proofs.AddedMarks.{below_more, below_at_more}
use Rattle.usage.proofs.UsedRows.{names_of_all, commands_of_all, notes_of_all}
use Rattle.usage.proofs.rows.mark_patterns.Goals as goal

pub loop-n-preserved : goal.loop-n-preserved
loop-n-preserved c = record {
  instruments = below_more (PatternNames c.args.song.now) c.loop-n.n c.loop-n.invariant.instruments
      c.mark_if_used.ensures.instruments;
  commands = below_at_more (PatternHas c.args.song.now) c.loop-n.n c.loop-n.invariant.commands
      c.mark_if_used.ensures.commands;
  notes = below_more (PatternSounds c.args.song.now) c.loop-n.n c.loop-n.invariant.notes c.mark_if_used.ensures.notes;
}

pub returns-clause-instruments : goal.returns-clause-instruments
returns-clause-instruments c =
    names_of_all c.args.song.now c.loop-n.n (rw c.as_slice-patterns.ensures.items at c.loop-n-test.false)
    c.loop-n.invariant.instruments

pub returns-clause-commands : goal.returns-clause-commands
returns-clause-commands c =
    commands_of_all c.args.song.now c.loop-n.n (rw c.as_slice-patterns.ensures.items at c.loop-n-test.false)
    c.loop-n.invariant.commands

pub returns-clause-notes : goal.returns-clause-notes
returns-clause-notes c =
    notes_of_all c.args.song.now c.loop-n.n (rw c.as_slice-patterns.ensures.items at c.loop-n-test.false)
    c.loop-n.invariant.notes
