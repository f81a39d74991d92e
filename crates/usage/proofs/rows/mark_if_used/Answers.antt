use Rattle.usage.proofs.UsedRows.{names_of_pattern, commands_of_pattern, notes_of_pattern}
use Rattle.usage.proofs.rows.mark_if_used.Goals as goal

pub returns-then-bytes-number-clause-instruments : goal.returns-then-bytes-number-clause-instruments
returns-then-bytes-number-clause-instruments c =
    names_of_pattern c.args.song.now c.args.number c.args.bytes.now c.args.pattern.now c.requires.bytes
    c.if-bytes-number.true
    c.requires.pattern c.requires.few (rw c.as_slice.ensures.rows at c.mark_pattern.ensures.instruments)

pub returns-then-bytes-number-clause-commands : goal.returns-then-bytes-number-clause-commands
returns-then-bytes-number-clause-commands c =
    commands_of_pattern c.args.song.now c.args.number c.args.bytes.now c.args.pattern.now c.requires.bytes
    c.if-bytes-number.true
    c.requires.pattern c.requires.few (rw c.as_slice.ensures.rows at c.mark_pattern.ensures.commands)

pub returns-then-bytes-number-clause-notes : goal.returns-then-bytes-number-clause-notes
returns-then-bytes-number-clause-notes c =
    notes_of_pattern c.args.song.now c.args.number c.args.bytes.now c.args.pattern.now c.requires.bytes
    c.if-bytes-number.true
    c.requires.pattern c.requires.few (rw c.as_slice.ensures.rows at c.mark_pattern.ensures.notes)
