use Rattle.std.proofs.Common.{arith}
use Rattle.std.proofs.lemmas.Bool.Decides.{nat_tests}
use Rattle.playroutine.proofs.wave.right_done.Goals as goal

pub returns-clause-rule : goal.returns-clause-rule
returns-clause-rule c = λ plays common.
    let rule = c.set_note.ensures.rule plays in
    let note = c.wave_note-note.ensures.note in
    let command = c.if-is_wave_command.ensures in
    grind (arith, nat_tests)
