use Rattle.std.proofs.Common.{arith}
use Rattle.std.proofs.lemmas.Bool.Decides.{nat_tests}
use Rattle.playroutine.proofs.notes.taken.Goals as goal

pub returns-then-not-slides-clause-rule : goal.returns-then-not-slides-clause-rule
returns-then-not-slides-clause-rule c = λ plays.
    let taken = c.note_taken.ensures.rule plays in
    let begun = c.sound_begun.ensures.rule plays in
    grind (arith, nat_tests)

pub returns-else-not-slides-clause-rule : goal.returns-else-not-slides-clause-rule
returns-else-not-slides-clause-rule c = λ plays.
    let taken = c.note_taken.ensures.rule plays in
    grind (arith, nat_tests)
