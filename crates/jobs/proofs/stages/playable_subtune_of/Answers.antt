use Rattle.std.proofs.Common.{refl, length, arith}
use Rattle.song_model.specs.LookUp.{playable_subtunes}
use Rattle.jobs.specs.Lines.{no_subtune_line}
use Rattle.jobs.specs.Endings as ends
use Rattle.jobs.proofs.stages.playable_subtune_of.Goals as goal
use Rattle.jobs.proofs.stages.playable_subtune_of.Goals.{then-subtune-eq0-via-then-subtune-eq0}
use Rattle.jobs.proofs.stages.playable_subtune_of.Goals.{then-subtune-eq0-via-else-subtune-eq0+then-subtune-count}

pub returns-then-subtune-eq0-clause-refused : goal.returns-then-subtune-eq0-clause-refused
returns-then-subtune-eq0-clause-refused c = λ files name holds.
    ends.ends (no_subtune_line c.args.subtune (length (playable_subtunes c.args.song.now))) (
      c.args.song.now,
      holds,
      (λ has. elim c.then-subtune-eq0.branch [
        | then-subtune-eq0-via-then-subtune-eq0 w ↦ let zero = w.if-subtune-eq0.true in omega (arith, zero, has.first)
        | then-subtune-eq0-via-else-subtune-eq0+then-subtune-count w ↦ let above =
            w.if-subtune-count.true in omega (arith, above, c.playable_count-count.ensures, has.last)
      ]),
      refl,
    ) (rw (c.from.ensures, c.playable_count-count.ensures) at c.no_such_subtune.ensures)
