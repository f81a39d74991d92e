use Rattle.std.proofs.Common.{refl, arith}
use Rattle.jobs.specs.Lines.{no_subtune_line}
use Rattle.jobs.specs.Endings as ends
use Rattle.jobs.proofs.psid_stages.subtune_of.Goals as goal
use Rattle.jobs.proofs.psid_stages.subtune_of.Goals.{then-subtune-eq0-via-then-subtune-eq0}
use Rattle.jobs.proofs.psid_stages.subtune_of.Goals.{then-subtune-eq0-via-else-subtune-eq0+then-from-songs}

pub returns-then-subtune-eq0-clause-refused : goal.returns-then-subtune-eq0-clause-refused
returns-then-subtune-eq0-clause-refused c = λ files name holds.
    ends.ends (no_subtune_line c.args.subtune c.args.psid.now.header.songs) (
      c.args.psid.now,
      holds,
      (λ has. elim c.then-subtune-eq0.branch [
        | then-subtune-eq0-via-then-subtune-eq0 w ↦ let zero = w.if-subtune-eq0.true in omega (arith, zero, has.first)
        | then-subtune-eq0-via-else-subtune-eq0+then-from-songs w ↦ let above =
            w.if-from-songs.true in omega (arith, above, w.from.ensures, has.last)
      ]),
      refl,
    ) c.no_such_subtune.ensures
