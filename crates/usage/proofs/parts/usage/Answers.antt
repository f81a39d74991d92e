use Rattle.usage.proofs.Cases.{names_each}
use Rattle.usage.proofs.Refusals.{refused_exactly}
use Rattle.usage.proofs.parts.usage.Goals as goal

pub returns-clause-refused : goal.returns-clause-refused
returns-clause-refused c = refused_exactly c.args.song.now c.looked_at.result c.looked_at.ensures.found
    c.looked_at.ensures.none

pub returns-clause-cases : goal.returns-clause-cases
returns-clause-cases c =
    names_each c.args.song.now c.looked_at.result c.looked_at.ensures.none c.looked_at.ensures.parts
