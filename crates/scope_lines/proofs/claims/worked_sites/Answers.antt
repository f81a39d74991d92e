-- Sites that are worked by hand.
use Rattle.scope_lines.proofs.claims.worked_sites.Goals as goal
use Rattle.scope_lines.proofs.WorkedSites.{sought_is_lowered, summed_is_lowered, others_are_not_isolated}

pub returns-clause-sought : goal.returns-clause-sought
returns-clause-sought c = sought_is_lowered

pub returns-clause-summed : goal.returns-clause-summed
returns-clause-summed c = summed_is_lowered

pub returns-clause-others : goal.returns-clause-others
returns-clause-others c = others_are_not_isolated
