use Rattle.worked_blocks.proofs.claims.worked_fetches.Goals as goal
use Rattle.worked_blocks.proofs.WorkedFetches.{fetches_are_worked}
use Rattle.worked_blocks.proofs.WorkedGrounds.{grounds_are_worked}
use Rattle.worked_blocks.proofs.WorkedOthers.{others_are_denied, leaving_is_worked}
use Rattle.worked_blocks.proofs.WorkedEdges.{edges_are_worked}

pub returns-clause-runs : goal.returns-clause-runs
returns-clause-runs c = fetches_are_worked

pub returns-clause-grounds : goal.returns-clause-grounds
returns-clause-grounds c = grounds_are_worked

pub returns-clause-others : goal.returns-clause-others
returns-clause-others c = others_are_denied

pub returns-clause-edges : goal.returns-clause-edges
returns-clause-edges c = edges_are_worked

pub returns-clause-leaving : goal.returns-clause-leaving
returns-clause-leaving c = leaving_is_worked
