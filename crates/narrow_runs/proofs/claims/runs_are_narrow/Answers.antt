-- Trees and entrances do the same in a layout with less places.
use Rattle.narrow_runs.proofs.claims.runs_are_narrow.Goals as goal
use Rattle.narrow_runs.proofs.Trees.{trees_are_narrow}
use Rattle.narrow_runs.proofs.Entrances.{entrances_are_narrow}

pub returns-clause-trees : goal.returns-clause-trees
returns-clause-trees c = trees_are_narrow

pub returns-clause-entrances : goal.returns-clause-entrances
returns-clause-entrances c = entrances_are_narrow
