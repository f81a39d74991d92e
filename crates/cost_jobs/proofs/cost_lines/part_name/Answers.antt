use Rattle.std.proofs.Common.{◌≤◌, length, sym, subst}
use Rattle.cost_jobs.proofs.Costs.{names_short}
use Rattle.cost_jobs.proofs.cost_lines.part_name.Goals as goal

pub returns-clause-name : goal.returns-clause-name
returns-clause-name c = c.name_in.ensures

pub returns-clause-short : goal.returns-clause-short
returns-clause-short c =
    subst (λ name. length name ≤ 24) (sym c.name_in.ensures) (names_short c.args.part c.requires)
