use Rattle.table_pack.proofs.WorkedTables.{last_four_are_kept, zero_speeds_are_one}
use Rattle.table_pack.proofs.claims.worked_tables.Goals as goal

pub returns-clause-rows : goal.returns-clause-rows
returns-clause-rows c = last_four_are_kept

pub returns-clause-speeds : goal.returns-clause-speeds
returns-clause-speeds c = zero_speeds_are_one
