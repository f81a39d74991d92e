use Rattle.table_pack.proofs.KeptPrograms.{renumberings_keep, keeps_order, stored_once}
use Rattle.table_pack.proofs.claims.new_numbers_keep_programs.Goals as goal

pub returns-clause-numbers : goal.returns-clause-numbers
returns-clause-numbers c = renumberings_keep

pub returns-clause-order : goal.returns-clause-order
returns-clause-order c = keeps_order

pub returns-clause-once : goal.returns-clause-once
returns-clause-once c = stored_once
