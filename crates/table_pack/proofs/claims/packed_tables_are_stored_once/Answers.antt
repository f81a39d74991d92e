use Rattle.table_pack.proofs.KeptRows.{rows_are_kept, stored_once_is_packed, packed_tables_keep, packed_programs_are_read}
use Rattle.table_pack.proofs.claims.packed_tables_are_stored_once.Goals as goal

pub returns-clause-rows : goal.returns-clause-rows
returns-clause-rows c = rows_are_kept

pub returns-clause-packed : goal.returns-clause-packed
returns-clause-packed c = stored_once_is_packed

pub returns-clause-keep : goal.returns-clause-keep
returns-clause-keep c = packed_tables_keep

pub returns-clause-read : goal.returns-clause-read
returns-clause-read c = packed_programs_are_read
