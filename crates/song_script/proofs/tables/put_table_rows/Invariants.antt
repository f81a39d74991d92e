use Rattle.std.proofs.Common.{◌≡◌, ◌++◌, take}
use Rattle.song_script.specs.Statements.{text_of, each_from}
use Rattle.song_script.specs.Parts.{table_row_said}
use Rattle.song_script.proofs.tables.put_table_rows.Given as goal

abbrev pub invariant-loop-place : goal.invariant-loop-place
invariant-loop-place l = l.out ≡ l.fn.out ++ text_of (each_from 1 (table_row_said l.table) (take l.place l.rows))
