use Rattle.std.proofs.Common.{◌≡◌, ◌++◌, replicate}
use Rattle.song_model.specs.LookUp.{zero_table_row}
use Rattle.edit_ops.specs.declared.edits.Edit.TheVariants.{InsertTable}
use Rattle.song_script.specs.Statements.{Do, text_of}
use Rattle.song_script.proofs.making.put_table_made.Given as goal

abbrev pub invariant-loop-made : goal.invariant-loop-made
invariant-loop-made l = l.out ≡ l.fn.out ++ text_of (replicate l._made (Do (InsertTable l.table 1 zero_table_row)))
