use Rattle.song_model.specs.LookUp.{zero_table_row}
use Rattle.edit_ops.specs.declared.edits.Edit.TheVariants.{InsertTable}
use Rattle.song_script.specs.Statements.{Do}
use Rattle.song_script.proofs.PutLaws.{again_more}
use Rattle.song_script.proofs.making.put_table_made.Goals as goal

pub loop-made-preserved : goal.loop-made-preserved
loop-made-preserved c = again_more c.loop-made._made (Do (InsertTable c.args.table 1 zero_table_row)) _ _ _
    c.loop-made.invariant c.in_ok-put_line.ensures
