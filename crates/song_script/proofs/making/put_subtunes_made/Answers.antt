use Rattle.edit_ops.specs.declared.edits.Edit.TheVariants.{AddSubtune}
use Rattle.song_script.specs.Statements.{Do}
use Rattle.song_script.proofs.PutLaws.{again_more}
use Rattle.song_script.proofs.making.put_subtunes_made.Goals as goal

pub loop-made-preserved : goal.loop-made-preserved
loop-made-preserved c = again_more c.loop-made._made (Do AddSubtune) _ _ _ c.loop-made.invariant
    c.in_ok-put_line.ensures
