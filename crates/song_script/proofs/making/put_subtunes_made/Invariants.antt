use Rattle.std.proofs.Common.{◌≡◌, ◌++◌, replicate}
use Rattle.edit_ops.specs.declared.edits.Edit.TheVariants.{AddSubtune}
use Rattle.song_script.specs.Statements.{Do, text_of}
use Rattle.song_script.proofs.making.put_subtunes_made.Given as goal

abbrev pub invariant-loop-made : goal.invariant-loop-made
invariant-loop-made l = l.out ≡ l.fn.out ++ text_of (replicate l._made (Do AddSubtune))
