-- What is unfolded to go through a history of a song that is written out.
use Rattle.std.specs.Prelude.{⊤}
use Rattle.edit_ops.specs.Edits.{edited, lacks_place, is_over, is_bad, changed}
use Rattle.edit_history.specs.History.{after_edit, after_undo, after_redo}

unfoldable pub doing_steps : ⊤
unfolding after_edit after_undo after_redo edited lacks_place is_over is_bad changed
doing_steps = tt
