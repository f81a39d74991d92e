-- What an answer unfolds to read a text that is written out, and to run edits on a song that is.
use Rattle.std.specs.Prelude.{⊤}
use Rattle.hex.proofs.OnLiterals.{hex_on_literals}
use Rattle.edit_ops.specs.Edits.{edited, lacks_place, is_over, is_bad, changed}
use Rattle.edit_ops.specs.Tables.{with_row_inserted}
use Rattle.edit_ops.specs.Pointers.{moved_song}
use Rattle.edit_history.specs.History.{after_edit, after_undo, after_redo}
use Rattle.edit_script.specs.Runs.{after_action}
use Rattle.edit_script.specs.Reading.{action_in, keyword_at, word_of, sizes_of, made, arguments_at, argument_at}

unfoldable pub reading_texts : ⊤
unfolding action_in keyword_at word_of sizes_of made arguments_at argument_at hex_on_literals
reading_texts = tt

unfoldable pub doing_steps : ⊤
unfolding after_action after_undo after_redo
doing_steps = tt

unfoldable pub running_edits : ⊤
unfolding doing_steps after_edit edited lacks_place is_over is_bad changed with_row_inserted moved_song
running_edits = tt
