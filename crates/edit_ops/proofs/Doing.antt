-- What is unfolded to do an edit of a song that is written out.
use Rattle.std.specs.Prelude.{⊤}
use Rattle.song_model.specs.LookUp.{pattern_at, instrument_at}
use Rattle.edit_ops.specs.Edits.{edited, lacks_place, is_over, is_bad, changed}
use Rattle.edit_ops.specs.Tables.{with_row_inserted, with_row_deleted}
use Rattle.edit_ops.specs.Pointers.{moved_song}

-- the columns of the table of edits
unfoldable pub reading_the_table : ⊤
unfolding lacks_place is_over is_bad changed
reading_the_table = tt

unfoldable pub doing_edits : ⊤
unfolding reading_the_table edited pattern_at instrument_at with_row_inserted with_row_deleted moved_song
doing_edits = tt
