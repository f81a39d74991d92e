-- The script that makes a song of the empty one: its parts in the order of the format.
use Rattle.std.specs.Prelude.{ℕ, List, [], ◌∷◌, ◌++◌, codes}
use Rattle.song_model.specs.declared.songs.Song.{Song}
use Rattle.edit_ops.specs.declared.edits.Edit.{Edit}
use Rattle.song_script.specs.Statements.{Statement, Comment, text_of, edits_among, each_from}
use Rattle.song_script.specs.Parts.{parts_made, texts_said, subtune_said, instrument_said, tables_said, pattern_said}

abbrev pub title_words : List ℕ
title_words = codes "A song, as the edits that make it of the empty one."

unfoldable pub statements_of : Song → List Statement
statements_of song =
    (Comment title_words ∷ []) ++ parts_made song ++ texts_said song ++ each_from 1 subtune_said song.subtunes
    ++ each_from 1 instrument_said song.instruments ++ tables_said song ++ each_from 0 pattern_said song.patterns

abbrev pub script_of : Song → List ℕ
script_of song = text_of (statements_of song)

-- the edits of the script
abbrev pub edits_of : Song → List Edit
edits_of song = edits_among (statements_of song)
