-- Small songs that play no row that another one doesn't, and others that do, worked out by hand.
use Rattle.std.specs.Prelude.{ℕ, List, [], ◌∷◌}
use Rattle.song_model.specs.declared.rows.Row.{Row}
use Rattle.song_model.specs.declared.orders.Subtune.{Subtune}
use Rattle.song_model.specs.declared.tables.TableName.{TableName}
use Rattle.song_model.specs.declared.songs.Song.{Song}
use Rattle.song_model.specs.LookUp.{with_table}
use Rattle.play_model.specs.WorkedSongs.{subtune, row, sides, plain, rests, one_note}
use Rattle.same_uses.specs.SameUses.{AddsNoRow}

-- ---- the songs

-- voice 1 plays these entries, and the others rest
abbrev pub voice_one : List ℕ → Subtune
voice_one entries = subtune entries (1 ∷ []) (1 ∷ [])

abbrev pub note : Row
note = row 0x90 1 0 0

abbrev pub keyoff : Row
keyoff = row 0xBE 0 0 0

-- the song of one note, which has a note and a keyoff in pattern 0 and a rest in pattern 1, with other subtunes
abbrev pub with_subtunes : List Subtune → Song
with_subtunes subtunes = record one_note { subtunes = subtunes }

abbrev pub whole_subtune : Subtune
whole_subtune = voice_one (0xF1 ∷ 0 ∷ [])

-- the note sounds a half tone higher
abbrev pub whole_song : Song
whole_song = with_subtunes (whole_subtune ∷ [])

-- the note stands alone in its pattern, and this row in a third one
abbrev pub in_pieces : List ℕ → Row → Song
in_pieces entries other = record one_note {
  subtunes = voice_one entries ∷ [];
  patterns = (note ∷ []) ∷ rests 1 ∷ (other ∷ []) ∷ [];
}

abbrev pub cut_entries : List ℕ
cut_entries = 0xF1 ∷ 0 ∷ 2 ∷ []

-- the pattern of the whole song, cut in two
abbrev pub cut_song : Song
cut_song = in_pieces cut_entries keyoff

-- ---- what they play

-- What adds to the whole song: a keyon in place of the keyoff; another transpose, and the least repeat; and the note in
-- the second voice or in the third, where the song has it in the first alone.
pub record RowsAreAdded : Type 0 where
  pub row : ¬ AddsNoRow whole_song (in_pieces cut_entries (row 0xBF 0 0 0))
  pub transpose : ¬ AddsNoRow whole_song (in_pieces (0xF2 ∷ 0 ∷ 2 ∷ []) keyoff)
  pub repeat : ¬ AddsNoRow whole_song (in_pieces (0xD0 ∷ 0 ∷ 2 ∷ []) keyoff)
  pub second : ¬ AddsNoRow whole_song (with_subtunes (subtune (0 ∷ []) (0 ∷ []) (1 ∷ []) ∷ []))
  pub third : ¬ AddsNoRow whole_song (with_subtunes (subtune (0 ∷ []) (1 ∷ []) (0 ∷ []) ∷ []))

-- What has other parts: the song that is cut, with another instrument, and with another table of any name; and a song
-- that has the subtune twice beside one that has it once, either way round.
pub record PartsAreOthers : Type 0 where
  pub instruments : ¬ AddsNoRow whole_song (record cut_song { instruments = plain ∷ [] })
  pub tables : (name : TableName) → ¬ AddsNoRow whole_song (with_table cut_song name (sides 1 0 ∷ []))
  pub more : ¬ AddsNoRow whole_song (with_subtunes (whole_subtune ∷ whole_subtune ∷ []))
  pub fewer : ¬ AddsNoRow (with_subtunes (whole_subtune ∷ whole_subtune ∷ [])) whole_song

-- the song whose pattern is cut adds no row to the whole one
pub record UsesAreWorked : Type 0 where
  pub cut : AddsNoRow whole_song cut_song
  pub rows : RowsAreAdded
  pub parts : PartsAreOthers
