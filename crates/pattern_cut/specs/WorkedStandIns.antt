-- Small songs that ask for the same as another one, or stand in for it, and others that don't, worked out by hand.
use Rattle.std.specs.Prelude.{List, [], ◌∷◌, replicate}
use Rattle.song_model.specs.declared.orders.Subtune.{Subtune}
use Rattle.song_model.specs.declared.songs.Song.{Song}
use Rattle.song_model.specs.Silence.{silence}
use Rattle.play_model.specs.WorkedSongs.{subtune, row, sides, rests, one_note, with_rows}
use Rattle.pattern_cut.specs.declared.lengths.PieceLength.TheVariants.{Rows8}
use Rattle.pattern_cut.specs.CutSongs.{cut_with}
use Rattle.pattern_cut.specs.Choice.{cut_song}
use Rattle.pattern_cut.specs.CutLaws.{AsksSame, StandsIn}
use Rattle.pattern_cut.specs.WorkedPieces.{eights}
use Rattle.pattern_cut.specs.WorkedChoice.{voiced, two_bars}

-- The song of one note with other subtunes: its own, the same with a repeat that repeats nothing, and its own twice.
abbrev pub with_subtunes : List Subtune → Song
with_subtunes subtunes = record one_note { subtunes = subtunes }

abbrev pub its_subtune : Subtune
its_subtune = subtune (0 ∷ []) (1 ∷ []) (1 ∷ [])

abbrev pub repeated_note : Song
repeated_note = with_subtunes (subtune (0xD0 ∷ 0 ∷ []) (1 ∷ []) (1 ∷ []) ∷ [])

abbrev pub played_twice : Song
played_twice = with_subtunes (its_subtune ∷ its_subtune ∷ [])

-- the same song with a second note, two half tones up
abbrev pub second_note : Song
second_note = with_rows (row 0x90 1 0 0 ∷ row 0x92 0 0 0 ∷ row 0xBE 0 0 0 ∷ []) one_note

-- A song asks for the same as itself. Another one doesn't that has a feature more or less: a repeat; nor one that has
-- a fact more or less: a second subtune; nor one that asks for a number more or less: of a second note.
pub record SameIsAsked : Type 0 where
  pub itself : AsksSame one_note one_note
  pub feature_more : ¬ AsksSame one_note repeated_note
  pub feature_less : ¬ AsksSame repeated_note one_note
  pub fact_more : ¬ AsksSame one_note played_twice
  pub fact_less : ¬ AsksSame played_twice one_note
  pub number_more : ¬ AsksSame one_note second_note
  pub number_less : ¬ AsksSame second_note one_note

-- 16 rests in each voice
abbrev pub quiet_song : Song
quiet_song = record silence { patterns = rests 16 ∷ [] }

-- the song of one note with a rest behind its keyoff
abbrev pub later_note : Song
later_note = with_rows (row 0x90 1 0 0 ∷ row 0xBE 0 0 0 ∷ rests 1) one_note

-- two bars that are named 128 times
abbrev pub many_bars : Song
many_bars = voiced (replicate 128 1) (two_bars ∷ [])

-- The quiet song stands in for itself where it is cut, in two equal pieces or as it is chosen. What doesn't: a song
-- with a text of no bytes; one whose pulse program runs off its table; one that has a row more, or less; and one that
-- plays the same, with a repeat that repeats nothing. A song in pieces doesn't stand in where an orderlist grows to
-- 256 entries.
pub record StandInsAreAsWorked : Type 0 where
  pub cut : StandsIn quiet_song (cut_with quiet_song (Rows8 ∷ []))
  pub chosen : StandsIn quiet_song (cut_song quiet_song)
  pub limits : ¬ StandsIn one_note (record one_note { name = [] })
  pub playable : ¬ StandsIn one_note (record one_note { pulse = sides 0x88 0 ∷ [] })
  pub row_more : ¬ StandsIn one_note later_note
  pub row_less : ¬ StandsIn later_note one_note
  pub asks : ¬ StandsIn one_note repeated_note
  pub grown : ¬ StandsIn many_bars (cut_with many_bars eights)

pub record PatternStandInsAreAsWorked : Type 0 where
  pub asked : SameIsAsked
  pub stand_ins : StandInsAreAsWorked
