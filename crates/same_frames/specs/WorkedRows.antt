-- A small song, and the same song with its pattern cut in two, worked out by hand.
use Rattle.std.specs.Prelude.{◌≡◌, ℕ, true, false, List, [], ◌∷◌, map}
use Rattle.song_model.specs.declared.rows.Row.{Row}
use Rattle.song_model.specs.declared.orders.Order.{Order}
use Rattle.song_model.specs.declared.orders.Subtune.{Subtune}
use Rattle.song_model.specs.declared.songs.Song.{Song}
use Rattle.play_model.specs.declared.options.Options.{Options}
use Rattle.play_model.specs.LookUps.{look_ups_of}
use Rattle.play_model.specs.State.{no_options}
use Rattle.play_model.specs.WorkedSongs.{order, subtune, row, sides, rests, one_note}
use Rattle.play_model.specs.WorkedRuns.{left_out, first_left_out}
use Rattle.same_frames.specs.SameRows.{Place, row_there, place_of_row, PlaysSameRows, HasSameParts}
use Rattle.same_frames.specs.RowLists.{HasSameRowLists}
use Rattle.same_frames.specs.SamePlays.{PlaysSame}
use Rattle.same_frames.specs.WorkedMaps.{first_frames}

-- ---- the songs

-- Voice 1 plays four rows, and then a half tone higher again and again; a pulse program goes on all the time.
abbrev pub whole_song : Song
whole_song = record one_note {
  subtunes = subtune (0 ∷ 0xF1 ∷ 0 ∷ []) (1 ∷ []) (1 ∷ []) ∷ [];
  pulse = sides 0x81 0 ∷ sides 0x7F 0x10 ∷ sides 0xFF 2 ∷ [];
  patterns = (row 0x90 1 0 0 ∷ row 0xBD 0 0 0 ∷ row 0xBE 0 0 0 ∷ row 0x92 1 0 0 ∷ []) ∷ rests 1 ∷ [];
}

abbrev pub whole_order : Order
whole_order = order (0 ∷ 0xF1 ∷ 0 ∷ [])

-- the last row stands in a pattern of its own
abbrev pub cut_song : Song
cut_song = record whole_song {
  subtunes = subtune (0 ∷ 2 ∷ 0xF1 ∷ 0 ∷ 2 ∷ []) (1 ∷ []) (1 ∷ []) ∷ [];
  patterns = (row 0x90 1 0 0 ∷ row 0xBD 0 0 0 ∷ row 0xBE 0 0 0 ∷ []) ∷ rests 1 ∷ (row 0x92 1 0 0 ∷ []) ∷ [];
}

abbrev pub cut_order : Order
cut_order = order (0 ∷ 2 ∷ 0xF1 ∷ 0 ∷ 2 ∷ [])

-- ---- places and rows

abbrev pub at : ℕ → ℕ → Place
at plays row = record { plays = plays; row = row }

abbrev pub places : Song → Order → List ℕ → List Place
places song order numbers = map (place_of_row (look_ups_of song) order) numbers

abbrev pub rows_at : Song → Order → List ℕ → List Row
rows_at song order numbers = map (λ n. row_there (look_ups_of song) order (place_of_row (look_ups_of song) order n)) numbers

abbrev pub first_numbers : List ℕ
first_numbers = 0 ∷ 1 ∷ 2 ∷ 3 ∷ 4 ∷ 5 ∷ 6 ∷ 7 ∷ 8 ∷ 9 ∷ 10 ∷ 11 ∷ 12 ∷ []

pub record PlacesAreAsWorked : Type 0 where
  pub whole : places whole_song whole_order (0 ∷ 3 ∷ 4 ∷ 7 ∷ 8 ∷ []) ≡ at 0 0 ∷ at 0 3 ∷ at 1 0 ∷ at 1 3 ∷ at 2 0 ∷ []
  pub cut : places cut_song cut_order (0 ∷ 3 ∷ 4 ∷ 7 ∷ 8 ∷ []) ≡ at 0 0 ∷ at 1 0 ∷ at 2 0 ∷ at 3 0 ∷ at 4 0 ∷ []
  pub rows : rows_at cut_song cut_order first_numbers ≡ rows_at whole_song whole_order first_numbers

-- the rows of the whole orderlist are those of the one that is cut, as lists, and so both play the same rows for ever;
-- not where a piece is lost, and not where an orderlist begins with other rows and then goes on with the same
pub record CutRowsAreSame : Type 0 where
  pub lists : HasSameRowLists (look_ups_of whole_song) (look_ups_of cut_song) whole_order cut_order
  pub rows : PlaysSameRows (look_ups_of whole_song) (look_ups_of cut_song) whole_order cut_order
  pub lost : ¬ HasSameRowLists (look_ups_of whole_song) (look_ups_of cut_song) whole_order (order (0 ∷ 0xF1 ∷ 0 ∷ 2 ∷ []))
  pub prefix : ¬ HasSameRowLists (look_ups_of cut_song) (look_ups_of cut_song) (record { entries = 0 ∷ 2 ∷ []; restart = 1 })
      (record { entries = 1 ∷ 2 ∷ []; restart = 1 })

-- not with a piece lost or the pieces the other way round, nor with a transpose less, nor from another restart on,
-- and not where a pattern has no rows
abbrev pub RowsAreSame : Order → Type 0
RowsAreSame order = PlaysSameRows (look_ups_of whole_song) (look_ups_of cut_song) whole_order order

pub record OtherRowsAreRefused : Type 0 where
  pub lost : ¬ RowsAreSame (order (0 ∷ 0xF1 ∷ 0 ∷ 2 ∷ []))
  pub turned : ¬ RowsAreSame (order (2 ∷ 0 ∷ 0xF1 ∷ 2 ∷ 0 ∷ []))
  pub transpose : ¬ RowsAreSame (order (0 ∷ 2 ∷ 0 ∷ 2 ∷ []))
  pub restart : ¬ RowsAreSame (record cut_order { restart = 1 })
  pub empty : ¬ PlaysSameRows (look_ups_of whole_song) (look_ups_of whole_song) (order (3 ∷ [])) (order (3 ∷ []))

-- the pulse program of the note alone is another one
pub record PartsAreSame : Type 0 where
  pub cut : HasSameParts (look_ups_of whole_song) (look_ups_of cut_song)
  pub other : ¬ HasSameParts (look_ups_of whole_song) (look_ups_of one_note)

-- ---- frames

-- both leave the same in the registers, but where the pulse step is left out between two patterns
pub record CutFramesAreAsWorked : Type 0 where
  pub registers : first_frames no_options cut_song ≡ first_frames no_options whole_song
  pub with_options : first_frames (left_out true true 2) cut_song ≡ first_frames (left_out true true 2) whole_song
  pub between : ¬ (first_frames (first_left_out 1) cut_song ≡ first_frames (first_left_out 1) whole_song)

-- ---- songs

-- the whole song with a second subtune
abbrev pub with_second : Subtune → Song
with_second second = record whole_song {
  subtunes = subtune (0 ∷ 0xF1 ∷ 0 ∷ []) (1 ∷ []) (1 ∷ []) ∷ second ∷ [];
}

-- pattern 0 in each voice, which is what stands for a subtune that a song lacks, too
abbrev pub three_notes : Subtune
three_notes = subtune (0 ∷ []) (0 ∷ []) (0 ∷ [])

abbrev pub two_notes : Subtune
two_notes = subtune (1 ∷ []) (0 ∷ []) (0 ∷ [])

-- the song that is cut plays the same with any options but the one that looks at the beginnings of patterns; not so a
-- song that has a subtune more, or less, or that plays something else in its second one
pub record CutSongsPlaySame : Type 0 where
  pub cut : (o : Options) → o.skip_first ≡ false → PlaysSame o whole_song cut_song
  pub between : ¬ PlaysSame (first_left_out 1) whole_song cut_song
  pub more : ¬ PlaysSame no_options whole_song (with_second three_notes)
  pub less : ¬ PlaysSame no_options (with_second three_notes) whole_song
  pub second : ¬ PlaysSame no_options (with_second three_notes) (with_second two_notes)

pub record CutsAreAsWorked : Type 0 where
  pub places : PlacesAreAsWorked
  pub same : CutRowsAreSame
  pub refused : OtherRowsAreRefused
  pub parts : PartsAreSame
  pub frames : CutFramesAreAsWorked
  pub plays : CutSongsPlaySame
