-- A small song, and the same song with other numbers, worked out by hand.
use Rattle.std.specs.Prelude.{◌≡◌, ℕ, zero, suc, true, List, [], ◌∷◌, map, slice_index}
use Rattle.song_model.specs.declared.rows.Row.{Row}
use Rattle.song_model.specs.declared.instruments.Instrument.{Instrument}
use Rattle.song_model.specs.declared.tables.TableName.{TableName}
use Rattle.song_model.specs.declared.tables.TableName.TheVariants.{Wave, Pulse, Filter, Speed}
use Rattle.song_model.specs.declared.tables.TableRow.{TableRow}
use Rattle.song_model.specs.declared.songs.Song.{Song}
use Rattle.song_model.specs.LookUp.{table_of, table_row, instrument_at}
use Rattle.song_model.specs.Silence.{empty_song}
use Rattle.play_model.specs.declared.options.Options.{Options}
use Rattle.play_model.specs.State.{FrameState, no_options, start_state}
use Rattle.play_model.specs.Frame.{frame_with, state_after}
use Rattle.play_model.specs.WorkedSongs.{order, subtune, row, sides, rests}
use Rattle.play_model.specs.WorkedRuns.{instrument, left_out}
use Rattle.same_frames.specs.Maps.{Maps, moved_row, moved_instrument, IsPatternFor}
use Rattle.same_frames.specs.Alike.{moved_voice}
use Rattle.same_frames.specs.OrderLaws.{moved_order}

-- ---- the song

-- A wave program sets a pulse and a filter pointer and slides up again and again, and another one stands. Instrument 2
-- is named by no row, and the filter's first row is reached by no program.
abbrev pub waves : List TableRow
waves =
    sides 0xF9 1 ∷ sides 0xFA 2 ∷ sides 0xF1 1 ∷ sides 0xFF 3 ∷ sides 0x21 0x80 ∷ sides 0xFF 0 ∷ []

abbrev pub pulses : List TableRow
pulses = sides 0x88 0 ∷ sides 0x20 0x10 ∷ sides 0xFF 2 ∷ sides 0x84 0 ∷ sides 0xFF 0 ∷ []

abbrev pub filters : List TableRow
filters = sides 0 0 ∷ sides 0x90 0xF1 ∷ sides 0 0x20 ∷ sides 0xFF 0 ∷ []

abbrev pub speeds : List TableRow
speeds = sides 0 0x10 ∷ sides 0 0x20 ∷ []

-- ad, sr, the four pointers, the vibrato's delay, the gate timer and the first wave
abbrev pub lead : Instrument
lead = instrument 0x09 0xA0 1 4 2 0 0 2 0x41

abbrev pub bass : Instrument
bass = instrument 0x0A 0x88 5 1 0 2 1 2 0x21

-- the second row names the same instrument again, and has a slide up; the first has a parameter, but no command
abbrev pub lead_rows : List Row
lead_rows = row 0x90 1 0 0x55 ∷ row 0x92 1 1 2 ∷ row 0xBD 0 8 5 ∷ row 0x94 3 9 1 ∷ []

abbrev pub played_song : Song
played_song = record empty_song {
  subtunes = subtune (0xF2 ∷ 1 ∷ []) (0 ∷ []) (0xD1 ∷ 0 ∷ []) ∷ [];
  instruments = lead ∷ instrument 0 0 0 0 0 0 0 0 0 ∷ bass ∷ [];
  wave = waves;
  pulse = pulses;
  filter = filters;
  speed = speeds;
  patterns = rests 1 ∷ lead_rows ∷ [];
}

-- ---- its new numbers

-- item p of a list that is counted from 1, and 0 where there is none
abbrev pub listed : List ℕ → ℕ → ℕ
listed numbers p = slice_index (0 ∷ numbers) p

-- the programs of the wave and the pulse table change places, and so do the speeds; filter row 1 goes
abbrev pub new_row : TableName → ℕ → ℕ
new_row Wave = listed (3 ∷ 4 ∷ 5 ∷ 6 ∷ 1 ∷ 2 ∷ [])
new_row Pulse = listed (3 ∷ 4 ∷ 5 ∷ 1 ∷ 2 ∷ [])
new_row Filter = listed (0 ∷ 1 ∷ 2 ∷ 3 ∷ [])
new_row Speed = listed (2 ∷ 1 ∷ [])

-- instrument 2 goes, and the patterns change places
abbrev pub new_numbers : Maps
new_numbers = record {
  row = new_row;
  instrument = listed (1 ∷ 0 ∷ 2 ∷ []);
  pattern = slice_index (1 ∷ 0 ∷ []);
}

-- ---- the song under them

-- what says nothing twice: the instrument that was named last, and the parameter of command 0
abbrev pub new_lead_rows : List Row
new_lead_rows = row 0x90 1 0 0 ∷ row 0x92 0 1 1 ∷ row 0xBD 0 8 1 ∷ row 0x94 2 9 3 ∷ []

abbrev pub new_song : Song
new_song = record empty_song {
  subtunes = subtune (0xF2 ∷ 0 ∷ []) (1 ∷ []) (0xD1 ∷ 1 ∷ []) ∷ [];
  instruments = instrument 0x09 0xA0 3 1 1 0 0 2 0x41 ∷ instrument 0x0A 0x88 1 3 0 1 1 2 0x21 ∷ [];
  wave = sides 0x21 0x80 ∷ sides 0xFF 0 ∷ sides 0xF9 3 ∷ sides 0xFA 1 ∷ sides 0xF1 2 ∷ sides 0xFF 5 ∷ [];
  pulse = sides 0x84 0 ∷ sides 0xFF 0 ∷ sides 0x88 0 ∷ sides 0x20 0x10 ∷ sides 0xFF 4 ∷ [];
  filter = sides 0x90 0xF1 ∷ sides 0 0x20 ∷ sides 0xFF 0 ∷ [];
  speed = sides 0 0x20 ∷ sides 0 0x10 ∷ [];
  patterns = new_lead_rows ∷ rests 1 ∷ [];
}

-- ---- each part

-- the rows of a table, moved one by one
abbrev pub moved_rows : TableName → List TableRow
moved_rows name = map (moved_row new_numbers name) (table_of played_song name)

-- in the wave table pointers into the other tables and a jump are moved, in the others a jump alone
pub record RowsAreMoved : Type 0 where
  pub wave : moved_rows Wave
      ≡ sides 0xF9 3 ∷ sides 0xFA 1 ∷ sides 0xF1 2 ∷ sides 0xFF 5 ∷ sides 0x21 0x80 ∷ sides 0xFF 0 ∷ []
  pub pulse : moved_rows Pulse ≡ sides 0x88 0 ∷ sides 0x20 0x10 ∷ sides 0xFF 4 ∷ sides 0x84 0 ∷ sides 0xFF 0 ∷ []
  pub filter : moved_rows Filter ≡ filters
  pub speed : moved_rows Speed ≡ speeds

-- the rows of a table of the new song, by their old numbers
abbrev pub found_rows : TableName → List ℕ → List TableRow
found_rows name numbers = map (λ p. table_row new_song name (new_numbers.row name p)) numbers

pub record RowsAreFound : Type 0 where
  pub wave : found_rows Wave (1 ∷ 2 ∷ 3 ∷ 4 ∷ 5 ∷ 6 ∷ []) ≡ moved_rows Wave
  pub pulse : found_rows Pulse (1 ∷ 2 ∷ 3 ∷ 4 ∷ 5 ∷ []) ≡ moved_rows Pulse
  pub filter : found_rows Filter (2 ∷ 3 ∷ 4 ∷ []) ≡ sides 0x90 0xF1 ∷ sides 0 0x20 ∷ sides 0xFF 0 ∷ []
  pub speed : found_rows Speed (1 ∷ 2 ∷ []) ≡ moved_rows Speed

pub record InstrumentsAreMoved : Type 0 where
  pub first : moved_instrument new_numbers (instrument_at played_song 1) ≡ instrument_at new_song 1
  pub last : moved_instrument new_numbers (instrument_at played_song 3) ≡ instrument_at new_song 2

pub record OrdersAreMoved : Type 0 where
  pub pattern : moved_order new_numbers (order (0xF2 ∷ 1 ∷ [])) ≡ order (0xF2 ∷ 0 ∷ [])
  pub repeat : moved_order new_numbers (order (0xD1 ∷ 0 ∷ [])) ≡ order (0xD1 ∷ 1 ∷ [])

-- ---- patterns

-- these rows stand for the lead's, and so do rows that name the instrument again; but not where a row leaves out an
-- instrument that wasn't named last, or names another one, or where a slide has its old speed
pub record PatternsStandFor : Type 0 where
  pub normal : IsPatternFor new_numbers lead_rows new_lead_rows
  pub again : IsPatternFor new_numbers lead_rows
      (row 0x90 1 0 7 ∷ row 0x92 1 1 1 ∷ row 0xBD 1 8 1 ∷ row 0x94 2 9 3 ∷ [])
  pub left_out : ¬ IsPatternFor new_numbers lead_rows
      (row 0x90 1 0 0 ∷ row 0x92 0 1 1 ∷ row 0xBD 0 8 1 ∷ row 0x94 0 9 3 ∷ [])
  pub other : ¬ IsPatternFor new_numbers lead_rows
      (row 0x90 1 0 0 ∷ row 0x92 0 1 1 ∷ row 0xBD 0 8 1 ∷ row 0x94 3 9 3 ∷ [])
  pub speed : ¬ IsPatternFor new_numbers lead_rows
      (row 0x90 1 0 0 ∷ row 0x92 0 1 2 ∷ row 0xBD 0 8 1 ∷ row 0x94 2 9 3 ∷ [])

-- ---- frames

-- the registers of so many frames of subtune 0 from this state on
unfoldable pub frames_from : Options → Song → ℕ → FrameState → List (List ℕ)
frames_from o song zero x = []
frames_from o song (suc n) x =
    let f = frame_with o song 0 x in f.registers ∷ frames_from o song n f.state

-- those of the first 40
abbrev pub first_frames : Options → Song → List (List ℕ)
first_frames o song = frames_from o song 40 (start_state o)

-- both songs leave the same in the registers; after twelve frames the second row waits, with speed 2, which is speed 1
-- of the new song
pub record FramesAreAsWorked : Type 0 where
  pub registers : first_frames no_options new_song ≡ first_frames no_options played_song
  pub with_options : first_frames (left_out true true 2) new_song
      ≡ first_frames (left_out true true 2) played_song
  pub voice : (state_after new_song 0 12).one
      ≡ moved_voice new_numbers 1 (state_after played_song 0 12).one

pub record NumbersAreAsWorked : Type 0 where
  pub rows : RowsAreMoved
  pub found : RowsAreFound
  pub instruments : InstrumentsAreMoved
  pub orders : OrdersAreMoved
  pub patterns : PatternsStandFor
  pub frames : FramesAreAsWorked
