-- A packed song read as a song, from this project's own packed form: its orderlists, its patterns and its instruments
-- unpacked, under the packed song's numbers. The frames of a packed song are those of this song.
use Rattle.std.specs.Prelude.{◌≡◌, ℕ, ◌+◌, ◌==◌, List, [], ◌∷◌, ◌++◌, map, take, replicate}
use Rattle.std.specs.Prelude.{Contains, Result, Ok, Err, slice_index}
use Rattle.std.specs.List.{position_or_len}
use Rattle.song_model.specs.declared.rows.Row.{Row}
use Rattle.song_model.specs.declared.orders.Order.{Order}
use Rattle.song_model.specs.declared.orders.Subtune.{Subtune}
use Rattle.song_model.specs.declared.instruments.Instrument.{Instrument}
use Rattle.song_model.specs.declared.songs.Song.{Song}
use Rattle.song_model.specs.Silence.{empty_song}
use Rattle.play_model.specs.declared.options.Options.{Options}
use Rattle.play_model.specs.State.{FrameState}
use Rattle.play_model.specs.Frame.{Framed, frame_with, state_after_with, trace_with}
use Rattle.packed_form.specs.declared.faults.PackedFault.{PackedFault}
use Rattle.packed_form.specs.declared.packed_songs.PackedSubtune.{PackedSubtune}
use Rattle.packed_form.specs.declared.packed_songs.PackedInstrument.{PackedInstrument}
use Rattle.packed_form.specs.declared.packed_songs.PackedSong.{PackedSong}
use Rattle.packed_form.specs.Faults.{unpacked}

-- ---- orderlists

-- entries, none of which is $FF, the endmark $FF, and the restart position
pub record IsPackedOrder (bytes : List ℕ) : Type 0 where
  pub entries : List ℕ
  pub restart : ℕ
  pub text : bytes ≡ entries ++ 0xFF ∷ restart ∷ []
  pub no_end : ¬ Contains entries 0xFF

-- where the first $FF stands
abbrev pub end_place : List ℕ → ℕ
end_place bytes = position_or_len (λ byte. byte == 0xFF) bytes

abbrev pub unpacked_order : List ℕ → Order
unpacked_order bytes = record { entries = take (end_place bytes) bytes; restart = slice_index bytes (end_place bytes + 1) }

abbrev pub unpacked_subtune : PackedSubtune → Subtune
unpacked_subtune subtune = record {
  one = unpacked_order subtune.one;
  two = unpacked_order subtune.two;
  three = unpacked_order subtune.three;
}

-- ---- instruments and patterns

-- the nine bytes in their order; names aren't packed
abbrev pub unpacked_instrument : PackedInstrument → Instrument
unpacked_instrument instrument = record {
  ad = slice_index instrument.bytes 0;
  sr = slice_index instrument.bytes 1;
  wave = slice_index instrument.bytes 2;
  pulse = slice_index instrument.bytes 3;
  filter = slice_index instrument.bytes 4;
  vibrato = slice_index instrument.bytes 5;
  vibrato_delay = slice_index instrument.bytes 6;
  gate_timer = slice_index instrument.bytes 7;
  first_wave = slice_index instrument.bytes 8;
  name = replicate 16 0;
}

abbrev pub rows_or_none : Result (List Row) PackedFault → List Row
rows_or_none (Ok rows) = rows
rows_or_none (Err fault) = []

-- the rows that the bytes spell
unfoldable pub unpacked_pattern : List ℕ → List Row
unpacked_pattern bytes = rows_or_none (unpacked bytes)

-- ---- songs

abbrev pub unpacked_song : PackedSong → Song
unpacked_song packed = record empty_song {
  subtunes = map unpacked_subtune packed.subtunes;
  instruments = map unpacked_instrument packed.instruments;
  wave = packed.wave;
  pulse = packed.pulse;
  filter = packed.filter;
  speed = packed.speed;
  patterns = map unpacked_pattern packed.patterns;
}

-- ---- frames of packed subtune k, counted from 0

abbrev pub packed_frame : PackedSong → ℕ → Options → FrameState → Framed
packed_frame packed k o x = frame_with o (unpacked_song packed) k x

-- the state after n frames
abbrev pub packed_state : PackedSong → ℕ → Options → ℕ → FrameState
packed_state packed k o n = state_after_with o (unpacked_song packed) k n

-- the registers after call i
abbrev pub packed_trace : PackedSong → ℕ → Options → ℕ → List ℕ
packed_trace packed k o i = trace_with o (unpacked_song packed) k i
