-- The packed song of a song, part by part: what is used, under its new numbers.
use Rattle.std.specs.Prelude.{◌≡◌, ℕ, Bool, true, nat_lt, if◌then◌else◌, List, [], ◌∷◌, ◌++◌, map}
use Rattle.std.specs.Str.{bytes_eq}
use Rattle.song_model.specs.declared.orders.Order.{Order}
use Rattle.song_model.specs.declared.orders.Subtune.{Subtune}
use Rattle.song_model.specs.declared.instruments.Instrument.{Instrument}
use Rattle.song_model.specs.declared.tables.TableRow.{TableRow}
use Rattle.song_model.specs.declared.tables.TableName.{TableName}
use Rattle.song_model.specs.declared.tables.TableName.TheVariants.{Wave, Pulse, Filter, Speed}
use Rattle.song_model.specs.declared.songs.Song.{Song}
use Rattle.song_model.specs.LookUp.{IsNumbered, instrument_at, speed_row, playable_subtunes}
use Rattle.play_model.specs.Features.{AreFeatures}
use Rattle.song_facts.specs.Facts.{AreFacts}
use Rattle.asked_numbers.specs.Range.{IsNumberRange}
use Rattle.same_frames.specs.Maps.{Maps}
use Rattle.packed_form.specs.declared.packed_songs.PackedSubtune.{PackedSubtune}
use Rattle.packed_form.specs.declared.packed_songs.PackedInstrument.{PackedInstrument}
use Rattle.packed_form.specs.declared.packed_songs.PackedSong.{PackedSong}
use Rattle.packing_rules.specs.ProgramMaps.{row_at}
use Rattle.packing_rules.specs.UsedSets.{UsedSets}
use Rattle.packing_rules.specs.Renumbering.{first_seen, speed_rows, speed_number, program_rows, wave_programs}
use Rattle.packing_rules.specs.Renumbering.{pulse_programs, filter_programs, table_number, instruments_in_order}
use Rattle.packing_rules.specs.Renumbering.{instrument_number, pattern_number, pattern_texts}

-- the new numbers of a song's parts
abbrev pub new_numbers : Song → UsedSets → Maps
new_numbers song used = record {
  row = table_number song used;
  instrument = instrument_number song used;
  pattern = pattern_number song used;
}

-- an entry of an orderlist: a byte below $D0 is the number of a pattern
abbrev pub order_byte : (ℕ → ℕ) → ℕ → ℕ
order_byte pattern byte = if nat_lt byte 0xD0 then pattern byte else byte

-- the entries under new numbers, the endmark and the restart position
abbrev pub order_bytes : (ℕ → ℕ) → Order → List ℕ
order_bytes pattern order = map (order_byte pattern) order.entries ++ 0xFF ∷ order.restart ∷ []

abbrev pub packed_subtune : (ℕ → ℕ) → Subtune → PackedSubtune
packed_subtune pattern subtune = record {
  one = order_bytes pattern subtune.one;
  two = order_bytes pattern subtune.two;
  three = order_bytes pattern subtune.three;
}

-- the nine bytes, with the four pointers under new numbers
abbrev pub packed_instrument : (TableName → ℕ → ℕ) → Instrument → PackedInstrument
packed_instrument number i = record {
  bytes = i.ad ∷ i.sr ∷ number Wave i.wave ∷ number Pulse i.pulse ∷ number Filter i.filter
      ∷ number Speed i.vibrato ∷ i.vibrato_delay ∷ i.gate_timer ∷ i.first_wave ∷ [];
}

-- the rows of the speed table, each once
pub record AreSpeeds (song : Song) (used : ℕ → Bool) (rows : List TableRow) : Type 0 where
  pub rows_are : rows ≡ speed_rows song used
  -- a look-up by the new number finds the old row
  pub stored : (p : ℕ) → used p ≡ true → IsNumbered rows (speed_number song used p)
  pub row : (p : ℕ) → used p ≡ true → row_at rows (speed_number song used p) ≡ speed_row song p

pub record IsPacked (song : Song) (used : UsedSets) (packed : PackedSong) : Type 0 where
  pub subtunes : packed.subtunes ≡ map (packed_subtune (pattern_number song used)) (playable_subtunes song)
  pub patterns : packed.patterns ≡ first_seen bytes_eq (pattern_texts song used)
  pub instruments : packed.instruments
      ≡ map (λ n. packed_instrument (table_number song used) (instrument_at song n)) (instruments_in_order song used)
  pub wave : packed.wave ≡ program_rows (wave_programs song used)
  pub pulse : packed.pulse ≡ program_rows (pulse_programs song used)
  pub filter : packed.filter ≡ program_rows (filter_programs song used)
  pub speed : AreSpeeds song (used.pointers Speed) packed.speed
  pub features : AreFeatures song packed.features.0
  pub facts : AreFacts song packed.facts
  pub numbers : IsNumberRange song packed.numbers
