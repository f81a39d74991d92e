-- What each generated song has, the first draws of two, and the last ones of one, by an independent reading of the rules.
use Rattle.std.specs.Prelude.{◌≡◌, ℕ, ◌+◌, ◌-◌, ◌*◌, ◌^◌, List, [], ◌∷◌, map, take, drop}
use Rattle.song_model.specs.declared.rows.Row.{Row}
use Rattle.song_model.specs.declared.instruments.Instrument.{Instrument}
use Rattle.song_model.specs.declared.orders.Order.{Order}
use Rattle.song_model.specs.declared.tables.TableRow.{TableRow}
use Rattle.song_gen.specs.Draws.{after}
use Rattle.song_gen.specs.GeneratedSong.{generated_song, instruments_from, pattern_from, order_from, behind_instruments}
use Rattle.song_gen.specs.GeneratedSong.{behind_patterns}

-- both sides of a row, as a number of four hexadecimal digits
abbrev pub row_number : TableRow → ℕ
row_number r = 256 * r.left + r.right

-- what isn't drawn of an instrument: its wave, pulse and filter program, its vibrato, its gate timer and its first
-- waveform
abbrev pub fixed_bytes : Instrument → List ℕ
fixed_bytes i = i.wave ∷ i.pulse ∷ i.filter ∷ i.vibrato ∷ i.gate_timer ∷ i.first_wave ∷ []

-- the tables and the instruments of the song of a number
pub record TablesAre (x : ℕ) : Type 0 where
  pub wave : map row_number (generated_song x).wave
      ≡ 0x2100 ∷ 0x4100 ∷ 0x4104 ∷ 0x4107 ∷ 0xFF02 ∷ 0x81C0 ∷ 0x1180 ∷ 0xF529 ∷ 0xFF00 ∷ []
  pub pulse : map row_number (generated_song x).pulse ≡ 0x8800 ∷ 0x2010 ∷ 0x20F0 ∷ 0xFF02 ∷ []
  pub filter : map row_number (generated_song x).filter
      ≡ 0x90F1 ∷ 0x0040 ∷ 0x3002 ∷ 0x30FE ∷ 0xFF03 ∷ []
  pub speed : map row_number (generated_song x).speed ≡ 0x0040 ∷ 0x0320 ∷ 0x8303 ∷ []
  pub instruments : map fixed_bytes (generated_song x).instruments
      ≡ (1 ∷ 1 ∷ 1 ∷ 0 ∷ 2 ∷ 0x09 ∷ []) ∷ (6 ∷ 1 ∷ 0 ∷ 1 ∷ 2 ∷ 0x09 ∷ [])
      ∷ (1 ∷ 1 ∷ 0 ∷ 2 ∷ 2 ∷ 0x09 ∷ []) ∷ (6 ∷ 1 ∷ 0 ∷ 3 ∷ 2 ∷ 0x09 ∷ []) ∷ []

abbrev pub EachHasTables : Type 0
EachHasTables = (x : ℕ) → TablesAre x

-- attack and decay, sustain and release, and the vibrato's delay
abbrev pub drawn_bytes : Instrument → List ℕ
drawn_bytes i = i.ad ∷ i.sr ∷ i.vibrato_delay ∷ []

abbrev pub row_bytes : Row → List ℕ
row_bytes r = r.note ∷ r.instrument ∷ r.command ∷ r.param ∷ []

abbrev pub first_rows : ℕ → List (List ℕ)
first_rows x = take 6 (map row_bytes (pattern_from (behind_instruments x)))

-- of the song of 0, and of the song of the greatest number of 64 bits
pub record FirstDrawsAre : Type 0 where
  pub instruments_of_0 : map drawn_bytes (instruments_from 0)
      ≡ (191 ∷ 8 ∷ 1 ∷ []) ∷ (116 ∷ 109 ∷ 11 ∷ []) ∷ (184 ∷ 199 ∷ 0 ∷ []) ∷ (155 ∷ 79
      ∷ 2 ∷ []) ∷ []
  pub rows_of_0 : first_rows 0
      ≡ (0xBD ∷ 0 ∷ 2 ∷ 1 ∷ []) ∷ (0xBD ∷ 0 ∷ 2 ∷ 1 ∷ []) ∷ (0xBE ∷ 0 ∷ 0 ∷ 0 ∷ [])
      ∷ (0xBE ∷ 0 ∷ 0 ∷ 0 ∷ []) ∷ (0xBD ∷ 0 ∷ 2 ∷ 2 ∷ []) ∷ (0xBD ∷ 0 ∷ 2 ∷ 1 ∷ []) ∷ []
  pub instruments_of_most : map drawn_bytes (instruments_from (2 ^ 64 - 1))
      ≡ (168 ∷ 183 ∷ 5 ∷ []) ∷ (2 ∷ 128 ∷ 3 ∷ []) ∷ (213 ∷ 151 ∷ 8 ∷ []) ∷ (124 ∷ 163
      ∷ 2 ∷ []) ∷ []
  pub rows_of_most : first_rows (2 ^ 64 - 1)
      ≡ (0xBD ∷ 0 ∷ 0 ∷ 0 ∷ []) ∷ (0xBD ∷ 0 ∷ 3 ∷ 2 ∷ []) ∷ (0x7C ∷ 3 ∷ 0 ∷ 0 ∷ [])
      ∷ (0xBD ∷ 0 ∷ 2 ∷ 3 ∷ []) ∷ (0x8B ∷ 2 ∷ 0 ∷ 0 ∷ []) ∷ (0x95 ∷ 2 ∷ 0 ∷ 0 ∷ []) ∷ []

-- the last orderlist of the song of 0
abbrev pub last_order : Order
last_order = order_from (after (behind_patterns 0) 1150)

-- it begins with a transpose
pub record LastDrawsAre : Type 0 where
  pub first : take 3 last_order.entries ≡ 0xF1 ∷ 57 ∷ 95 ∷ []
  pub entries : drop 46 last_order.entries ≡ 31 ∷ 91 ∷ 98 ∷ []
  pub restart : last_order.restart ≡ 36
