-- Words for the runs of small songs: the parts of a song, and the registers of many calls.
use Rattle.std.specs.Prelude.{◌≡◌, ℕ, zero, suc, ◌+◌, ◌/◌, ◌%◌, ◌^◌, Bool, true, List, []}
use Rattle.std.specs.Prelude.{◌∷◌, ◌++◌, length, map, replicate}
use Rattle.song_model.specs.declared.orders.Order.{Order}
use Rattle.song_model.specs.declared.orders.Subtune.{Subtune}
use Rattle.song_model.specs.declared.instruments.Instrument.{Instrument}
use Rattle.song_model.specs.declared.songs.Song.{Song}
use Rattle.play_model.specs.declared.options.Options.{Options}
use Rattle.play_model.specs.State.{at_speed}
use Rattle.play_model.specs.Frame.{trace_with}

abbrev pub order_from : List ℕ → ℕ → Order
order_from entries restart = record { entries = entries; restart = restart }

abbrev pub three_orders : Order → Order → Order → Subtune
three_orders one two three = record { one = one; two = two; three = three }

-- its nine numbers in the order of the file, without a name
abbrev pub instrument : ℕ → ℕ → ℕ → ℕ → ℕ → ℕ → ℕ → ℕ → ℕ → Instrument
instrument ad sr wave pulse filter vibrato vibrato_delay gate_timer first_wave = record {
  ad = ad;
  sr = sr;
  wave = wave;
  pulse = pulse;
  filter = filter;
  vibrato = vibrato;
  vibrato_delay = vibrato_delay;
  gate_timer = gate_timer;
  first_wave = first_wave;
  name = replicate 16 0;
}

-- whether effects are left out at tick 0, and the pulse step where a row is fetched, and the speed
abbrev pub left_out : Bool → Bool → ℕ → Options
left_out effects pulse speed = record (at_speed speed) { skip_effects = effects; skip_pulse = pulse }

-- the pulse step is left out between two patterns, alone
abbrev pub first_left_out : ℕ → Options
first_left_out speed = record (at_speed speed) { skip_first = true }

-- all of them are
abbrev pub all_left_out : ℕ → Options
all_left_out speed = record (left_out true true speed) { skip_first = true }

-- the registers of silence: zeros, and the volume in the last one
abbrev pub silent_registers : List ℕ
silent_registers = replicate 24 0 ++ 15 ∷ []

-- something of n calls, from this one on
abbrev pub from_call : {X : Type 0} → (ℕ → X) → ℕ → ℕ → List X
from_call of call zero = []
from_call of call (suc n) = of call ∷ from_call of (call + 1) n

-- as many digits of a number to the base 256, the highest first
abbrev pub digits : ℕ → ℕ → List ℕ
digits zero n = []
digits (suc count) n = n / 256 ^ count % 256 ∷ digits count n

-- the registers after the calls from 1 on, those of each call as the 25 digits of a number
pub record Plays (o : Options) (song : Song) (k : ℕ) (lines : List ℕ) : Type 0 where
  pub registers : from_call (trace_with o song k) 1 (length lines) ≡ map (digits 25) lines
