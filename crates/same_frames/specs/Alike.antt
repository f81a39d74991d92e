-- Two states, one of a song and one of other look-ups: they differ in the numbers of the parts alone.
use Rattle.std.specs.Prelude.{◌≡◌, ◌≢◌, ℕ, zero, suc, List, [], ◌∷◌}
use Rattle.song_model.specs.declared.rows.Row.{Row}
use Rattle.song_model.specs.declared.orders.Order.{Order}
use Rattle.song_model.specs.declared.tables.TableName.TheVariants.{Wave, Pulse, Filter, Speed}
use Rattle.song_model.specs.declared.songs.Song.{Song}
use Rattle.song_model.specs.Walk.{played}
use Rattle.song_model.specs.LookUp.{pattern_at, order_of}
use Rattle.song_model.specs.Pointers.{command_table}
use Rattle.play_model.specs.State.{Voice, Common, FrameState, Playing}
use Rattle.play_model.specs.Frame.{subtune_at}
use Rattle.play_model.specs.Safe.{IsSafeVoice, IsSafeCommon}
use Rattle.same_frames.specs.Maps.{Maps, moved_pointer, named_after}

-- the last instrument named above this place of a pattern, where this one was named before its first row
abbrev pub named_above : ℕ → List Row → ℕ → ℕ
named_above last rows zero = last
named_above last [] (suc place) = last
named_above last (row ∷ rows) (suc place) = named_above (named_after last row) rows place

-- a voice with its pointers and its instrument moved, and with this waiting parameter
abbrev pub moved_voice : Maps → ℕ → Voice → Voice
moved_voice maps param v = record v {
  instrument = maps.instrument v.instrument;
  new_param = param;
  param = maps.row Speed v.param;
  wave_ptr = maps.row Wave v.wave_ptr;
  pulse_ptr = maps.row Pulse v.pulse_ptr;
}

-- a pointer that waits goes by the map of its command's table; what waits with command 0 says nothing
abbrev pub WaitsFor : Maps → ℕ → ℕ → ℕ → Type 0
WaitsFor maps command param other =
    command ≢ 0 → other ≡ moved_pointer maps (command_table command) param

-- in the pattern that is on, this instrument is the last one named above this row, or none is named there
abbrev pub IsNamedLast : Song → Order → ℕ → ℕ → ℕ → Type 0
IsNamedLast song order plays row instrument =
    named_above 0 (pattern_at song (played order plays).pattern) row ≢ 0 →
    instrument ≡ named_above 0 (pattern_at song (played order plays).pattern) row

-- a safe voice of the song, and one that does the same
pub record VoicesAreAlike (maps : Maps) (song : Song) (order : Order) (v other : Voice) : Type 0 where
  pub safe : IsSafeVoice song order v
  pub named : IsNamedLast song order v.plays v.row v.instrument
  pub moved : other ≡ moved_voice maps other.new_param v
  pub waiting : WaitsFor maps v.new_command v.new_param other.new_param

-- what the voices share, with its pointer moved
abbrev pub moved_common : Maps → Common → Common
moved_common maps c = record c { filter_ptr = maps.row Filter c.filter_ptr }

pub record CommonsAreAlike (maps : Maps) (song : Song) (c other : Common) : Type 0 where
  pub safe : IsSafeCommon song c
  pub moved : other ≡ moved_common maps c

-- a voice at its step
pub record PlayingsAreAlike (maps : Maps) (song : Song) (order : Order) (s other : Playing) : Type 0 where
  pub voice : VoicesAreAlike maps song order s.voice other.voice
  pub common : CommonsAreAlike maps song s.common other.common

-- states of playable subtune k, counted from 0
pub record StatesAreAlike (maps : Maps) (song : Song) (k : ℕ) (x other : FrameState) : Type 0 where
  pub common : CommonsAreAlike maps song x.common other.common
  pub one : VoicesAreAlike maps song (order_of 1 (subtune_at song k)) x.one other.one
  pub two : VoicesAreAlike maps song (order_of 2 (subtune_at song k)) x.two other.two
  pub three : VoicesAreAlike maps song (order_of 3 (subtune_at song k)) x.three other.three
