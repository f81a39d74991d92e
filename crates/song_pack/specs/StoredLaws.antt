-- What a frame of a complete song looks up is stored: whatever state a subtune comes to, between two frames or within
-- one, is safe, and all that a safe state names is there.
use Rattle.std.specs.Prelude.{◌≡◌, ◌≢◌, ℕ, ◌+◌, ◌<◌, false, length, Some}
use Rattle.song_model.specs.declared.orders.Order.{Order}
use Rattle.song_model.specs.declared.songs.Song.{Song}
use Rattle.song_model.specs.declared.tables.TableName.{TableName}
use Rattle.song_model.specs.declared.tables.TableName.TheVariants.{Wave, Pulse, Filter}
use Rattle.song_model.specs.Limits.{KeepsLimits}
use Rattle.song_model.specs.LookUp.{IsNumbered, table_of, table_row, pattern_at, order_of, playable_subtunes}
use Rattle.song_model.specs.Pointers.{command_table, wave_row_table}
use Rattle.song_model.specs.Walk.{played}
use Rattle.play_model.specs.State.{Voice, Common, FrameState}
use Rattle.play_model.specs.Frame.{subtune_at}
use Rattle.play_model.specs.Used.{IsPlayedOrder}
use Rattle.play_model.specs.Reached.{is_last}
use Rattle.play_model.specs.Safe.{IsSafeVoice, IsSafeCommon, IsSafe}
use Rattle.packed_form.specs.StandsFor.{IsComplete}

-- the row that a program is at, and the row after it where the program goes on
pub record FindsRows (song : Song) (name : TableName) (p : ℕ) : Type 0 where
  pub here : p ≢ 0 → IsNumbered (table_of song name) p
  pub next : p ≢ 0 → is_last name (table_row song name p) ≡ false → IsNumbered (table_of song name) (p + 1)

-- what a voice names, that plays this orderlist
pub record VoiceFindsAll (song : Song) (order : Order) (v : Voice) : Type 0 where
  pub instrument : IsNumbered song.instruments v.instrument
  pub wave : FindsRows song Wave v.wave_ptr
  pub pulse : FindsRows song Pulse v.pulse_ptr
  -- what a row of the wave program points at
  pub pointed : (name : TableName) → v.wave_ptr ≢ 0 →
      wave_row_table (table_row song Wave v.wave_ptr).left ≡ Some name → (table_row song Wave v.wave_ptr).right ≢ 0 →
      IsNumbered (table_of song name) (table_row song Wave v.wave_ptr).right
  -- what the waiting command points at, and the speed that runs
  pub waiting : (name : TableName) → command_table v.new_command ≡ Some name → v.new_param ≢ 0 →
      IsNumbered (table_of song name) v.new_param
  pub running : v.param ≢ 0 → IsNumbered song.speed v.param
  -- the row that is fetched next
  pub pattern : (played order v.plays).pattern < length song.patterns
  pub row : v.row < length (pattern_at song (played order v.plays).pattern)

-- a state of playable subtune k, counted from 0
pub record FindsAll (song : Song) (k : ℕ) (x : FrameState) : Type 0 where
  pub filter : FindsRows song Filter x.common.filter_ptr
  pub one : VoiceFindsAll song (order_of 1 (subtune_at song k)) x.one
  pub two : VoiceFindsAll song (order_of 2 (subtune_at song k)) x.two
  pub three : VoiceFindsAll song (order_of 3 (subtune_at song k)) x.three

-- so each rule of a frame finds what it looks up
pub record UsedIsStored (song : Song) : Type 0 where
  pub voice : (order : Order) (v : Voice) → IsPlayedOrder song order → IsSafeVoice song order v → VoiceFindsAll song
      order v
  pub common : (c : Common) → IsSafeCommon song c → FindsRows song Filter c.filter_ptr
  pub state : (k : ℕ) (x : FrameState) → k < length (playable_subtunes song) → IsSafe song k x → FindsAll song k x

abbrev pub CompleteSongsFindAll : Type 0
CompleteSongsFindAll = (song : Song) → KeepsLimits song → IsComplete song → UsedIsStored song
