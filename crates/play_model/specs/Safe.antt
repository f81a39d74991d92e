-- Which states a playable song may come to: a voice keeps only what the song uses. This is this project's own.
use Rattle.std.specs.Prelude.{◌≡◌, ◌≢◌, ℕ, ◌<◌, ◌≤◌, ◌⊎◌, length}
use Rattle.song_model.specs.declared.rows.Row.{Row}
use Rattle.song_model.specs.declared.orders.Order.{Order}
use Rattle.song_model.specs.declared.features.Feature.TheVariants.{FunkTempo}
use Rattle.song_model.specs.declared.tables.TableName.{TableName}
use Rattle.song_model.specs.declared.tables.TableName.TheVariants.{Wave, Pulse, Filter}
use Rattle.song_model.specs.declared.songs.Song.{Song}
use Rattle.song_model.specs.Walk.{played}
use Rattle.song_model.specs.LookUp.{table_row, instrument_at, pattern_at, order_of}
use Rattle.play_model.specs.State.{Voice, Common, FrameState}
use Rattle.play_model.specs.Frame.{subtune_at}
use Rattle.play_model.specs.Used.{IsUsedRow, IsUsedInstrument}
use Rattle.play_model.specs.Reached.{IsStep}
use Rattle.play_model.specs.Features.{HasInstrument, HasFeature}

-- a program is at a reached row that isn't a jump, or has stopped
abbrev pub IsSafePointer : Song → TableName → ℕ → Type 0
IsSafePointer song name p = (p ≡ 0) ⊎ IsStep song name p

-- a program that goes on with its row is within the frames that the row's left side gives
pub record IsWithinRow (left time : ℕ) : Type 0 where
  pub least : 1 ≤ left
  pub most : left ≤ 0x7F
  pub within : time ≤ left

abbrev pub IsSafeTime : Song → TableName → ℕ → ℕ → Type 0
IsSafeTime song name p time = p ≢ 0 → time ≢ 0 → IsWithinRow (table_row song name p).left time

-- a row of a used pattern has the command and its parameter
pub record HasCommand (song : Song) (command param : ℕ) : Type 0 where
  pub row : Row
  pub used : IsUsedRow song row
  pub command_is : row.command ≡ command
  pub param_is : row.param ≡ param

-- what waits is a row's, or nothing has been fetched yet
pub data IsSafeWaiting (song : Song) : ℕ → ℕ → Type 0 where
  none : IsSafeWaiting song 0 0
  of_row : {command param : ℕ} → HasCommand song command param → IsSafeWaiting song command param

-- what runs is an instrument's vibrato, or one of the commands 1 to 4 of a row
pub data IsSafeRunning (song : Song) : ℕ → ℕ → Type 0 where
  none : IsSafeRunning song 0 0
  of_instrument : (i : ℕ) → IsUsedInstrument song i → IsSafeRunning song 0 (instrument_at song i).vibrato
  of_row : {command param : ℕ} → 1 ≤ command → command ≤ 4 → HasCommand song command param →
      IsSafeRunning song command param

-- a note that sounds: 0 to 106, or one of the 16 half tones below, which are bytes from 240 on
abbrev pub IsSafeNote : ℕ → Type 0
IsSafeNote note = (note ≤ 106) ⊎ ((240 ≤ note) × (note ≤ 255))

-- a note that waits: that of a row with a transpose, $50 to $CA, or 0 for none
abbrev pub IsSafeNewNote : ℕ → Type 0
IsSafeNewNote note = (note ≡ 0) ⊎ ((0x50 ≤ note) × (note ≤ 0xCA))

-- a delay of the wave program has waited for at most as many frames as it says, and another row for none
pub record HasWaited (left time : ℕ) : Type 0 where
  pub delay : left < 0x10 → time ≤ left
  pub other : 0x10 ≤ left → time ≡ 0

abbrev pub IsSafeWait : Song → ℕ → ℕ → Type 0
IsSafeWait song p time = p ≢ 0 → HasWaited (table_row song Wave p).left time

pub record IsSafeVoice (song : Song) (order : Order) (v : Voice) : Type 0 where
  pub instrument : IsUsedInstrument song v.instrument
  pub note : IsSafeNote v.note
  pub new_note : IsSafeNewNote v.new_note
  pub wave : IsSafePointer song Wave v.wave_ptr
  pub wave_time : IsSafeWait song v.wave_ptr v.wave_time
  pub pulse : IsSafePointer song Pulse v.pulse_ptr
  pub pulse_time : IsSafeTime song Pulse v.pulse_ptr v.pulse_time
  pub waiting : IsSafeWaiting song v.new_command v.new_param
  pub running : IsSafeRunning song v.command v.param
  pub delay : v.vib_delay ≢ 0 → HasInstrument song (λ i. (instrument_at song i).vibrato_delay)
  -- the row is one of the pattern of the play that is on
  pub row : v.row < length (pattern_at song (played order v.plays).pattern)

-- a funk tempo is one that the song sets
abbrev pub IsSafeTempo : Song → ℕ → Type 0
IsSafeTempo song tempo = tempo < 2 → HasFeature song FunkTempo

pub record IsSafeCommon (song : Song) (c : Common) : Type 0 where
  pub tempo_one : IsSafeTempo song c.tempo_one
  pub tempo_two : IsSafeTempo song c.tempo_two
  pub tempo_three : IsSafeTempo song c.tempo_three
  pub filter : IsSafePointer song Filter c.filter_ptr
  pub filter_time : IsSafeTime song Filter c.filter_ptr c.filter_time

-- a state of playable subtune k, counted from 0
pub record IsSafe (song : Song) (k : ℕ) (x : FrameState) : Type 0 where
  pub common : IsSafeCommon song x.common
  pub one : IsSafeVoice song (order_of 1 (subtune_at song k)) x.one
  pub two : IsSafeVoice song (order_of 2 (subtune_at song k)) x.two
  pub three : IsSafeVoice song (order_of 3 (subtune_at song k)) x.three
