-- The ranges of what the rules of a frame work on: look-ups, and what is kept from frame to frame.
use Rattle.std.specs.Prelude.{ℕ, ◌<◌}
use Rattle.base.specs.Bytes.{IsByte, IsWord}
use Rattle.song_model.specs.declared.rows.Row.{Row}
use Rattle.song_model.specs.declared.tables.TableName.{TableName}
use Rattle.song_model.specs.Limits.{IsInstrument, IsTableRow}
use Rattle.song_model.specs.LookUp.{pattern_row}
use Rattle.play_model.specs.LookUps.{LookUps}
use Rattle.play_model.specs.State.{Voice, Common, FrameState, Playing}

-- a row of a pattern, or the zero row that is found after the last one
pub record IsBytesRow (row : Row) : Type 0 where
  pub note : IsByte row.note
  pub instrument : IsByte row.instrument
  pub command : IsByte row.command
  pub param : IsByte row.param

-- whatever is looked up, bytes are found
pub record AreLookUps (look : LookUps) : Type 0 where
  pub instrument : (n : ℕ) → IsInstrument (look.instrument n)
  pub row : (name : TableName) (p : ℕ) → IsTableRow (look.row name p)
  pub rows : (n place : ℕ) → IsBytesRow (pattern_row (look.rows n) place)

-- a pulse width has 12 bits, and the last note 7; the count of plays has no range
pub record IsVoice (v : Voice) : Type 0 where
  pub row : IsByte v.row
  pub tick : IsByte v.tick
  pub gate_timer : IsByte v.gate_timer
  pub instrument : IsByte v.instrument
  pub note : IsByte v.note
  pub new_note : IsByte v.new_note
  pub new_command : IsByte v.new_command
  pub new_param : IsByte v.new_param
  pub command : IsByte v.command
  pub param : IsByte v.param
  pub ad : IsByte v.ad
  pub sr : IsByte v.sr
  pub vib_time : IsByte v.vib_time
  pub vib_delay : IsByte v.vib_delay
  pub wave : IsByte v.wave
  pub gate : IsByte v.gate
  pub freq : IsWord v.freq
  pub last_note : v.last_note < 128
  pub wave_ptr : IsByte v.wave_ptr
  pub wave_time : IsByte v.wave_time
  pub pulse_ptr : IsByte v.pulse_ptr
  pub pulse_time : IsByte v.pulse_time
  pub pulse : v.pulse < 4096

pub record IsCommon (c : Common) : Type 0 where
  pub tempo_one : IsByte c.tempo_one
  pub tempo_two : IsByte c.tempo_two
  pub tempo_three : IsByte c.tempo_three
  pub funk_one : IsByte c.funk_one
  pub funk_two : IsByte c.funk_two
  pub filter_ptr : IsByte c.filter_ptr
  pub filter_time : IsByte c.filter_time
  pub filter_type : IsByte c.filter_type
  pub filter_control : IsByte c.filter_control
  pub cutoff : IsByte c.cutoff
  pub volume : IsByte c.volume

pub record IsPlaying (s : Playing) : Type 0 where
  pub voice : IsVoice s.voice
  pub common : IsCommon s.common

pub record IsFrameState (x : FrameState) : Type 0 where
  pub common : IsCommon x.common
  pub one : IsVoice x.one
  pub two : IsVoice x.two
  pub three : IsVoice x.three
