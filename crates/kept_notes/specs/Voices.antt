-- What a voice of a playable song keeps of notes, numbers and timers. This is this project's own.
use Rattle.std.specs.Prelude.{◌≡◌, ◌≢◌, ℕ, ◌%◌, ◌⊎◌}
use Rattle.song_model.specs.declared.songs.Song.{Song}
use Rattle.song_model.specs.LookUp.{instrument_at}
use Rattle.play_model.specs.Wrap.{byte_minus}
use Rattle.play_model.specs.State.{Voice, FrameState}
use Rattle.play_model.specs.Used.{IsUsedInstrument}
use Rattle.asked_numbers.specs.Numbers.{IsPlayedNote, IsSoundingNote, IsLastNumber}

-- A voice's note may sound; or it is the one that the voice began with, and neither a wave program nor a slide asks
-- for it.
pub data IsKeptNote (song : Song) (note wave_ptr command : ℕ) : Type 0 where
  sounding : IsSoundingNote song note → IsKeptNote song note wave_ptr command
  silent : note ≡ 0 → wave_ptr ≡ 0 → command ≢ 3 → IsKeptNote song note wave_ptr command

-- the low six bits of the gateoff timer of an instrument that the song uses
pub record IsUsedTimer (song : Song) (timer : ℕ) : Type 0 where
  pub instrument : ℕ
  pub used : IsUsedInstrument song instrument
  pub is : timer ≡ (instrument_at song instrument).gate_timer % 64

pub record KeepsNotes (song : Song) (v : Voice) : Type 0 where
  pub note : IsKeptNote song v.note v.wave_ptr v.command
  -- a note that waits is one that is played
  pub new_note : v.new_note ≢ 0 → IsPlayedNote song (byte_minus v.new_note 0x60)
  pub last : IsLastNumber song v.last_note
  -- the timer is one of the song, or the voice is as it began, a frame before its first row, which sets it
  pub timer : ((v.tick ≡ 1) × (v.gate_timer ≡ 0)) ⊎ IsUsedTimer song v.gate_timer

-- each voice of a state does
pub record KeepAllNotes (song : Song) (x : FrameState) : Type 0 where
  pub one : KeepsNotes song x.one
  pub two : KeepsNotes song x.two
  pub three : KeepsNotes song x.three
