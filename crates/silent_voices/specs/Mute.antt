-- When a voice has nothing to sound, and which channels have nothing to play. This is this project's own.
use Rattle.std.specs.Prelude.{◌≡◌, ℕ, replicate}
use Rattle.song_model.specs.declared.orders.Order.{Order}
use Rattle.song_model.specs.declared.songs.Song.{Song}
use Rattle.play_model.specs.declared.options.Options.{Options}
use Rattle.play_model.specs.LookUps.{LookUps}
use Rattle.play_model.specs.State.{Voice, Playing}
use Rattle.play_model.specs.Frame.{voice_step, voice_registers}
use Rattle.song_facts.specs.Facts.{IsHeard, HasChannelRow}

-- nothing of the voice waits, runs or sounds
pub record IsMute (v : Voice) : Type 0 where
  -- no note waits, and no command
  pub new_note : v.new_note ≡ 0
  pub new_command : v.new_command ≡ 0
  -- no command runs, and no vibrato is to come
  pub command : v.command ≡ 0
  pub vib_delay : v.vib_delay ≡ 0
  -- no program runs
  pub wave_ptr : v.wave_ptr ≡ 0
  pub pulse_ptr : v.pulse_ptr ≡ 0
  -- it has no frequency, no pulse width, no waveform and no envelope
  pub freq : v.freq ≡ 0
  pub pulse : v.pulse ≡ 0
  pub wave : v.wave ≡ 0
  pub ad : v.ad ≡ 0
  pub sr : v.sr ≡ 0

-- no pattern that the channel's orderlists name has a row with a note or a command
abbrev pub IsSilentChannel : Song → ℕ → Type 0
IsSilentChannel song channel = ¬ HasChannelRow song channel IsHeard

-- the step of the voice of this channel leaves what the voices share as it was, and the voice's seven registers at 0
pub record StaysSilent (o : Options) (look : LookUps) (order : Order) (channel : ℕ) (s : Playing) : Type 0 where
  pub common : (voice_step channel o look order s).common ≡ s.common
  pub registers : voice_registers (voice_step channel o look order s).voice ≡ replicate 7 0
