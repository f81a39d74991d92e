-- The voices of a playable song keep its notes and timers, and look up only numbers that it asks for.
use Rattle.std.specs.Prelude.{◌≡◌, ◌≢◌, ℕ, ◌+◌, ◌%◌, ◌<◌, false, length}
use Rattle.song_model.specs.declared.orders.Order.{Order}
use Rattle.song_model.specs.declared.features.Feature.TheVariants.{NoteDependent}
use Rattle.song_model.specs.declared.tables.TableRow.{TableRow}
use Rattle.song_model.specs.declared.tables.TableName.TheVariants.{Wave}
use Rattle.song_model.specs.declared.songs.Song.{Song}
use Rattle.song_model.specs.Limits.{KeepsLimits}
use Rattle.song_model.specs.LookUp.{playable_subtunes, table_row}
use Rattle.play_model.specs.declared.options.Options.{Options}
use Rattle.play_model.specs.Speeds.{IsSpeed}
use Rattle.play_model.specs.LookUps.{look_ups_of}
use Rattle.play_model.specs.Freq.{freq}
use Rattle.play_model.specs.State.{Voice, FrameState, Playing, start_state}
use Rattle.play_model.specs.TickStep.{tick_step}
use Rattle.play_model.specs.WaveStep.{is_wave_command, wave_note, wave_step}
use Rattle.play_model.specs.EffectStep.{effect_step}
use Rattle.play_model.specs.PulseStep.{pulse_step}
use Rattle.play_model.specs.FetchRow.{fetch_row}
use Rattle.play_model.specs.Frame.{voice_step, filter_done, voice_done, effect_done, subtune_at, frame_with}
use Rattle.play_model.specs.Frame.{state_after_with}
use Rattle.play_model.specs.Used.{IsChannel, IsPlayedOrder}
use Rattle.play_model.specs.Playable.{IsPlayable}
use Rattle.play_model.specs.Features.{HasFeature}
use Rattle.play_model.specs.Safe.{IsSafeVoice, IsSafe}
use Rattle.safe_states.specs.SafeLaws.{IsSafePlaying}
use Rattle.asked_numbers.specs.Numbers.{IsAskedNumber}
use Rattle.kept_notes.specs.Voices.{IsUsedTimer, KeepsNotes, KeepAllNotes}

-- ---- look-ups

-- the row that a voice's wave program is at
abbrev pub wave_row_of : Song → Voice → TableRow
wave_row_of song v = table_row song Wave v.wave_ptr

-- what a voice's step may look up
pub record LooksUpAsked (song : Song) (v : Voice) : Type 0 where
  -- the number that a row of its wave program sets
  pub row : v.wave_ptr ≢ 0 → is_wave_command (wave_row_of song v) ≡ false → (wave_row_of song v).right ≢ 0x80 →
      IsAskedNumber song (wave_note (wave_row_of song v).right v.note)
  -- that of the note that a row of it, or the running command, slides to: the note has the number's frequency
  pub wave_slide : v.wave_ptr ≢ 0 → (wave_row_of song v).left ≡ 0xF3 → IsAskedNumber song (v.note % 128)
  pub slide : v.command ≡ 3 → IsAskedNumber song (v.note % 128)
  pub target : freq v.note ≡ freq (v.note % 128)
  -- the ends of the half tone that speeds are taken from
  pub half_tone_from : HasFeature song NoteDependent → IsAskedNumber song v.last_note
  pub half_tone_to : HasFeature song NoteDependent → IsAskedNumber song (v.last_note + 1)

abbrev pub VoicesLookUpAsked : Type 0
VoicesLookUpAsked =
    (song : Song) (order : Order) (v : Voice) → IsSafeVoice song order v → KeepsNotes song v → LooksUpAsked song v

-- ---- gateoff timers

-- when a voice comes to its fetch, behind the tick, the wave and the effect step, its timer is one of the song
abbrev pub TimersAreUsed : Type 0
TimersAreUsed =
    (song : Song) (order : Order) (channel : ℕ) (o : Options) (s : Playing) → IsSafeVoice song order s.voice →
    KeepsNotes song s.voice →
    IsUsedTimer song
    (effect_done o (look_ups_of song) (wave_step (look_ups_of song)
    (tick_step channel (look_ups_of song) s).playing)).voice.gate_timer

-- ---- within a frame

-- the rules of a voice that plays this orderlist
pub record VoiceRulesKeepNotes (song : Song) (order : Order) : Type 0 where
  pub tick : (channel : ℕ) (s : Playing) → IsSafeVoice song order s.voice → KeepsNotes song s.voice →
      KeepsNotes song (tick_step channel (look_ups_of song) s).playing.voice
  pub wave : (s : Playing) → IsSafeVoice song order s.voice → KeepsNotes song s.voice →
      KeepsNotes song (wave_step (look_ups_of song) s).playing.voice
  pub effect : (v : Voice) → IsSafeVoice song order v → KeepsNotes song v →
      KeepsNotes song (effect_step (look_ups_of song) v)
  pub pulse : (v : Voice) → KeepsNotes song v → KeepsNotes song (pulse_step (look_ups_of song) v)
  pub fetch : (v : Voice) → IsSafeVoice song order v → KeepsNotes song v →
      KeepsNotes song (fetch_row (look_ups_of song) order v)
  pub voice : (channel : ℕ) (o : Options) (s : Playing) → IsSafePlaying song order s → KeepsNotes song s.voice →
      KeepsNotes song (voice_step channel o (look_ups_of song) order s).voice

-- the filter step and the steps of the voices, from which a frame is made up
pub record StepsKeepNotes (o : Options) (song : Song) (k : ℕ) : Type 0 where
  pub filter : (x : FrameState) → KeepAllNotes song x → KeepAllNotes song (filter_done (look_ups_of song) x)
  pub voice : (channel : ℕ) (x : FrameState) → IsChannel channel → IsSafe song k x → KeepAllNotes song x →
      KeepAllNotes song (voice_done channel o (look_ups_of song) (subtune_at song k) x)

pub record KeepsNotesWithin (song : Song) : Type 0 where
  pub rules : (order : Order) → IsPlayedOrder song order → VoiceRulesKeepNotes song order
  pub steps : (o : Options) (k : ℕ) → k < length (playable_subtunes song) → StepsKeepNotes o song k

abbrev pub NotesWithin : Type 0
NotesWithin = (song : Song) → KeepsLimits song → IsPlayable song → KeepsNotesWithin song

-- ---- frames

-- each start keeps the song's notes, and each frame does
pub record PlaysItsNotes (o : Options) (song : Song) (k : ℕ) : Type 0 where
  pub start : KeepAllNotes song (start_state o)
  pub kept : (x : FrameState) → IsSafe song k x → KeepAllNotes song x → KeepAllNotes song (frame_with o song k x).state

abbrev pub PlayableSongsPlayTheirNotes : Type 0
PlayableSongsPlayTheirNotes =
    (o : Options) (song : Song) (k : ℕ) → KeepsLimits song → IsPlayable song →
    k < length (playable_subtunes song) → PlaysItsNotes o song k

-- so the state after any number of frames does
abbrev pub StatesKeepNotes : Type 0
StatesKeepNotes =
    (o : Options) (song : Song) (k i : ℕ) → IsSpeed o.speed → KeepsLimits song → IsPlayable song →
    k < length (playable_subtunes song) → KeepAllNotes song (state_after_with o song k i)
