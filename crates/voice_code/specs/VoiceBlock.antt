-- The code of a voice in a frame, and what it does. This is the project's own player.
use Rattle.std.specs.Prelude.{◌≡◌, ◌≢◌, ℕ, ◌+◌, ◌*◌, ◌-◌, ◌<◌, ◌≤◌, ◌⊎◌, true}
use Rattle.std.specs.Prelude.{false, List, slice_index}
use Rattle.song_model.specs.declared.orders.Order.{Order}
use Rattle.song_model.specs.declared.tables.TableName.TheVariants.{Speed}
use Rattle.play_model.specs.declared.options.Options.{Options}
use Rattle.play_model.specs.LookUps.{LookUps}
use Rattle.play_model.specs.State.{Voice, Playing}
use Rattle.play_model.specs.TickStep.{tick_step}
use Rattle.play_model.specs.WaveStep.{Waved, wave_note, wave_step}
use Rattle.play_model.specs.Frame.{effect_done, pulse_left_out, voice_step, voice_registers}
use Rattle.asked_numbers.specs.declared.range.NumberRange.{NumberRange}
use Rattle.asked_numbers.specs.Range.{IsInRange}
use Rattle.scopes.specs.Desk.{Desk, Layout}
use Rattle.scopes.specs.Meaning.{Done, Left, Ran, each_one, ran}
use Rattle.player_memory.specs.declared.conditions.TheConstants.{NOTE_DEPENDENT, PULSE_TABLE}
use Rattle.player_memory.specs.declared.conditions.TheConstants.{SKIP_EFFECTS, SKIP_PULSE, SKIP_FIRST}
use Rattle.player_memory.specs.declared.labels.TheConstants.{LENT, TEMPO}
use Rattle.player_memory.specs.FactLines.{is_run}
use Rattle.player_memory.specs.Labels.{is_own}
use Rattle.player_memory.specs.Rooms.{IsRoom, IsElsewhere, MayUse}
use Rattle.player_memory.specs.Playing.{own_at, shared_at, IsPlaying, IsAtVoice, SlidesStay}
use Rattle.player_text.specs.declared.joints.TheConstants.{PITCHED, COMMANDED}
use Rattle.player_text.specs.Texts.{voice_tree}
use Rattle.tick_code.specs.TickBlock.{IsRowDone, HasTickLists, HasOneWave, IsInLists, KeepsTick}
use Rattle.wave_code.specs.WaveBlock.{HasWaveTable, IsOnWave, KeepsWave, its_row, begun, way_of}
use Rattle.wave_code.specs.CommandBlock.{KeepsOnce, IsOnce, lent_out}
use Rattle.wave_code.specs.EffectBlock.{HasEffect, KeepsEffect, running, left_out}
use Rattle.fetch_code.specs.FetchBlock.{HasOrderlist, HasRows}
use Rattle.player_memory.specs.Fetching.{IsInSong}
use Rattle.slide_code.specs.SlideBlock.{HasHalfTones, HasSpeeds, IsNote, LooksUpWithin, KeepsSlide, KeepsCommon}
use Rattle.pulse_code.specs.PulseBlock.{HasPulseTable, IsOnRow}
use Rattle.register_code.specs.RegisterBlock.{registers_of}

-- ---- what is read

-- how many instruments there are, and rows of the tables; and of which numbers there are frequencies
pub record Counts : Type 0 where
  pub instruments : ℕ
  pub waves : ℕ
  pub pulses : ℕ
  pub speeds : ℕ
  pub numbers : NumberRange

-- instruments, tables and frequencies stand in their lists
pub record HasVoiceLists (layout : Layout) (rows : ℕ) (at : ℕ → ℕ) (look : LookUps) (counts : Counts) : Type 0 where
  pub ticks : HasTickLists layout rows at look counts.instruments counts.speeds
  pub waves : HasWaveTable layout rows at look counts.waves
  pub tones : HasHalfTones layout rows at counts.numbers
  pub speeds : HasSpeeds layout rows at look counts.speeds
  pub pulses : HasPulseTable layout rows at look counts.pulses

-- ---- what a step is ready for

-- a command moves the voice's frequency: its parameter is one of the rows of the speed table, or 0, there are the
-- frequencies that it looks up, and its lines are kept
pub record IsMoved (layout : Layout) (look : LookUps) (counts : Counts) (command : ℕ) (v : Voice) : Type 0 where
  pub param : v.param ≤ counts.speeds
  pub frequency : v.freq < 65536
  pub note : IsNote v.note
  pub looks : LooksUpWithin counts.numbers look command v
  pub keeps : KeepsSlide layout look command v

-- the command of the row of the wave program, and its parameter
abbrev pub its_command : LookUps → Voice → ℕ
its_command look v = (its_row look v).left - 0xF0

abbrev pub its_param : LookUps → Voice → ℕ
its_param look v = (its_row look v).right

-- the row of the wave program is a command, and no delay
abbrev pub MeetsCommand : LookUps → Playing → Type 0
MeetsCommand look s = way_of look s ≡ Left COMMANDED

-- the row of the wave program sets a number
abbrev pub MeetsNumber : LookUps → Playing → Type 0
MeetsNumber look s = way_of look s ≡ Left PITCHED

-- the wave step: where its row sets a number, there is its frequency; where it is a command, this is done once, or lent
-- and moves the frequency
pub record WaveIsReady (layout : Layout) (look : LookUps) (counts : Counts) (s : Playing) : Type 0 where
  pub on : IsOnWave look counts.waves s.voice
  pub keeps : KeepsWave layout look s.voice
  pub number : MeetsNumber look s →
      IsInRange counts.numbers (wave_note (its_row look s.voice).right s.voice.note)
  pub once : MeetsCommand look s → IsOnce (its_command look s.voice) → KeepsOnce layout (its_command look s.voice)
  pub lent : MeetsCommand look s → 1 ≤ its_command look s.voice → its_command look s.voice ≤ 4 →
      IsMoved layout look counts (its_command look s.voice)
      (lent_out (its_command look s.voice) (its_param look s.voice) (begun look s)).voice

-- the effect step: where a command runs it moves the frequency
pub record EffectIsReady (layout : Layout) (look : LookUps) (counts : Counts) (v : Voice) : Type 0 where
  pub has : HasEffect v
  pub keeps : KeepsEffect layout v
  pub moves : left_out (layout.holds SKIP_EFFECTS) v ≡ false → running v ≢ 0 →
      IsMoved layout look counts (running v) v

-- the pulse step
pub record PulseIsReady (layout : Layout) (look : LookUps) (counts : Counts) (v : Voice) : Type 0 where
  pub on : IsOnRow look counts.pulses v
  pub keeps : v.pulse_ptr ≢ 0 → layout.holds PULSE_TABLE ≡ true

-- what the wave step and then the effect step leave, behind a tick step that has started no note
abbrev pub waved : ℕ → LookUps → Playing → Waved
waved channel look s = wave_step look (tick_step channel look s).playing

abbrev pub effected : ℕ → Options → LookUps → Playing → Playing
effected channel o look s = effect_done o look (waved channel look s)

-- the options that are kept are those that are on
pub record KeepsOptions (layout : Layout) (o : Options) : Type 0 where
  pub effects : layout.holds SKIP_EFFECTS ≡ o.skip_effects
  pub pulse : layout.holds SKIP_PULSE ≡ o.skip_pulse
  pub first : layout.holds SKIP_FIRST ≡ o.skip_first

-- What each step of the voice comes to: where its row is done and one first waveform stands for all instruments, that is
-- its own; where a note has started the step is over; else the wave step, the effect step,
-- the fetch and the pulse step follow, and are ready for the state that they find.
pub record VoiceIsReady (layout : Layout) (rows : ℕ) (at : ℕ → ℕ) (channel : ℕ) (o : Options) (look : LookUps)
    (packed : ℕ → List ℕ) (order : Order) (counts : Counts) (s : Playing) : Type 0 where
  pub lists : IsInLists counts.instruments counts.speeds s.voice
  pub keeps : KeepsTick layout channel look s
  pub first_wave : IsRowDone s → HasOneWave layout rows at (look.instrument s.voice.instrument)
  pub wave : (tick_step channel look s).started ≡ false →
      WaveIsReady layout look counts (tick_step channel look s).playing
  pub effect : (tick_step channel look s).started ≡ false → (waved channel look s).effect ≡ true →
      EffectIsReady layout look counts (waved channel look s).playing.voice
  pub fetch : (tick_step channel look s).started ≡ false →
      HasRows layout rows at look packed order (effected channel o look s).voice
  pub pulse : (tick_step channel look s).started ≡ false →
      pulse_left_out o (effected channel o look s).voice ≡ false →
      PulseIsReady layout look counts (effected channel o look s).voice

-- ---- what it does

-- The block has come to its end with a voice in this state, which is in its song, no command lent, and the voice's
-- seven registers as the state has them. It has left the other voices and their registers, the filter's, the slides
-- that aren't calculated, and what is elsewhere.
pub record VoicePlays (layout : Layout) (rows voice label : ℕ) (look : LookUps) (packed : ℕ → List ℕ) (order : Order)
    (before : Desk) (run : Ran) (s : Playing) : Type 0 where
  pub ends : run.outcome ≡ Done
  pub at_voice : IsAtVoice voice run.desk
  pub plays : IsPlaying layout voice s run.desk.at
  pub song : IsInSong layout label look packed order s.voice (own_at layout run.desk.at voice)
  pub none_lent : shared_at layout run.desk.at LENT ≡ 0
  pub sounds : (register : ℕ) → register < 7 →
      run.desk.at (registers_of voice + register) ≡ slice_index (voice_registers s.voice) register
  pub others : (its label : ℕ) → its < 3 → its ≢ voice → is_own label ≡ true → label ≢ TEMPO →
      own_at layout run.desk.at its label ≡ own_at layout before.at its label
  pub registers : (register : ℕ) → register ≤ 24 → (register < 7 * voice) ⊎ (7 * voice + 7 ≤ register) →
      run.desk.at (0xD400 + register) ≡ before.at (0xD400 + register)
  pub slides : layout.holds NOTE_DEPENDENT ≡ true → (row : ℕ) → row < rows → (look.row Speed row).left < 128 →
      SlidesStay layout row run.desk.at before.at
  pub elsewhere : (place : ℕ) → IsElsewhere layout rows place → run.desk.at place ≡ before.at place

-- In any memory that holds a voice that is playing and is in its song, while no command is lent, the code does the
-- voice's step of a frame where the voice is run, and writes its registers.
abbrev pub VoiceBlockPlays : Type 0
VoiceBlockPlays =
    (layout : Layout) (rows voice label : ℕ) (o : Options) (look : LookUps) (packed : ℕ → List ℕ) (order : Order)
    (counts : Counts) (s : Playing) (desk : Desk) → IsRoom layout rows → MayUse layout rows → voice < 3 →
    is_run layout.holds voice ≡ true →
    KeepsCommon layout → KeepsOptions layout o → HasVoiceLists layout rows desk.at look counts →
    HasOrderlist layout rows desk.at label order → IsAtVoice voice desk → IsPlaying layout voice s desk.at →
    shared_at layout desk.at LENT ≡ 0 → IsInSong layout label look packed order s.voice (own_at layout desk.at voice) →
    VoiceIsReady layout rows desk.at (voice + 1) o look packed order counts s →
    VoicePlays layout rows voice label look packed order desk (ran each_one layout voice_tree desk)
    (voice_step (voice + 1) o look order s)

-- where it isn't run the code leaves the voice as it is, and writes its registers
abbrev pub VoiceBlockRests : Type 0
VoiceBlockRests =
    (layout : Layout) (rows voice label : ℕ) (look : LookUps) (packed : ℕ → List ℕ) (order : Order) (s : Playing)
    (desk : Desk) → IsRoom layout rows → MayUse layout rows → voice < 3 → is_run layout.holds voice ≡ false →
    IsAtVoice voice desk → IsPlaying layout voice s desk.at → shared_at layout desk.at LENT ≡ 0 →
    IsInSong layout label look packed order s.voice (own_at layout desk.at voice) →
    VoicePlays layout rows voice label look packed order desk (ran each_one layout voice_tree desk) s
