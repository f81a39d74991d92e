-- What a frame makes use of: the cases that its rules take, over any look-ups. A feature is used where the case
-- that it names comes. This is this project's profile of the playroutine.
use Rattle.std.specs.Prelude.{◌≡◌, ◌≢◌, ℕ, ◌+◌, ◌%◌, ◌<◌, ◌≤◌, ◌⊎◌, true, false}
use Rattle.std.specs.Prelude.{◌&&◌, ◌==◌, if◌then◌else◌, Contains}
use Rattle.song_model.specs.declared.orders.Subtune.{Subtune}
use Rattle.song_model.specs.declared.features.Feature.{Feature}
use Rattle.song_model.specs.declared.features.Feature.TheVariants.{Transpose, Repeat, PortaUp, PortaDown, TonePorta}
use Rattle.song_model.specs.declared.features.Feature.TheVariants.{TieNote, Vibrato, InstrumentVibrato, NoteDependent}
use Rattle.song_model.specs.declared.features.Feature.TheVariants.{SetAd, SetSr, SetWave, SetWavePointer, PulseTable}
use Rattle.song_model.specs.declared.features.Feature.TheVariants.{SetPulsePointer, FilterTable, SetFilterPointer}
use Rattle.song_model.specs.declared.features.Feature.TheVariants.{FilterControl, Cutoff, Volume, FunkTempo, SetTempo}
use Rattle.song_model.specs.declared.features.Feature.TheVariants.{WaveTable, WaveCommand}
use Rattle.song_model.specs.declared.songs.Song.{Song}
use Rattle.song_model.specs.declared.tables.TableRow.{TableRow}
use Rattle.song_model.specs.declared.tables.TableName.TheVariants.{Wave, Speed}
use Rattle.song_model.specs.LookUp.{order_of}
use Rattle.play_model.specs.declared.options.Options.{Options}
use Rattle.play_model.specs.LookUps.{LookUps, look_ups_of}
use Rattle.play_model.specs.Wrap.{byte_minus}
use Rattle.play_model.specs.State.{Voice, FrameState, Playing, playing_of}
use Rattle.play_model.specs.TickStep.{tempo_of, tick_step}
use Rattle.play_model.specs.WaveStep.{is_wave_command, wave_step}
use Rattle.play_model.specs.Frame.{effect_done, pulse_left_out, filter_done, voice_done, subtune_at}
use Rattle.play_model.specs.Used.{IsChannel}

-- ---- a turn

-- a voice at its step within a frame
pub record Turn : Type 0 where
  pub channel : ℕ
  pub options : Options
  pub look : LookUps
  -- the voice, and what the voices share, before the step
  pub start : Playing

-- the state before the step of channel 1, 2 or 3: the filter step and the channels below have been done
abbrev pub before_voice : ℕ → Options → LookUps → Subtune → FrameState → FrameState
before_voice channel o look subtune x =
    if channel == 1 then filter_done look x
    else if channel == 2 then voice_done 1 o look subtune (filter_done look x)
    else voice_done 2 o look subtune (voice_done 1 o look subtune (filter_done look x))

abbrev pub turn_of : ℕ → Options → LookUps → Subtune → FrameState → Turn
turn_of channel o look subtune x = record {
  channel = channel;
  options = o;
  look = look;
  start = playing_of channel (before_voice channel o look subtune x);
}

-- ---- the tick step

-- the tick falls to 0, and the command of the fetched row is done
pub record DoesRow (turn : Turn) (command param : ℕ) : Type 0 where
  pub now : byte_minus turn.start.voice.tick 1 ≡ 0
  pub command_is : turn.start.voice.new_command ≡ command
  pub param_is : turn.start.voice.new_param ≡ param

-- the tick falls below 0, and a row's length is loaded by this tempo
pub record LoadsTempo (turn : Turn) (tempo : ℕ) : Type 0 where
  pub past : 0x80 ≤ byte_minus turn.start.voice.tick 1
  pub tempo_is : tempo_of turn.channel turn.start.common ≡ tempo

-- the tick step starts no note and leaves this: the other steps follow
pub record GoesOn (turn : Turn) (s : Playing) : Type 0 where
  pub waits : (tick_step turn.channel turn.look turn.start).started ≡ false
  pub left : (tick_step turn.channel turn.look turn.start).playing ≡ s

-- ---- the wave step

-- the wave step is done with a program
pub record HasWaveProgram (turn : Turn) (p : ℕ) : Type 0 where
  pub s : Playing
  pub goes_on : GoesOn turn s
  pub ptr : s.voice.wave_ptr ≡ p
  pub some : p ≢ 0

-- the row of the wave program is a command
pub record MeetsWaveCommand (turn : Turn) (row : TableRow) : Type 0 where
  pub p : ℕ
  pub program : HasWaveProgram turn p
  pub row_is : turn.look.row Wave p ≡ row
  pub is_command : is_wave_command row ≡ true

-- and it is this one
pub record DoesWave (turn : Turn) (command param : ℕ) : Type 0 where
  pub row : TableRow
  pub meets : MeetsWaveCommand turn row
  pub command_is : row.left ≡ 0xF0 + command
  pub param_is : row.right ≡ param

-- ---- the effect step

-- the wave step lets the effect run and no option leaves it out: it is done on this voice
pub record DoesEffect (turn : Turn) (v : Voice) : Type 0 where
  pub s : Playing
  pub goes_on : GoesOn turn s
  pub runs : (wave_step turn.look s).effect ≡ true
  pub voice_is : (wave_step turn.look s).playing.voice ≡ v
  pub kept : turn.options.skip_effects && (v.tick == 0) ≡ false

-- the running command is done
pub record DoesRunning (turn : Turn) (command param : ℕ) : Type 0 where
  pub v : Voice
  pub effect : DoesEffect turn v
  pub command_is : v.command ≡ command
  pub param_is : v.param ≡ param

-- the instrument's vibrato stands there, with this much of its delay left
pub record MeetsVibrato (turn : Turn) (param delay : ℕ) : Type 0 where
  pub v : Voice
  pub effect : DoesEffect turn v
  pub command_is : v.command ≡ 0
  pub param_is : v.param ≡ param
  pub delay_is : v.vib_delay ≡ delay
  pub some : param ≢ 0
  pub begun : delay ≢ 0

-- ---- the pulse step

-- no option leaves the pulse step out, and it is done with a program
pub record HasPulseProgram (turn : Turn) (p : ℕ) : Type 0 where
  pub s : Playing
  pub goes_on : GoesOn turn s
  pub v : Voice
  pub voice_is : (effect_done turn.options turn.look (wave_step turn.look s)).voice ≡ v
  pub kept : pulse_left_out turn.options v ≡ false
  pub ptr : v.pulse_ptr ≡ p
  pub some : p ≢ 0

-- ---- commands of several places

-- a slide or a vibrato: as the running command, or in the wave table
abbrev pub Slides : Turn → ℕ → ℕ → Type 0
Slides turn command param = DoesWave turn command param ⊎ DoesRunning turn command param

-- a command that is done once: of the row, or in the wave table
abbrev pub DoesOnce : Turn → ℕ → ℕ → Type 0
DoesOnce turn command param = DoesRow turn command param ⊎ DoesWave turn command param

-- a speed is asked for: by the commands 1 to 4, and by the instrument's vibrato when its delay is over
pub data AsksSpeed (turn : Turn) (param : ℕ) : Type 0 where
  for_slide : (command : ℕ) → 1 ≤ command → command ≤ 4 → Slides turn command param → AsksSpeed turn param
  for_vibrato : MeetsVibrato turn param 1 → AsksSpeed turn param

-- a funk tempo is set, or met where a row's length is loaded
pub data AsksFunkTempo (turn : Turn) : Type 0 where
  by_values : (d : ℕ) → DoesRow turn 0xE d → AsksFunkTempo turn
  by_tempo : (d : ℕ) → DoesRow turn 0xF d → d ≤ 1 → AsksFunkTempo turn
  by_length : (tempo : ℕ) → LoadsTempo turn tempo → tempo < 2 → AsksFunkTempo turn

-- ---- features

-- an orderlist of the subtune has a byte in this range
pub record HasOrderByte (subtune : Subtune) (from to : ℕ) : Type 0 where
  pub channel : ℕ
  pub is_channel : IsChannel channel
  pub byte : ℕ
  pub entry : Contains (order_of channel subtune).entries byte
  pub low : from ≤ byte
  pub high : byte ≤ to

-- a voice does this in its turn
pub record InATurn (o : Options) (look : LookUps) (subtune : Subtune) (x : FrameState) (Does : Turn → Type 0)
    : Type 0 where
  pub channel : ℕ
  pub is_channel : IsChannel channel
  pub does : Does (turn_of channel o look subtune x)

-- the frame that follows this state uses the feature exactly where this holds
abbrev pub Uses : Options → LookUps → Subtune → FrameState → Feature → Type 0
Uses o look subtune x Transpose = HasOrderByte subtune 0xE0 0xFE
Uses o look subtune x Repeat = HasOrderByte subtune 0xD0 0xDF
Uses o look subtune x PortaUp = InATurn o look subtune x (λ turn. (d : ℕ) × Slides turn 1 d)
Uses o look subtune x PortaDown = InATurn o look subtune x (λ turn. (d : ℕ) × Slides turn 2 d)
Uses o look subtune x TonePorta = InATurn o look subtune x (λ turn. (d : ℕ) × Slides turn 3 d × d ≢ 0)
Uses o look subtune x TieNote = InATurn o look subtune x (λ turn. Slides turn 3 0)
Uses o look subtune x Vibrato = InATurn o look subtune x (λ turn. (d : ℕ) × Slides turn 4 d)
Uses o look subtune x InstrumentVibrato =
    InATurn o look subtune x (λ turn. (d : ℕ) × (delay : ℕ) × MeetsVibrato turn d delay)
Uses o look subtune x NoteDependent =
    InATurn o look subtune x (λ turn. (d : ℕ) × AsksSpeed turn d × 0x80 ≤ (look.row Speed d).left)
Uses o look subtune x SetAd = InATurn o look subtune x (λ turn. (d : ℕ) × DoesOnce turn 5 d)
Uses o look subtune x SetSr = InATurn o look subtune x (λ turn. (d : ℕ) × DoesOnce turn 6 d)
Uses o look subtune x SetWave = InATurn o look subtune x (λ turn. (d : ℕ) × DoesOnce turn 7 d)
Uses o look subtune x SetWavePointer = InATurn o look subtune x (λ turn. (d : ℕ) × DoesRow turn 8 d)
Uses o look subtune x PulseTable = InATurn o look subtune x (λ turn. (p : ℕ) × HasPulseProgram turn p)
Uses o look subtune x SetPulsePointer = InATurn o look subtune x (λ turn. (d : ℕ) × DoesOnce turn 9 d)
Uses o look subtune x FilterTable = x.common.filter_ptr ≢ 0
Uses o look subtune x SetFilterPointer = InATurn o look subtune x (λ turn. (d : ℕ) × DoesOnce turn 0xA d)
Uses o look subtune x FilterControl = InATurn o look subtune x (λ turn. (d : ℕ) × DoesOnce turn 0xB d)
Uses o look subtune x Cutoff = InATurn o look subtune x (λ turn. (d : ℕ) × DoesOnce turn 0xC d)
Uses o look subtune x Volume = InATurn o look subtune x (λ turn. (d : ℕ) × DoesOnce turn 0xD d)
Uses o look subtune x FunkTempo = InATurn o look subtune x AsksFunkTempo
Uses o look subtune x SetTempo =
    InATurn o look subtune x (λ turn. (d : ℕ) × DoesRow turn 0xF d × 3 ≤ d % 128)
Uses o look subtune x WaveTable = InATurn o look subtune x (λ turn. (p : ℕ) × HasWaveProgram turn p)
Uses o look subtune x WaveCommand = InATurn o look subtune x (λ turn. (row : TableRow) × MeetsWaveCommand turn row)

-- what a frame of playable subtune k uses after this state
abbrev pub UsesFeature : Options → Song → ℕ → FrameState → Feature → Type 0
UsesFeature o song k x feature = Uses o (look_ups_of song) (subtune_at song k) x feature
