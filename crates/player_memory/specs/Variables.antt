-- What a variable holds of the state of the playroutine, row by row of the table of variables.
use Rattle.std.specs.Prelude.{◌≡◌, ◌≢◌, ℕ, ◌+◌, ◌/◌, ◌%◌, Bool, true, false, List, [], ◌∷◌}
use Rattle.play_model.specs.State.{Voice, Common}
use Rattle.player_memory.specs.declared.variables.Kept.{Kept}
use Rattle.player_memory.specs.declared.variables.Kept.TheVariants.{Always, Where, Else}
use Rattle.player_memory.specs.declared.variables.VoiceByte.{VoiceByte}
use Rattle.player_memory.specs.declared.variables.VoiceByte.TheVariants.{Tick, GateTimer, Instrument, Note, NewNote}
use Rattle.player_memory.specs.declared.variables.VoiceByte.TheVariants.{NewCommand, NewParam, Command, Param, Ad, Sr}
use Rattle.player_memory.specs.declared.variables.VoiceByte.TheVariants.{VibTime, VibDelay, Wave, Gate, FreqLow}
use Rattle.player_memory.specs.declared.variables.VoiceByte.TheVariants.{FreqHigh, LastNote, WavePtr, WaveTime}
use Rattle.player_memory.specs.declared.variables.VoiceByte.TheVariants.{PulsePtr, PulseTime, PulseLow, PulseHigh}
use Rattle.player_memory.specs.declared.variables.VoiceByte.TheVariants.{Tempo}
use Rattle.player_memory.specs.declared.variables.CommonByte.{CommonByte}
use Rattle.player_memory.specs.declared.variables.CommonByte.TheVariants.{FilterPtr, FilterTime, FilterType}
use Rattle.player_memory.specs.declared.variables.CommonByte.TheVariants.{FilterControl, Cutoff, Volume, FunkOne}
use Rattle.player_memory.specs.declared.variables.CommonByte.TheVariants.{FunkTwo}
use Rattle.player_memory.specs.declared.variables.TheConstants.{VOICE_BYTES, COMMON_BYTES}

-- ---- conditions

-- What a row asks: that its byte holds its part of the state, always or where its condition holds. Where it doesn't,
-- and the row names a number, the part of the state is that number, whatever the byte is.
abbrev pub HoldsWhere : (ℕ → Bool) → Kept → Type 0 → ℕ → Type 0
HoldsWhere holds Always Held part = Held
HoldsWhere holds (Where condition) Held part = holds condition ≡ true → Held
HoldsWhere holds (Else condition number) Held part =
    (holds condition ≡ true → Held) × (holds condition ≡ false → part ≡ number)

-- whether its lines are kept
abbrev pub stands : (ℕ → Bool) → Kept → Bool
stands holds Always = true
stands holds (Where condition) = holds condition
stands holds (Else condition number) = holds condition

-- ---- voices

-- The byte that stands for a part of a voice's state, with the voice's tempo. A note is held mod 128, which is its
-- number in the table of frequencies.
abbrev pub voice_byte : VoiceByte → Voice → ℕ → ℕ
voice_byte Tick v tempo = v.tick
voice_byte GateTimer v tempo = v.gate_timer
voice_byte Instrument v tempo = v.instrument
voice_byte Note v tempo = v.note % 128
voice_byte NewNote v tempo = v.new_note
voice_byte NewCommand v tempo = v.new_command
voice_byte NewParam v tempo = v.new_param
voice_byte Command v tempo = v.command
voice_byte Param v tempo = v.param
voice_byte Ad v tempo = v.ad
voice_byte Sr v tempo = v.sr
voice_byte VibTime v tempo = v.vib_time
voice_byte VibDelay v tempo = (v.vib_delay + 255) % 256
voice_byte Wave v tempo = v.wave
voice_byte Gate v tempo = v.gate
voice_byte FreqLow v tempo = v.freq % 256
voice_byte FreqHigh v tempo = v.freq / 256
voice_byte LastNote v tempo = v.last_note
voice_byte WavePtr v tempo = v.wave_ptr
voice_byte WaveTime v tempo = v.wave_time
voice_byte PulsePtr v tempo = v.pulse_ptr
voice_byte PulseTime v tempo = v.pulse_time
voice_byte PulseLow v tempo = v.pulse % 256
voice_byte PulseHigh v tempo = v.pulse / 256
voice_byte Tempo v tempo = tempo

-- A byte holds it: it is that byte. But of a pulse width's high byte the low four bits count, and the parameter of a
-- row counts where the row has a command.
abbrev pub IsVoiceByte : VoiceByte → Voice → ℕ → ℕ → Type 0
IsVoiceByte PulseHigh v tempo byte = byte % 16 ≡ v.pulse / 256
IsVoiceByte NewParam v tempo byte = v.new_command ≢ 0 → byte ≡ v.new_param
IsVoiceByte held v tempo byte = byte ≡ voice_byte held v tempo

abbrev pub VoiceRowsStand : (ℕ → Bool) → List (ℕ × VoiceByte × Kept) → Voice → ℕ → (ℕ → ℕ) → Type 0
VoiceRowsStand holds [] v tempo own = Unit {0}
VoiceRowsStand holds (row ∷ rows) v tempo own =
    HoldsWhere holds row.2 (IsVoiceByte row.1 v tempo (own row.0)) (voice_byte row.1 v tempo)
    × VoiceRowsStand holds rows v tempo own

-- each byte of the table does, where these conditions hold
abbrev pub VoiceBytesStand : (ℕ → Bool) → Voice → ℕ → (ℕ → ℕ) → Type 0
VoiceBytesStand holds v tempo own = VoiceRowsStand holds VOICE_BYTES v tempo own

-- ---- what the voices share

abbrev pub common_byte : CommonByte → Common → ℕ
common_byte FilterPtr c = c.filter_ptr
common_byte FilterTime c = c.filter_time
common_byte FilterType c = c.filter_type
common_byte FilterControl c = c.filter_control
common_byte Cutoff c = c.cutoff
common_byte Volume c = c.volume
common_byte FunkOne c = c.funk_one
common_byte FunkTwo c = c.funk_two

abbrev pub CommonRowsStand : (ℕ → Bool) → List (ℕ × CommonByte × Kept) → Common → (ℕ → ℕ) → Type 0
CommonRowsStand holds [] c shared = Unit {0}
CommonRowsStand holds (row ∷ rows) c shared =
    HoldsWhere holds row.2 (shared row.0 ≡ common_byte row.1 c) (common_byte row.1 c)
    × CommonRowsStand holds rows c shared

abbrev pub CommonBytesStand : (ℕ → Bool) → Common → (ℕ → ℕ) → Type 0
CommonBytesStand holds c shared = CommonRowsStand holds COMMON_BYTES c shared
