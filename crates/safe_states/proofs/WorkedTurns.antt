-- What a turn of a voice does and what it does not, from what is computed of it.
use Rattle.std.proofs.Common.{◌≡◌, ◌≢◌, ℕ, zero, suc, ◌+◌, ◌<◌, true, false, lit≤, inl, inr}
use Rattle.std.proofs.Common.{refl, sym, ap, ◌∙◌, arith}
use Rattle.std.specs.Prelude.{◌&&◌, ◌==◌}
use Rattle.song_model.specs.declared.orders.Subtune.{Subtune}
use Rattle.song_model.specs.declared.tables.TableRow.{TableRow}
use Rattle.song_model.specs.declared.tables.TableName.TheVariants.{Wave}
use Rattle.play_model.specs.declared.options.Options.{Options}
use Rattle.play_model.specs.LookUps.{LookUps}
use Rattle.play_model.specs.Wrap.{byte_minus}
use Rattle.play_model.specs.State.{Voice, Playing, FrameState}
use Rattle.play_model.specs.TickStep.{Ticked, tempo_of, tick_step}
use Rattle.play_model.specs.WaveStep.{Waved, is_wave_command, wave_step}
use Rattle.play_model.specs.Frame.{effect_done, pulse_left_out}
use Rattle.play_model.specs.Used.{IsChannel}
use Rattle.play_model.specs.Uses.{Turn, turn_of, InATurn, DoesRow, DoesOnce, HasWaveProgram, MeetsWaveCommand, DoesWave}
use Rattle.play_model.specs.Uses.{DoesEffect, DoesRunning, MeetsVibrato, HasPulseProgram, Slides, AsksSpeed, for_slide}
use Rattle.play_model.specs.Uses.{for_vibrato, AsksFunkTempo, by_values, by_tempo, by_length}
use Rattle.play_model.specs.WorkedSongs.{sides}

abbrev pub Same : ℕ → ℕ → Type 0
Same m n = m ≡ n

-- ---- a turn

-- what the tick step leaves, and the wave step behind it
abbrev pub ticked : Turn → Ticked
ticked turn = tick_step turn.channel turn.look turn.start

abbrev pub waved : Turn → Waved
waved turn = wave_step turn.look (ticked turn).playing

pub first : IsChannel 1
first = record { first = lit≤ tt; last = lit≤ tt }

pub second : IsChannel 2
second = record { first = lit≤ tt; last = lit≤ tt }

pub third : IsChannel 3
third = record { first = lit≤ tt; last = lit≤ tt }

-- voice 1 does it in its turn
pub in_first : {o : Options} {look : LookUps} {subtune : Subtune} {x : FrameState} {Does : Turn → Type 0} →
    Does (turn_of 1 o look subtune x) → InATurn o look subtune x Does
in_first does = record { channel = 1; is_channel = first; does = does }

-- no voice does it in its turn
pub in_no_turn : {o : Options} {look : LookUps} {subtune : Subtune} {x : FrameState} {Does : Turn → Type 0} →
    ¬ Does (turn_of 1 o look subtune x) → ¬ Does (turn_of 2 o look subtune x) → ¬ Does (turn_of 3 o look subtune x) →
    ¬ InATurn o look subtune x Does
in_no_turn {o = o} {look = look} {subtune = subtune} {x = x} {Does = Does} one two three h =
    by_number h.channel h.is_channel h.does
  where
    by_number : (channel : ℕ) → IsChannel channel → Does (turn_of channel o look subtune x) → ⊥
    by_number zero is does = (let least = is.first in omega arith)
    by_number (suc zero) is does = one does
    by_number (suc (suc zero)) is does = two does
    by_number (suc (suc (suc zero))) is does = three does
    by_number (suc (suc (suc (suc channel)))) is does = (let most = is.last in omega arith)

-- ---- what a turn does, from what is computed of it

pub has_wave : (turn : Turn) (p : ℕ) → (ticked turn).started ≡ false → (ticked turn).playing.voice.wave_ptr ≡ p → p ≢ 0 →
    HasWaveProgram turn p
has_wave turn p waits ptr some =
    record { s = (ticked turn).playing; goes_on = record { waits = waits; left = refl }; ptr = ptr; some = some }

pub meets_command : (turn : Turn) (p : ℕ) (row : TableRow) → HasWaveProgram turn p → turn.look.row Wave p ≡ row →
    is_wave_command row ≡ true → MeetsWaveCommand turn row
meets_command turn p row program row_is is = record { p = p; program = program; row_is = row_is; is_command = is }

pub does_wave : (turn : Turn) (p command param : ℕ) → (ticked turn).started ≡ false →
    (ticked turn).playing.voice.wave_ptr ≡ p → p ≢ 0 → turn.look.row Wave p ≡ sides (0xF0 + command) param →
    is_wave_command (sides (0xF0 + command) param) ≡ true → DoesWave turn command param
does_wave turn p command param waits ptr some row_is is = record {
  row = sides (0xF0 + command) param;
  meets = meets_command turn p (sides (0xF0 + command) param) (has_wave turn p waits ptr some) row_is is;
  command_is = refl;
  param_is = refl;
}

pub does_effect : (turn : Turn) → (ticked turn).started ≡ false → (waved turn).effect ≡ true →
    turn.options.skip_effects && ((waved turn).playing.voice.tick == 0) ≡ false →
    DoesEffect turn (waved turn).playing.voice
does_effect turn waits runs kept = record {
  s = (ticked turn).playing;
  goes_on = record { waits = waits; left = refl };
  runs = runs;
  voice_is = refl;
  kept = kept;
}

pub does_running : (turn : Turn) (command : ℕ) → DoesEffect turn (waved turn).playing.voice →
    (waved turn).playing.voice.command ≡ command → DoesRunning turn command (waved turn).playing.voice.param
does_running turn command effect is =
    record { v = (waved turn).playing.voice; effect = effect; command_is = is; param_is = refl }

pub meets_vibrato : (turn : Turn) (delay : ℕ) → DoesEffect turn (waved turn).playing.voice →
    (waved turn).playing.voice.command ≡ 0 → (waved turn).playing.voice.vib_delay ≡ delay →
    (waved turn).playing.voice.param ≢ 0 → delay ≢ 0 → MeetsVibrato turn (waved turn).playing.voice.param delay
meets_vibrato turn delay effect is delay_is some begun = record {
  v = (waved turn).playing.voice;
  effect = effect;
  command_is = is;
  param_is = refl;
  delay_is = delay_is;
  some = some;
  begun = begun;
}

-- ---- and what it doesn't

pub note_ends_it : (turn : Turn) (p : ℕ) → (ticked turn).started ≡ true → ¬ HasWaveProgram turn p
note_ends_it turn p starts h = (let waits = h.goes_on.waits in cc)

pub no_wave : (turn : Turn) (p : ℕ) → (ticked turn).playing.voice.wave_ptr ≡ 0 → ¬ HasWaveProgram turn p
no_wave turn p none h = h.some (sym h.ptr ∙ ap (λ (s : Playing). s.voice.wave_ptr) (sym h.goes_on.left) ∙ none)

pub no_pulse : (turn : Turn) (p : ℕ) → (effect_done turn.options turn.look (waved turn)).voice.pulse_ptr ≡ 0 →
    ¬ HasPulseProgram turn p
no_pulse turn p none h =
    let same =
    ap (λ (s : Playing). (effect_done turn.options turn.look (wave_step turn.look s)).voice.pulse_ptr) h.goes_on.left in
    h.some (sym h.ptr ∙ ap (λ v. v.pulse_ptr) (sym h.voice_is) ∙ sym same ∙ none)

pub pulse_out : (turn : Turn) (p : ℕ) →
    pulse_left_out turn.options (effect_done turn.options turn.look (waved turn)).voice ≡ true → ¬ HasPulseProgram turn p
pulse_out turn p out h =
    let same =
    ap (λ (s : Playing). pulse_left_out turn.options (effect_done turn.options turn.look (wave_step turn.look s)).voice)
    h.goes_on.left in
    let voice = ap (pulse_left_out turn.options) h.voice_is in
    let never : true ≡ false = sym out ∙ same ∙ voice ∙ h.kept in absurd (cc (never))

-- the voice that the effect step is done on
effect_voice : (turn : Turn) → (h : (v : Voice) × DoesEffect turn v) → (waved turn).playing.voice ≡ h.0
effect_voice turn (v, h) =
    ap (λ (s : Playing). (wave_step turn.look s).playing.voice) h.goes_on.left ∙ h.voice_is

pub left_out_there : (turn : Turn) (v : Voice) →
    turn.options.skip_effects && ((waved turn).playing.voice.tick == 0) ≡ true → ¬ DoesEffect turn v
left_out_there turn v out h =
    let kept : turn.options.skip_effects && ((waved turn).playing.voice.tick == 0) ≡ false =
    rw (effect_voice turn (v, h)) h.kept in
    cc

running_is : (turn : Turn) (command param : ℕ) → DoesRunning turn command param →
    (waved turn).playing.voice.command ≡ command
running_is turn command param h = ap (λ (v : Voice). v.command) (effect_voice turn (h.v, h.effect)) ∙ h.command_is

pub delay_is : (turn : Turn) (param delay : ℕ) → MeetsVibrato turn param delay →
    (waved turn).playing.voice.vib_delay ≡ delay
delay_is turn param delay h = ap (λ (v : Voice). v.vib_delay) (effect_voice turn (h.v, h.effect)) ∙ h.delay_is

-- no slide without a wave program and another command running
pub no_slide : (turn : Turn) (command d : ℕ) → (ticked turn).playing.voice.wave_ptr ≡ 0 →
    (waved turn).playing.voice.command ≢ command → ¬ Slides turn command d
no_slide turn command d none other (inl wave) = no_wave turn wave.meets.p none wave.meets.program
no_slide turn command d none other (inr running) = other (running_is turn command d running)

-- and none with this parameter where another runs
pub no_param : (turn : Turn) (command d : ℕ) → (ticked turn).playing.voice.wave_ptr ≡ 0 →
    (waved turn).playing.voice.param ≢ d → ¬ Slides turn command d
no_param turn command d none other (inl wave) = no_wave turn wave.meets.p none wave.meets.program
no_param turn command d none other (inr h) =
    other (ap (λ (v : Voice). v.param) (effect_voice turn (h.v, h.effect)) ∙ h.param_is)

-- no command of a row, where the row has another
pub no_row : (turn : Turn) (command d : ℕ) → turn.start.voice.new_command ≢ command → ¬ DoesRow turn command d
no_row turn command d other row = other row.command_is

-- the wave program has no command there
abbrev pub Quiet : Turn → Type 0
Quiet turn = is_wave_command (turn.look.row Wave (ticked turn).playing.voice.wave_ptr) ≡ false

pub no_wave_command : (turn : Turn) (row : TableRow) → Quiet turn → ¬ MeetsWaveCommand turn row
no_wave_command turn row none meets =
    let ptr = ap (λ (s : Playing). s.voice.wave_ptr) meets.program.goes_on.left ∙ meets.program.ptr in
    let same = ap (λ p. is_wave_command (turn.look.row Wave p)) ptr in
    let row_is = ap is_wave_command meets.row_is in
    let is = meets.is_command in
    cc

-- no command that is done once, where the row has another
pub no_once : (turn : Turn) (command d : ℕ) → turn.start.voice.new_command ≢ command → Quiet turn →
    ¬ DoesOnce turn command d
no_once turn command d other none (inl row) = other row.command_is
no_once turn command d other none (inr wave) = no_wave_command turn wave.row none wave.meets

pub no_speed : (turn : Turn) (d : ℕ) → (ticked turn).playing.voice.wave_ptr ≡ 0 → (waved turn).playing.voice.command ≡ 0 →
    (waved turn).playing.voice.vib_delay ≢ 1 → ¬ AsksSpeed turn d
no_speed turn d none other delayed (for_slide command from to (inl wave)) =
    no_wave turn wave.meets.p none wave.meets.program
no_speed turn d none other delayed (for_slide command from to (inr running)) =
    (let is = running_is turn command d running in let no : Same 0 command = sym other ∙ is in omega arith)
no_speed turn d none other delayed (for_vibrato meets) = delayed (delay_is turn d 1 meets)

-- a speed that is asked for is that of the effect's parameter
pub asked_is : (turn : Turn) (p d : ℕ) → (ticked turn).playing.voice.wave_ptr ≡ 0 →
    (waved turn).playing.voice.param ≡ p → AsksSpeed turn d → p ≡ d
asked_is turn p d none is (for_slide command from to (inl wave)) =
    absurd (no_wave turn wave.meets.p none wave.meets.program)
asked_is turn p d none is (for_slide command from to (inr running)) =
    sym is ∙ ap (λ (v : Voice). v.param) (effect_voice turn (running.v, running.effect)) ∙ running.param_is
asked_is turn p d none is (for_vibrato meets) =
    sym is ∙ ap (λ (v : Voice). v.param) (effect_voice turn (meets.v, meets.effect)) ∙ meets.param_is

-- no funk tempo, where the row has no command, where it has $F with another parameter, where the tick is between the
-- two, and where another tempo is loaded
pub no_command : (turn : Turn) → turn.start.voice.new_command ≡ 0 → byte_minus turn.start.voice.tick 1 < 0x80 →
    ¬ AsksFunkTempo turn
no_command turn none low (by_values d does) = (let no : Same 0 0xE = sym none ∙ does.command_is in omega arith)
no_command turn none low (by_tempo d does small) = (let no : Same 0 0xF = sym none ∙ does.command_is in omega arith)
no_command turn none low (by_length tempo loads small) = (let past = loads.past in omega arith)

pub other_tempo : (turn : Turn) → turn.start.voice.new_command ≡ 0xF → 1 < turn.start.voice.new_param →
    byte_minus turn.start.voice.tick 1 < 0x80 → ¬ AsksFunkTempo turn
other_tempo turn is more low (by_values d does) = (let no : Same 0xF 0xE = sym is ∙ does.command_is in omega arith)
other_tempo turn is more low (by_tempo d does small) = (let e = does.param_is in omega arith)
other_tempo turn is more low (by_length tempo loads small) = (let past = loads.past in omega arith)

pub loads_another : (turn : Turn) → turn.start.voice.new_command ≡ 0 → 1 < tempo_of turn.channel turn.start.common →
    ¬ AsksFunkTempo turn
loads_another turn none more (by_values d does) = (let no : Same 0 0xE = sym none ∙ does.command_is in omega arith)
loads_another turn none more (by_tempo d does small) = (let no : Same 0 0xF = sym none ∙ does.command_is in omega arith)
loads_another turn none more (by_length tempo loads small) = (let e = loads.tempo_is in omega arith)

pub between : (turn : Turn) → 0 < byte_minus turn.start.voice.tick 1 → byte_minus turn.start.voice.tick 1 < 0x80 →
    ¬ AsksFunkTempo turn
between turn some low (by_values d does) = (let now = does.now in omega arith)
between turn some low (by_tempo d does small) = (let now = does.now in omega arith)
between turn some low (by_length tempo loads small) = (let past = loads.past in omega arith)
