-- Which lines of the player are kept for what a song asks for and for options, by their conditions. This is the project's
-- own player.
use Rattle.std.specs.Prelude.{ℕ, Bool, false, ◌&&◌, ◌||◌, ◌==◌, if◌then◌else◌, nat_lt, nat_le, sum_by}
use Rattle.std.specs.List.{range_with_len}
use Rattle.play_model.specs.declared.options.Options.{Options}
use Rattle.player_memory.specs.declared.conditions.TheConstants.{PORTA_UP, PORTA_DOWN, TONE_PORTA, TIE_NOTE, VIBRATO}
use Rattle.player_memory.specs.declared.conditions.TheConstants.{INSTRUMENT_VIBRATO, NOTE_DEPENDENT, WAVE_COMMAND}
use Rattle.player_memory.specs.declared.conditions.TheConstants.{SKIP_EFFECTS, SKIP_PULSE, TIMED, SKIP_FIRST}
use Rattle.player_memory.specs.declared.conditions.TheConstants.{SWINGS, CLIMB, DROP, RISE, SINK, FOUND_NOTE}
use Rattle.player_memory.specs.declared.conditions.TheConstants.{ROW_TONE, ROW_SLIDE, ROW_ONCE, LEGATO, NO_HARD_RESTART}
use Rattle.player_memory.specs.declared.conditions.TheConstants.{WAVE_DELAY, ROW_COMMAND, SPECIAL_ROW, HELD_NOTE}
use Rattle.player_memory.specs.declared.conditions.TheConstants.{FILTER_TABLE, SET_FILTER_CONTROL, SET_CUTOFF}
use Rattle.player_memory.specs.declared.conditions.TheConstants.{EFFECTS, FILTER_USED, CONDITIONS}
use Rattle.kept_lines.specs.Asked.{is_in, bit_if}

-- whether a vibrato is asked for
abbrev pub asks_vibrato : ℕ → Bool
asks_vibrato asked = is_in asked VIBRATO || is_in asked INSTRUMENT_VIBRATO

-- whether anything is asked for that may run at a tick: a command of a row or of the wave table, or the vibrato of an
-- instrument
abbrev pub asks_effect : ℕ → Bool
asks_effect asked =
    is_in asked PORTA_UP || is_in asked PORTA_DOWN || is_in asked TONE_PORTA || is_in asked TIE_NOTE
    || asks_vibrato asked || is_in asked WAVE_COMMAND || is_in asked ROW_SLIDE

-- whether any of the features and facts is asked for that have the lines under a condition in common
abbrev pub has_in_common : ℕ → ℕ → Bool
has_in_common asked condition =
    if condition == SWINGS then asks_vibrato asked
    else if condition == CLIMB then is_in asked PORTA_UP || is_in asked TONE_PORTA || is_in asked NOTE_DEPENDENT
    else if condition == DROP then is_in asked PORTA_DOWN || is_in asked TONE_PORTA || is_in asked NOTE_DEPENDENT
    else if condition == RISE then is_in asked PORTA_UP || is_in asked TONE_PORTA || asks_vibrato asked
    else if condition == SINK then is_in asked PORTA_DOWN || is_in asked TONE_PORTA || asks_vibrato asked
    else if condition == FOUND_NOTE then is_in asked TONE_PORTA || is_in asked TIE_NOTE
    else if condition == ROW_COMMAND then is_in asked ROW_TONE || is_in asked ROW_SLIDE || is_in asked ROW_ONCE
    else if condition == SPECIAL_ROW then is_in asked WAVE_DELAY || is_in asked WAVE_COMMAND
    else if condition == HELD_NOTE then is_in asked LEGATO || is_in asked NO_HARD_RESTART
    else if condition == EFFECTS then asks_effect asked
    else if condition == FILTER_USED
    then is_in asked FILTER_TABLE || is_in asked SET_FILTER_CONTROL || is_in asked SET_CUTOFF
    else false

-- the conditions of features and of facts
abbrev pub is_asked_for : ℕ → Bool
is_asked_for condition = nat_lt condition 24 || (nat_le ROW_TONE condition && nat_lt condition ROW_COMMAND)

-- Whether a condition holds, so that its lines are kept: one of a feature or a fact where it is asked for, one of an
-- option where that is on, and one of several where one of them is asked for.
abbrev pub keeps : ℕ → Options → ℕ → Bool
keeps asked options condition =
    if is_asked_for condition then is_in asked condition
    else if condition == SKIP_EFFECTS then options.skip_effects
    else if condition == SKIP_PULSE then options.skip_pulse
    else if condition == TIMED then nat_lt 1 options.speed
    else if condition == SKIP_FIRST then options.skip_first
    else has_in_common asked condition

-- the set of the conditions that hold: of all that there are, the bits of those that do
unfoldable pub kept_set : ℕ → Options → ℕ
kept_set asked options =
    sum_by (λ condition. bit_if (keeps asked options condition) condition) (range_with_len 0 CONDITIONS)
