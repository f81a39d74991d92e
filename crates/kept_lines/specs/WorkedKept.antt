-- Sets of conditions that are worked by hand.
use Rattle.std.specs.Prelude.{◌≡◌, ℕ, ◌+◌, ◌-◌, ◌^◌, true}
use Rattle.play_model.specs.declared.options.System.TheVariants.{Ntsc}
use Rattle.play_model.specs.State.{no_options, at_speed}
use Rattle.play_model.specs.WorkedRuns.{all_left_out}
use Rattle.player_memory.specs.declared.conditions.TheConstants.{TRANSPOSES, PORTA_UP, PORTA_DOWN, TONE_PORTA, TIE_NOTE}
use Rattle.player_memory.specs.declared.conditions.TheConstants.{VIBRATO, INSTRUMENT_VIBRATO, NOTE_DEPENDENT}
use Rattle.player_memory.specs.declared.conditions.TheConstants.{FILTER_TABLE, SET_FILTER_CONTROL, SET_CUTOFF}
use Rattle.player_memory.specs.declared.conditions.TheConstants.{SET_VOLUME}
use Rattle.player_memory.specs.declared.conditions.TheConstants.{WAVE_COMMAND, ROW_TONE, ROW_SLIDE, ROW_ONCE}
use Rattle.player_memory.specs.declared.conditions.TheConstants.{FIRST_MASK}
use Rattle.player_memory.specs.declared.conditions.TheConstants.{LEGATO, NO_HARD_RESTART, WAVE_DELAY, GATE_NOTE}
use Rattle.player_memory.specs.declared.conditions.TheConstants.{NOTE_VIBRATO, VIBRATO_DELAY, NOTE_PULSE, NOTE_FILTER}
use Rattle.player_memory.specs.declared.conditions.TheConstants.{VOICE_TEMPO, COMMON_TEMPO, FUNK_TURNS, FUNK_CHOICE}
use Rattle.player_memory.specs.declared.conditions.TheConstants.{OWN_TIMER, OWN_WAVE, SUBTUNES, VOICE_TWO, VOICE_THREE}
use Rattle.player_memory.specs.declared.conditions.TheConstants.{FIRST_HOLDS}
use Rattle.song_facts.specs.Facts.{no_facts, all_facts}
use Rattle.kept_lines.specs.Asked.{asked}
use Rattle.kept_lines.specs.KeptLines.{kept_set}

-- the set of a song that asks for one thing, where nothing is left out, once a picture
abbrev pub alone : ℕ → ℕ
alone condition = kept_set (2 ^ condition) no_options

-- No line under a condition is kept for a song that asks for nothing, unless there are options. A slide, a note at once,
-- a vibrato and a calculated speed keep what they have in common with others, bits 28 to 33, and each other feature its
-- own lines alone. Of the facts, rows with commands, delays, and instruments that leave the gate or the envelope as it is
-- keep what they have in common, bits 56 to 58, and so do commands of the wave table. Bit 59 is kept with all that may
-- run at a tick, and bit 60 with all that sets the filter.
pub record SetsAreWorked : Type 0 where
  pub none : kept_set 0 no_options ≡ 0
  pub transposes : alone TRANSPOSES ≡ 2 ^ 0
  pub up : alone PORTA_UP ≡ 2 ^ 2 + 2 ^ 29 + 2 ^ 31 + 2 ^ 59
  pub down : alone PORTA_DOWN ≡ 2 ^ 3 + 2 ^ 30 + 2 ^ 32 + 2 ^ 59
  pub tone : alone TONE_PORTA ≡ 2 ^ 4 + 2 ^ 29 + 2 ^ 30 + 2 ^ 31 + 2 ^ 32 + 2 ^ 33 + 2 ^ 59
  pub tie : alone TIE_NOTE ≡ 2 ^ 5 + 2 ^ 33 + 2 ^ 59
  pub vibrato : alone VIBRATO ≡ 2 ^ 6 + 2 ^ 28 + 2 ^ 31 + 2 ^ 32 + 2 ^ 59
  pub instrument : alone INSTRUMENT_VIBRATO ≡ 2 ^ 7 + 2 ^ 28 + 2 ^ 31 + 2 ^ 32 + 2 ^ 59
  pub calculated : alone NOTE_DEPENDENT ≡ 2 ^ 8 + 2 ^ 29 + 2 ^ 30
  pub filters : alone FILTER_TABLE ≡ 2 ^ 15 + 2 ^ 60
  pub control : alone SET_FILTER_CONTROL ≡ 2 ^ 17 + 2 ^ 60
  pub cutoff : alone SET_CUTOFF ≡ 2 ^ 18 + 2 ^ 60
  pub volume : alone SET_VOLUME ≡ 2 ^ 19
  pub commands : alone WAVE_COMMAND ≡ 2 ^ 23 + 2 ^ 57 + 2 ^ 59
  pub row_tone : alone ROW_TONE ≡ 2 ^ 34 + 2 ^ 56
  pub row_slide : alone ROW_SLIDE ≡ 2 ^ 35 + 2 ^ 56 + 2 ^ 59
  pub row_once : alone ROW_ONCE ≡ 2 ^ 36 + 2 ^ 56
  pub first_mask : alone FIRST_MASK ≡ 2 ^ 37
  pub legato : alone LEGATO ≡ 2 ^ 38 + 2 ^ 58
  pub no_hard_restart : alone NO_HARD_RESTART ≡ 2 ^ 39 + 2 ^ 58
  pub wave_delay : alone WAVE_DELAY ≡ 2 ^ 40 + 2 ^ 57
  pub gate_note : alone GATE_NOTE ≡ 2 ^ 41
  pub note_vibrato : alone NOTE_VIBRATO ≡ 2 ^ 42
  pub vibrato_delay : alone VIBRATO_DELAY ≡ 2 ^ 43
  pub note_pulse : alone NOTE_PULSE ≡ 2 ^ 44
  pub note_filter : alone NOTE_FILTER ≡ 2 ^ 45
  pub voice_tempo : alone VOICE_TEMPO ≡ 2 ^ 46
  pub common_tempo : alone COMMON_TEMPO ≡ 2 ^ 47
  pub funk_turns : alone FUNK_TURNS ≡ 2 ^ 48
  pub funk_choice : alone FUNK_CHOICE ≡ 2 ^ 49
  pub own_timer : alone OWN_TIMER ≡ 2 ^ 50
  pub own_wave : alone OWN_WAVE ≡ 2 ^ 51
  pub subtunes : alone SUBTUNES ≡ 2 ^ 52
  pub voice_two : alone VOICE_TWO ≡ 2 ^ 53
  pub voice_three : alone VOICE_THREE ≡ 2 ^ 54
  pub first_holds : alone FIRST_HOLDS ≡ 2 ^ 55
  pub effects : kept_set 0 (record no_options { skip_effects = true }) ≡ 2 ^ 24
  pub pulse : kept_set 0 (record no_options { skip_pulse = true }) ≡ 2 ^ 25
  pub twice : kept_set 0 (at_speed 2) ≡ 2 ^ 26
  pub first : kept_set 0 (record no_options { skip_first = true }) ≡ 2 ^ 27
  pub ntsc : kept_set 0 (record no_options { system = Ntsc }) ≡ 0
  pub features : kept_set (2 ^ 24 - 1) (all_left_out 4) ≡ 2 ^ 34 - 1 + 2 ^ 57 + 2 ^ 59 + 2 ^ 60
  pub all : kept_set (2 ^ 24 - 1 + 2 ^ 56 - 2 ^ 34) (all_left_out 4) ≡ 2 ^ 61 - 1
  -- bits from 24 to 33 and from 56 on are neither features nor facts
  pub no_others : kept_set (2 ^ 24 + 2 ^ 28 + 2 ^ 33 + 2 ^ 56 + 2 ^ 59 + 2 ^ 61) no_options ≡ 0

-- What a song asks for has the bits of its features, those below 24 alone, and those of its facts.
pub record AskedIsWorked : Type 0 where
  pub none : asked 0 no_facts ≡ 0
  pub feature : asked (2 ^ 6) no_facts ≡ 2 ^ 6
  pub fact : asked 0 (record no_facts { gate_note = true }) ≡ 2 ^ 41
  pub last_fact : asked 0 (record no_facts { first_holds = true }) ≡ 2 ^ 55
  pub both : asked (2 ^ 23) (record no_facts { row_tone = true; wave_delay = true }) ≡ 2 ^ 23 + 2 ^ 34 + 2 ^ 40
  pub all : asked (2 ^ 24 - 1) all_facts ≡ 2 ^ 24 - 1 + 2 ^ 56 - 2 ^ 34
  pub no_features : asked (2 ^ 24 + 2 ^ 41) no_facts ≡ 0
