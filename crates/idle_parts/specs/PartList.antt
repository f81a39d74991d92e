-- Which parts the player has: under each condition of a song's features and facts, and of what they have in common,
-- those of its blocks that have a law. A choice has two, one behind the other. This is the project's own player.
use Rattle.std.specs.Prelude.{◌≡◌, ℕ, [], ◌∷◌, ◌++◌}
use Rattle.cpu6502.specs.declared.mnemonic.Mnemonic.TheVariants.{Lda}
use Rattle.scopes.specs.declared.line.Line.TheVariants.{With}
use Rattle.scopes.specs.declared.line.Operand.TheVariants.{Number}
use Rattle.scopes.specs.Trees.{tree_of}
use Rattle.player_memory.specs.declared.conditions.TheConstants.{TRANSPOSES, REPEATS, PORTA_UP, PORTA_DOWN, TONE_PORTA}
use Rattle.player_memory.specs.declared.conditions.TheConstants.{TIE_NOTE, VIBRATO, INSTRUMENT_VIBRATO}
use Rattle.player_memory.specs.declared.conditions.TheConstants.{NOTE_DEPENDENT, SET_AD}
use Rattle.player_memory.specs.declared.conditions.TheConstants.{SET_SR, SET_WAVE, SET_WAVE_POINTER, PULSE_TABLE}
use Rattle.player_memory.specs.declared.conditions.TheConstants.{SET_PULSE_POINTER}
use Rattle.player_memory.specs.declared.conditions.TheConstants.{FILTER_TABLE, SET_FILTER_POINTER, SET_FILTER_CONTROL}
use Rattle.player_memory.specs.declared.conditions.TheConstants.{SET_CUTOFF, SET_VOLUME}
use Rattle.player_memory.specs.declared.conditions.TheConstants.{FUNK_TEMPO, SET_TEMPO, WAVE_TABLE, WAVE_COMMAND}
use Rattle.player_memory.specs.declared.conditions.TheConstants.{SWINGS}
use Rattle.player_memory.specs.declared.conditions.TheConstants.{CLIMB, DROP, RISE, SINK, FOUND_NOTE}
use Rattle.player_memory.specs.declared.conditions.TheConstants.{ROW_TONE, ROW_SLIDE, ROW_ONCE, ROW_COMMAND, FIRST_MASK}
use Rattle.player_memory.specs.declared.conditions.TheConstants.{HELD_NOTE, LEGATO, NO_HARD_RESTART, SPECIAL_ROW}
use Rattle.player_memory.specs.declared.conditions.TheConstants.{WAVE_DELAY}
use Rattle.player_memory.specs.declared.conditions.TheConstants.{GATE_NOTE, NOTE_VIBRATO, VIBRATO_DELAY, NOTE_PULSE}
use Rattle.player_memory.specs.declared.conditions.TheConstants.{NOTE_FILTER}
use Rattle.player_memory.specs.declared.conditions.TheConstants.{VOICE_TEMPO, COMMON_TEMPO, FUNK_TURNS, FUNK_CHOICE}
use Rattle.player_memory.specs.declared.conditions.TheConstants.{OWN_TIMER, OWN_WAVE, SUBTUNES, VOICE_TWO, VOICE_THREE}
use Rattle.player_memory.specs.declared.conditions.TheConstants.{FIRST_HOLDS}
use Rattle.player_memory.specs.declared.conditions.TheConstants.{EFFECTS, FILTER_USED}
use Rattle.player_text.specs.declared.commands.TheConstants.{AD_SET, CUTOFF_SET, FILTER_CONTROL_SET}
use Rattle.player_text.specs.declared.commands.TheConstants.{FILTER_POINTER_SET, FUNK_CHOSEN}
use Rattle.player_text.specs.declared.commands.TheConstants.{FUNK_SET, PULSE_POINTER_SET, SR_SET, TEMPO_SET, VOLUME_SET}
use Rattle.player_text.specs.declared.commands.TheConstants.{WAVE_POINTER_SET, WAVE_SET}
use Rattle.player_text.specs.declared.effect.TheConstants.{EFFECT_BEGUN}
use Rattle.player_text.specs.declared.fetch.TheConstants.{ROW_AWAITED, ROW_REACHED, FIRST_REACHED}
use Rattle.player_text.specs.declared.fetch.TheConstants.{ENTRY_BEGUN, ENTRY_READ, GATE_CLOSED}
use Rattle.player_text.specs.declared.filter.TheConstants.{FILTER_STEP, FILTER_REGISTERS}
use Rattle.player_text.specs.declared.pitch.TheConstants.{PITCH, GIVEN_BACK}
use Rattle.player_text.specs.declared.pulse.TheConstants.{PULSE}
use Rattle.player_text.specs.declared.init.TheConstants.{SUBTUNE_TAKEN, VARIABLES_CLEARED, FUNK_STARTED}
use Rattle.player_text.specs.declared.init.TheConstants.{VOICE_STARTED, TEMPO_STARTED}
use Rattle.player_text.specs.declared.register.TheConstants.{REGISTERS}
use Rattle.player_text.specs.declared.silence.TheConstants.{SILENCE}
use Rattle.player_text.specs.declared.slide.TheConstants.{CLIMB_STEP, DROP_STEP, FOUND_STEP, PORTA_STEP, RISE_STEP}
use Rattle.player_text.specs.declared.slide.TheConstants.{SINK_STEP, SPEED_STEP, SWING_STEP, TONE_STEP}
use Rattle.player_text.specs.declared.tick.TheConstants.{FRAME_COUNTED, GATE_TIMER_SET, NOTE_TAKEN, NOTE_BEGUN}
use Rattle.player_text.specs.declared.tick.TheConstants.{PROGRAMS_BEGUN}
use Rattle.player_text.specs.declared.tick.TheConstants.{COMMAND_BEGUN, COMMAND_TAKEN}
use Rattle.player_text.specs.declared.walk.TheConstants.{ORDER_WALKED, PLAY_REPEATED}
use Rattle.player_text.specs.declared.wave.TheConstants.{WAVE_STEP}
use Rattle.player_text.specs.declared.texts.Start.{Start}
use Rattle.player_text.specs.Texts.{voice_tree, filter_tree, init_tree}
use Rattle.player_text.specs.Steps.{command_tree, row_commands, effect_pieces, all_of, text}
use Rattle.idle_parts.specs.Idle.{bodies, part}

-- commands 5 up but 8, $E and $F stand in a row's lines and in the wave table's
pub record PartsAreThese : Type 0 where
  pub transposes : bodies TRANSPOSES voice_tree
      ≡ part TRANSPOSES 0 ORDER_WALKED.now ∷ part TRANSPOSES 0 ENTRY_READ.now ∷ []
  pub repeats : bodies REPEATS voice_tree ≡ part REPEATS 0 PLAY_REPEATED.now ∷ part REPEATS 0 ORDER_WALKED.now ∷ []
  pub up : bodies PORTA_UP voice_tree ≡ part PORTA_UP 0 PORTA_STEP.now ∷ []
  pub down : bodies PORTA_DOWN voice_tree ≡ part PORTA_DOWN 0 PORTA_STEP.now ∷ []
  pub tone : bodies TONE_PORTA voice_tree ≡ part TONE_PORTA 0 TONE_STEP.now ∷ []
  pub tie : bodies TIE_NOTE voice_tree ≡ part TIE_NOTE 0 TONE_STEP.now ∷ []
  pub vibrato : bodies VIBRATO voice_tree ≡ []
  pub instrument : bodies INSTRUMENT_VIBRATO voice_tree ≡ part INSTRUMENT_VIBRATO 0 EFFECT_BEGUN.now ∷ []
  pub speeds : bodies NOTE_DEPENDENT voice_tree
      ≡ part NOTE_DEPENDENT 0 SPEED_STEP.now ∷ part NOTE_DEPENDENT 0 SWING_STEP.now
      ∷ part NOTE_DEPENDENT 0 PITCH.now ∷ []
  pub ad : bodies SET_AD voice_tree ≡ part SET_AD 0 AD_SET.now ∷ part SET_AD 0 AD_SET.now ∷ []
  pub sr : bodies SET_SR voice_tree ≡ part SET_SR 0 SR_SET.now ∷ part SET_SR 0 SR_SET.now ∷ []
  pub wave : bodies SET_WAVE voice_tree ≡ part SET_WAVE 0 WAVE_SET.now ∷ part SET_WAVE 0 WAVE_SET.now ∷ []
  pub wave_pointer : bodies SET_WAVE_POINTER voice_tree ≡ part SET_WAVE_POINTER 0 WAVE_POINTER_SET.now ∷ []
  pub pulses : bodies PULSE_TABLE voice_tree
      ≡ part PULSE_TABLE 0 PULSE.now ∷ part PULSE_TABLE 0 REGISTERS.now ∷ part PULSE_TABLE 1 REGISTERS.now
      ∷ part PULSE_TABLE 2 REGISTERS.now ∷ []
  pub pulse_pointer : bodies SET_PULSE_POINTER voice_tree
      ≡ part SET_PULSE_POINTER 0 PULSE_POINTER_SET.now ∷ part SET_PULSE_POINTER 0 PULSE_POINTER_SET.now ∷ []
  pub filters : bodies FILTER_TABLE voice_tree ≡ []
  pub the_filter : bodies FILTER_TABLE filter_tree ≡ part FILTER_TABLE 0 FILTER_STEP.now ∷ []
  pub filter_pointer : bodies SET_FILTER_POINTER voice_tree
      ≡ part SET_FILTER_POINTER 0 FILTER_POINTER_SET.now ∷ part SET_FILTER_POINTER 0 FILTER_POINTER_SET.now ∷ []
  pub filter_control : bodies SET_FILTER_CONTROL voice_tree
      ≡ part SET_FILTER_CONTROL 0 FILTER_CONTROL_SET.now ∷ part SET_FILTER_CONTROL 0 FILTER_CONTROL_SET.now ∷ []
  pub cutoff : bodies SET_CUTOFF voice_tree ≡ part SET_CUTOFF 0 CUTOFF_SET.now ∷ part SET_CUTOFF 0 CUTOFF_SET.now ∷ []
  pub volume : bodies SET_VOLUME voice_tree ≡ part SET_VOLUME 0 VOLUME_SET.now ∷ part SET_VOLUME 0 VOLUME_SET.now ∷ []
  pub the_volume : bodies SET_VOLUME filter_tree
      ≡ part SET_VOLUME 0 FILTER_REGISTERS.now ∷ part SET_VOLUME 1 FILTER_REGISTERS.now ∷ []
  pub funk : bodies FUNK_TEMPO voice_tree
      ≡ part FUNK_TEMPO 0 SILENCE.now ∷ part FUNK_TEMPO 1 SILENCE.now ∷ part FUNK_TEMPO 0 FRAME_COUNTED.now ∷ []
  pub tempo : bodies SET_TEMPO voice_tree ≡ part SET_TEMPO 0 TEMPO_SET.now ∷ []
  pub waves : bodies WAVE_TABLE voice_tree ≡ part WAVE_TABLE 0 WAVE_STEP.now ∷ []
  pub commands : bodies WAVE_COMMAND voice_tree
      ≡ part WAVE_COMMAND 0 WAVE_STEP.now ∷ part WAVE_COMMAND 1 WAVE_STEP.now
      ∷ (bodies WAVE_COMMAND command_tree ++ part WAVE_COMMAND 0 GIVEN_BACK.now ∷ [])
  pub swings : bodies SWINGS voice_tree
      ≡ part SWINGS 0 COMMAND_BEGUN.now ∷ part SWINGS 0 SWING_STEP.now ∷ part SWINGS 0 PITCH.now ∷ []
  pub climbs : bodies CLIMB voice_tree ≡ part CLIMB 0 CLIMB_STEP.now ∷ []
  pub drops : bodies DROP voice_tree ≡ part DROP 0 DROP_STEP.now ∷ []
  pub rises : bodies RISE voice_tree ≡ part RISE 0 RISE_STEP.now ∷ []
  pub sinks : bodies SINK voice_tree ≡ part SINK 0 SINK_STEP.now ∷ []
  pub found : bodies FOUND_NOTE voice_tree ≡ part FOUND_NOTE 0 FOUND_STEP.now ∷ []
  pub row_tone : bodies ROW_TONE voice_tree ≡ part ROW_TONE 0 NOTE_TAKEN.now ∷ part ROW_TONE 0 GATE_CLOSED.now ∷ []
  pub row_slide : bodies ROW_SLIDE voice_tree ≡ part ROW_SLIDE 0 COMMAND_BEGUN.now ∷ []
  pub row_once : bodies ROW_ONCE voice_tree
      ≡ part ROW_ONCE 0 COMMAND_BEGUN.now ∷ part ROW_ONCE 1 COMMAND_BEGUN.now
      ∷ all_of (text COMMAND_TAKEN ∷ row_commands) ∷ []
  pub row_command : bodies ROW_COMMAND voice_tree
      ≡ part ROW_COMMAND 0 COMMAND_BEGUN.now ∷ part ROW_COMMAND 1 COMMAND_BEGUN.now ∷ part ROW_COMMAND 0 ENTRY_BEGUN.now
      ∷ part ROW_COMMAND 0 ENTRY_READ.now ∷ part ROW_COMMAND 1 ENTRY_READ.now ∷ []
  pub first_mask : bodies FIRST_MASK voice_tree ≡ part FIRST_MASK 0 NOTE_BEGUN.now ∷ []
  pub delay : bodies VIBRATO_DELAY voice_tree ≡ part VIBRATO_DELAY 0 NOTE_TAKEN.now ∷ []
  pub note_vibrato : bodies NOTE_VIBRATO voice_tree
      ≡ part NOTE_VIBRATO 0 NOTE_BEGUN.now ∷ part NOTE_VIBRATO 0 COMMAND_BEGUN.now ∷ []
  pub note_pulse : bodies NOTE_PULSE voice_tree ≡ part NOTE_PULSE 0 PROGRAMS_BEGUN.now ∷ []
  pub note_filter : bodies NOTE_FILTER voice_tree ≡ part NOTE_FILTER 0 PROGRAMS_BEGUN.now ∷ []
  pub held_note : bodies HELD_NOTE voice_tree ≡ part HELD_NOTE 0 GATE_CLOSED.now ∷ []
  pub first_holds : bodies FIRST_HOLDS voice_tree
      ≡ part FIRST_HOLDS 0 GATE_CLOSED.now ∷ part FIRST_HOLDS 1 GATE_CLOSED.now ∷ []
  pub legato : bodies LEGATO voice_tree ≡ part LEGATO 0 GATE_CLOSED.now ∷ part LEGATO 1 GATE_CLOSED.now ∷ []
  pub no_hard_restart : bodies NO_HARD_RESTART voice_tree
      ≡ part NO_HARD_RESTART 0 GATE_CLOSED.now ∷ part NO_HARD_RESTART 1 GATE_CLOSED.now ∷ []
  pub special_row : bodies SPECIAL_ROW voice_tree ≡ part SPECIAL_ROW 0 WAVE_STEP.now ∷ []
  pub wave_delay : bodies WAVE_DELAY voice_tree
      ≡ part WAVE_DELAY 0 NOTE_BEGUN.now ∷ part WAVE_DELAY 1 NOTE_BEGUN.now ∷ part WAVE_DELAY 0 WAVE_POINTER_SET.now
      ∷ part WAVE_DELAY 0 WAVE_STEP.now ∷ []
  pub gate_note : bodies GATE_NOTE voice_tree ≡ part GATE_NOTE 0 ENTRY_READ.now ∷ []
  pub voice_tempo : bodies VOICE_TEMPO voice_tree ≡ part VOICE_TEMPO 0 TEMPO_SET.now ∷ []
  pub common_tempo : bodies COMMON_TEMPO voice_tree ≡ part COMMON_TEMPO 0 TEMPO_SET.now ∷ []
  pub turns : bodies FUNK_TURNS voice_tree ≡ part FUNK_TURNS 0 FUNK_SET.now ∷ []
  pub choice : bodies FUNK_CHOICE voice_tree ≡ part FUNK_CHOICE 0 FUNK_CHOSEN.now ∷ []
  pub own_timer : bodies OWN_TIMER voice_tree
      ≡ part OWN_TIMER 0 GATE_TIMER_SET.now ∷ part OWN_TIMER 0 ROW_AWAITED.now ∷ part OWN_TIMER 1 ROW_AWAITED.now
      ∷ part OWN_TIMER 0 ROW_REACHED.now ∷ part OWN_TIMER 1 ROW_REACHED.now ∷ part OWN_TIMER 0 FIRST_REACHED.now
      ∷ part OWN_TIMER 1 FIRST_REACHED.now ∷ []
  pub own_wave : bodies OWN_WAVE voice_tree ≡ part OWN_WAVE 0 NOTE_BEGUN.now ∷ part OWN_WAVE 1 NOTE_BEGUN.now ∷ []
  pub voice_two : bodies VOICE_TWO voice_tree ≡ part VOICE_TWO 0 SILENCE.now ∷ part VOICE_TWO 1 SILENCE.now ∷ []
  pub voice_three : bodies VOICE_THREE voice_tree
      ≡ part VOICE_THREE 0 SILENCE.now ∷ part VOICE_THREE 1 SILENCE.now ∷ part VOICE_THREE 2 SILENCE.now
      ∷ part VOICE_THREE 3 SILENCE.now ∷ []
  pub effects : bodies EFFECTS voice_tree
      ≡ part EFFECTS 0 NOTE_BEGUN.now ∷ part EFFECTS 1 NOTE_BEGUN.now ∷ part EFFECTS 0 COMMAND_BEGUN.now
      ∷ part EFFECTS 1 COMMAND_BEGUN.now ∷ part EFFECTS 2 COMMAND_BEGUN.now ∷ part EFFECTS 0 EFFECT_BEGUN.now
      ∷ part EFFECTS 1 EFFECT_BEGUN.now ∷ all_of effect_pieces ∷ []
  pub filter_used : bodies FILTER_USED voice_tree ≡ []
  pub the_filter_used : bodies FILTER_USED filter_tree
      ≡ part FILTER_USED 0 FILTER_REGISTERS.now ∷ part FILTER_USED 1 FILTER_REGISTERS.now
      ∷ part FILTER_USED 2 FILTER_REGISTERS.now ∷ []
  -- where a subtune begins: the first funk tempo is one of its numbers
  pub orders_begin : (start : Start) (cleared : ℕ) → bodies SUBTUNES (init_tree start cleared)
      ≡ part SUBTUNES 0 SUBTUNE_TAKEN.now ∷ part SUBTUNES 0 VOICE_STARTED.now ∷ []
  pub volume_begins : (start : Start) (cleared : ℕ) →
      bodies SET_VOLUME (init_tree start cleared) ≡ part SET_VOLUME 0 VARIABLES_CLEARED.now ∷ []
  pub delay_begins : (start : Start) (cleared : ℕ) →
      bodies INSTRUMENT_VIBRATO (init_tree start cleared) ≡ part INSTRUMENT_VIBRATO 0 VOICE_STARTED.now ∷ []
  pub funk_begins : (start : Start) (cleared : ℕ) → bodies FUNK_TEMPO (init_tree start cleared)
      ≡ tree_of (With Lda (Number start.funk) ∷ FUNK_STARTED.now) ∷ part FUNK_TEMPO 0 TEMPO_STARTED.now ∷ []
