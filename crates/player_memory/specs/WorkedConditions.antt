-- Which condition keeps the lines of each feature: the one with the number of the feature's bit; and of each fact: the
-- one with the fact's number, from 34 on.
use Rattle.std.specs.Prelude.{◌≡◌, ℕ, ◌+◌, true, false, List, [], ◌∷◌, nat_eq}
use Rattle.std.specs.List.{list_any}
use Rattle.song_model.specs.declared.features.Feature.TheVariants.{Transpose, Repeat, PortaUp, PortaDown, TonePorta}
use Rattle.song_model.specs.declared.features.Feature.TheVariants.{TieNote, Vibrato, InstrumentVibrato, NoteDependent}
use Rattle.song_model.specs.declared.features.Feature.TheVariants.{SetAd, SetSr, SetWave, SetWavePointer, PulseTable}
use Rattle.song_model.specs.declared.features.Feature.TheVariants.{SetPulsePointer, FilterTable, SetFilterPointer}
use Rattle.song_model.specs.declared.features.Feature.TheVariants.{FilterControl, Cutoff, Volume, FunkTempo, SetTempo}
use Rattle.song_model.specs.declared.features.Feature.TheVariants.{WaveTable, WaveCommand}
use Rattle.song_model.specs.Feature.{bit_of}
use Rattle.song_facts.specs.declared.facts.Fact.{Fact}
use Rattle.song_facts.specs.Facts.{number_of, no_facts}
use Rattle.play_model.specs.WorkedSongs.{one_note}
use Rattle.scopes.specs.Desk.{Layout}
use Rattle.player_memory.specs.declared.conditions.TheConstants.{TRANSPOSES, REPEATS, PORTA_UP, PORTA_DOWN}
use Rattle.player_memory.specs.declared.conditions.TheConstants.{TONE_PORTA, TIE_NOTE, VIBRATO, INSTRUMENT_VIBRATO}
use Rattle.player_memory.specs.declared.conditions.TheConstants.{NOTE_DEPENDENT, SET_AD, SET_SR, SET_WAVE}
use Rattle.player_memory.specs.declared.conditions.TheConstants.{SET_WAVE_POINTER, PULSE_TABLE, SET_PULSE_POINTER}
use Rattle.player_memory.specs.declared.conditions.TheConstants.{FILTER_TABLE, SET_FILTER_POINTER, SET_FILTER_CONTROL}
use Rattle.player_memory.specs.declared.conditions.TheConstants.{SET_CUTOFF, SET_VOLUME, FUNK_TEMPO, SET_TEMPO}
use Rattle.player_memory.specs.declared.conditions.TheConstants.{WAVE_TABLE, WAVE_COMMAND, ROW_SLIDE, ROW_ONCE}
use Rattle.player_memory.specs.declared.conditions.TheConstants.{ROW_COMMAND, LEGATO, NO_HARD_RESTART, WAVE_DELAY}
use Rattle.player_memory.specs.declared.conditions.TheConstants.{GATE_NOTE, NOTE_PULSE, NOTE_FILTER, NOTE_VIBRATO}
use Rattle.player_memory.specs.declared.conditions.TheConstants.{VIBRATO_DELAY}
use Rattle.player_memory.specs.declared.conditions.TheConstants.{ROW_TONE, FILTER_USED, OWN_TIMER, OWN_WAVE}
use Rattle.player_memory.specs.declared.conditions.TheConstants.{SUBTUNES, VOICE_TWO, VOICE_THREE, FIRST_HOLDS}
use Rattle.player_memory.specs.FactLines.{fact_condition, KeepsMarked, KeepsMarkedAlone, KeepsFacts, KeepsShared}
use Rattle.player_memory.specs.FactLines.{is_run}

pub record ConditionsAreFeatures : Type 0 where
  pub transposes : bit_of Transpose ≡ TRANSPOSES
  pub repeats : bit_of Repeat ≡ REPEATS
  pub porta_up : bit_of PortaUp ≡ PORTA_UP
  pub porta_down : bit_of PortaDown ≡ PORTA_DOWN
  pub tone_porta : bit_of TonePorta ≡ TONE_PORTA
  pub tie_note : bit_of TieNote ≡ TIE_NOTE
  pub vibrato : bit_of Vibrato ≡ VIBRATO
  pub instrument_vibrato : bit_of InstrumentVibrato ≡ INSTRUMENT_VIBRATO
  pub note_dependent : bit_of NoteDependent ≡ NOTE_DEPENDENT
  pub set_ad : bit_of SetAd ≡ SET_AD
  pub set_sr : bit_of SetSr ≡ SET_SR
  pub set_wave : bit_of SetWave ≡ SET_WAVE
  pub set_wave_pointer : bit_of SetWavePointer ≡ SET_WAVE_POINTER
  pub pulse_table : bit_of PulseTable ≡ PULSE_TABLE
  pub set_pulse_pointer : bit_of SetPulsePointer ≡ SET_PULSE_POINTER
  pub filter_table : bit_of FilterTable ≡ FILTER_TABLE
  pub set_filter_pointer : bit_of SetFilterPointer ≡ SET_FILTER_POINTER
  pub set_filter_control : bit_of FilterControl ≡ SET_FILTER_CONTROL
  pub set_cutoff : bit_of Cutoff ≡ SET_CUTOFF
  pub set_volume : bit_of Volume ≡ SET_VOLUME
  pub funk_tempo : bit_of FunkTempo ≡ FUNK_TEMPO
  pub set_tempo : bit_of SetTempo ≡ SET_TEMPO
  pub wave_table : bit_of WaveTable ≡ WAVE_TABLE
  pub wave_command : bit_of WaveCommand ≡ WAVE_COMMAND

abbrev pub ConditionsAreFacts : Type 0
ConditionsAreFacts = (fact : Fact) → fact_condition fact ≡ 34 + number_of fact

-- where these conditions hold, and no others
abbrev pub with_holding : Layout → List ℕ → Layout
with_holding layout conditions = record layout { holds = λ condition. list_any (nat_eq condition) conditions }

-- A layout without a condition keeps the lines of no song with its fact, and one with it does. Lines that facts or
-- features have in common are kept with each of them.
pub record FactLinesAreWorked (layout : Layout) : Type 0 where
  pub none : KeepsMarked (with_holding layout []) no_facts
  pub gate : KeepsMarked (with_holding layout (GATE_NOTE ∷ [])) (record no_facts { gate_note = true })
  pub other : ¬ KeepsMarked (with_holding layout (WAVE_DELAY ∷ [])) (record no_facts { gate_note = true })
  -- and those of no more than these, with or without them
  pub alone : KeepsMarkedAlone (with_holding layout (GATE_NOTE ∷ [])) (record no_facts { gate_note = true })
  pub fewer : KeepsMarkedAlone (with_holding layout []) (record no_facts { gate_note = true })
  pub more : ¬ KeepsMarkedAlone (with_holding layout (GATE_NOTE ∷ WAVE_DELAY ∷ []))
      (record no_facts { gate_note = true })
  pub pulse_more : ¬ KeepsMarkedAlone (with_holding layout (NOTE_PULSE ∷ [])) no_facts
  pub filter_more : ¬ KeepsMarkedAlone (with_holding layout (NOTE_FILTER ∷ [])) no_facts
  pub vibrato_more : ¬ KeepsMarkedAlone (with_holding layout (NOTE_VIBRATO ∷ [])) no_facts
  pub delay_more : ¬ KeepsMarkedAlone (with_holding layout (VIBRATO_DELAY ∷ [])) no_facts
  pub timer_more : ¬ KeepsMarkedAlone (with_holding layout (OWN_TIMER ∷ [])) no_facts
  pub wave_more : ¬ KeepsMarkedAlone (with_holding layout (OWN_WAVE ∷ [])) no_facts
  pub subtunes_more : ¬ KeepsMarkedAlone (with_holding layout (SUBTUNES ∷ [])) no_facts
  pub two_more : ¬ KeepsMarkedAlone (with_holding layout (VOICE_TWO ∷ [])) no_facts
  pub three_more : ¬ KeepsMarkedAlone (with_holding layout (VOICE_THREE ∷ [])) no_facts
  pub first_more : ¬ KeepsMarkedAlone (with_holding layout (FIRST_HOLDS ∷ [])) no_facts
  pub song : ¬ KeepsFacts (with_holding layout []) one_note
  pub free : KeepsShared (with_holding layout [])
  pub tone : ¬ KeepsShared (with_holding layout (ROW_TONE ∷ []))
  pub slide : ¬ KeepsShared (with_holding layout (ROW_SLIDE ∷ []))
  pub once : ¬ KeepsShared (with_holding layout (ROW_ONCE ∷ []))
  pub rows : KeepsShared (with_holding layout (ROW_SLIDE ∷ ROW_COMMAND ∷ []))
  pub delay : ¬ KeepsShared (with_holding layout (WAVE_DELAY ∷ []))
  pub command : ¬ KeepsShared (with_holding layout (WAVE_COMMAND ∷ []))
  pub legato : ¬ KeepsShared (with_holding layout (LEGATO ∷ []))
  pub soft : ¬ KeepsShared (with_holding layout (NO_HARD_RESTART ∷ []))
  pub filter : ¬ KeepsShared (with_holding layout (FILTER_TABLE ∷ []))
  pub control : ¬ KeepsShared (with_holding layout (SET_FILTER_CONTROL ∷ []))
  pub cutoff : ¬ KeepsShared (with_holding layout (SET_CUTOFF ∷ []))
  pub filters : KeepsShared (with_holding layout (SET_CUTOFF ∷ FILTER_USED ∷ []))

-- the first voice is run in each layout, the second where its own channel has something to play, and the third so; and
-- all three where the voices take turns between two tempos
pub record RunsAreWorked (layout : Layout) : Type 0 where
  pub first : is_run (with_holding layout []).holds 0 ≡ true
  pub second : is_run (with_holding layout (VOICE_TWO ∷ [])).holds 1 ≡ true
  pub third : is_run (with_holding layout (VOICE_THREE ∷ [])).holds 2 ≡ true
  pub not_second : is_run (with_holding layout (VOICE_THREE ∷ [])).holds 1 ≡ false
  pub not_third : is_run (with_holding layout (VOICE_TWO ∷ [])).holds 2 ≡ false
  pub second_turns : is_run (with_holding layout (FUNK_TEMPO ∷ [])).holds 1 ≡ true
  pub third_turns : is_run (with_holding layout (FUNK_TEMPO ∷ [])).holds 2 ≡ true
