-- Conditions of features and of facts, and layouts that keep the lines of facts or don't.
use Rattle.std.proofs.Common.{◌≡◌, true, [], ◌∷◌, inl, refl, arith}
use Rattle.song_model.specs.LookUp.{pattern_at}
use Rattle.play_model.specs.WorkedSongs.{row, one_note}
use Rattle.scopes.specs.Desk.{Layout}
use Rattle.song_facts.specs.declared.facts.Fact.TheVariants.{RowTone, RowSlide, RowOnce, FirstMask, Legato}
use Rattle.song_facts.specs.declared.facts.Fact.TheVariants.{NoHardRestart}
use Rattle.song_facts.specs.declared.facts.Fact.TheVariants.{WaveDelay, GateNote, NoteVibrato, VibratoDelay, NotePulse}
use Rattle.song_facts.specs.declared.facts.Fact.TheVariants.{NoteFilter}
use Rattle.song_facts.specs.declared.facts.Fact.TheVariants.{VoiceTempo, CommonTempo, FunkTurns, FunkChoice}
use Rattle.song_facts.specs.declared.facts.Fact.TheVariants.{OwnTimer, OwnWave, Subtunes, VoiceTwo, VoiceThree, FirstHolds}
use Rattle.song_facts.specs.Facts.{HasFact, no_facts}
use Rattle.player_memory.specs.declared.conditions.TheConstants.{GATE_NOTE}
use Rattle.player_memory.specs.FactLines.{KeepsMarked, KeepsMarkedAlone}
use Rattle.player_memory.specs.WorkedConditions.{ConditionsAreFeatures, ConditionsAreFacts, FactLinesAreWorked}
use Rattle.player_memory.specs.WorkedConditions.{with_holding, RunsAreWorked}

pub conditions_are_features : ConditionsAreFeatures
conditions_are_features = record {
  transposes = refl;
  repeats = refl;
  porta_up = refl;
  porta_down = refl;
  tone_porta = refl;
  tie_note = refl;
  vibrato = refl;
  instrument_vibrato = refl;
  note_dependent = refl;
  set_ad = refl;
  set_sr = refl;
  set_wave = refl;
  set_wave_pointer = refl;
  pulse_table = refl;
  set_pulse_pointer = refl;
  filter_table = refl;
  set_filter_pointer = refl;
  set_filter_control = refl;
  set_cutoff = refl;
  set_volume = refl;
  funk_tempo = refl;
  set_tempo = refl;
  wave_table = refl;
  wave_command = refl;
}

pub conditions_are_facts : ConditionsAreFacts
conditions_are_facts RowTone = refl
conditions_are_facts RowSlide = refl
conditions_are_facts RowOnce = refl
conditions_are_facts FirstMask = refl
conditions_are_facts Legato = refl
conditions_are_facts NoHardRestart = refl
conditions_are_facts WaveDelay = refl
conditions_are_facts GateNote = refl
conditions_are_facts NoteVibrato = refl
conditions_are_facts VibratoDelay = refl
conditions_are_facts NotePulse = refl
conditions_are_facts NoteFilter = refl
conditions_are_facts VoiceTempo = refl
conditions_are_facts CommonTempo = refl
conditions_are_facts FunkTurns = refl
conditions_are_facts FunkChoice = refl
conditions_are_facts OwnTimer = refl
conditions_are_facts OwnWave = refl
conditions_are_facts Subtunes = refl
conditions_are_facts VoiceTwo = refl
conditions_are_facts VoiceThree = refl
conditions_are_facts FirstHolds = refl

none_kept : (layout : Layout) → KeepsMarked layout no_facts
none_kept layout RowTone on = absurd cc
none_kept layout RowSlide on = absurd cc
none_kept layout RowOnce on = absurd cc
none_kept layout FirstMask on = absurd cc
none_kept layout Legato on = absurd cc
none_kept layout NoHardRestart on = absurd cc
none_kept layout WaveDelay on = absurd cc
none_kept layout GateNote on = absurd cc
none_kept layout NoteVibrato on = absurd cc
none_kept layout VibratoDelay on = absurd cc
none_kept layout NotePulse on = absurd cc
none_kept layout NoteFilter on = absurd cc
none_kept layout VoiceTempo on = absurd cc
none_kept layout CommonTempo on = absurd cc
none_kept layout FunkTurns on = absurd cc
none_kept layout FunkChoice on = absurd cc
none_kept layout OwnTimer on = absurd cc
none_kept layout OwnWave on = absurd cc
none_kept layout Subtunes on = absurd cc
none_kept layout VoiceTwo on = absurd cc
none_kept layout VoiceThree on = absurd cc
none_kept layout FirstHolds on = absurd cc

gate_kept : (layout : Layout) → layout.holds GATE_NOTE ≡ true →
    KeepsMarked layout (record no_facts { gate_note = true })
gate_kept layout holds RowTone on = absurd cc
gate_kept layout holds RowSlide on = absurd cc
gate_kept layout holds RowOnce on = absurd cc
gate_kept layout holds FirstMask on = absurd cc
gate_kept layout holds Legato on = absurd cc
gate_kept layout holds NoHardRestart on = absurd cc
gate_kept layout holds WaveDelay on = absurd cc
gate_kept layout holds GateNote on = holds
gate_kept layout holds NoteVibrato on = absurd cc
gate_kept layout holds VibratoDelay on = absurd cc
gate_kept layout holds NotePulse on = absurd cc
gate_kept layout holds NoteFilter on = absurd cc
gate_kept layout holds VoiceTempo on = absurd cc
gate_kept layout holds CommonTempo on = absurd cc
gate_kept layout holds FunkTurns on = absurd cc
gate_kept layout holds FunkChoice on = absurd cc
gate_kept layout holds OwnTimer on = absurd cc
gate_kept layout holds OwnWave on = absurd cc
gate_kept layout holds Subtunes on = absurd cc
gate_kept layout holds VoiceTwo on = absurd cc
gate_kept layout holds VoiceThree on = absurd cc
gate_kept layout holds FirstHolds on = absurd cc

-- where at most the condition of a keyoff holds
none_alone : (layout : Layout) → KeepsMarkedAlone (with_holding layout []) (record no_facts { gate_note = true })
none_alone layout RowTone on = absurd cc
none_alone layout RowSlide on = absurd cc
none_alone layout RowOnce on = absurd cc
none_alone layout FirstMask on = absurd cc
none_alone layout Legato on = absurd cc
none_alone layout NoHardRestart on = absurd cc
none_alone layout WaveDelay on = absurd cc
none_alone layout GateNote on = absurd cc
none_alone layout NoteVibrato on = absurd cc
none_alone layout VibratoDelay on = absurd cc
none_alone layout NotePulse on = absurd cc
none_alone layout NoteFilter on = absurd cc
none_alone layout VoiceTempo on = absurd cc
none_alone layout CommonTempo on = absurd cc
none_alone layout FunkTurns on = absurd cc
none_alone layout FunkChoice on = absurd cc
none_alone layout OwnTimer on = absurd cc
none_alone layout OwnWave on = absurd cc
none_alone layout Subtunes on = absurd cc
none_alone layout VoiceTwo on = absurd cc
none_alone layout VoiceThree on = absurd cc
none_alone layout FirstHolds on = absurd cc

gate_alone : (layout : Layout) →
    KeepsMarkedAlone (with_holding layout (GATE_NOTE ∷ [])) (record no_facts { gate_note = true })
gate_alone layout RowTone on = absurd cc
gate_alone layout RowSlide on = absurd cc
gate_alone layout RowOnce on = absurd cc
gate_alone layout FirstMask on = absurd cc
gate_alone layout Legato on = absurd cc
gate_alone layout NoHardRestart on = absurd cc
gate_alone layout WaveDelay on = absurd cc
gate_alone layout GateNote on = refl
gate_alone layout NoteVibrato on = absurd cc
gate_alone layout VibratoDelay on = absurd cc
gate_alone layout NotePulse on = absurd cc
gate_alone layout NoteFilter on = absurd cc
gate_alone layout VoiceTempo on = absurd cc
gate_alone layout CommonTempo on = absurd cc
gate_alone layout FunkTurns on = absurd cc
gate_alone layout FunkChoice on = absurd cc
gate_alone layout OwnTimer on = absurd cc
gate_alone layout OwnWave on = absurd cc
gate_alone layout Subtunes on = absurd cc
gate_alone layout VoiceTwo on = absurd cc
gate_alone layout VoiceThree on = absurd cc
gate_alone layout FirstHolds on = absurd cc

-- the song of one note has a keyoff
key_off : HasFact one_note GateNote
unfolding pattern_at
key_off = record {
  row = row 0xBE 0 0 0;
  used = record {
    pattern = 0;
    used = record {
      byte = record {
        order = _;
        played = record {
          subtune = _;
          playable = (0, omega arith, refl);
          channel = 1;
          is_channel = record { first = omega arith; last = omega arith };
          order_is = refl;
        };
        entry = (0, omega arith, refl);
      };
      is_pattern = omega arith;
    };
    has = (1, omega arith, refl);
  };
  is_such = inl refl;
}

pub fact_lines_are_worked : (layout : Layout) → FactLinesAreWorked layout
fact_lines_are_worked layout = record {
  none = none_kept (with_holding layout []);
  gate = gate_kept (with_holding layout (GATE_NOTE ∷ [])) refl;
  other = λ keeps. (let on = keeps GateNote refl in absurd cc);
  alone = gate_alone layout;
  fewer = none_alone layout;
  more = λ alone. (let on = alone WaveDelay refl in absurd cc);
  pulse_more = λ alone. (let on = alone NotePulse refl in absurd cc);
  filter_more = λ alone. (let on = alone NoteFilter refl in absurd cc);
  vibrato_more = λ alone. (let on = alone NoteVibrato refl in absurd cc);
  delay_more = λ alone. (let on = alone VibratoDelay refl in absurd cc);
  timer_more = λ alone. (let on = alone OwnTimer refl in absurd cc);
  wave_more = λ alone. (let on = alone OwnWave refl in absurd cc);
  subtunes_more = λ alone. (let on = alone Subtunes refl in absurd cc);
  two_more = λ alone. (let on = alone VoiceTwo refl in absurd cc);
  three_more = λ alone. (let on = alone VoiceThree refl in absurd cc);
  first_more = λ alone. (let on = alone FirstHolds refl in absurd cc);
  song = λ keeps. (let on = keeps GateNote key_off in absurd cc);
  free = record {
    tone = λ on. absurd cc;
    slide = λ on. absurd cc;
    once = λ on. absurd cc;
    delay = λ on. absurd cc;
    command = λ on. absurd cc;
    legato = λ on. absurd cc;
    soft = λ on. absurd cc;
    filter = λ on. absurd cc;
    control = λ on. absurd cc;
    cutoff = λ on. absurd cc;
  };
  tone = λ keeps. (let on = keeps.tone refl in absurd cc);
  slide = λ keeps. (let on = keeps.slide refl in absurd cc);
  once = λ keeps. (let on = keeps.once refl in absurd cc);
  rows = record {
    tone = λ on. absurd cc;
    slide = λ on. refl;
    once = λ on. absurd cc;
    delay = λ on. absurd cc;
    command = λ on. absurd cc;
    legato = λ on. absurd cc;
    soft = λ on. absurd cc;
    filter = λ on. absurd cc;
    control = λ on. absurd cc;
    cutoff = λ on. absurd cc;
  };
  delay = λ keeps. (let on = keeps.delay refl in absurd cc);
  command = λ keeps. (let on = keeps.command refl in absurd cc);
  legato = λ keeps. (let on = keeps.legato refl in absurd cc);
  soft = λ keeps. (let on = keeps.soft refl in absurd cc);
  filter = λ keeps. (let on = keeps.filter refl in absurd cc);
  control = λ keeps. (let on = keeps.control refl in absurd cc);
  cutoff = λ keeps. (let on = keeps.cutoff refl in absurd cc);
  filters = record {
    tone = λ on. absurd cc;
    slide = λ on. absurd cc;
    once = λ on. absurd cc;
    delay = λ on. absurd cc;
    command = λ on. absurd cc;
    legato = λ on. absurd cc;
    soft = λ on. absurd cc;
    filter = λ on. absurd cc;
    control = λ on. absurd cc;
    cutoff = λ on. refl;
  };
}

pub runs_are_worked : (layout : Layout) → RunsAreWorked layout
runs_are_worked layout = record {
  first = refl;
  second = refl;
  third = refl;
  not_second = refl;
  not_third = refl;
  second_turns = refl;
  third_turns = refl;
}
