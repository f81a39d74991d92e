-- Costs of small songs, worked out by hand.
use Rattle.std.proofs.Common.{◌≡◌, ℕ, true, List, [], ◌∷◌, map, All, refl, inl, inr, arith}
use Rattle.std.proofs.lemmas.List.Elements.{All-cons, All-nil}
use Rattle.base.proofs.Laws.{same_head}
use Rattle.song_model.specs.declared.features.Feature.{Feature}
use Rattle.song_model.specs.declared.features.Feature.TheVariants.{Transpose, PortaUp, FilterTable, WaveTable}
use Rattle.song_model.specs.declared.features.Feature.TheVariants.{WaveCommand}
use Rattle.song_model.specs.Feature.{bit_of}
use Rattle.song_model.specs.LookUp.{table_row, pattern_at, instrument_at}
use Rattle.play_model.specs.State.{no_options}
use Rattle.play_model.specs.WorkedRuns.{first_left_out}
use Rattle.packed_form.specs.PackedText.{packed_text}
use Rattle.packing_rules.specs.Segments.{first_row, is_closed, are_equal, first_equal, keeps, stand_in}
use Rattle.packing_rules.specs.Renumbering.{speed_rows, speed_number, table_number, instruments_in_order}
use Rattle.packing_rules.specs.Renumbering.{instrument_number, pattern_text}
use Rattle.packing_rules.specs.Renumbering.{pattern_texts}
use Rattle.packing_rules.specs.SongSizes.{packed_size}
use Rattle.song_facts.specs.declared.facts.Fact.{Fact}
use Rattle.song_facts.specs.declared.facts.Fact.TheVariants.{RowSlide, FirstMask, GateNote, NoteFilter, OwnTimer}
use Rattle.song_facts.specs.declared.facts.Fact.TheVariants.{OwnWave}
use Rattle.player_memory.specs.declared.conditions.TheConstants.{CLIMB, RISE, ROW_SLIDE, FIRST_MASK, GATE_NOTE}
use Rattle.player_memory.specs.declared.conditions.TheConstants.{NOTE_FILTER, OWN_TIMER, OWN_WAVE, ROW_COMMAND}
use Rattle.player_memory.specs.declared.conditions.TheConstants.{SPECIAL_ROW, EFFECTS}
use Rattle.player_memory.specs.declared.conditions.TheConstants.{FILTER_USED}
use Rattle.player_memory.specs.FactLines.{fact_condition}
use Rattle.kept_lines.specs.Asked.{asked}
use Rattle.kept_lines.specs.KeptLines.{kept_set}
use Rattle.variable_places.specs.Places.{voice_rows, shared_rows, asks, has_byte, voice_labels, other_labels}
use Rattle.variable_places.specs.Places.{free_places, funk_place, variable_count}
use Rattle.song_places.specs.declared.places.Place.{Place}
use Rattle.song_places.specs.declared.places.Place.TheVariants.{InOrder, InPattern, InInstrument, InWaveTable}
use Rattle.song_costs.specs.declared.kept.Cause.TheVariants.{InSong}
use Rattle.song_costs.specs.declared.kept.PartCost.{PartCost}
use Rattle.song_places.specs.Places.{IsFirstPlace, IsFirstFactPlace}
use Rattle.song_places.specs.PartPlaces.{keeps_part, NeedsFor, IsPartPlace}
use Rattle.song_places.specs.WorkedPlaces.{crossing}
use Rattle.song_costs.specs.WorkedCosts.{NoteIsWorked, TablesAreCounted, part_cost, IsToldOf, PartsAreWorked}
use Rattle.song_costs.specs.WorkedCosts.{InstrumentsAreCounted, FactPartsAreWorked, ListIsWorked, OptionsAreWorked}
use Rattle.song_places.proofs.Laws.{own_places_are_first, fact_places_are_first}
use Rattle.song_places.proofs.Laws.{transposes_are_worked, portamentos_are_worked, tables_are_worked, risen}
use Rattle.song_places.proofs.Laws.{gate_notes_are_worked, facts_are_worked, pairs_are_worked, wave_places_are_worked}
use Rattle.song_places.proofs.Laws.{crossing_first}
use Rattle.song_places.proofs.Laws.{filter_places_are_worked}

pub note_is_worked : NoteIsWorked
unfolding packed_text first_row is_closed are_equal first_equal keeps stand_in speed_rows speed_number table_number
    instruments_in_order instrument_number instrument_at pattern_text pattern_texts table_row pattern_at asked kept_set packed_size
    voice_rows shared_rows asks has_byte voice_labels other_labels free_places funk_place variable_count
note_is_worked = record {
  each = refl;
  bytes = refl;
  all = refl;
  few = λ e. omega arith;
  alone = λ e. omega arith;
  bare = refl;
  once = refl;
}

pub instruments_are_counted : InstrumentsAreCounted
unfolding asked kept_set
instruments_are_counted = record {
  few = refl;
  pulse = refl;
  timers = refl;
  waves = refl;
  both = refl;
  gate = refl;
  envelope = refl;
  first = refl;
}

pub tables_are_counted : TablesAreCounted
unfolding packed_text first_row is_closed are_equal first_equal keeps stand_in speed_rows speed_number table_number
    instruments_in_order instrument_number instrument_at pattern_text pattern_texts table_row pattern_at asked kept_set packed_size
    voice_rows shared_rows asks has_byte voice_labels other_labels free_places funk_place variable_count
tables_are_counted = record {
  instruments = refl;
  wave = refl;
  pulse = refl;
  filter = refl;
  speed = refl;
  frequency = refl;
  bytes = refl;
  calculated = refl;
  frequencies = refl;
  with_slides = refl;
}

-- ---- parts

-- the first place of a feature is that of its own part, and no other place is
own_first : (feature : Feature) (place : Place) → IsFirstPlace crossing feature place →
    IsPartPlace crossing (bit_of feature) place
own_first feature place first = (own_places_are_first crossing feature place).1 first

first_own : (feature : Feature) (place : Place) → IsPartPlace crossing (bit_of feature) place →
    IsFirstPlace crossing feature place
first_own feature place first = (own_places_are_first crossing feature place).0 first

own_fact_first : (fact : Fact) (place : Place) → IsFirstFactPlace crossing fact place →
    IsPartPlace crossing (fact_condition fact) place
own_fact_first fact place first = (fact_places_are_first crossing fact place).1 first

first_own_fact : (fact : Fact) (place : Place) → IsPartPlace crossing (fact_condition fact) place →
    IsFirstFactPlace crossing fact place
first_own_fact fact place first = (fact_places_are_first crossing fact place).0 first

-- a portamento up keeps what several features have in common
slides : (part : ℕ) → keeps_part (bit_of PortaUp) part ≡ true → NeedsFor crossing part (InPattern 1 1)
slides part kept = inl (record { feature = PortaUp; is_kept = kept; needs = risen })

transposes : IsToldOf no_options (part_cost 0 16 (InSong (InOrder 2 2 1)))
unfolding asked kept_set voice_rows shared_rows asks has_byte voice_labels other_labels free_places funk_place
    variable_count
transposes = record {
  kept = refl;
  bytes = refl;
  some = λ e. absurd (omega arith);
  cause = own_first Transpose (InOrder 2 2 1) transposes_are_worked.first;
}

portamentos : IsToldOf no_options (part_cost 2 4 (InSong (InPattern 1 1)))
unfolding asked kept_set voice_rows shared_rows asks has_byte voice_labels other_labels free_places funk_place
    variable_count
portamentos = record {
  kept = refl;
  bytes = refl;
  some = λ e. absurd (omega arith);
  cause = own_first PortaUp (InPattern 1 1) portamentos_are_worked.first;
}

filters : IsToldOf no_options (part_cost 15 76 (InSong (InInstrument 3)))
unfolding asked kept_set voice_rows shared_rows asks has_byte voice_labels other_labels free_places funk_place
    variable_count
filters = record {
  kept = refl;
  bytes = refl;
  some = λ e. absurd (omega arith);
  cause = own_first FilterTable (InInstrument 3) tables_are_worked.first;
}

waves : IsToldOf no_options (part_cost 22 45 (InSong (InInstrument 1)))
unfolding asked kept_set voice_rows shared_rows asks has_byte voice_labels other_labels free_places funk_place
    variable_count
waves = record {
  kept = refl;
  bytes = refl;
  some = λ e. absurd (omega arith);
  cause = own_first WaveTable (InInstrument 1) tables_are_worked.wave;
}

wave_commands : IsToldOf no_options (part_cost 23 80 (InSong (InWaveTable 2)))
unfolding asked kept_set voice_rows shared_rows asks has_byte voice_labels other_labels free_places funk_place
    variable_count
wave_commands = record {
  kept = refl;
  bytes = refl;
  some = λ e. absurd (omega arith);
  cause = own_first WaveCommand (InWaveTable 2) tables_are_worked.command;
}

climb : IsToldOf no_options (part_cost CLIMB 10 (InSong (InPattern 1 1)))
unfolding asked kept_set voice_rows shared_rows asks has_byte voice_labels other_labels free_places funk_place
    variable_count
climb = record {
  kept = refl;
  bytes = refl;
  some = λ e. absurd (omega arith);
  cause = crossing_first CLIMB refl refl refl (slides CLIMB refl);
}

rise : IsToldOf no_options (part_cost RISE 17 (InSong (InPattern 1 1)))
unfolding asked kept_set voice_rows shared_rows asks has_byte voice_labels other_labels free_places funk_place
    variable_count
rise = record {
  kept = refl;
  bytes = refl;
  some = λ e. absurd (omega arith);
  cause = crossing_first RISE refl refl refl (slides RISE refl);
}

row_slides : IsToldOf no_options (part_cost ROW_SLIDE 9 (InSong (InPattern 1 1)))
unfolding asked kept_set voice_rows shared_rows asks has_byte voice_labels other_labels free_places funk_place
    variable_count
row_slides = record {
  kept = refl;
  bytes = refl;
  some = λ e. absurd (omega arith);
  cause = own_fact_first RowSlide (InPattern 1 1) facts_are_worked.slide;
}

masks : IsToldOf no_options (part_cost FIRST_MASK 6 (InSong (InInstrument 1)))
unfolding asked kept_set voice_rows shared_rows asks has_byte voice_labels other_labels free_places funk_place
    variable_count
masks = record {
  kept = refl;
  bytes = refl;
  some = λ e. absurd (omega arith);
  cause = own_fact_first FirstMask (InInstrument 1) facts_are_worked.mask;
}

gate_notes : IsToldOf no_options (part_cost GATE_NOTE 12 (InSong (InPattern 2 1)))
unfolding asked kept_set voice_rows shared_rows asks has_byte voice_labels other_labels free_places funk_place
    variable_count
gate_notes = record {
  kept = refl;
  bytes = refl;
  some = λ e. absurd (omega arith);
  cause = own_fact_first GateNote (InPattern 2 1) gate_notes_are_worked.first;
}

note_filters : IsToldOf no_options (part_cost NOTE_FILTER 13 (InSong (InInstrument 3)))
unfolding asked kept_set voice_rows shared_rows asks has_byte voice_labels other_labels free_places funk_place
    variable_count
note_filters = record {
  kept = refl;
  bytes = refl;
  some = λ e. absurd (omega arith);
  cause = own_fact_first NoteFilter (InInstrument 3) facts_are_worked.filter;
}

timers : IsToldOf no_options (part_cost OWN_TIMER 14 (InSong (InInstrument 3)))
unfolding asked kept_set voice_rows shared_rows asks has_byte voice_labels other_labels free_places funk_place
    variable_count
timers = record {
  kept = refl;
  bytes = refl;
  some = λ e. absurd (omega arith);
  cause = own_fact_first OwnTimer (InInstrument 3) pairs_are_worked.timer;
}

timers_skipped : IsToldOf (first_left_out 1) (part_cost OWN_TIMER 17 (InSong (InInstrument 3)))
unfolding asked kept_set voice_rows shared_rows asks has_byte voice_labels other_labels free_places funk_place
    variable_count
timers_skipped = record {
  kept = refl;
  bytes = refl;
  some = λ e. absurd (omega arith);
  cause = own_fact_first OwnTimer (InInstrument 3) pairs_are_worked.timer;
}

first_waves : IsToldOf no_options (part_cost OWN_WAVE 3 (InSong (InInstrument 3)))
unfolding asked kept_set voice_rows shared_rows asks has_byte voice_labels other_labels free_places funk_place
    variable_count
first_waves = record {
  kept = refl;
  bytes = refl;
  some = λ e. absurd (omega arith);
  cause = own_fact_first OwnWave (InInstrument 3) pairs_are_worked.wave;
}

row_commands : IsToldOf no_options (part_cost ROW_COMMAND 24 (InSong (InPattern 1 1)))
unfolding asked kept_set voice_rows shared_rows asks has_byte voice_labels other_labels free_places funk_place
    variable_count
row_commands = record {
  kept = refl;
  bytes = refl;
  some = λ e. absurd (omega arith);
  cause = crossing_first ROW_COMMAND refl refl refl
      (inr (record { fact = RowSlide; is_kept = refl; needs = facts_are_worked.slide.is_such }));
}

special : IsToldOf no_options (part_cost SPECIAL_ROW 4 (InSong (InWaveTable 2)))
unfolding asked kept_set voice_rows shared_rows asks has_byte voice_labels other_labels free_places funk_place
    variable_count
special = record {
  kept = refl;
  bytes = refl;
  some = λ e. absurd (omega arith);
  cause = wave_places_are_worked.behind;
}

runs_at : NeedsFor crossing EFFECTS (InPattern 1 1)
runs_at = inr (record { fact = RowSlide; is_kept = refl; needs = facts_are_worked.slide.is_such })

effects : IsToldOf no_options (part_cost EFFECTS 28 (InSong (InPattern 1 1)))
unfolding asked kept_set voice_rows shared_rows asks has_byte voice_labels other_labels free_places funk_place
    variable_count
effects = record {
  kept = refl;
  bytes = refl;
  some = λ e. absurd (omega arith);
  cause = crossing_first EFFECTS refl refl refl runs_at;
}

filter_used : IsToldOf no_options (part_cost FILTER_USED 9 (InSong (InInstrument 3)))
unfolding asked kept_set voice_rows shared_rows asks has_byte voice_labels other_labels free_places funk_place
    variable_count
filter_used = record {
  kept = refl;
  bytes = refl;
  some = λ e. absurd (omega arith);
  cause = filter_places_are_worked.program;
}

pub fact_parts_are_worked : FactPartsAreWorked
unfolding asked
fact_parts_are_worked = record {
  slides = row_slides;
  later_slide = λ told. facts_are_worked.next_row (first_own_fact RowSlide (InPattern 1 2) told.cause);
  masks = masks;
  later_mask = λ told. facts_are_worked.not_first (first_own_fact FirstMask (InInstrument 3) told.cause);
  gate_notes = gate_notes;
  unused = λ told. gate_notes_are_worked.unused (first_own_fact GateNote (InPattern 0 1) told.cause).is_such;
  filters = note_filters;
  unused_filter = λ told. facts_are_worked.unused_filter (first_own_fact NoteFilter (InInstrument 2) told.cause).is_such;
  no_pulse = λ bytes cause told. (let e = told.kept in absurd (cc));
  timers = timers;
  first_timer = λ told. pairs_are_worked.no_first_timer crossing
      (first_own_fact OwnTimer (InInstrument 1) told.cause).is_such;
  unused_timer = λ told. pairs_are_worked.unused_timer (first_own_fact OwnTimer (InInstrument 2) told.cause).is_such;
  timers_skipped = timers_skipped;
  waves = first_waves;
  first_wave = λ told. pairs_are_worked.no_first_wave crossing
      (first_own_fact OwnWave (InInstrument 1) told.cause).is_such;
  unused_wave = λ told. pairs_are_worked.unused_wave (first_own_fact OwnWave (InInstrument 2) told.cause).is_such;
  commands = row_commands;
  special = special;
  effects = effects;
  later_effect = λ told. (let e = told.cause.first (InPattern 1 1) runs_at in absurd (cc));
  filter_used = filter_used;
  no_special = λ told. wave_places_are_worked.jump told.cause.is_such;
  no_legato = λ bytes cause told. (let e = told.kept in absurd (cc));
  no_held = λ bytes cause told. (let e = told.kept in absurd (cc));
}

pub parts_are_worked : PartsAreWorked
unfolding asked kept_set voice_rows shared_rows asks has_byte voice_labels other_labels free_places funk_place
    variable_count
parts_are_worked = record {
  transposes = transposes;
  later = λ told. transposes_are_worked.not_first (first_own Transpose (InOrder 2 3 0) told.cause);
  longer = λ told. (let e = told.bytes in omega arith);
  filters = filters;
  unused = λ told. tables_are_worked.unused (first_own FilterTable (InInstrument 2) told.cause).is_such;
  other_kind = λ told. tables_are_worked.no_row (first_own FilterTable (InPattern 1 1) told.cause).is_such;
  climb = climb;
  later_climb = λ told. (let e = told.cause.first (InPattern 1 1) (slides CLIMB refl) in absurd (cc));
  no_drop = λ bytes cause told. (let e = told.kept in absurd (cc));
}

-- all of these are told
record AreTold (costs : List PartCost) : Type 0 where
  each : All (IsToldOf no_options) costs

nothing : AreTold []
nothing = record { each = All-nil (IsToldOf no_options) }

more : {cost : PartCost} {costs : List PartCost} → IsToldOf no_options cost → AreTold costs → AreTold (cost ∷ costs)
more {cost} {costs} told rest = record { each = All-cons (IsToldOf no_options) cost costs told rest.each }

pub list_is_worked : ListIsWorked
unfolding asked kept_set voice_rows shared_rows asks has_byte voice_labels other_labels free_places funk_place
    variable_count
list_is_worked = record {
  all = record {
    parts = refl;
    each = (more transposes (more portamentos (more filters (more waves (more wave_commands (more climb (more rise
        (more row_slides (more masks (more gate_notes (more note_filters (more timers
        (more first_waves (more row_commands (more special (more effects (more filter_used nothing))))))))))))))))).each;
  };
  other_order = λ rest kept. absurd
      (let e = same_head 15 0 (map (λ (cost : PartCost). cost.part) rest) (2 ∷ 15 ∷ 22 ∷ 23 ∷ CLIMB ∷ RISE ∷ ROW_SLIDE
      ∷ FIRST_MASK ∷ GATE_NOTE ∷ NOTE_FILTER ∷ OWN_TIMER ∷ OWN_WAVE ∷ ROW_COMMAND ∷ SPECIAL_ROW ∷ EFFECTS ∷ FILTER_USED ∷ []) kept.parts in
      omega arith);
}

pub options_are_worked : OptionsAreWorked
unfolding asked kept_set voice_rows shared_rows asks has_byte voice_labels other_labels free_places funk_place
    variable_count
options_are_worked = record {
  no_bytes = λ song bytes cause told. told.some told.bytes;
  not_kept = λ bytes cause told. (let e = told.kept in absurd (cc));
  skip = record { kept = refl; bytes = refl; some = λ e. absurd (omega arith); cause = inl refl };
  first = record { kept = refl; bytes = refl; some = λ e. absurd (omega arith); cause = inr (inr refl) };
  timer = record { kept = refl; bytes = refl; some = λ e. absurd (omega arith); cause = refl };
  not_first = λ told. (let e = told.kept in absurd (cc));
  not_skip = λ told. (let e = told.kept in absurd (cc));
  other_cause = λ told. (let e = told.cause in absurd (omega arith));
}
