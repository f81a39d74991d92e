-- First places of what sets the filter, and of what runs at a tick, worked out by hand.
use Rattle.std.proofs.Common.{◌≡◌, ◌≢◌, ℕ, ◌≤◌, ◌^◌, ◌||◌, Bool, true, false, refl, sym, ap, ◌∙◌, subst, inl, inr}
use Rattle.std.proofs.Common.{arith}
use Rattle.std.proofs.lemmas.Bool.{or_cases}
use Rattle.base.proofs.Laws.{same_some}
use Rattle.song_model.specs.declared.rows.Row.{Row}
use Rattle.song_model.specs.declared.features.Feature.{Feature}
use Rattle.song_model.specs.declared.features.Feature.TheVariants.{PortaUp, PortaDown, TonePorta, TieNote, Vibrato}
use Rattle.song_model.specs.declared.features.Feature.TheVariants.{InstrumentVibrato, FilterTable, FilterControl}
use Rattle.song_model.specs.declared.features.Feature.TheVariants.{Cutoff}
use Rattle.song_model.specs.declared.features.Feature.TheVariants.{WaveCommand}
use Rattle.song_model.specs.Feature.{bit_of}
use Rattle.song_model.specs.LookUp.{pattern_at}
use Rattle.song_model.specs.Pointers.{command_table}
use Rattle.song_model.specs.declared.tables.TableName.TheVariants.{Filter}
use Rattle.play_model.specs.Features.{IsAny}
use Rattle.play_model.specs.WorkedSongs.{row}
use Rattle.song_facts.specs.declared.facts.Fact.{Fact}
use Rattle.song_facts.specs.declared.facts.Fact.TheVariants.{RowSlide}
use Rattle.song_facts.specs.Facts.{IsSlide}
use Rattle.player_memory.specs.declared.conditions.TheConstants.{EFFECTS, FILTER_USED, FILTER_TABLE, SET_FILTER_CONTROL}
use Rattle.player_memory.specs.declared.conditions.TheConstants.{SET_CUTOFF, PORTA_UP, PORTA_DOWN, TONE_PORTA, TIE_NOTE}
use Rattle.player_memory.specs.declared.conditions.TheConstants.{VIBRATO, INSTRUMENT_VIBRATO, WAVE_COMMAND, ROW_SLIDE}
use Rattle.player_memory.specs.FactLines.{fact_condition}
use Rattle.kept_lines.specs.Asked.{is_in}
use Rattle.song_places.specs.declared.places.Place.{Place}
use Rattle.song_places.specs.declared.places.Place.TheVariants.{InOrder, InPattern, InInstrument, InWaveTable}
use Rattle.song_places.specs.Needs.{Points, of_command}
use Rattle.song_places.specs.Places.{IsNeededAt, NeedsAt, NeedsFactAt, IsNotAfter}
use Rattle.song_places.specs.PartPlaces.{keeps_part, NeedsFor, IsPartPlace}
use Rattle.song_places.specs.WorkedPlaces.{crossing, sliding, FilterPlacesAreWorked}
use Rattle.song_places.proofs.PartFeatures.{same_bit}
use Rattle.song_places.proofs.KeptParts.{alone_is, not_both, same_condition}
use Rattle.song_places.proofs.WorkedPlaces.{Fields, fields, used_row, tables_are_worked}
use Rattle.song_places.proofs.CommonPlaces.{played_zero, played_next, kept_by_orders, second_row}

-- ---- what sets the filter

data Sets (condition : ℕ) : Type 0 where
  Program : FILTER_TABLE ≡ condition → Sets condition
  Control : SET_FILTER_CONTROL ≡ condition → Sets condition
  Cut : SET_CUTOFF ≡ condition → Sets condition

sets : (condition : ℕ) → keeps_part condition FILTER_USED ≡ true → Sets condition
sets condition kept =
    elim (or_cases (is_in (2 ^ condition) FILTER_TABLE || is_in (2 ^ condition) SET_FILTER_CONTROL)
    (is_in (2 ^ condition) SET_CUTOFF) kept) [
      | inl firsts ↦
          elim (or_cases (is_in (2 ^ condition) FILTER_TABLE) (is_in (2 ^ condition) SET_FILTER_CONTROL) firsts) [
            | inl program ↦ Program (alone_is condition FILTER_TABLE program)
            | inr control ↦ Control (alone_is condition SET_FILTER_CONTROL control)
          ]
      | inr cut ↦ Cut (alone_is condition SET_CUTOFF cut)
    ]

no_fact_sets : (fact : Fact) → ¬ Sets (fact_condition fact)
no_fact_sets fact (Program e) = not_both FilterTable fact e
no_fact_sets fact (Control e) = not_both FilterControl fact e
no_fact_sets fact (Cut e) = not_both Cutoff fact e

-- a command above 1, which no row of the song has, is behind each instrument
no_row : (command : ℕ) → 2 ≤ command → (r : Row) → Fields r → r.command ≡ command → ⊥
no_row command high r (fields (inl none) i) e = omega (arith, high, none, e)
no_row command high r (fields (inr one) i) e = omega (arith, high, one, e)

behind : (command : ℕ) → 2 ≤ command → (other : Place) → IsNeededAt crossing (of_command command IsAny) other →
    IsNotAfter (InInstrument 3) other
behind command high (InOrder s c i) at = absurd at.is_meant
behind command high (InPattern p i) at =
    absurd (no_row command high at.row (used_row p i at.row at.used at.there) at.is_meant.0)
behind command high (InInstrument n) at = absurd at.is_meant
behind command high (InWaveTable n) at = refl

by_feature : (feature : Feature) (other : Place) → Sets (bit_of feature) → NeedsAt crossing feature other →
    IsNotAfter (InInstrument 3) other
by_feature feature other (Program e) needs =
    tables_are_worked.first.first other
    (subst (λ (f : Feature). NeedsAt crossing f other) (same_bit feature FilterTable (sym e)) needs)
by_feature feature other (Control e) needs =
    behind 0xB (omega arith) other
    (subst (λ (f : Feature). NeedsAt crossing f other) (same_bit feature FilterControl (sym e)) needs)
by_feature feature other (Cut e) needs =
    behind 0xC (omega arith) other
    (subst (λ (f : Feature). NeedsAt crossing f other) (same_bit feature Cutoff (sym e)) needs)

pub crossing_filter : IsPartPlace crossing FILTER_USED (InInstrument 3)
crossing_filter = record {
  is_such = inl (record { feature = FilterTable; is_kept = refl; needs = tables_are_worked.first.is_such });
  first = λ other h. elim h [
    | inl f ↦ by_feature f.feature other (sets (bit_of f.feature) f.is_kept) f.needs
    | inr f ↦ absurd (no_fact_sets f.fact (sets (fact_condition f.fact) f.is_kept))
  ];
}

-- ---- rows

second : (one two part : ℕ) → keeps_part 0 part ≡ false → keeps_part 1 part ≡ false → kept_by_orders part ≡ false →
    NeedsFor (sliding one two) part (InPattern 0 1) → IsPartPlace (sliding one two) part (InPattern 0 1)
unfolding pattern_at
second one two part transposed repeated ordered needs = record {
  is_such = needs;
  first = second_row (sliding one two) part 0 transposed repeated ordered (λ q used. omega arith) refl;
}

cutoff_needs : NeedsFor (sliding 0xC 0xB) FILTER_USED (InPattern 0 1)
unfolding pattern_at
cutoff_needs = inl (record {
  feature = Cutoff;
  is_kept = refl;
  needs = record { used = played_zero 0xC 0xB; row = row 0xBD 0 0xC 1; there = refl; is_meant = (refl, tt) };
})

tone_needs : NeedsFor (sliding 3 1) EFFECTS (InPattern 0 1)
unfolding pattern_at
tone_needs = inl (record {
  feature = TonePorta;
  is_kept = refl;
  needs = record {
    used = played_zero 3 1;
    row = row 0xBD 0 3 1;
    there = refl;
    is_meant = (refl, λ e. absurd (omega arith));
  };
})

no_command : (one two command : ℕ) (IsMeant : ℕ → Type 0) → command ≢ one →
    ¬ IsNeededAt (sliding one two) (of_command command IsMeant) (InPattern 0 1)
unfolding pattern_at
no_command one two command IsMeant other at =
    (let same = same_some (row 0xBD 0 one 1) at.row at.there in
    let is = at.is_meant.0 in
    other (sym is ∙ ap (λ (r : Row). r.command) (sym same)))

no_pointer : (r : Row) → r.command ≡ 0xD → ¬ Points Filter IsAny (command_table r.command) r.param
no_pointer r is points = absurd (let table = points.0 in let none = rw is at table in cc)

no_filter : (feature : Feature) → Sets (bit_of feature) → ¬ NeedsAt (sliding 0xD 0xB) feature (InPattern 0 1)
unfolding pattern_at
no_filter feature (Program e) needs =
    (let at : NeedsAt (sliding 0xD 0xB) FilterTable (InPattern 0 1) =
    subst (λ (f : Feature). NeedsAt (sliding 0xD 0xB) f (InPattern 0 1)) (same_bit feature FilterTable (sym e)) needs in
    let same = same_some (row 0xBD 0 0xD 1) at.row at.there in
    no_pointer at.row (ap (λ (r : Row). r.command) (sym same)) at.is_meant)
no_filter feature (Control e) needs =
    no_command 0xD 0xB 0xB IsAny (λ e. omega (arith, e))
    (subst (λ (f : Feature). NeedsAt (sliding 0xD 0xB) f (InPattern 0 1))
    (same_bit feature FilterControl (sym e)) needs)
no_filter feature (Cut e) needs =
    no_command 0xD 0xB 0xC IsAny (λ e. omega (arith, e))
    (subst (λ (f : Feature). NeedsAt (sliding 0xD 0xB) f (InPattern 0 1)) (same_bit feature Cutoff (sym e)) needs)

-- ---- what runs at a tick

data Runs (condition : ℕ) : Type 0 where
  Up : PORTA_UP ≡ condition → Runs condition
  Down : PORTA_DOWN ≡ condition → Runs condition
  Tone : TONE_PORTA ≡ condition → Runs condition
  Tie : TIE_NOTE ≡ condition → Runs condition
  Swing : VIBRATO ≡ condition → Runs condition
  Own : INSTRUMENT_VIBRATO ≡ condition → Runs condition
  Lent : WAVE_COMMAND ≡ condition → Runs condition
  Slide : ROW_SLIDE ≡ condition → Runs condition

either : {X : Type 0} {a b : Bool} → (a ≡ true → X) → (b ≡ true → X) → (a || b) ≡ true → X
either {a = a} {b = b} one other on = elim (or_cases a b on) [ inl first ↦ one first | inr second ↦ other second ]

runs : (condition : ℕ) → keeps_part condition EFFECTS ≡ true → Runs condition
runs condition =
    either (either (either (either (either (either (by PORTA_UP Up) (by PORTA_DOWN Down)) (by TONE_PORTA Tone))
    (by TIE_NOTE Tie)) (either (by VIBRATO Swing) (by INSTRUMENT_VIBRATO Own))) (by WAVE_COMMAND Lent))
    (by ROW_SLIDE Slide)
  where
    by : (bit : ℕ) → (bit ≡ condition → Runs condition) → is_in (2 ^ condition) bit ≡ true → Runs condition
    by bit made one = made (alone_is condition bit one)

-- no row of the song has a command 1 to 4 there
as_feature : (feature other : Feature) → bit_of other ≡ bit_of feature →
    NeedsAt (sliding 5 1) feature (InPattern 0 1) → NeedsAt (sliding 5 1) other (InPattern 0 1)
as_feature feature other e =
    subst (λ (f : Feature). NeedsAt (sliding 5 1) f (InPattern 0 1)) (same_bit feature other (sym e))

no_feature_runs : (feature : Feature) → Runs (bit_of feature) → ¬ NeedsAt (sliding 5 1) feature (InPattern 0 1)
no_feature_runs feature (Up e) needs =
    no_command 5 1 1 IsAny (λ n. omega (arith, n)) (as_feature feature PortaUp e needs)
no_feature_runs feature (Down e) needs =
    no_command 5 1 2 IsAny (λ n. omega (arith, n)) (as_feature feature PortaDown e needs)
no_feature_runs feature (Tone e) needs =
    no_command 5 1 3 (λ d. d ≢ 0) (λ n. omega (arith, n)) (as_feature feature TonePorta e needs)
no_feature_runs feature (Tie e) needs =
    no_command 5 1 3 (λ d. d ≡ 0) (λ n. omega (arith, n)) (as_feature feature TieNote e needs)
no_feature_runs feature (Swing e) needs =
    no_command 5 1 4 IsAny (λ n. omega (arith, n)) (as_feature feature Vibrato e needs)
no_feature_runs feature (Own e) needs =
    (let at : NeedsAt (sliding 5 1) InstrumentVibrato (InPattern 0 1) = as_feature feature InstrumentVibrato e needs in
    absurd at.is_meant)
no_feature_runs feature (Lent e) needs =
    (let at : NeedsAt (sliding 5 1) WaveCommand (InPattern 0 1) = as_feature feature WaveCommand e needs in
    absurd at.is_meant)
no_feature_runs feature (Slide e) needs = not_both feature RowSlide (sym e)

no_slide : (r : Row) → r.command ≡ 5 → ¬ IsSlide r
no_slide r is slide = (let most = slide.1 in omega (arith, is, most))

slides_at : ¬ NeedsFactAt (sliding 5 1) RowSlide (InPattern 0 1)
unfolding pattern_at
slides_at at =
    let same = same_some (row 0xBD 0 5 1) at.row at.there in
    no_slide at.row (ap (λ (r : Row). r.command) (sym same)) at.is_meant

no_fact_runs : (fact : Fact) → Runs (fact_condition fact) → ¬ NeedsFactAt (sliding 5 1) fact (InPattern 0 1)
no_fact_runs fact (Up e) needs = not_both PortaUp fact e
no_fact_runs fact (Down e) needs = not_both PortaDown fact e
no_fact_runs fact (Tone e) needs = not_both TonePorta fact e
no_fact_runs fact (Tie e) needs = not_both TieNote fact e
no_fact_runs fact (Swing e) needs = not_both Vibrato fact e
no_fact_runs fact (Own e) needs = not_both InstrumentVibrato fact e
no_fact_runs fact (Lent e) needs = not_both WaveCommand fact e
no_fact_runs fact (Slide e) needs =
    slides_at
    (subst (λ (f : Fact). NeedsFactAt (sliding 5 1) f (InPattern 0 1)) (same_condition fact RowSlide (sym e)) needs)

pub filter_places_are_worked : FilterPlacesAreWorked
unfolding pattern_at
filter_places_are_worked = record {
  program = crossing_filter;
  cutoff_first = second 0xC 0xB FILTER_USED refl refl refl cutoff_needs;
  control_later = inl (record {
    feature = FilterControl;
    is_kept = refl;
    needs = record { used = played_next 0xC 0xB; row = row 0xBD 0 0xB 1; there = refl; is_meant = (refl, tt) };
  });
  not_control = λ first. (let e = first.first (InPattern 0 1) cutoff_needs in cc);
  volume = λ h. elim h [
    | inl f ↦ no_filter f.feature (sets (bit_of f.feature) f.is_kept) f.needs
    | inr f ↦ no_fact_sets f.fact (sets (fact_condition f.fact) f.is_kept)
  ];
  tone_first = second 3 1 EFFECTS refl refl refl tone_needs;
  slide_later = inl (record {
    feature = PortaUp;
    is_kept = refl;
    needs = record { used = played_next 5 1; row = row 0xBD 0 1 1; there = refl; is_meant = (refl, tt) };
  });
  not_once = λ h. elim h [
    | inl f ↦ no_feature_runs f.feature (runs (bit_of f.feature) f.is_kept) f.needs
    | inr f ↦ no_fact_runs f.fact (runs (fact_condition f.fact) f.is_kept) f.needs
  ];
}
