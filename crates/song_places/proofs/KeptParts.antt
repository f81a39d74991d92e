-- Which features and facts keep a part of the player; and that a song keeps a part exactly where some place needs it.
use Rattle.std.proofs.Common.{◌≡◌, ℕ, ◌-◌, ◌<◌, ◌≤◌, ◌^◌, ◌⊎◌, ◌==◌, nat_lt, Bool, true, false, ◌||◌}
use Rattle.std.proofs.Common.{if◌then◌else◌, get_or, refl, sym, ◌∙◌, subst, inl, inr, arith}
use Rattle.std.specs.Int.{bit_at, IsBitSet}
use Rattle.std.proofs.lemmas.Bool.{cases_Bool, or_cases, and_parts, eqb-true, eq-eqb, ne_eqb, lt-ltb, ltb-true}
use Rattle.std.proofs.lemmas.Bool.{le-ltb, le-leb, leb-true, true≢false}
use Rattle.std.proofs.lemmas.Bool.Decides.{eqb_tells}
use Rattle.std.proofs.lemmas.Nat.{bit_set_by_shift}
use Rattle.std.proofs.lemmas.Nat.Bits.{shr_and_one, bit_at-pow_same, bit_at-pow_other}
use Rattle.song_model.specs.declared.features.Feature.{Feature}
use Rattle.song_model.specs.declared.features.Feature.TheVariants.{Transpose}
use Rattle.song_model.specs.declared.songs.Song.{Song}
use Rattle.song_model.specs.Feature.{bit_of}
use Rattle.play_model.specs.declared.options.Options.{Options}
use Rattle.play_model.specs.Features.{HasFeature}
use Rattle.song_facts.specs.declared.facts.Fact.{Fact}
use Rattle.song_facts.specs.declared.facts.Fact.TheVariants.{RowTone}
use Rattle.song_facts.specs.Facts.{is_among, HasFact}
use Rattle.player_memory.specs.declared.conditions.TheConstants.{PORTA_UP, PORTA_DOWN, TONE_PORTA, TIE_NOTE, VIBRATO}
use Rattle.player_memory.specs.declared.conditions.TheConstants.{INSTRUMENT_VIBRATO, NOTE_DEPENDENT, WAVE_COMMAND}
use Rattle.player_memory.specs.declared.conditions.TheConstants.{SKIP_EFFECTS, SKIP_PULSE, TIMED, SKIP_FIRST}
use Rattle.player_memory.specs.declared.conditions.TheConstants.{SWINGS, CLIMB, DROP, RISE, SINK, FOUND_NOTE}
use Rattle.player_memory.specs.declared.conditions.TheConstants.{ROW_TONE, ROW_SLIDE, ROW_ONCE, LEGATO, NO_HARD_RESTART}
use Rattle.player_memory.specs.declared.conditions.TheConstants.{WAVE_DELAY, ROW_COMMAND, SPECIAL_ROW, HELD_NOTE}
use Rattle.player_memory.specs.declared.conditions.TheConstants.{EFFECTS, FILTER_USED}
use Rattle.player_memory.specs.declared.conditions.TheConstants.{FILTER_TABLE, SET_FILTER_CONTROL, SET_CUTOFF}
use Rattle.player_memory.specs.FactLines.{fact_condition}
use Rattle.kept_lines.specs.Asked.{is_in, asked, Asks}
use Rattle.kept_lines.specs.KeptLines.{asks_effect, has_in_common, is_asked_for, keeps}
use Rattle.kept_lines.proofs.Laws.{asked_is_exact}
use Rattle.song_places.specs.declared.places.Place.{Place}
use Rattle.song_places.specs.declared.part_places.TheConstants.{FEATURES, FACTS}
use Rattle.song_places.specs.Places.{NeedsAt, NeedsFactAt}
use Rattle.song_places.specs.PartPlaces.{keeps_part, NeedsFor}
use Rattle.song_places.specs.PlaceLaws.{IsPartNeeded, IsOfOptions, PartsAreNeeded, OwnPlacesAreFirst}
use Rattle.song_places.specs.PlaceLaws.{FactPlacesAreFirst}
use Rattle.song_places.proofs.FeaturePlaces.{has_place, has_feature}
use Rattle.song_places.proofs.FactPlaces.{has_fact_place, has_fact}
use Rattle.song_places.proofs.PlaceOrder.{first_such}
use Rattle.song_places.proofs.PartFeatures.{at_bit, bit_there, same_bit}
use Rattle.song_places.proofs.PartFacts.{at_number, number_there, same_number}

-- ---- what a song asks for

is_set : (set bit : ℕ) → IsBitSet set bit → is_in set bit ≡ true
is_set set bit there =
    eq-eqb (bit_at set bit) 1 (sym (shr_and_one set bit) ∙ (bit_set_by_shift set bit).1 there)

set_bit : (set bit : ℕ) → is_in set bit ≡ true → IsBitSet set bit
set_bit set bit on = (bit_set_by_shift set bit).0 (shr_and_one set bit ∙ eqb-true (bit_at set bit) 1 on)

-- its features, and no others
feature_in : (song : Song) (set : ℕ) (feature : Feature) (h : Asks song set) →
    is_in set (bit_of feature) ≡ is_in h.features (bit_of feature)
feature_in song set feature h =
    let small = (at_bit feature).small in
    let bit = bit_of feature in
    rw (h.is, asked_is_exact h.features h.facts bit, lt-ltb bit 24 small) refl

asks_feature : (song : Song) (set : ℕ) (feature : Feature) → Asks song set → HasFeature song feature →
    is_in set (bit_of feature) ≡ true
asks_feature song set feature h has =
    feature_in song set feature h ∙ is_set h.features (bit_of feature) ((h.are_features.each feature).1 has)

uses_feature : (song : Song) (set : ℕ) (feature : Feature) → Asks song set → is_in set (bit_of feature) ≡ true →
    HasFeature song feature
uses_feature song set feature h on =
    (h.are_features.each feature).0 (set_bit h.features (bit_of feature) (sym (feature_in song set feature h) ∙ on))

-- and its facts
fact_in : (song : Song) (set : ℕ) (fact : Fact) (h : Asks song set) →
    is_in set (fact_condition fact) ≡ is_among h.facts fact
fact_in song set fact h =
    let small = (at_number fact).small in
    let is = (at_number fact).condition in
    rw (h.is, asked_is_exact h.features h.facts (fact_condition fact))
    ((at_number fact).asked h.features h.facts)

asks_fact : (song : Song) (set : ℕ) (fact : Fact) → Asks song set → HasFact song fact →
    is_in set (fact_condition fact) ≡ true
asks_fact song set fact h has = fact_in song set fact h ∙ (h.are_facts.each fact).1 has

uses_fact : (song : Song) (set : ℕ) (fact : Fact) → Asks song set → is_in set (fact_condition fact) ≡ true →
    HasFact song fact
uses_fact song set fact h on = (h.are_facts.each fact).0 (sym (fact_in song set fact h) ∙ on)

-- ---- one condition alone

-- it has its own bit, and no other
pub alone_is : (k bit : ℕ) → is_in (2 ^ k) bit ≡ true → bit ≡ k
alone_is k bit on = elim (eqb_tells bit k) [
  | inl same ↦ same.1
  | inr differ ↦ absurd (not_one (eqb-true (bit_at (2 ^ k) bit) 1 on) (bit_at-pow_other k bit differ.1))
]
  where
    not_one : {n : ℕ} → n ≡ 1 → n ≡ 0 → ⊥
    not_one a b = omega (arith, a, b)

alone_has : (k : ℕ) → is_in (2 ^ k) k ≡ true
alone_has k = eq-eqb (bit_at (2 ^ k) k) 1 (bit_at-pow_same k)

-- a feature's condition is asked for, and so is a fact's
feature_asked_for : (feature : Feature) → is_asked_for (bit_of feature) ≡ true
feature_asked_for feature = rw (lt-ltb (bit_of feature) 24 (at_bit feature).small) refl

fact_asked_for : (fact : Fact) → is_asked_for (fact_condition fact) ≡ true
fact_asked_for fact =
    let small = (at_number fact).small in
    let is = (at_number fact).condition in
    rw (
      le-ltb (fact_condition fact) 24 (omega (arith, is)),
      le-leb 34 (fact_condition fact) (omega (arith, is)),
      lt-ltb (fact_condition fact) 56 (omega (arith, is, small)),
    ) refl

own_keeps : (own : ℕ) → is_asked_for own ≡ true → keeps_part own own ≡ true
own_keeps own asked = rw asked (alone_has own)

-- no other condition keeps the part of one
own_condition : (condition own : ℕ) → is_asked_for own ≡ true → keeps_part condition own ≡ true → own ≡ condition
own_condition condition own asked kept = alone_is condition own (rw asked at kept)

-- ---- what a condition keeps alone is kept with others

or_more : {a b c d : Bool} → (a ≡ true → c ≡ true) → (b ≡ true → d ≡ true) → (a || b) ≡ true → (c || d) ≡ true
or_more {c = true} one other on = refl
or_more {a = a} {b = b} {c = false} one other on = elim (or_cases a b on) [
  | inl first ↦ absurd (true≢false (sym (one first)))
  | inr second ↦ other second
]

if_more : (z : Bool) {a b c d : Bool} → (a ≡ true → c ≡ true) → (b ≡ true → d ≡ true) →
    (if z then a else b) ≡ true → (if z then c else d) ≡ true
if_more true one other on = one on
if_more false one other on = other on

-- all that the one has is in the other
abbrev HasMore : ℕ → ℕ → Type 0
HasMore one other = (bit : ℕ) → is_in one bit ≡ true → is_in other bit ≡ true

common_more : (one other part : ℕ) → HasMore one other → has_in_common one part ≡ true → has_in_common other part ≡ true
common_more one other part more =
    if_more (part == SWINGS) swings
    (if_more (part == CLIMB) (or_more (or_more (more PORTA_UP) (more TONE_PORTA)) (more NOTE_DEPENDENT))
    (if_more (part == DROP) (or_more (or_more (more PORTA_DOWN) (more TONE_PORTA)) (more NOTE_DEPENDENT))
    (if_more (part == RISE) (or_more (or_more (more PORTA_UP) (more TONE_PORTA)) swings)
    (if_more (part == SINK) (or_more (or_more (more PORTA_DOWN) (more TONE_PORTA)) swings)
    (if_more (part == FOUND_NOTE) (or_more (more TONE_PORTA) (more TIE_NOTE))
    (if_more (part == ROW_COMMAND) (or_more (or_more (more ROW_TONE) (more ROW_SLIDE)) (more ROW_ONCE))
    (if_more (part == SPECIAL_ROW) (or_more (more WAVE_DELAY) (more WAVE_COMMAND))
    (if_more (part == HELD_NOTE) (or_more (more LEGATO) (more NO_HARD_RESTART))
    (if_more (part == EFFECTS) effects
    (if_more (part == FILTER_USED)
    (or_more (or_more (more FILTER_TABLE) (more SET_FILTER_CONTROL)) (more SET_CUTOFF)) (λ never. never)))))))))))
  where
    swings : (is_in one VIBRATO || is_in one INSTRUMENT_VIBRATO) ≡ true →
        (is_in other VIBRATO || is_in other INSTRUMENT_VIBRATO) ≡ true
    swings = or_more (more VIBRATO) (more INSTRUMENT_VIBRATO)

    effects : asks_effect one ≡ true → asks_effect other ≡ true
    effects =
        or_more (or_more (or_more (or_more (or_more (or_more (more PORTA_UP) (more PORTA_DOWN)) (more TONE_PORTA))
        (more TIE_NOTE)) swings) (more WAVE_COMMAND)) (more ROW_SLIDE)

kept_by : (set : ℕ) (options : Options) (condition part : ℕ) → keeps_part condition part ≡ true →
    is_in set condition ≡ true → keeps set options part ≡ true
kept_by set options condition part alone on =
    if_more (is_asked_for part) (more part)
    (if_more (part == SKIP_EFFECTS) never
    (if_more (part == SKIP_PULSE) never
    (if_more (part == TIMED) never
    (if_more (part == SKIP_FIRST) never (common_more (2 ^ condition) set part more))))) alone
  where
    more : (bit : ℕ) → is_in (2 ^ condition) bit ≡ true → is_in set bit ≡ true
    more bit one = subst (λ (b : ℕ). is_in set b ≡ true) (sym (alone_is condition bit one)) on

    never : {z : Bool} → false ≡ true → z ≡ true
    never e = absurd (true≢false (sym e))

-- ---- what is kept is kept by a condition that is asked for

record IsKeeper (set part : ℕ) : Type 0 where
  condition : ℕ
  alone : keeps_part condition part ≡ true
  asked : is_asked_for condition ≡ true
  on : is_in set condition ≡ true

given : (set part condition : ℕ) → keeps_part condition part ≡ true → is_asked_for condition ≡ true →
    is_in set condition ≡ true → IsKeeper set part
given set part condition alone asked on = record { condition = condition; alone = alone; asked = asked; on = on }

either : {X : Type 0} {a b : Bool} → (a ≡ true → X) → (b ≡ true → X) → (a || b) ≡ true → X
either {a = a} {b = b} one other on = elim (or_cases a b on) [ inl first ↦ one first | inr second ↦ other second ]

-- for each part that several features or facts have in common
common_keeper : (set part : ℕ) → has_in_common set part ≡ true → IsKeeper set part
common_keeper set part =
    at part SWINGS (swings SWINGS refl refl)
    (at part CLIMB (either (either (given set CLIMB PORTA_UP refl refl) (given set CLIMB TONE_PORTA refl refl))
    (given set CLIMB NOTE_DEPENDENT refl refl))
    (at part DROP (either (either (given set DROP PORTA_DOWN refl refl) (given set DROP TONE_PORTA refl refl))
    (given set DROP NOTE_DEPENDENT refl refl))
    (at part RISE (either (either (given set RISE PORTA_UP refl refl) (given set RISE TONE_PORTA refl refl))
    (swings RISE refl refl))
    (at part SINK (either (either (given set SINK PORTA_DOWN refl refl) (given set SINK TONE_PORTA refl refl))
    (swings SINK refl refl))
    (at part FOUND_NOTE (either (given set FOUND_NOTE TONE_PORTA refl refl) (given set FOUND_NOTE TIE_NOTE refl refl))
    (at part ROW_COMMAND
    (either (either (given set ROW_COMMAND ROW_TONE refl refl) (given set ROW_COMMAND ROW_SLIDE refl refl))
    (given set ROW_COMMAND ROW_ONCE refl refl))
    (at part SPECIAL_ROW
    (either (given set SPECIAL_ROW WAVE_DELAY refl refl) (given set SPECIAL_ROW WAVE_COMMAND refl refl))
    (at part HELD_NOTE (either (given set HELD_NOTE LEGATO refl refl) (given set HELD_NOTE NO_HARD_RESTART refl refl))
    (at part EFFECTS effects
    (at part FILTER_USED
    (either (either (given set FILTER_USED FILTER_TABLE refl refl) (given set FILTER_USED SET_FILTER_CONTROL refl refl))
    (given set FILTER_USED SET_CUTOFF refl refl))
    (λ never. absurd (true≢false (sym never)))))))))))))
  where
    -- where the part is this one, and where it isn't
    at : (n m : ℕ) {a b : Bool} → (a ≡ true → IsKeeper set m) → (b ≡ true → IsKeeper set n) →
        (if n == m then a else b) ≡ true → IsKeeper set n
    at n m {a} {b} here there on = elim (eqb_tells n m) [
      | inl same ↦
          subst (IsKeeper set) (sym same.1)
          (here (subst (λ (z : Bool). (if z then a else b) ≡ true) same.0 on))
      | inr differ ↦ there (subst (λ (z : Bool). (if z then a else b) ≡ true) differ.0 on)
    ]

    swings : (m : ℕ) → keeps_part VIBRATO m ≡ true → keeps_part INSTRUMENT_VIBRATO m ≡ true →
        (is_in set VIBRATO || is_in set INSTRUMENT_VIBRATO) ≡ true → IsKeeper set m
    swings m one other = either (given set m VIBRATO one refl) (given set m INSTRUMENT_VIBRATO other refl)

    runs : (condition : ℕ) → keeps_part condition EFFECTS ≡ true → is_asked_for condition ≡ true →
        is_in set condition ≡ true → IsKeeper set EFFECTS
    runs condition alone asked = given set EFFECTS condition alone asked

    effects : asks_effect set ≡ true → IsKeeper set EFFECTS
    effects =
        either (either (either (either (either (either (runs PORTA_UP refl refl) (runs PORTA_DOWN refl refl))
        (runs TONE_PORTA refl refl)) (runs TIE_NOTE refl refl)) (swings EFFECTS refl refl))
        (runs WAVE_COMMAND refl refl)) (runs ROW_SLIDE refl refl)

keeper : (set : ℕ) (options : Options) (part : ℕ) → ¬ IsOfOptions part → keeps set options part ≡ true →
    IsKeeper set part
keeper set options part other kept = elim (cases_Bool (is_asked_for part)) [
  | inl asked ↦ given set part part (own_keeps part asked) asked (rw asked at kept)
  | inr common ↦
      common_keeper set part
      (rw (
        common,
        ne_eqb part 24 (λ e. other (record { from = omega (arith, e); to = omega (arith, e) })),
        ne_eqb part 25 (λ e. other (record { from = omega (arith, e); to = omega (arith, e) })),
        ne_eqb part 26 (λ e. other (record { from = omega (arith, e); to = omega (arith, e) })),
        ne_eqb part 27 (λ e. other (record { from = omega (arith, e); to = omega (arith, e) })),
      ) at kept)
]

-- ---- such a condition is a feature's or a fact's

low_or_between : (condition : ℕ) → is_asked_for condition ≡ true →
    (condition < 24) ⊎ ((34 ≤ condition) × (condition < 56))
low_or_between condition asked = elim (or_cases (nat_lt condition 24) _ asked) [
  | inl low ↦ inl (ltb-true condition 24 low)
  | inr between ↦
      (let both = and_parts _ (nat_lt condition 56) between in
      inr (leb-true 34 condition both.0, ltb-true condition 56 both.1))
]

by_feature : (song : Song) (set part : ℕ) (feature : Feature) → Asks song set →
    keeps_part (bit_of feature) part ≡ true → is_in set (bit_of feature) ≡ true → IsPartNeeded song part
by_feature song set part feature h alone on =
    let at = has_place song feature (uses_feature song set feature h on) in
    record { place = at.place; needs = inl (record { feature = feature; is_kept = alone; needs = at.needs }) }

by_fact : (song : Song) (set part : ℕ) (fact : Fact) → Asks song set →
    keeps_part (fact_condition fact) part ≡ true → is_in set (fact_condition fact) ≡ true → IsPartNeeded song part
by_fact song set part fact h alone on =
    let at = has_fact_place song fact (uses_fact song set fact h on) in
    record { place = at.place; needs = inr (record { fact = fact; is_kept = alone; needs = at.needs }) }

by_keeper : (song : Song) (set part : ℕ) → Asks song set → IsKeeper set part → IsPartNeeded song part
by_keeper song set part h k = elim (low_or_between k.condition k.asked) [
  | inl low ↦
      (let feature = get_or FEATURES k.condition Transpose in
      let is : k.condition ≡ bit_of feature = sym (bit_there k.condition Transpose low) in
      by_feature song set part feature h (subst (λ (c : ℕ). keeps_part c part ≡ true) is k.alone)
      (subst (λ (c : ℕ). is_in set c ≡ true) is k.on))
  | inr between ↦
      (let fact = get_or FACTS (k.condition - 34) RowTone in
      let number = number_there (k.condition - 34) RowTone (omega (arith, between.0, between.1)) in
      let behind = (at_number fact).condition in
      let is : k.condition ≡ fact_condition fact = omega (arith, number, behind, between.0) in
      by_fact song set part fact h (subst (λ (c : ℕ). keeps_part c part ≡ true) is k.alone)
      (subst (λ (c : ℕ). is_in set c ≡ true) is k.on))
]

kept_where : (song : Song) (set : ℕ) (options : Options) (part : ℕ) (place : Place) → Asks song set →
    NeedsFor song part place → keeps set options part ≡ true
kept_where song set options part place h (inl n) =
    kept_by set options (bit_of n.feature) part n.is_kept
    (asks_feature song set n.feature h (has_feature song n.feature place n.needs))
kept_where song set options part place h (inr n) =
    kept_by set options (fact_condition n.fact) part n.is_kept
    (asks_fact song set n.fact h (has_fact song n.fact place n.needs))

pub parts_are_needed : PartsAreNeeded
parts_are_needed song set options part h other = (
  λ kept. by_keeper song set part h (keeper set options part other kept),
  λ needed. kept_where song set options part needed.place h needed.needs,
)

-- ---- parts of one feature or fact

pub not_both : (feature : Feature) (fact : Fact) → bit_of feature ≡ fact_condition fact → ⊥
not_both feature fact same =
    let small = (at_bit feature).small in
    let is = (at_number fact).condition in
    omega (arith, same, small, is)

pub own_part : (song : Song) (feature : Feature) (place : Place) → NeedsFor song (bit_of feature) place →
    NeedsAt song feature place
own_part song feature place (inl h) =
    subst (λ (f : Feature). NeedsAt song f place)
    (same_bit h.feature feature
    (sym (own_condition (bit_of h.feature) (bit_of feature) (feature_asked_for feature) h.is_kept))) h.needs
own_part song feature place (inr h) =
    absurd (not_both feature h.fact
    (own_condition (fact_condition h.fact) (bit_of feature) (feature_asked_for feature) h.is_kept))

pub own_places_are_first : OwnPlacesAreFirst
own_places_are_first song feature place =
    (first_such place (own_part song feature) there, first_such place there (own_part song feature))
  where
    there : (other : Place) → NeedsAt song feature other → NeedsFor song (bit_of feature) other
    there other needs = inl (record {
      feature = feature;
      is_kept = own_keeps (bit_of feature) (feature_asked_for feature);
      needs = needs;
    })

pub same_condition : (one other : Fact) → fact_condition one ≡ fact_condition other → one ≡ other
same_condition one other same =
    let a = (at_number one).condition in
    let b = (at_number other).condition in
    same_number one other (omega (arith, a, b, same))

pub own_fact_part : (song : Song) (fact : Fact) (place : Place) → NeedsFor song (fact_condition fact) place →
    NeedsFactAt song fact place
own_fact_part song fact place (inl h) =
    absurd (not_both h.feature fact
    (sym (own_condition (bit_of h.feature) (fact_condition fact) (fact_asked_for fact) h.is_kept)))
own_fact_part song fact place (inr h) =
    subst (λ (f : Fact). NeedsFactAt song f place)
    (same_condition h.fact fact
    (sym (own_condition (fact_condition h.fact) (fact_condition fact) (fact_asked_for fact) h.is_kept))) h.needs

pub fact_places_are_first : FactPlacesAreFirst
fact_places_are_first song fact place =
    (first_such place (own_fact_part song fact) there, first_such place there (own_fact_part song fact))
  where
    there : (other : Place) → NeedsFactAt song fact other → NeedsFor song (fact_condition fact) other
    there other needs = inr (record {
      fact = fact;
      is_kept = own_keeps (fact_condition fact) (fact_asked_for fact);
      needs = needs;
    })

-- ---- what is found

-- a part of features and facts is kept where a place needs it
pub kept_for : (song : Song) (set : ℕ) (options : Options) (part : ℕ) (place : Place) → Asks song set →
    ¬ IsOfOptions part → NeedsFor song part place → keeps set options part ≡ true
kept_for song set options part place h other needs =
    (parts_are_needed song set options part h other).1 (record { place = place; needs = needs })

-- and not where none does
pub kept_for_none : (song : Song) (set : ℕ) (options : Options) (part : ℕ) → Asks song set →
    ¬ IsOfOptions part → ((place : Place) → ¬ NeedsFor song part place) → keeps set options part ≡ true → ⊥
kept_for_none song set options part h other none kept =
    (let needed = (parts_are_needed song set options part h other).0 kept in none needed.place needed.needs)
