-- First places of parts that several features have in common, worked out by hand.
use Rattle.std.proofs.Common.{◌≡◌, ℕ, zero, suc, ◌≤◌, [], ◌∷◌, Bool, true, false, ◌||◌, Some, slice_get, lit<, lit≤}
use Rattle.std.proofs.Common.{refl, sym, ◌∙◌, ap, subst, inl, inr, arith}
use Rattle.std.proofs.lemmas.Bool.{cases_order, or_left, or_right, true≢false}
use Rattle.base.proofs.Laws.{same_some}
use Rattle.song_model.specs.declared.rows.Row.{Row}
use Rattle.song_model.specs.declared.orders.Subtune.{Subtune}
use Rattle.song_model.specs.declared.songs.Song.{Song}
use Rattle.song_model.specs.declared.features.Feature.{Feature}
use Rattle.song_model.specs.declared.features.Feature.TheVariants.{Transpose, Repeat, PortaUp, PortaDown, TonePorta}
use Rattle.song_model.specs.declared.features.Feature.TheVariants.{TieNote, Vibrato, InstrumentVibrato, NoteDependent}
use Rattle.song_model.specs.declared.features.Feature.TheVariants.{SetAd, SetSr, SetWave, SetWavePointer, PulseTable}
use Rattle.song_model.specs.declared.features.Feature.TheVariants.{SetPulsePointer, FilterTable, SetFilterPointer}
use Rattle.song_model.specs.declared.features.Feature.TheVariants.{FilterControl, Cutoff, Volume, FunkTempo, SetTempo}
use Rattle.song_model.specs.declared.features.Feature.TheVariants.{WaveTable, WaveCommand}
use Rattle.song_model.specs.Feature.{bit_of}
use Rattle.song_model.specs.LookUp.{order_of, pattern_at}
use Rattle.song_model.specs.Silence.{rest_row}
use Rattle.play_model.specs.Used.{IsUsedPattern}
use Rattle.play_model.specs.WorkedSongs.{subtune, row}
use Rattle.song_facts.specs.declared.facts.Fact.{Fact}
use Rattle.song_facts.specs.declared.facts.Fact.TheVariants.{RowTone, RowSlide, RowOnce, FirstMask, Legato, NoHardRestart}
use Rattle.song_facts.specs.declared.facts.Fact.TheVariants.{WaveDelay, GateNote, NoteVibrato, VibratoDelay, NotePulse, NoteFilter}
use Rattle.song_facts.specs.declared.facts.Fact.TheVariants.{VoiceTempo, CommonTempo, FunkTurns, FunkChoice}
use Rattle.song_facts.specs.declared.facts.Fact.TheVariants.{OwnTimer, OwnWave, Subtunes, VoiceTwo, VoiceThree}
use Rattle.song_facts.specs.declared.facts.Fact.TheVariants.{FirstHolds}
use Rattle.player_memory.specs.declared.conditions.TheConstants.{SKIP_EFFECTS, CLIMB, FOUND_NOTE}
use Rattle.player_memory.specs.FactLines.{fact_condition}
use Rattle.song_places.specs.declared.places.Place.{Place}
use Rattle.song_places.specs.declared.places.Place.TheVariants.{InOrder, InPattern, InInstrument, InWaveTable}
use Rattle.song_places.specs.Needs.{need_of, need_of_fact}
use Rattle.song_places.specs.Places.{NeedsAt, IsNotAfter}
use Rattle.song_places.specs.PartPlaces.{keeps_part, NeedsFor, IsPartPlace}
use Rattle.song_places.specs.WorkedPlaces.{crossing, sliding, CommonPlacesAreWorked}
use Rattle.song_places.proofs.Ranks.{lower, begun}
use Rattle.song_places.proofs.KeptParts.{own_part}
use Rattle.song_places.proofs.WorkedPlaces.{used_pattern}

-- ---- what features need

-- no feature but two needs bytes of orderlists
no_byte : (song : Song) (part : ℕ) (feature : Feature) → keeps_part (bit_of Transpose) part ≡ false →
    keeps_part (bit_of Repeat) part ≡ false → keeps_part (bit_of feature) part ≡ true →
    (s c b : ℕ) → ¬ (need_of song feature).byte s c b
no_byte song part Transpose transposed repeated kept s c b meant = true≢false (sym kept ∙ transposed)
no_byte song part Repeat transposed repeated kept s c b meant = true≢false (sym kept ∙ repeated)
no_byte song part feature transposed repeated kept s c b meant = meant

-- and none a row that rests
no_rest : (song : Song) (feature : Feature) → ¬ (need_of song feature).row rest_row
no_rest song Transpose meant = meant
no_rest song Repeat meant = meant
no_rest song PortaUp meant = (let e = meant.0 in omega arith)
no_rest song PortaDown meant = (let e = meant.0 in omega arith)
no_rest song TonePorta meant = (let e = meant.0 in omega arith)
no_rest song TieNote meant = (let e = meant.0 in omega arith)
no_rest song Vibrato meant = (let e = meant.0 in omega arith)
no_rest song InstrumentVibrato meant = meant
no_rest song NoteDependent meant = meant.1 refl
no_rest song SetAd meant = (let e = meant.0 in omega arith)
no_rest song SetSr meant = (let e = meant.0 in omega arith)
no_rest song SetWave meant = (let e = meant.0 in omega arith)
no_rest song SetWavePointer meant = omega arith
no_rest song PulseTable meant = meant.1 refl
no_rest song SetPulsePointer meant = (let e = meant.0 in omega arith)
no_rest song FilterTable meant = meant.1 refl
no_rest song SetFilterPointer meant = (let e = meant.0 in omega arith)
no_rest song FilterControl meant = (let e = meant.0 in omega arith)
no_rest song Cutoff meant = (let e = meant.0 in omega arith)
no_rest song Volume meant = (let e = meant.0 in omega arith)
no_rest song FunkTempo (inl e) = omega arith
no_rest song FunkTempo (inr both) = (let e = both.0 in omega arith)
no_rest song SetTempo meant = (let e = meant.0 in omega arith)
no_rest song WaveTable meant = meant.1 refl
no_rest song WaveCommand meant = meant

-- one of the three facts that need bytes of orderlists keeps the part
abbrev pub kept_by_orders : ℕ → Bool
kept_by_orders part =
    keeps_part (fact_condition Subtunes) part || keeps_part (fact_condition VoiceTwo) part
    || keeps_part (fact_condition VoiceThree) part

-- no other fact needs them, and none a row that rests
no_fact_byte : (song : Song) (part : ℕ) (fact : Fact) → kept_by_orders part ≡ false →
    keeps_part (fact_condition fact) part ≡ true → (s c b : ℕ) → ¬ (need_of_fact song fact).byte s c b
no_fact_byte song part Subtunes ordered kept s c b meant =
    true≢false (sym (or_left _ _ (or_left _ _ kept)) ∙ ordered)
no_fact_byte song part VoiceTwo ordered kept s c b meant =
    true≢false (sym (or_left _ _ (or_right (keeps_part (fact_condition Subtunes) part) _ kept)) ∙ ordered)
no_fact_byte song part VoiceThree ordered kept s c b meant = true≢false (sym (or_right _ _ kept) ∙ ordered)
no_fact_byte song part fact ordered kept s c b meant = meant

no_fact_rest : (song : Song) (fact : Fact) → ¬ (need_of_fact song fact).row rest_row
no_fact_rest song RowTone meant = omega (arith, meant)
no_fact_rest song RowSlide meant = (let low = meant.0 in omega (arith, low))
no_fact_rest song RowOnce meant = omega (arith, meant)
no_fact_rest song FirstMask meant = meant
no_fact_rest song Legato meant = meant
no_fact_rest song NoHardRestart meant = meant
no_fact_rest song WaveDelay meant = meant
no_fact_rest song NoteVibrato meant = meant
no_fact_rest song VibratoDelay meant = meant
no_fact_rest song NotePulse meant = meant
no_fact_rest song NoteFilter meant = meant
no_fact_rest song VoiceTempo meant = (let is = meant.0 in omega (arith, is))
no_fact_rest song CommonTempo meant = (let is = meant.0 in omega (arith, is))
no_fact_rest song FunkTurns meant = (let is = meant.0 in omega (arith, is))
no_fact_rest song FunkChoice meant = omega (arith, meant)
no_fact_rest song OwnTimer meant = meant
no_fact_rest song OwnWave meant = meant
no_fact_rest song Subtunes meant = meant
no_fact_rest song VoiceTwo meant = meant
no_fact_rest song VoiceThree meant = meant
no_fact_rest song FirstHolds meant = meant
no_fact_rest song GateNote (inl off) = omega (arith, off)
no_fact_rest song GateNote (inr on) = omega (arith, on)

-- what stands in an orderlist, or in a pattern, where a part is needed
byte_needed : (song : Song) (part s c i : ℕ) → keeps_part (bit_of Transpose) part ≡ false →
    keeps_part (bit_of Repeat) part ≡ false → kept_by_orders part ≡ false →
    ¬ NeedsFor song part (InOrder s c i)
byte_needed song part s c i transposed repeated ordered (inl h) =
    (let at = h.needs in no_byte song part h.feature transposed repeated h.is_kept s c at.byte at.is_meant)
byte_needed song part s c i transposed repeated ordered (inr h) =
    (let at = h.needs in no_fact_byte song part h.fact ordered h.is_kept s c at.byte at.is_meant)

pattern_used : (song : Song) (part p i : ℕ) → NeedsFor song part (InPattern p i) → IsUsedPattern song p
pattern_used song part p i (inl h) = (let at = h.needs in at.used)
pattern_used song part p i (inr h) = (let at = h.needs in at.used)

no_rest_needed : (song : Song) (part p i : ℕ) → slice_get (pattern_at song p) i ≡ Some rest_row →
    ¬ NeedsFor song part (InPattern p i)
no_rest_needed song part p i rests (inl h) =
    (let at = h.needs in
    no_rest song h.feature
    (subst (need_of song h.feature).row (same_some at.row rest_row (sym at.there ∙ rests)) at.is_meant))
no_rest_needed song part p i rests (inr h) =
    (let at = h.needs in
    no_fact_rest song h.fact
    (subst (need_of_fact song h.fact).row (same_some at.row rest_row (sym at.there ∙ rests)) at.is_meant))

-- what needs the part of notes that are reached is command 3
is_reached : (song : Song) (feature : Feature) → keeps_part (bit_of feature) FOUND_NOTE ≡ true → (r : Row) →
    (need_of song feature).row r → r.command ≡ 3
is_reached song Transpose kept r meant = absurd meant
is_reached song Repeat kept r meant = absurd meant
is_reached song PortaUp kept r meant = absurd (true≢false (sym kept))
is_reached song PortaDown kept r meant = absurd (true≢false (sym kept))
is_reached song TonePorta kept r meant = meant.0
is_reached song TieNote kept r meant = meant.0
is_reached song Vibrato kept r meant = absurd (true≢false (sym kept))
is_reached song InstrumentVibrato kept r meant = absurd meant
is_reached song NoteDependent kept r meant = absurd (true≢false (sym kept))
is_reached song SetAd kept r meant = absurd (true≢false (sym kept))
is_reached song SetSr kept r meant = absurd (true≢false (sym kept))
is_reached song SetWave kept r meant = absurd (true≢false (sym kept))
is_reached song SetWavePointer kept r meant = absurd (true≢false (sym kept))
is_reached song PulseTable kept r meant = absurd (true≢false (sym kept))
is_reached song SetPulsePointer kept r meant = absurd (true≢false (sym kept))
is_reached song FilterTable kept r meant = absurd (true≢false (sym kept))
is_reached song SetFilterPointer kept r meant = absurd (true≢false (sym kept))
is_reached song FilterControl kept r meant = absurd (true≢false (sym kept))
is_reached song Cutoff kept r meant = absurd (true≢false (sym kept))
is_reached song Volume kept r meant = absurd (true≢false (sym kept))
is_reached song FunkTempo kept r meant = absurd (true≢false (sym kept))
is_reached song SetTempo kept r meant = absurd (true≢false (sym kept))
is_reached song WaveTable kept r meant = absurd (true≢false (sym kept))
is_reached song WaveCommand kept r meant = absurd meant

-- ---- behind a rest

-- where the first used pattern begins with a rest, nothing that a part may need comes before its second row
pub second_row : (song : Song) (part p : ℕ) → keeps_part (bit_of Transpose) part ≡ false →
    keeps_part (bit_of Repeat) part ≡ false → kept_by_orders part ≡ false →
    ((q : ℕ) → IsUsedPattern song q → p ≤ q) → slice_get (pattern_at song p) 0 ≡ Some rest_row →
    (other : Place) → NeedsFor song part other → IsNotAfter (InPattern p 1) other
second_row song part p transposed repeated ordered first_used rests (InOrder s c i) h =
    absurd (byte_needed song part s c i transposed repeated ordered h)
second_row song part p transposed repeated ordered first_used rests (InPattern q i) h =
    elim (cases_order p q) [
      | inl same ↦
          in_first i (subst (λ (n : ℕ). IsNotAfter (InPattern p 1) (InPattern n i)) same)
          (λ zero_is. no_rest_needed song part q i
          (ap (λ (n : ℕ). slice_get (pattern_at song q) n) zero_is
          ∙ ap (λ (n : ℕ). slice_get (pattern_at song n) 0) (sym same) ∙ rests) h)
      | inr differ ↦ elim differ [
        | inl before ↦ (lower (2 ∷ []) p q (1 ∷ []) (i ∷ []) before).is
        | inr behind ↦ absurd (let high = first_used q (pattern_used song part q i h) in omega (arith, high, behind))
      ]
    ]
  where
    in_first : {X : Type 0} (i : ℕ) → (IsNotAfter (InPattern p 1) (InPattern p i) → X) → (i ≡ 0 → ⊥) → X
    in_first zero from other = absurd (other refl)
    in_first (suc zero) from other = from (begun (2 ∷ p ∷ 1 ∷ []) []).is
    in_first (suc (suc i)) from other = from (lower (2 ∷ p ∷ []) 1 (suc (suc i)) [] [] (omega arith)).is
second_row song part p transposed repeated ordered first_used rests (InInstrument n) h = refl
second_row song part p transposed repeated ordered first_used rests (InWaveTable n) h = refl

-- of the song whose first used pattern is 1
pub crossing_first : (part : ℕ) → keeps_part (bit_of Transpose) part ≡ false → keeps_part (bit_of Repeat) part ≡ false →
    kept_by_orders part ≡ false → NeedsFor crossing part (InPattern 1 1) →
    IsPartPlace crossing part (InPattern 1 1)
unfolding pattern_at
crossing_first part transposed repeated ordered needs =
    record { is_such = needs; first = second_row crossing part 1 transposed repeated ordered from_one refl }
  where
    from_one : (q : ℕ) → IsUsedPattern crossing q → 1 ≤ q
    from_one q used = elim (used_pattern q used) [ inl e ↦ omega (arith, e) | inr e ↦ omega (arith, e) ]

-- ---- slides

abbrev only_subtune : Subtune
only_subtune = subtune (0 ∷ []) (1 ∷ []) (1 ∷ [])

pub played_zero : (one two : ℕ) → IsUsedPattern (sliding one two) 0
played_zero one two = record {
  byte = record {
    order = order_of 1 only_subtune;
    played = record {
      subtune = only_subtune;
      playable = (0, lit< tt, refl);
      channel = 1;
      is_channel = record { first = lit≤ tt; last = lit≤ tt };
      order_is = refl;
    };
    entry = (0, lit< tt, refl);
  };
  is_pattern = lit< tt;
}

pub played_next : (one two : ℕ) → IsUsedPattern (sliding one two) 1
played_next one two = record {
  byte = record {
    order = order_of 2 only_subtune;
    played = record {
      subtune = only_subtune;
      playable = (0, lit< tt, refl);
      channel = 2;
      is_channel = record { first = lit≤ tt; last = lit≤ tt };
      order_is = refl;
    };
    entry = (0, lit< tt, refl);
  };
  is_pattern = lit< tt;
}

-- a portamento up or a tone portamento in the one pattern or the other
tone_in_zero : NeedsAt (sliding 3 1) TonePorta (InPattern 0 1)
unfolding pattern_at
tone_in_zero = record {
  used = played_zero 3 1;
  row = row 0xBD 0 3 1;
  there = refl;
  is_meant = (refl, λ e. absurd (omega arith));
}

up_in_next : NeedsAt (sliding 3 1) PortaUp (InPattern 1 0)
unfolding pattern_at
up_in_next = record { used = played_next 3 1; row = row 0xBD 0 1 1; there = refl; is_meant = (refl, tt) }

up_in_zero : NeedsAt (sliding 1 3) PortaUp (InPattern 0 1)
unfolding pattern_at
up_in_zero = record { used = played_zero 1 3; row = row 0xBD 0 1 1; there = refl; is_meant = (refl, tt) }

tone_in_next : NeedsAt (sliding 1 3) TonePorta (InPattern 1 0)
unfolding pattern_at
tone_in_next = record {
  used = played_next 1 3;
  row = row 0xBD 0 3 1;
  there = refl;
  is_meant = (refl, λ e. absurd (omega arith));
}

-- the row in pattern 0 is no command 3, nor has it another row
no_note_in_zero : (feature : Feature) (i : ℕ) → keeps_part (bit_of feature) FOUND_NOTE ≡ true →
    ¬ NeedsAt (sliding 1 3) feature (InPattern 0 i)
unfolding pattern_at
no_note_in_zero feature zero kept at =
    no_rest (sliding 1 3) feature
    (subst (need_of (sliding 1 3) feature).row (sym (same_some rest_row at.row at.there)) at.is_meant)
no_note_in_zero feature (suc zero) kept at =
    (let same = same_some (row 0xBD 0 1 1) at.row at.there in
    let three = is_reached (sliding 1 3) feature kept at.row at.is_meant in
    not_both at.row.command (ap (λ (r : Row). r.command) (sym same)) three)
  where
    not_both : (n : ℕ) → n ≡ 1 → n ≡ 3 → ⊥
    not_both n a b = omega (arith, a, b)
no_note_in_zero feature (suc (suc i)) kept at = absurd (let e = at.there in cc)

-- no fact keeps the part
no_fact_reaches : (fact : Fact) → keeps_part (fact_condition fact) FOUND_NOTE ≡ false
no_fact_reaches RowTone = refl
no_fact_reaches RowSlide = refl
no_fact_reaches RowOnce = refl
no_fact_reaches FirstMask = refl
no_fact_reaches Legato = refl
no_fact_reaches NoHardRestart = refl
no_fact_reaches WaveDelay = refl
no_fact_reaches GateNote = refl
no_fact_reaches NoteVibrato = refl
no_fact_reaches VibratoDelay = refl
no_fact_reaches NotePulse = refl
no_fact_reaches NoteFilter = refl
no_fact_reaches VoiceTempo = refl
no_fact_reaches CommonTempo = refl
no_fact_reaches FunkTurns = refl
no_fact_reaches FunkChoice = refl
no_fact_reaches OwnTimer = refl
no_fact_reaches OwnWave = refl
no_fact_reaches Subtunes = refl
no_fact_reaches VoiceTwo = refl
no_fact_reaches VoiceThree = refl
no_fact_reaches FirstHolds = refl

none_in_zero : (i : ℕ) → ¬ NeedsFor (sliding 1 3) FOUND_NOTE (InPattern 0 i)
none_in_zero i (inl h) = no_note_in_zero h.feature i h.is_kept h.needs
none_in_zero i (inr h) = true≢false (sym h.is_kept ∙ no_fact_reaches h.fact)

note_first : (other : Place) → NeedsFor (sliding 1 3) FOUND_NOTE other → IsNotAfter (InPattern 1 0) other
note_first (InOrder s c i) h = absurd (byte_needed (sliding 1 3) FOUND_NOTE s c i refl refl refl h)
note_first (InPattern zero i) h = absurd (none_in_zero i h)
note_first (InPattern (suc zero) zero) h = refl
note_first (InPattern (suc zero) (suc i)) h = (lower (2 ∷ 1 ∷ []) 0 (suc i) [] [] (omega arith)).is
note_first (InPattern (suc (suc q)) i) h = (lower (2 ∷ []) 1 (suc (suc q)) (0 ∷ []) (i ∷ []) (omega arith)).is
note_first (InInstrument n) h = refl
note_first (InWaveTable n) h = refl

-- a tone portamento is no portamento up
no_up_in_zero : ¬ NeedsAt (sliding 3 1) PortaUp (InPattern 0 1)
unfolding pattern_at
no_up_in_zero at =
    not_both at.row.command (ap (λ (r : Row). r.command) (sym (same_some (row 0xBD 0 3 1) at.row at.there)))
    at.is_meant.0
  where
    not_both : (n : ℕ) → n ≡ 3 → n ≡ 1 → ⊥
    not_both n a b = omega (arith, a, b)

climb : (one two : ℕ) → NeedsFor (sliding one two) CLIMB (InPattern 0 1) →
    IsPartPlace (sliding one two) CLIMB (InPattern 0 1)
unfolding pattern_at
climb one two needs = record {
  is_such = needs;
  first = second_row (sliding one two) CLIMB 0 refl refl refl (λ q used. omega arith) refl;
}

tone_needs : NeedsFor (sliding 3 1) CLIMB (InPattern 0 1)
tone_needs = inl (record { feature = TonePorta; is_kept = refl; needs = tone_in_zero })

up_needs : NeedsFor (sliding 1 3) CLIMB (InPattern 0 1)
up_needs = inl (record { feature = PortaUp; is_kept = refl; needs = up_in_zero })

-- nothing keeps the part of an option
no_option_kept : (condition : ℕ) → keeps_part condition SKIP_EFFECTS ≡ true → ⊥
no_option_kept condition kept = true≢false (sym kept)

pub common_places_are_worked : CommonPlacesAreWorked
common_places_are_worked = record {
  tone_first = climb 3 1 tone_needs;
  up_later = inl (record { feature = PortaUp; is_kept = refl; needs = up_in_next });
  not_up = λ first. (let e = first.first (InPattern 0 1) tone_needs in cc);
  up_first = climb 1 3 up_needs;
  tone_later = inl (record { feature = TonePorta; is_kept = refl; needs = tone_in_next });
  not_tone = λ first. (let e = first.first (InPattern 0 1) up_needs in cc);
  note = record {
    is_such = inl (record { feature = TonePorta; is_kept = refl; needs = tone_in_next });
    first = note_first;
  };
  no_note = none_in_zero 1;
  not_own = λ h. no_up_in_zero (own_part (sliding 3 1) PortaUp (InPattern 0 1) h);
  no_option = λ place h. elim h [
    | inl of_feature ↦ no_option_kept (bit_of of_feature.feature) of_feature.is_kept
    | inr of_fact ↦ no_option_kept (fact_condition of_fact.fact) of_fact.is_kept
  ];
}
