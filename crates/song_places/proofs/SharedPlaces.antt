-- First places of parts that several facts or features have in common, worked out by hand.
use Rattle.std.proofs.Common.{◌≡◌, ℕ, zero, suc, ◌<◌, ◌≤◌, ◌^◌, ◌⊎◌, true, [], ◌∷◌, refl, sym, subst}
use Rattle.std.proofs.Common.{inl, inr, arith}
use Rattle.std.proofs.lemmas.Bool.{cases_order, or_cases}
use Rattle.base.proofs.Laws.{same_some}
use Rattle.song_model.specs.declared.tables.TableRow.{TableRow}
use Rattle.song_model.specs.declared.tables.TableName.TheVariants.{Wave}
use Rattle.song_model.specs.declared.songs.Song.{Song}
use Rattle.song_model.specs.declared.features.Feature.{Feature}
use Rattle.song_model.specs.declared.features.Feature.TheVariants.{WaveCommand}
use Rattle.song_model.specs.Feature.{bit_of}
use Rattle.song_model.specs.LookUp.{pattern_at, instrument_at, table_row}
use Rattle.play_model.specs.Reached.{IsReached, played, led, of_instrument}
use Rattle.play_model.specs.WorkedSongs.{row}
use Rattle.play_model.proofs.Laws.{closed_lem}
use Rattle.song_facts.specs.declared.facts.Fact.{Fact}
use Rattle.song_facts.specs.declared.facts.Fact.TheVariants.{RowSlide, RowOnce, WaveDelay}
use Rattle.song_facts.specs.Facts.{IsSlide, IsDelay}
use Rattle.player_memory.specs.declared.conditions.TheConstants.{WAVE_COMMAND, WAVE_DELAY, ROW_COMMAND, SPECIAL_ROW}
use Rattle.player_memory.specs.FactLines.{fact_condition}
use Rattle.kept_lines.specs.Asked.{is_in}
use Rattle.song_places.specs.declared.places.Place.{Place}
use Rattle.song_places.specs.declared.places.Place.TheVariants.{InOrder, InPattern, InInstrument, InWaveTable}
use Rattle.song_places.specs.Places.{NeedsAt, NeedsFactAt, IsNotAfter}
use Rattle.song_places.specs.PartPlaces.{keeps_part, NeedsFor, IsPartPlace}
use Rattle.song_places.specs.WorkedPlaces.{crossing, sliding, waving, RowPlacesAreWorked, WavePlacesAreWorked}
use Rattle.song_places.proofs.Ranks.{lower, begun}
use Rattle.song_places.proofs.PartFeatures.{same_bit}
use Rattle.song_places.proofs.KeptParts.{alone_is, not_both, same_condition, own_fact_part}
use Rattle.song_places.proofs.WorkedPlaces.{reached_two}
use Rattle.song_places.proofs.CommonPlaces.{played_zero, played_next, second_row}

-- ---- rows with a command

once_needs : NeedsFor (sliding 5 1) ROW_COMMAND (InPattern 0 1)
unfolding pattern_at
once_needs = inr (record {
  fact = RowOnce;
  is_kept = refl;
  needs = record { used = played_zero 5 1; row = row 0xBD 0 5 1; there = refl; is_meant = omega arith };
})

slide_needs : NeedsFor (sliding 1 5) ROW_COMMAND (InPattern 0 1)
unfolding pattern_at
slide_needs = inr (record {
  fact = RowSlide;
  is_kept = refl;
  needs = record {
    used = played_zero 1 5;
    row = row 0xBD 0 1 1;
    there = refl;
    is_meant = (omega arith, omega arith);
  };
})

command : (one two : ℕ) → NeedsFor (sliding one two) ROW_COMMAND (InPattern 0 1) →
    IsPartPlace (sliding one two) ROW_COMMAND (InPattern 0 1)
unfolding pattern_at
command one two needs = record {
  is_such = needs;
  first = second_row (sliding one two) ROW_COMMAND 0 refl refl refl (λ q used. omega arith) refl;
}

no_slide_in_zero : ¬ NeedsFactAt (sliding 5 1) RowSlide (InPattern 0 1)
unfolding pattern_at
no_slide_in_zero at =
    no_slide (subst IsSlide (sym (same_some (row 0xBD 0 5 1) at.row at.there)) at.is_meant)
  where
    no_slide : ¬ IsSlide (row 0xBD 0 5 1)
    no_slide is = (let high = is.1 in omega (arith, high))

pub row_places_are_worked : RowPlacesAreWorked
unfolding pattern_at
row_places_are_worked = record {
  once_first = command 5 1 once_needs;
  slide_later = inr (record {
    fact = RowSlide;
    is_kept = refl;
    needs = record {
      used = played_next 5 1;
      row = row 0xBD 0 1 1;
      there = refl;
      is_meant = (omega arith, omega arith);
    };
  });
  not_slide = λ first. (let e = first.first (InPattern 0 1) once_needs in cc);
  slide_first = command 1 5 slide_needs;
  once_later = inr (record {
    fact = RowOnce;
    is_kept = refl;
    needs = record { used = played_next 1 5; row = row 0xBD 0 5 1; there = refl; is_meant = omega arith };
  });
  not_once = λ first. (let e = first.first (InPattern 0 1) slide_needs in cc);
  not_own = λ h. no_slide_in_zero (own_fact_part (sliding 5 1) RowSlide (InPattern 0 1) h);
}

-- ---- special rows of the wave table

-- the part is a delay's or a command's
special_condition : (condition : ℕ) → keeps_part condition SPECIAL_ROW ≡ true →
    (WAVE_DELAY ≡ condition) ⊎ (WAVE_COMMAND ≡ condition)
special_condition condition kept =
    elim (or_cases (is_in (2 ^ condition) WAVE_DELAY) (is_in (2 ^ condition) WAVE_COMMAND) kept) [
      | inl delay ↦ inl (alone_is condition WAVE_DELAY delay)
      | inr other ↦ inr (alone_is condition WAVE_COMMAND other)
    ]

special_feature : (feature : Feature) → keeps_part (bit_of feature) SPECIAL_ROW ≡ true → feature ≡ WaveCommand
special_feature feature kept = elim (special_condition (bit_of feature) kept) [
  | inl delay ↦ absurd (not_both feature WaveDelay (sym delay))
  | inr same ↦ same_bit feature WaveCommand (sym same)
]

special_fact : (fact : Fact) → keeps_part (fact_condition fact) SPECIAL_ROW ≡ true → fact ≡ WaveDelay
special_fact fact kept = elim (special_condition (fact_condition fact) kept) [
  | inl same ↦ same_condition fact WaveDelay (sym same)
  | inr other ↦ absurd (not_both WaveCommand fact other)
]

-- so a place of it is a row of the wave table that is one of these
abbrev IsSpecialRow : TableRow → Type 0
IsSpecialRow r = ((0xF0 ≤ r.left) × (r.left ≤ 0xFE)) ⊎ IsDelay r

record IsSpecial (song : Song) (place : Place) : Type 0 where
  p : ℕ
  is : place ≡ InWaveTable p
  reached : IsReached song Wave p
  special : IsSpecialRow (table_row song Wave p)

of_command : (song : Song) (place : Place) → NeedsAt song WaveCommand place → IsSpecial song place
of_command song (InOrder s c i) at = absurd at.is_meant
of_command song (InPattern q i) at = absurd at.is_meant
of_command song (InInstrument n) at = absurd at.is_meant
of_command song (InWaveTable p) at = record { p = p; is = refl; reached = at.reached; special = inl at.is_meant }

of_delay : (song : Song) (place : Place) → NeedsFactAt song WaveDelay place → IsSpecial song place
of_delay song (InOrder s c i) at = absurd at.is_meant
of_delay song (InPattern q i) at = absurd at.is_meant
of_delay song (InInstrument n) at = absurd at.is_meant
of_delay song (InWaveTable p) at = record { p = p; is = refl; reached = at.reached; special = inr at.is_meant }

special_place : (song : Song) (place : Place) → NeedsFor song SPECIAL_ROW place → IsSpecial song place
special_place song place (inl h) =
    of_command song place
    (subst (λ (f : Feature). NeedsAt song f place) (special_feature h.feature h.is_kept) h.needs)
special_place song place (inr h) =
    of_delay song place (subst (λ (f : Fact). NeedsFactAt song f place) (special_fact h.fact h.is_kept) h.needs)

-- row p is the first where no row before it is such; there is no row 0
special_first : (song : Song) (p : ℕ) → NeedsFor song SPECIAL_ROW (InWaveTable p) →
    ((q : ℕ) → 1 ≤ q → q < p → ¬ IsSpecialRow (table_row song Wave q)) →
    IsPartPlace song SPECIAL_ROW (InWaveTable p)
special_first song p needs none = record {
  is_such = needs;
  first = λ other h.
      (let s = special_place song other h in
      subst (IsNotAfter (InWaveTable p)) (sym s.is) (in_table s.p s.reached s.special));
}
  where
    some : (q : ℕ) → IsReached song Wave q → 1 ≤ q
    some q reached = (let no_zero = (closed_lem song).some Wave q reached in by_case q no_zero)
      where
        by_case : (n : ℕ) → (n ≡ 0 → ⊥) → 1 ≤ n
        by_case zero not = absurd (not refl)
        by_case (suc n) not = omega arith

    in_table : (q : ℕ) → IsReached song Wave q → IsSpecialRow (table_row song Wave q) →
        IsNotAfter (InWaveTable p) (InWaveTable q)
    in_table q reached special = elim (cases_order p q) [
      | inl same ↦ subst (λ (n : ℕ). IsNotAfter (InWaveTable p) (InWaveTable n)) same (begun (4 ∷ p ∷ []) []).is
      | inr differ ↦ elim differ [
        | inl before ↦ (lower (4 ∷ []) p q [] [] before).is
        | inr behind ↦ absurd (none q (some q reached) behind special)
      ]
    ]

-- instrument 1 names row 1, and from there the program goes on to row 2
first_reached : (one two : ℕ) → IsReached (waving one two) Wave 1
unfolding instrument_at
first_reached one two = played (of_instrument 1 (inl refl) refl (λ e. omega (arith, e)))

delay_needs : NeedsFor (waving 0x0F 0xF1) SPECIAL_ROW (InWaveTable 1)
unfolding table_row
delay_needs = inr (record {
  fact = WaveDelay;
  is_kept = refl;
  needs = record { reached = first_reached 0x0F 0xF1; is_meant = omega arith };
})

command_needs : NeedsFor (waving 0xF1 0x0F) SPECIAL_ROW (InWaveTable 1)
unfolding table_row
command_needs = inl (record {
  feature = WaveCommand;
  is_kept = refl;
  needs = record { reached = first_reached 0xF1 0x0F; is_meant = (omega arith, omega arith) };
})

none_before : (song : Song) (q : ℕ) → 1 ≤ q → q < 1 → ¬ IsSpecialRow (table_row song Wave q)
none_before song q low high special = omega (arith, low, high)

-- of the song whose first special row is 2
crossing_needs : NeedsFor crossing SPECIAL_ROW (InWaveTable 2)
unfolding table_row
crossing_needs = inl (record {
  feature = WaveCommand;
  is_kept = refl;
  needs = record { reached = reached_two; is_meant = (omega arith, omega arith) };
})

no_waveform : ¬ IsSpecialRow (table_row crossing Wave 1)
unfolding table_row
no_waveform (inl h) = (let low = h.0 in omega (arith, low))
no_waveform (inr h) = omega (arith, h)

no_jump : ¬ IsSpecialRow (table_row crossing Wave 3)
unfolding table_row
no_jump (inl h) = (let high = h.1 in omega (arith, high))
no_jump (inr h) = omega (arith, h)

pub crossing_special : IsPartPlace crossing SPECIAL_ROW (InWaveTable 2)
crossing_special = special_first crossing 2 crossing_needs before
  where
    before : (q : ℕ) → 1 ≤ q → q < 2 → ¬ IsSpecialRow (table_row crossing Wave q)
    before zero low high special = omega (arith, low)
    before (suc zero) low high special = no_waveform special
    before (suc (suc q)) low high special = omega (arith, high)

not_special : (song : Song) (p : ℕ) → ¬ IsSpecialRow (table_row song Wave p) →
    ¬ NeedsFor song SPECIAL_ROW (InWaveTable p)
not_special song p none h =
    (let s = special_place song (InWaveTable p) h in
    let same : p ≡ s.p = (let is = s.is in cc) in
    none (subst (λ (n : ℕ). IsSpecialRow (table_row song Wave n)) (sym same) s.special))

pub wave_places_are_worked : WavePlacesAreWorked
unfolding table_row
wave_places_are_worked = record {
  delay_first = special_first (waving 0x0F 0xF1) 1 delay_needs (none_before (waving 0x0F 0xF1));
  command_later = inl (record {
    feature = WaveCommand;
    is_kept = refl;
    needs = record { reached = led 1 (first_reached 0x0F 0xF1) refl; is_meant = (omega arith, omega arith) };
  });
  not_command = λ first. (let e = first.first (InWaveTable 1) delay_needs in cc);
  command_first = special_first (waving 0xF1 0x0F) 1 command_needs (none_before (waving 0xF1 0x0F));
  delay_later = inr (record {
    fact = WaveDelay;
    is_kept = refl;
    needs = record { reached = led 1 (first_reached 0xF1 0x0F) refl; is_meant = omega arith };
  });
  not_delay = λ first. (let e = first.first (InWaveTable 1) command_needs in cc);
  waveform = not_special crossing 1 no_waveform;
  behind = crossing_special;
  jump = not_special crossing 3 no_jump;
}
