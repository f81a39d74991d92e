-- The first used instrument, and the first row of the wave table that programs come to, number after number.
use Rattle.std.proofs.Common.{ℕ, ◌<◌, ◌≤◌, Bool, false, List, [], ◌∷◌, length, subst, inl, inr, arith}
use Rattle.std.proofs.lemmas.Bool.{cases_lt}
use Rattle.std.proofs.lemmas.List.{get_or_past}
use Rattle.song_model.specs.declared.tables.TableName.TheVariants.{Wave}
use Rattle.song_model.specs.declared.songs.Song.{Song}
use Rattle.play_model.specs.Used.{IsUsedInstrument}
use Rattle.play_model.specs.Reached.{IsReached}
use Rattle.usage.specs.Marks.{IsMarked, AreMarks}
use Rattle.song_places.specs.declared.places.Place.{Place}
use Rattle.song_places.specs.declared.places.Place.TheVariants.{InInstrument, InWaveTable}
use Rattle.song_places.specs.Needs.{Need}
use Rattle.song_places.specs.Places.{HasInstrumentAt, HasWaveRowAt, IsNeededAt}
use Rattle.song_places.specs.Search.{IsNeededUnder, IsFirstUnder, IsNowhereUnder}
use Rattle.song_places.proofs.Search.{first_on, none_on, alone}
use Rattle.song_places.proofs.Leaves.{inner_kind, instrument_place, wave_place}

past_marks : (marks : List Bool) (n : ℕ) → length marks ≤ n → ¬ IsMarked marks n
past_marks marks n past marked = (let e = get_or_past marks n false past in cc)

-- ---- instruments

pub instrument_of : (song : Song) (need : Need) (n : ℕ) (place : Place) → IsNeededUnder song need (3 ∷ n ∷ []) place →
    HasInstrumentAt song n need.instrument
instrument_of song need n place such = subst (IsNeededAt song need) (instrument_place n place such.under) such.needed

pub instrument_found : (song : Song) (need : Need) (n : ℕ) → HasInstrumentAt song n need.instrument →
    ((k : ℕ) → k < n → IsNowhereUnder song need (3 ∷ k ∷ [])) → IsFirstUnder song need (3 ∷ []) (InInstrument n)
instrument_found song need n at none =
    first_on song need (3 ∷ []) n (InInstrument n) (inner_kind 3) none (alone song need (InInstrument n) at)

pub instrument_passed : (song : Song) (need : Need) (n : ℕ) → ¬ HasInstrumentAt song n need.instrument →
    IsNowhereUnder song need (3 ∷ n ∷ [])
instrument_passed song need n out place such = out (instrument_of song need n place such)

pub instruments_end : (song : Song) (need : Need) (n : ℕ) (used : List Bool) →
    AreMarks (IsUsedInstrument song) used → length used ≤ n →
    ((k : ℕ) → k < n → IsNowhereUnder song need (3 ∷ k ∷ [])) → IsNowhereUnder song need (3 ∷ [])
instruments_end song need n used marks end none = none_on song need (3 ∷ []) (inner_kind 3) (λ k.
    elim (cases_lt k n) [
      | inl before ↦ none k before
      | inr past ↦ instrument_passed song need k (λ at. past_marks used k (omega arith) ((marks.each k).1 at.used))
    ])

-- ---- rows of the wave table

pub wave_row_of : (song : Song) (need : Need) (n : ℕ) (place : Place) → IsNeededUnder song need (4 ∷ n ∷ []) place →
    HasWaveRowAt song n need.wave_row
wave_row_of song need n place such = subst (IsNeededAt song need) (wave_place n place such.under) such.needed

pub wave_row_found : (song : Song) (need : Need) (n : ℕ) → HasWaveRowAt song n need.wave_row →
    ((k : ℕ) → k < n → IsNowhereUnder song need (4 ∷ k ∷ [])) → IsFirstUnder song need (4 ∷ []) (InWaveTable n)
wave_row_found song need n at none =
    first_on song need (4 ∷ []) n (InWaveTable n) (inner_kind 4) none (alone song need (InWaveTable n) at)

pub wave_row_passed : (song : Song) (need : Need) (n : ℕ) → ¬ HasWaveRowAt song n need.wave_row →
    IsNowhereUnder song need (4 ∷ n ∷ [])
wave_row_passed song need n out place such = out (wave_row_of song need n place such)

pub wave_rows_end : (song : Song) (need : Need) (n : ℕ) (reached : List Bool) →
    AreMarks (IsReached song Wave) reached → length reached ≤ n →
    ((k : ℕ) → k < n → IsNowhereUnder song need (4 ∷ k ∷ [])) → IsNowhereUnder song need (4 ∷ [])
wave_rows_end song need n reached marks end none = none_on song need (4 ∷ []) (inner_kind 4) (λ k.
    elim (cases_lt k n) [
      | inl before ↦ none k before
      | inr past ↦ wave_row_passed song need k (λ at. past_marks reached k (omega arith) ((marks.each k).1 at.reached))
    ])
