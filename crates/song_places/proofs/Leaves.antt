-- The numbers of places: which lists are no place's, and the one place that has these numbers.
use Rattle.std.proofs.Common.{◌≡◌, ℕ, ◌≤◌, List, [], ◌∷◌, lit≤, arith}
use Rattle.base.proofs.Laws.{same_head}
use Rattle.song_places.specs.declared.places.Place.{Place}
use Rattle.song_places.specs.declared.places.Place.TheVariants.{InOrder, InPattern, InInstrument, InWaveTable}
use Rattle.song_places.specs.Places.{rank_of}
use Rattle.song_places.specs.Search.{IsUnder}
use Rattle.song_places.proofs.Search.{IsInner}

pub inner_song : IsInner []
inner_song = record { is = none }
  where
    none : (place : Place) → ¬ (rank_of place ≡ [])
    none (InOrder s c i) e = absurd (cc)
    none (InPattern p r) e = absurd (cc)
    none (InInstrument n) e = absurd (cc)
    none (InWaveTable p) e = absurd (cc)

pub inner_kind : (kind : ℕ) → IsInner (kind ∷ [])
inner_kind kind = record { is = none }
  where
    none : (place : Place) → ¬ (rank_of place ≡ kind ∷ [])
    none (InOrder s c i) e = absurd (cc)
    none (InPattern p r) e = absurd (cc)
    none (InInstrument n) e = absurd (cc)
    none (InWaveTable p) e = absurd (cc)

pub inner_subtune : (s : ℕ) → IsInner (1 ∷ s ∷ [])
inner_subtune s = record { is = none }
  where
    none : (place : Place) → ¬ (rank_of place ≡ 1 ∷ s ∷ [])
    none (InOrder t c i) e = absurd (cc)
    none (InPattern p r) e = absurd (cc)
    none (InInstrument n) e = absurd (cc)
    none (InWaveTable p) e = absurd (cc)

pub inner_order : (s c : ℕ) → IsInner (1 ∷ s ∷ c ∷ [])
inner_order s c = record { is = none }
  where
    none : (place : Place) → ¬ (rank_of place ≡ 1 ∷ s ∷ c ∷ [])
    none (InOrder t d i) e = absurd (cc)
    none (InPattern p r) e = absurd (cc)
    none (InInstrument n) e = absurd (cc)
    none (InWaveTable p) e = absurd (cc)

pub inner_pattern : (pattern : ℕ) → IsInner (2 ∷ pattern ∷ [])
inner_pattern pattern = record { is = none }
  where
    none : (place : Place) → ¬ (rank_of place ≡ 2 ∷ pattern ∷ [])
    none (InOrder t d i) e = absurd (cc)
    none (InPattern p r) e = absurd (cc)
    none (InInstrument n) e = absurd (cc)
    none (InWaveTable p) e = absurd (cc)

pub order_place : (s c i : ℕ) (place : Place) → IsUnder (1 ∷ s ∷ c ∷ i ∷ []) place → place ≡ InOrder s c i
order_place s c i (InOrder t d j) under = (let e = under.is in cc)
order_place s c i (InPattern p r) under = absurd (let e = under.is in cc)
order_place s c i (InInstrument n) under = absurd (let e = under.is in cc)
order_place s c i (InWaveTable p) under = absurd (let e = under.is in cc)

pub pattern_place : (pattern row : ℕ) (place : Place) → IsUnder (2 ∷ pattern ∷ row ∷ []) place →
    place ≡ InPattern pattern row
pattern_place pattern row (InOrder t d j) under = absurd (let e = under.is in cc)
pattern_place pattern row (InPattern p r) under = (let e = under.is in cc)
pattern_place pattern row (InInstrument n) under = absurd (let e = under.is in cc)
pattern_place pattern row (InWaveTable p) under = absurd (let e = under.is in cc)

pub instrument_place : (instrument : ℕ) (place : Place) → IsUnder (3 ∷ instrument ∷ []) place →
    place ≡ InInstrument instrument
instrument_place instrument (InOrder t d j) under = absurd (let e = under.is in cc)
instrument_place instrument (InPattern p r) under = absurd (let e = under.is in cc)
instrument_place instrument (InInstrument n) under = (let e = under.is in cc)
instrument_place instrument (InWaveTable p) under = absurd (let e = under.is in cc)

pub wave_place : (row : ℕ) (place : Place) → IsUnder (4 ∷ row ∷ []) place → place ≡ InWaveTable row
wave_place row (InOrder t d j) under = absurd (let e = under.is in cc)
wave_place row (InPattern p r) under = absurd (let e = under.is in cc)
wave_place row (InInstrument n) under = absurd (let e = under.is in cc)
wave_place row (InWaveTable p) under = (let e = under.is in cc)

-- the kinds are numbered from 1 to 4
pub record IsKind (kind : ℕ) : Type 0 where
  pub low : 1 ≤ kind
  pub high : kind ≤ 4

kind_is : (kind n : ℕ) (xs ys : List ℕ) → n ∷ xs ≡ kind ∷ ys → 1 ≤ n → n ≤ 4 → IsKind kind
kind_is kind n xs ys e low high = (let same : n ≡ kind = same_head n kind xs ys e in
    record { low = omega arith; high = omega arith })

pub kind_of : (kind : ℕ) (place : Place) → IsUnder (kind ∷ []) place → IsKind kind
kind_of kind (InOrder s c i) under = kind_is kind 1 (s ∷ c ∷ i ∷ []) under.rest under.is (lit≤ tt) (lit≤ tt)
kind_of kind (InPattern p r) under = kind_is kind 2 (p ∷ r ∷ []) under.rest under.is (lit≤ tt) (lit≤ tt)
kind_of kind (InInstrument n) under = kind_is kind 3 (n ∷ []) under.rest under.is (lit≤ tt) (lit≤ tt)
kind_of kind (InWaveTable p) under = kind_is kind 4 (p ∷ []) under.rest under.is (lit≤ tt) (lit≤ tt)
