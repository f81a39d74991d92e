-- The places of a song that need a feature or give it a fact, in their order, and the first of them. Places are counted
-- as messages about songs count them. This is this project's own rule.
use Rattle.std.specs.Prelude.{◌≡◌, ℕ, true, List, [], ◌∷◌, Some, slice_get}
use Rattle.std.specs.Ordering.{nat_cmp, is_le}
use Rattle.std.specs.Cmp.Lexicographic.{slice_cmp}
use Rattle.song_model.specs.declared.rows.Row.{Row}
use Rattle.song_model.specs.declared.orders.Order.{Order}
use Rattle.song_model.specs.declared.instruments.Instrument.{Instrument}
use Rattle.song_model.specs.declared.tables.TableRow.{TableRow}
use Rattle.song_model.specs.declared.tables.TableName.TheVariants.{Wave}
use Rattle.song_model.specs.declared.features.Feature.{Feature}
use Rattle.song_model.specs.declared.songs.Song.{Song}
use Rattle.song_model.specs.LookUp.{pattern_at, instrument_at, table_row}
use Rattle.play_model.specs.Used.{IsUsedPattern, IsUsedInstrument}
use Rattle.play_model.specs.Reached.{IsReached}
use Rattle.play_model.specs.Playable.{HasOrder}
use Rattle.song_facts.specs.declared.facts.Fact.{Fact}
use Rattle.song_places.specs.declared.places.Place.{Place}
use Rattle.song_places.specs.declared.places.Place.TheVariants.{InOrder, InPattern, InInstrument, InWaveTable}
use Rattle.song_places.specs.Needs.{Need, need_of, need_of_fact}

-- ---- what stands at a place

-- the orderlist of channel c of subtune s, which can be played, has such a byte at this place
pub record HasByteAt (song : Song) (s c place : ℕ) (IsMeant : ℕ → Type 0) : Type 0 where
  pub order : Order
  pub has : HasOrder song s c order
  pub byte : ℕ
  pub there : slice_get order.entries place ≡ Some byte
  pub is_meant : IsMeant byte

-- the pattern is used, and has such a row there
pub record HasRowAt (song : Song) (pattern n : ℕ) (IsMeant : Row → Type 0) : Type 0 where
  pub used : IsUsedPattern song pattern
  pub row : Row
  pub there : slice_get (pattern_at song pattern) n ≡ Some row
  pub is_meant : IsMeant row

-- the instrument is used, and such a one
pub record HasInstrumentAt (song : Song) (n : ℕ) (IsMeant : Instrument → Type 0) : Type 0 where
  pub used : IsUsedInstrument song n
  pub is_meant : IsMeant (instrument_at song n)

-- programs come to the row of the wave table, and it is such a one
pub record HasWaveRowAt (song : Song) (p : ℕ) (IsMeant : TableRow → Type 0) : Type 0 where
  pub reached : IsReached song Wave p
  pub is_meant : IsMeant (table_row song Wave p)

-- what stands there needs it
abbrev pub IsNeededAt : Song → Need → Place → Type 0
IsNeededAt song need (InOrder s c place) = HasByteAt song s c place (need.byte s c)
IsNeededAt song need (InPattern pattern row) = HasRowAt song pattern row need.row
IsNeededAt song need (InInstrument n) = HasInstrumentAt song n need.instrument
IsNeededAt song need (InWaveTable p) = HasWaveRowAt song p need.wave_row

-- the feature is needed at the place
abbrev pub NeedsAt : Song → Feature → Place → Type 0
NeedsAt song feature = IsNeededAt song (need_of song feature)

-- what stands at the place gives the song the fact
abbrev pub NeedsFactAt : Song → Fact → Place → Type 0
NeedsFactAt song fact = IsNeededAt song (need_of_fact song fact)

-- ---- the order

-- places come in the order of the first of these numbers in which two differ: the kind of the place, then its own
abbrev pub rank_of : Place → List ℕ
rank_of (InOrder s c place) = 1 ∷ s ∷ c ∷ place ∷ []
rank_of (InPattern pattern row) = 2 ∷ pattern ∷ row ∷ []
rank_of (InInstrument n) = 3 ∷ n ∷ []
rank_of (InWaveTable p) = 4 ∷ p ∷ []

-- the other place doesn't come before this one
abbrev pub IsNotAfter : Place → Place → Type 0
IsNotAfter place other = is_le (slice_cmp nat_cmp (rank_of place) (rank_of other)) ≡ true

-- the first of the places that are such
pub record IsFirst (IsSuch : Place → Type 0) (place : Place) : Type 0 where
  pub is_such : IsSuch place
  pub first : (other : Place) → IsSuch other → IsNotAfter place other

-- the first place that needs the feature
abbrev pub IsFirstPlace : Song → Feature → Place → Type 0
IsFirstPlace song feature = IsFirst (NeedsAt song feature)

-- the first place that gives the song the fact
abbrev pub IsFirstFactPlace : Song → Fact → Place → Type 0
IsFirstFactPlace song fact = IsFirst (NeedsFactAt song fact)
