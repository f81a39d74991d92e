-- What a reader may rely on in the places that need a feature, that give a fact, and that need a part of the player.
use Rattle.std.specs.Prelude.{◌≡◌, ℕ, ◌<◌, ◌≤◌, ◌↔◌, true}
use Rattle.song_model.specs.declared.features.Feature.{Feature}
use Rattle.song_model.specs.declared.songs.Song.{Song}
use Rattle.song_model.specs.Feature.{bit_of}
use Rattle.play_model.specs.declared.options.Options.{Options}
use Rattle.play_model.specs.Features.{HasFeature}
use Rattle.song_facts.specs.declared.facts.Fact.{Fact}
use Rattle.song_facts.specs.Facts.{HasFact}
use Rattle.player_memory.specs.FactLines.{fact_condition}
use Rattle.kept_lines.specs.Asked.{Asks}
use Rattle.kept_lines.specs.KeptLines.{keeps}
use Rattle.song_places.specs.declared.places.Place.{Place}
use Rattle.song_places.specs.Places.{NeedsAt, NeedsFactAt, IsFirstPlace, IsFirstFactPlace}
use Rattle.song_places.specs.PartPlaces.{NeedsFor, IsPartPlace}

-- some place needs the feature
pub record IsNeeded (song : Song) (feature : Feature) : Type 0 where
  pub place : Place
  pub needs : NeedsAt song feature place

-- a song uses a feature exactly where some place needs it
abbrev pub FeaturesAreNeeded : Type 0
FeaturesAreNeeded = (song : Song) (feature : Feature) → HasFeature song feature ↔ IsNeeded song feature

-- some place gives the song the fact
pub record IsFactNeeded (song : Song) (fact : Fact) : Type 0 where
  pub place : Place
  pub needs : NeedsFactAt song fact place

-- a song has a fact exactly where some place gives it
abbrev pub FactsAreNeeded : Type 0
FactsAreNeeded = (song : Song) (fact : Fact) → HasFact song fact ↔ IsFactNeeded song fact

-- at most one place is the first
abbrev pub FirstPlacesAreOne : Type 0
FirstPlacesAreOne = (song : Song) (feature : Feature) (one other : Place) → IsFirstPlace song feature one →
    IsFirstPlace song feature other → one ≡ other

-- some place needs the part
pub record IsPartNeeded (song : Song) (part : ℕ) : Type 0 where
  pub place : Place
  pub needs : NeedsFor song part place

-- the four parts of the options
pub record IsOfOptions (part : ℕ) : Type 0 where
  pub from : 24 ≤ part
  pub to : part < 28

-- a song that asks for this set keeps a part, unless it is one of the options', exactly where some place needs it
abbrev pub PartsAreNeeded : Type 0
PartsAreNeeded = (song : Song) (set : ℕ) (options : Options) (part : ℕ) → Asks song set →
    ¬ IsOfOptions part → (keeps set options part ≡ true) ↔ IsPartNeeded song part

-- the place of a feature's own part is the feature's first place
abbrev pub OwnPlacesAreFirst : Type 0
OwnPlacesAreFirst = (song : Song) (feature : Feature) (place : Place) →
    IsPartPlace song (bit_of feature) place ↔ IsFirstPlace song feature place

-- and that of a fact's own part the fact's
abbrev pub FactPlacesAreFirst : Type 0
FactPlacesAreFirst = (song : Song) (fact : Fact) (place : Place) →
    IsPartPlace song (fact_condition fact) place ↔ IsFirstFactPlace song fact place
