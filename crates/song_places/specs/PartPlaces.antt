-- Which place of a song keeps a part of the player. A part is a condition: 0 to 23 are the features of a song, 24 to 27
-- the options, 28 to 33 what several features have in common, 34 to 55 the song's facts, and 56 to 60 what several
-- facts or features have in common. This is the project's own player.
use Rattle.std.specs.Prelude.{◌≡◌, ℕ, ◌^◌, ◌⊎◌, Bool, true}
use Rattle.song_model.specs.declared.features.Feature.{Feature}
use Rattle.song_model.specs.declared.songs.Song.{Song}
use Rattle.song_model.specs.Feature.{bit_of}
use Rattle.play_model.specs.State.{no_options}
use Rattle.song_facts.specs.declared.facts.Fact.{Fact}
use Rattle.player_memory.specs.FactLines.{fact_condition}
use Rattle.kept_lines.specs.KeptLines.{keeps}
use Rattle.song_places.specs.declared.places.Place.{Place}
use Rattle.song_places.specs.Places.{NeedsAt, NeedsFactAt, IsFirst}

-- the condition of a feature or a fact keeps a part where a song that asks for it alone does
abbrev pub keeps_part : ℕ → ℕ → Bool
keeps_part condition part = keeps (2 ^ condition) no_options part

-- what stands at the place needs a feature that keeps the part
pub record NeedsFeatureFor (song : Song) (part : ℕ) (place : Place) : Type 0 where
  pub feature : Feature
  pub is_kept : keeps_part (bit_of feature) part ≡ true
  pub needs : NeedsAt song feature place

-- what stands there gives the song a fact that keeps it
pub record NeedsFactFor (song : Song) (part : ℕ) (place : Place) : Type 0 where
  pub fact : Fact
  pub is_kept : keeps_part (fact_condition fact) part ≡ true
  pub needs : NeedsFactAt song fact place

-- what stands there needs the part
abbrev pub NeedsFor : Song → ℕ → Place → Type 0
NeedsFor song part place = NeedsFeatureFor song part place ⊎ NeedsFactFor song part place

-- the first such place
abbrev pub IsPartPlace : Song → ℕ → Place → Type 0
IsPartPlace song part = IsFirst (NeedsFor song part)
