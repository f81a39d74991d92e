-- What the marks of used parts say is the song's own: it doesn't hang on how long the lists of marks are.
use Rattle.std.specs.Prelude.{◌≡◌}
use Rattle.song_model.specs.declared.songs.Song.{Song}
use Rattle.usage.specs.Marks.{count_of}
use Rattle.usage.specs.Parts.{AreUsedParts}
use Rattle.usage.specs.declared.parts.UsedParts.{UsedParts}

-- as many are marked of each kind, and the features and facts are the same
pub record AreAlike (a b : UsedParts) : Type 0 where
  pub patterns : count_of a.patterns ≡ count_of b.patterns
  pub instruments : count_of a.instruments ≡ count_of b.instruments
  pub wave : count_of a.wave ≡ count_of b.wave
  pub pulse : count_of a.pulse ≡ count_of b.pulse
  pub filter : count_of a.filter ≡ count_of b.filter
  pub speed : count_of a.speed ≡ count_of b.speed
  pub features : a.features.0 ≡ b.features.0
  pub facts : a.facts ≡ b.facts

abbrev pub PartsAreTheSongs : Type 0
PartsAreTheSongs = (song : Song) (a b : UsedParts) → AreUsedParts song a → AreUsedParts song b → AreAlike a b
