-- What the marks of used parts say of a song.
use Rattle.song_model.specs.declared.tables.TableName.TheVariants.{Wave, Pulse, Filter, Speed}
use Rattle.song_model.specs.declared.songs.Song.{Song}
use Rattle.play_model.specs.Used.{IsUsedPattern, IsUsedInstrument}
use Rattle.play_model.specs.Reached.{IsReached, IsPointer}
use Rattle.play_model.specs.Features.{AreFeatures}
use Rattle.song_facts.specs.Facts.{AreFacts}
use Rattle.usage.specs.Marks.{AreMarks}
use Rattle.usage.specs.declared.parts.UsedParts.{UsedParts}

-- each list marks exactly what is used, and the features and facts are those of the song
pub record AreUsedParts (song : Song) (parts : UsedParts) : Type 0 where
  pub patterns : AreMarks (IsUsedPattern song) parts.patterns
  pub instruments : AreMarks (IsUsedInstrument song) parts.instruments
  pub wave : AreMarks (IsReached song Wave) parts.wave
  pub pulse : AreMarks (IsReached song Pulse) parts.pulse
  pub filter : AreMarks (IsReached song Filter) parts.filter
  pub speed : AreMarks (IsPointer song Speed) parts.speed
  pub wave_pointers : AreMarks (IsPointer song Wave) parts.wave_pointers
  pub pulse_pointers : AreMarks (IsPointer song Pulse) parts.pulse_pointers
  pub filter_pointers : AreMarks (IsPointer song Filter) parts.filter_pointers
  pub features : AreFeatures song parts.features.0
  pub facts : AreFacts song parts.facts
