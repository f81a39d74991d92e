-- When a packed song stands for a song, from this project's own packed form: it is whole, and it plays what the song plays.
use Rattle.std.specs.Prelude.{◌≡◌, ℕ, ◌<◌, false, List, length, Contains}
use Rattle.song_model.specs.declared.features.Feature.{Feature}
use Rattle.song_model.specs.declared.songs.Song.{Song}
use Rattle.song_model.specs.Limits.{KeepsLimits}
use Rattle.song_model.specs.LookUp.{IsNumbered, playable_subtunes}
use Rattle.play_model.specs.declared.options.Options.{Options}
use Rattle.play_model.specs.Speeds.{IsSpeed}
use Rattle.play_model.specs.Frame.{trace_with}
use Rattle.song_model.specs.declared.tables.TableName.TheVariants.{Speed}
use Rattle.play_model.specs.Used.{IsUsedInstrument}
use Rattle.play_model.specs.Reached.{IsPointer}
use Rattle.play_model.specs.Playable.{IsPlayable}
use Rattle.play_model.specs.Features.{HasFeature, AreFeatures}
use Rattle.play_model.specs.Uses.{UsesFeature}
use Rattle.song_facts.specs.Facts.{AreFacts, AddsNoFact}
use Rattle.asked_numbers.specs.Range.{IsNumberRange, AddsNoNumber}
use Rattle.packed_form.specs.declared.packed_songs.PackedSubtune.{PackedSubtune}
use Rattle.packed_form.specs.declared.packed_songs.PackedSong.{PackedSong}
use Rattle.packed_form.specs.PackedSpells.{PackedSpells}
use Rattle.packed_form.specs.Holders.{AreInOrder}
use Rattle.packed_form.specs.Unpacked.{IsPackedOrder, unpacked_pattern, unpacked_song, packed_state, packed_trace}

pub record ArePackedOrders (subtune : PackedSubtune) : Type 0 where
  pub one : IsPackedOrder subtune.one
  pub two : IsPackedOrder subtune.two
  pub three : IsPackedOrder subtune.three

-- its lists are what they are to be
pub record IsPackedSong (packed : PackedSong) : Type 0 where
  pub orders : (subtune : PackedSubtune) → Contains packed.subtunes subtune → ArePackedOrders subtune
  pub patterns : (bytes : List ℕ) → Contains packed.patterns bytes → PackedSpells bytes (unpacked_pattern bytes)
  -- numbers are bytes, and lists as long as they may be
  pub limits : KeepsLimits (unpacked_song packed)

-- The song can be played, each of its subtunes: its orderlists go on for ever and name stored patterns, and its programs
-- stay in their tables. The instruments and the speeds that it names are stored too.
pub record IsComplete (song : Song) : Type 0 where
  pub subtunes : playable_subtunes song ≡ song.subtunes
  pub playable : IsPlayable song
  pub instruments : (i : ℕ) → IsUsedInstrument song i → IsNumbered song.instruments i
  pub speeds : (p : ℕ) → IsPointer song Speed p → IsNumbered song.speed p

-- subtune k plays alike, with these options
pub record PlaysAlike (o : Options) (packed : PackedSong) (song : Song) (k : ℕ) : Type 0 where
  -- the registers after each call
  pub trace : (i : ℕ) → packed_trace packed k o i ≡ trace_with o song k i
  -- no frame uses more than the song's features
  pub uses : (i : ℕ) (feature : Feature) → UsesFeature o (unpacked_song packed) k (packed_state packed k o i) feature →
      HasFeature song feature

pub record StandsFor (packed : PackedSong) (song : Song) : Type 0 where
  pub packed_song : IsPackedSong packed
  pub complete : IsComplete (unpacked_song packed)
  -- it has the subtunes of the song that can be played, and its features
  pub subtunes : length packed.subtunes ≡ length (playable_subtunes song)
  pub features : AreFeatures song packed.features.0
  pub facts : AreFacts song packed.facts
  pub numbers : IsNumberRange song packed.numbers
  -- its instruments stand in the order of what they hold before their notes, but where the first holds more than
  -- another
  pub order : packed.facts.first_holds ≡ false → AreInOrder packed.instruments
  -- the packed song, read as a song, has no other facts, and asks for no other numbers
  pub covers : AddsNoFact song (unpacked_song packed)
  pub asks : AddsNoNumber song (unpacked_song packed)
  pub plays : (o : Options) (k : ℕ) → IsSpeed o.speed → k < length (playable_subtunes song) → PlaysAlike o packed song k
