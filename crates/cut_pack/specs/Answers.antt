-- What packing a song answers.
use Rattle.std.specs.Prelude.{◌≡◌, nat_lt, if◌then◌else◌, Option, Some, None}
use Rattle.song_model.specs.declared.songs.Song.{Song}
use Rattle.play_model.specs.declared.options.Options.{Options}
use Rattle.packed_form.specs.declared.packed_songs.PackedSong.{PackedSong}
use Rattle.packed_form.specs.Sizes.{packed_song_size}
use Rattle.packed_form.specs.StandsFor.{StandsFor}
use Rattle.packing_rules.specs.UsedSets.{UsedSets, AreUsedSets}
use Rattle.packing_rules.specs.SongSizes.{packed_size}
use Rattle.song_pack.specs.Packed.{IsPacked}
use Rattle.song_pack.specs.Answers.{AreShort}
use Rattle.cut_pack.specs.Chosen.{IsPackedFor}

-- the packed song of a song as it is: it plays what the song plays, with any options, each of its parts is the one that is
-- defined, and it has the song's packed size
pub record IsPackedOf (packed : PackedSong) (song : Song) : Type 0 where
  pub stands : StandsFor packed song
  pub used : UsedSets
  pub are_used : AreUsedSets song used
  pub exact : IsPacked song used packed
  pub size : packed_song_size packed ≡ packed_size song used

-- the first packed song, or the other one, where there is one and it has fewer bytes
abbrev pub shorter_of : PackedSong → Option PackedSong → PackedSong
shorter_of whole None = whole
shorter_of whole (Some cut) = if nat_lt (packed_song_size cut) (packed_song_size whole) then cut else whole

-- the packed song of a song whose patterns are short; none where one is too long
abbrev pub IsPackedCut : Song → Option PackedSong → Type 0
IsPackedCut song (Some packed) = IsPackedOf packed song × ((used : UsedSets) → AreUsedSets song used → AreShort song used)
IsPackedCut song None = (used : UsedSets) → AreUsedSets song used → ¬ AreShort song used

-- the packed song of the one that is packed for this song, where it is played with these options
pub record Packs (o : Options) (packed : PackedSong) (song : Song) : Type 0 where
  pub chosen : Song
  pub is_for : IsPackedFor o song chosen
  pub is : IsPackedOf packed chosen
