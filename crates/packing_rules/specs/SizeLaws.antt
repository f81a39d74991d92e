-- What a reader may rely on in the sizes of a song.
use Rattle.std.specs.Prelude.{◌≡◌, ◌≤◌}
use Rattle.song_model.specs.declared.songs.Song.{Song}
use Rattle.packing_rules.specs.UsedSets.{UsedSets, AreUsedSets}
use Rattle.packing_rules.specs.SongSizes.{data_size, packed_size}

-- a song has one size of each kind
abbrev pub SizesAreTheSongs : Type 0
SizesAreTheSongs = (song : Song) (one other : UsedSets) → AreUsedSets song one → AreUsedSets song other →
    (data_size song one ≡ data_size song other) × (packed_size song one ≡ packed_size song other)

-- storing things once makes nothing longer
abbrev pub PackedSizeIsWithin : Type 0
PackedSizeIsWithin = (song : Song) (used : UsedSets) → packed_size song used ≤ data_size song used
