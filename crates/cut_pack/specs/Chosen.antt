-- Which song is packed for a song: the song with its patterns cut, where that takes fewer bytes, and else the song as it
-- is.
use Rattle.std.specs.Prelude.{◌≡◌, ◌<◌, false}
use Rattle.song_model.specs.declared.songs.Song.{Song}
use Rattle.play_model.specs.declared.options.Options.{Options}
use Rattle.packing_rules.specs.UsedSets.{UsedSets, AreUsedSets}
use Rattle.packing_rules.specs.SongSizes.{packed_size}
use Rattle.pattern_cut.specs.Choice.{cut_song}
use Rattle.song_pack.specs.Answers.{AreShort}

-- the other song can be packed, and to fewer bytes
pub record IsShorter (song other : Song) : Type 0 where
  pub used : UsedSets
  pub are_used : AreUsedSets song used
  pub other_used : UsedSets
  pub are_other_used : AreUsedSets other other_used
  pub short : AreShort other other_used
  pub less : packed_size other other_used < packed_size song used

-- the patterns stay as they are where the song isn't shorter with its patterns cut, and where the pulse step is left out
-- between two patterns, since then it is heard where a pattern begins
pub data IsPackedFor (o : Options) (song chosen : Song) : Type 0 where
  in_pieces : o.skip_first ≡ false → chosen ≡ cut_song song → IsShorter song (cut_song song) →
      IsPackedFor o song chosen
  as_it_is : chosen ≡ song → (o.skip_first ≡ false → ¬ IsShorter song (cut_song song)) → IsPackedFor o song chosen
