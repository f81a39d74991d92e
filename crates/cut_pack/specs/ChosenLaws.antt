-- Claimed of the song that is packed for a song.
use Rattle.std.specs.Prelude.{◌≡◌, ◌≤◌}
use Rattle.song_model.specs.declared.songs.Song.{Song}
use Rattle.song_model.specs.Limits.{KeepsLimits}
use Rattle.play_model.specs.declared.options.Options.{Options}
use Rattle.play_model.specs.Playable.{IsPlayable}
use Rattle.same_frames.specs.SamePlays.{PlaysSame}
use Rattle.packing_rules.specs.UsedSets.{UsedSets, AreUsedSets}
use Rattle.packing_rules.specs.SongSizes.{packed_size}
use Rattle.pattern_cut.specs.CutLaws.{AsksSame}
use Rattle.cut_pack.specs.Chosen.{IsPackedFor}

-- it is within its limits and can be played, plays the same with these options, and asks for the same
pub record Serves (o : Options) (song chosen : Song) : Type 0 where
  pub limits : KeepsLimits chosen
  pub playable : IsPlayable chosen
  pub plays : PlaysSame o song chosen
  pub asks : AsksSame song chosen

abbrev pub ChosenSongsServe : Type 0
ChosenSongsServe =
    (o : Options) (song chosen : Song) → KeepsLimits song → IsPlayable song → IsPackedFor o song chosen →
    Serves o song chosen

-- it isn't longer than the song as it is
abbrev pub ChosenSongsAreNoLonger : Type 0
ChosenSongsAreNoLonger =
    (o : Options) (song chosen : Song) (used chosen_used : UsedSets) → IsPackedFor o song chosen →
    AreUsedSets song used → AreUsedSets chosen chosen_used → packed_size chosen chosen_used ≤ packed_size song used

-- it is one song
abbrev pub OneIsPacked : Type 0
OneIsPacked = (o : Options) (song one other : Song) → IsPackedFor o song one → IsPackedFor o song other → one ≡ other
