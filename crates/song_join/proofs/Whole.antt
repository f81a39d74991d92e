-- The joined song keeps the limits, can be played, and plays both songs.
use Rattle.std.proofs.Common.{◌≡◌, length, take, refl, sym, ap, ◌∙◌, subst}
use Rattle.std.proofs.Math.Seq.{take-append_seam}
use Rattle.song_model.specs.declared.songs.Song.{Song}
use Rattle.song_model.specs.Limits.{KeepsLimits}
use Rattle.play_model.specs.Playable.{IsPlayable}
use Rattle.song_join.specs.Joined.{joined}
use Rattle.song_join.specs.Refusals.{CanBeJoined}
use Rattle.song_join.specs.JoinLaws.{BeginsWith, IsWholeJoin, JoinedSongsAreWhole}
use Rattle.song_model.specs.LookUp.{table_of}
use Rattle.song_join.proofs.FoundParts.{table_is}
use Rattle.song_join.proofs.Plays.{plays_both}
use Rattle.song_join.proofs.JoinedPlayable.{can_be_played}
use Rattle.song_join.proofs.JoinedLimits.{keeps_limits}

begins_with : (first second : Song) → BeginsWith (joined first second) first
unfolding joined
begins_with first second = record {
  name = refl;
  author = refl;
  copyright = refl;
  subtunes = take-append_seam first.subtunes _;
  instruments = take-append_seam first.instruments _;
  rows = λ table.
      ap (take (length (table_of first table))) (table_is first second table)
      ∙ take-append_seam (table_of first table) _;
  patterns = take-append_seam first.patterns _;
}

pub joined_songs_are_whole_lem : JoinedSongsAreWhole
joined_songs_are_whole_lem first second j = record {
  begins = begins_with first second;
  limits = keeps_limits first second j;
  playable = can_be_played first second j;
  plays = plays_both first second j;
}

-- a song that is the joined one
pub whole_join : (song first second : Song) → IsPlayable first → IsPlayable second → CanBeJoined first second →
    song ≡ joined first second → KeepsLimits first → KeepsLimits second → IsWholeJoin song first second
whole_join song first second first_plays second_plays can is first_limits second_limits =
    subst (λ (x : Song). IsWholeJoin x first second) (sym is)
    (joined_songs_are_whole_lem first second (record {
      first_limits = first_limits;
      second_limits = second_limits;
      first_plays = first_plays;
      second_plays = second_plays;
      can = can;
    }))
