-- A song whose patterns are cut stands in for the song.
use Rattle.std.proofs.Common.{◌≡◌, true}
use Rattle.song_model.specs.declared.songs.Song.{Song}
use Rattle.song_model.specs.Limits.{KeepsLimits}
use Rattle.play_model.specs.Playable.{IsPlayable}
use Rattle.same_uses.specs.SameUses.{UsesNoMore}
use Rattle.pattern_cut.specs.CutSongs.{Ways, cut_with}
use Rattle.pattern_cut.specs.Choice.{fits}
use Rattle.pattern_cut.specs.CutLaws.{CutSongsStandIn}
use Rattle.pattern_cut.proofs.CutSongs.{cut_plays_same}
use Rattle.pattern_cut.proofs.Limits.{cut_of, cut_keeps_limits}
use Rattle.pattern_cut.proofs.Uses.{uses, uses_all, asks_same, cut_playable}

pub cut_songs_lem : CutSongsStandIn
cut_songs_lem song ways limits playable fit =
    let c = cut_of song ways limits playable fit in
    record {
      limits = cut_keeps_limits song ways c fit;
      playable = cut_playable song ways c;
      plays = cut_plays_same song ways c;
      asks = asks_same song ways c;
    }

-- it uses no more, and no less
pub record UsesSame (song other : Song) : Type 0 where
  pub no_more : UsesNoMore song other
  pub no_less : UsesNoMore other song

pub cut_uses_same : (song : Song) (ways : Ways) → KeepsLimits song → IsPlayable song → fits (cut_with song ways) ≡ true →
    UsesSame song (cut_with song ways)
cut_uses_same song ways limits playable fit =
    let c = cut_of song ways limits playable fit in
    record { no_more = uses song ways c; no_less = uses_all song ways c }
