-- Claimed of songs whose patterns are cut: they can be played, play the same, and ask for the same; and of the choice.
use Rattle.std.specs.Prelude.{◌≡◌, ◌↔◌, ℕ, ◌≤◌, true, false, replicate}
use Rattle.song_model.specs.declared.features.Feature.{Feature}
use Rattle.song_model.specs.declared.songs.Song.{Song}
use Rattle.song_model.specs.declared.patterns.TheConstants.{MOST_PATTERNS}
use Rattle.song_model.specs.Limits.{KeepsLimits}
use Rattle.play_model.specs.declared.options.Options.{Options}
use Rattle.play_model.specs.Playable.{IsPlayable}
use Rattle.play_model.specs.Features.{HasFeature}
use Rattle.song_facts.specs.declared.facts.Fact.{Fact}
use Rattle.song_facts.specs.Facts.{HasFact}
use Rattle.asked_numbers.specs.Numbers.{IsAskedNumber}
use Rattle.same_frames.specs.SamePlays.{PlaysSame}
use Rattle.pattern_cut.specs.declared.lengths.PieceLength.{PieceLength}
use Rattle.pattern_cut.specs.CutSongs.{Ways, cut_with}
use Rattle.pattern_cut.specs.Choice.{fits, cut_weight, chosen_ways, cut_song}

-- two songs have the same features and facts, and ask for the same numbers
pub record AsksSame (song other : Song) : Type 0 where
  pub features : (feature : Feature) → HasFeature other feature ↔ HasFeature song feature
  pub facts : (fact : Fact) → HasFact other fact ↔ HasFact song fact
  pub numbers : (n : ℕ) → IsAskedNumber other n ↔ IsAskedNumber song n

-- the other song is within its limits and can be played as well, plays the same, where the pulse step isn't left out
-- between two patterns, and asks for the same
pub record StandsIn (song other : Song) : Type 0 where
  pub limits : KeepsLimits other
  pub playable : IsPlayable other
  pub plays : (o : Options) → o.skip_first ≡ false → PlaysSame o song other
  pub asks : AsksSame song other

-- whatever the lengths are, where the pieces fit
abbrev pub CutSongsStandIn : Type 0
CutSongsStandIn =
    (song : Song) (ways : Ways) → KeepsLimits song → IsPlayable song → fits (cut_with song ways) ≡ true →
    StandsIn song (cut_with song ways)

-- and with those that are chosen they fit
abbrev pub ChosenCutsFit : Type 0
ChosenCutsFit = (song : Song) → KeepsLimits song → IsPlayable song → fits (cut_song song) ≡ true

-- and the song weighs no more than with all of its patterns in pieces of one length, or with all of them whole
abbrev pub ChosenWaysWeighNoMore : Type 0
ChosenWaysWeighNoMore =
    (song : Song) (length : PieceLength) →
    cut_weight song (chosen_ways song) ≤ cut_weight song (replicate MOST_PATTERNS length)
