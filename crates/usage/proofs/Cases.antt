-- The features that are answered name each case that a frame of the song takes.
use Rattle.std.proofs.Common.{ℕ, Result, Ok, Err, OnOk, IfOk}
use Rattle.song_model.specs.declared.songs.Song.{Song}
use Rattle.play_model.specs.declared.unplayable.Unplayable.{Unplayable}
use Rattle.play_model.specs.Playable.{IsPlayable}
use Rattle.play_model.specs.Features.{AreFeatures}
use Rattle.safe_states.proofs.Laws.{no_unused_case_lem}
use Rattle.usage.specs.declared.parts.UsedParts.{UsedParts}
use Rattle.usage.specs.Parts.{AreUsedParts}
use Rattle.usage.specs.Cases.{NameEachCase, options_of, EachSpeedIsNamed}

features_name : (song : Song) (bits : ℕ) → IsPlayable song → AreFeatures song bits → NameEachCase song bits
features_name song bits playable are = record {
  each =
      λ o k i speed limits h feature u. (are.each feature).1
      (no_unused_case_lem o song k i speed limits playable h feature u);
}

pub names_each : (song : Song) (result : Result UsedParts Unplayable) → OnOk result (IsPlayable song) →
    IfOk result (AreUsedParts song) → IfOk result (λ parts. NameEachCase song parts.features.0)
names_each song (Ok parts) playable are = features_name song parts.features.0 playable are.features
names_each song (Err refusal) playable are = tt

pub each_speed_is_named : EachSpeedIsNamed
each_speed_is_named song bits named limits effects pulse first speed system k i least most few feature uses =
    named.each (options_of effects pulse first speed system) k i
    (record { least = least; most = most }) limits few feature uses
