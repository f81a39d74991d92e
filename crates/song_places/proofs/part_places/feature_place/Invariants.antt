use Rattle.song_places.proofs.PartSteps.{IsFoundBelow, features_for}
use Rattle.song_places.proofs.part_places.feature_place.Given as goal

abbrev pub invariant-loop-feature : goal.invariant-loop-feature
invariant-loop-feature l = IsFoundBelow (features_for l.song l.part) l.feature-index l.first
