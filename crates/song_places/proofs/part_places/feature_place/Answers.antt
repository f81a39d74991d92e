use Rattle.std.proofs.Common.{◌≡◌, ◌≤◌, ◌+◌, ℕ, Bool, Option, get_or, sym, ◌∙◌, subst, arith}
use Rattle.song_model.specs.declared.features.Feature.TheVariants.{Transpose}
use Rattle.song_model.specs.declared.songs.Song.{Song}
use Rattle.play_model.specs.State.{no_options}
use Rattle.kept_lines.specs.KeptLines.{keeps}
use Rattle.song_places.specs.declared.places.Place.{Place}
use Rattle.song_places.specs.declared.part_places.TheConstants.{FEATURES}
use Rattle.song_places.specs.Places.{NeedsAt}
use Rattle.song_places.specs.PartPlaces.{NeedsFeatureFor}
use Rattle.song_places.proofs.FeaturePlaces.{has_feature}
use Rattle.song_places.proofs.OnePlace.{own_first, own_none}
use Rattle.song_places.proofs.PartFeatures.{bit_there}
use Rattle.song_places.proofs.PartSteps.{IsFoundBelow, none_yet, passed, added, all_first, all_none}
use Rattle.song_places.proofs.PartSteps.{features_for, to_feature, of_feature}
use Rattle.song_places.proofs.part_places.feature_place.Goals as goal
use Rattle.song_places.proofs.part_places.feature_place.Goals.{then-keeps_part, else-keeps_part}

pub loop-feature-init : goal.loop-feature-init
loop-feature-init c = none_yet (features_for c.args.song.now c.args.part)

pub loop-feature-preserved : goal.loop-feature-preserved
loop-feature-preserved c =
    let song = c.args.song.now in
    let part = c.args.part in
    let n = c.loop-feature.feature-index in
    let feature = get_or FEATURES n Transpose in
    let number = bit_there n Transpose c.loop-feature-test.true in
    let next = IsFoundBelow (features_for song part) (n + 1) in
    let kept = λ (z : Bool) (e : z ≡ keeps c.feature_alone.result.0 no_options part).
    subst (λ (set : ℕ). z ≡ keeps set no_options part) c.feature_alone.ensures e in
    elim c.if-keeps_part.branch [
      | then-keeps_part w ↦
          (let own = w.first_place.result in
          subst next (sym w.first-is)
          (added (features_for song part) n feature c.loop-feature.first own w.earlier-first.result number
          (sym (kept _ c.keeps_part.ensures) ∙ w.if-keeps_part.true) c.loop-feature.invariant
          (own_first (NeedsAt song feature) own w.first_place.ensures.first)
          (own_none (NeedsAt song feature) own w.first_place.ensures.used (has_feature song feature))
          w.earlier-first.ensures.first w.earlier-first.ensures.none))
      | else-keeps_part w ↦
          subst next (sym w.first-is)
          (passed (features_for song part) n feature c.loop-feature.first number
          (sym (kept _ c.keeps_part.ensures) ∙ w.if-keeps_part.false) c.loop-feature.invariant)
    ]

-- all have been looked at
all : (song : Song) (part n : ℕ) (found : Option Place) → 24 ≤ n → n ≤ 24 →
    IsFoundBelow (features_for song part) n found → IsFoundBelow (features_for song part) 24 found
all song part n found high low so_far =
    (let is : n ≡ 24 = omega (arith, high, low) in
    subst (λ (m : ℕ). IsFoundBelow (features_for song part) m found) is so_far)

pub returns-clause-first : goal.returns-clause-first
returns-clause-first c =
    let song = c.args.song.now in
    let part = c.args.part in
    let n = c.loop-feature.feature-index in
    let found = c.loop-feature.first in
    all_first (features_for song part) 24 (NeedsFeatureFor song part) found (to_feature song part)
    (of_feature song part)
    (all song part n found c.loop-feature-test.false c.loop-feature.auto.feature-index-end c.loop-feature.invariant)

pub returns-clause-none : goal.returns-clause-none
returns-clause-none c =
    let song = c.args.song.now in
    let part = c.args.part in
    let n = c.loop-feature.feature-index in
    let found = c.loop-feature.first in
    all_none (features_for song part) 24 (NeedsFeatureFor song part) found (of_feature song part)
    (all song part n found c.loop-feature-test.false c.loop-feature.auto.feature-index-end c.loop-feature.invariant)
