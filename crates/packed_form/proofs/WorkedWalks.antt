-- The ways and counts that were worked out by hand, computed.
use Rattle.std.proofs.Common.{refl}
use Rattle.packed_form.specs.WalkCount.{looks_from, most_looks, walk_count}
use Rattle.packed_form.specs.WorkedWalks.{PatternsAlone, TransposesArePassed, RepeatsArePassed, RunsArePassed}
use Rattle.packed_form.specs.WorkedWalks.{SubtunesAreCompared, EndsAreCounted}

pub patterns_alone : PatternsAlone
unfolding looks_from most_looks walk_count
patterns_alone packed is = rw is refl

pub transposes_are_passed : TransposesArePassed
unfolding looks_from most_looks walk_count
transposes_are_passed = (refl, refl, refl, λ packed is. rw is refl)

pub repeats_are_passed : RepeatsArePassed
unfolding looks_from most_looks walk_count
repeats_are_passed = (λ packed is. rw is refl, λ packed is. rw is refl)

pub runs_are_passed : RunsArePassed
unfolding looks_from most_looks walk_count
runs_are_passed = (refl, refl, refl, λ packed is. rw is refl)

pub subtunes_are_compared : SubtunesAreCompared
unfolding looks_from most_looks walk_count
subtunes_are_compared packed is = rw is refl

pub ends_are_counted : EndsAreCounted
unfolding looks_from most_looks walk_count
ends_are_counted = (λ packed is. rw is refl, λ packed is. rw is refl, λ packed is. rw is refl)
