-- Both have come so far, and haven't met.
use Rattle.std.proofs.Common.{◌≡◌, ◌≤◌, ◌<◌, ◌-◌, ℕ, None}
use Rattle.song_length.specs.Plays.{Lead}
use Rattle.song_length.specs.Coming.{HasRepeat, MeetAt}
use Rattle.song_length.proofs.places.first_place.Given as goal

abbrev pub invariant-loop-most : goal.invariant-loop-most
invariant-loop-most l = record {
  few : l.from ≤ l.most;
  one : Lead l.initial.one.play l.from l.initial.one.machine l.one.machine;
  other : Lead l.initial.one.play l.from l.initial.other.machine l.other.machine;
  one_repeats : HasRepeat l.initial.one.play l.one.machine;
  other_repeats : HasRepeat l.initial.one.play l.other.machine;
  one_address : l.one.play ≡ l.initial.one.play;
  other_address : l.other.play ≡ l.initial.one.play;
  one_running : l.one.stopped ≡ None;
  other_running : l.other.stopped ≡ None;
  apart : (place : ℕ) → place < l.from → ¬ MeetAt l.initial.one.play l.initial.one.machine l.initial.other.machine place;
}

abbrev pub decreases-loop-most : goal.decreases-loop-most
decreases-loop-most l = l.most - l.from
