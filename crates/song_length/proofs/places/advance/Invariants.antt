-- So many plays are made.
use Rattle.std.proofs.Common.{◌≡◌, ◌≤◌, ◌-◌, None}
use Rattle.song_length.specs.Plays.{Lead}
use Rattle.song_length.specs.Coming.{HasRepeat}
use Rattle.song_length.proofs.places.advance.Given as goal

abbrev pub invariant-loop-left : goal.invariant-loop-left
invariant-loop-left l = record {
  few : l.left ≤ l.plays;
  led : Lead l.initial.runner.play (l.plays - l.left) l.initial.runner.machine l.runner.machine;
  repeats : HasRepeat l.initial.runner.play l.runner.machine;
  address : l.runner.play ≡ l.initial.runner.play;
  running : l.runner.stopped ≡ None;
}

abbrev pub decreases-loop-left : goal.decreases-loop-left
decreases-loop-left l = l.left
