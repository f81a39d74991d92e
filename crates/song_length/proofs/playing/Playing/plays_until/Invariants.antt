-- So far it isn't in this state.
use Rattle.std.proofs.Common.{◌≤◌, ◌-◌}
use Rattle.song_length.specs.Coming.{GoesOnTo, StaysOut}
use Rattle.song_length.proofs.playing.Playing.plays_until.Given as goal

abbrev pub invariant-loop-plays : goal.invariant-loop-plays
invariant-loop-plays l = record {
  few : l.plays ≤ l.most;
  goes : GoesOnTo l.initial.self l.self l.plays;
  out : StaysOut l.initial.self l.fn.state l.plays;
}

abbrev pub decreases-loop-plays : goal.decreases-loop-plays
decreases-loop-plays l = l.most - l.plays
