-- The plays so far are those of the windows before.
use Rattle.std.proofs.Common.{◌≡◌, ◌≤◌, ◌+◌, ◌-◌, ◌*◌, None}
use Rattle.cpu6502.specs.declared.machine.Machine.{Machine}
use Rattle.song_length.specs.Coming.{IsAt}
use Rattle.song_length.proofs.playing.Playing.period.Given as goal

abbrev pub invariant-loop-found : goal.invariant-loop-found
invariant-loop-found l = record {
  some : 1 ≤ l.window;
  few : l.window ≤ 2 * l.limit;
  limits : l.limit ≡ l.initial.self.counts.limit;
  calls : l.self.counts.calls + 1 ≡ l.window;
  on : (first : Machine) → IsAt first l.initial.self → IsAt first l.self;
  limit : l.self.counts.limit ≡ l.initial.self.counts.limit;
  address : l.self.runner.play ≡ l.initial.self.runner.play;
  running : l.self.runner.stopped ≡ None;
}

abbrev pub decreases-loop-found : goal.decreases-loop-found
decreases-loop-found l = l.limit - l.window
