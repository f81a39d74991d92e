use Rattle.std.proofs.Common.{◌≡◌, ◌++◌, replicate}
use Rattle.song_lists.proofs.bytes.push_gap.Given as goal

abbrev pub invariant-loop-zero : goal.invariant-loop-zero
invariant-loop-zero l = l.bytes ≡ l.initial.bytes ++ replicate l._zero 0
