use Rattle.std.proofs.Common.{ℕ, slice_index}
use Rattle.song_pack.proofs.FilledLists.{FilledTo}
use Rattle.song_pack.proofs.programs.one_after_other.Given as goal

abbrev pub invariant-loop-p : goal.invariant-loop-p
invariant-loop-p l = FilledTo (λ (p : ℕ). slice_index l.second (slice_index l.first p)) 256 l.p l.both
