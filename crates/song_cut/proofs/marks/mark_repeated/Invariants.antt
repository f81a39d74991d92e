use Rattle.std.proofs.Common.{◌≡◌, length}
use Rattle.song_model.specs.Walk.{end_repeat}
use Rattle.song_cut.proofs.Marking.{IsLeft}
use Rattle.song_cut.proofs.marks.mark_repeated.Given as goal

abbrev pub invariant-bytes : goal.invariant-bytes
invariant-bytes l = record {
  marks : IsLeft l.initial.marks l.marks l.entries l.left l.from l.repeat;
  repeat : end_repeat l.left l.repeat ≡ end_repeat l.entries l.from;
}

abbrev pub decreases-bytes : goal.decreases-bytes
decreases-bytes l = length l.left
