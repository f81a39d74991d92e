use Rattle.std.proofs.Common.{◌≡◌, ◌≤◌, ◌<◌, ◌++◌, length, get_or, drop}
use Rattle.song_lists.specs.declared.marks.Mark.{Mark}
use Rattle.song_lists.specs.Marks.{marked}
use Rattle.song_lists.proofs.marks.cut.Given as goal

abbrev pub invariant-loop-mark : goal.invariant-loop-mark
invariant-loop-mark l = record {
  within : l.from ≤ length l.bytes;
  next : (d : Mark) → l.mark-index < length l.marks → l.from ≤ (get_or l.marks l.mark-index d).place;
  lines : marked 0 l.marks l.bytes ≡ l.listing ++ marked l.from (drop l.mark-index l.marks) (drop l.from l.bytes);
}
