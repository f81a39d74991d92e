use Rattle.std.proofs.Common.{take}
use Rattle.std.specs.List.{flat_map}
use Rattle.pattern_cut.specs.Pieces.{repeated_of}
use Rattle.song_cut.specs.Marks.{AreOf, bytes_in, orders_if_played}
use Rattle.song_cut.proofs.marks.pattern_marks.Given as goal

abbrev pub invariant-loop-subtune : goal.invariant-loop-subtune
invariant-loop-subtune l = record {
  named : AreOf (bytes_in (λ order. order.entries) (flat_map orders_if_played (take l.subtune-index l.stored)))
      l.marks.named;
  repeated : AreOf (bytes_in repeated_of (flat_map orders_if_played (take l.subtune-index l.stored))) l.marks.repeated;
}
