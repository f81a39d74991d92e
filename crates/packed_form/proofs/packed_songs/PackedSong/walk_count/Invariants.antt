use Rattle.std.proofs.Common.{◌≡◌, take}
use Rattle.packed_form.specs.Unpacked.{unpacked_subtune}
use Rattle.packed_form.specs.WalkCount.{greatest, subtune_looks}
use Rattle.packed_form.proofs.packed_songs.PackedSong.walk_count.Given as goal

abbrev pub invariant-loop-subtune : goal.invariant-loop-subtune
invariant-loop-subtune l =
    l.most ≡ greatest (λ subtune. subtune_looks (unpacked_subtune subtune)) (take l.subtune-index l.subtune-items)
