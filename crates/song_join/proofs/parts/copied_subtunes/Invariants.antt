use Rattle.std.proofs.Common.{◌≡◌, take}
use Rattle.song_join.proofs.parts.copied_subtunes.Given as goal

abbrev pub invariant-loop-subtune : goal.invariant-loop-subtune
invariant-loop-subtune l =
    l.list.items ≡ take l.subtune-index l.stored
