use Rattle.std.proofs.Common.{◌≡◌, take}
use Rattle.song_model.proofs.songs.copy_subtunes.Given as goal

abbrev pub invariant-loop-subtune : goal.invariant-loop-subtune
invariant-loop-subtune l = l.copies.items ≡ take l.subtune-index l.stored
