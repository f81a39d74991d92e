-- The bytes are those of the places so far.
use Rattle.std.proofs.Common.{◌≡◌, slice_index}
use Rattle.player_image.specs.Images.{placed}
use Rattle.player_image.proofs.variables.placed.Given as goal

abbrev pub invariant-loop-place : goal.invariant-loop-place
invariant-loop-place l = l.bytes ≡ placed (slice_index l.places) l.place l.variables
