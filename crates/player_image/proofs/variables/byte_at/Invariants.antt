-- The first of all labels that has the place is the first one from here on.
use Rattle.std.proofs.Common.{◌≡◌, slice_index}
use Rattle.player_image.proofs.Placed.{label_on}
use Rattle.player_image.proofs.variables.byte_at.Given as goal

abbrev pub invariant-loop-label : goal.invariant-loop-label
invariant-loop-label l = label_on (slice_index l.places) l.place 0 ≡ label_on (slice_index l.places) l.place l.label
