-- One byte more at each place.
use Rattle.std.proofs.Common.{slice_index, ◌++◌, ◌∷◌, [], sym, ap, ◌∙◌}
use Rattle.player_image.specs.Images.{label_at, byte_of, placed}
use Rattle.player_image.proofs.Placed.{one_more}
use Rattle.player_image.proofs.variables.placed.Goals as goal

pub loop-place-init : goal.loop-place-init
unfolding placed
loop-place-init c = c.new-bytes.ensures

pub loop-place-preserved : goal.loop-place-preserved
loop-place-preserved c =
    c.in_ok-push.ensures.ok
    ∙ (ap (λ byte. c.loop-place.bytes ++ byte ∷ []) c.byte_at.ensures
    ∙ (ap (λ bytes.
    bytes
    ++ byte_of c.args.variables.now (label_at (slice_index c.args.places.now) c.loop-place.place) ∷ [])
    c.loop-place.invariant
    ∙ sym (one_more (slice_index c.args.places.now) c.loop-place.place c.args.variables.now)))
