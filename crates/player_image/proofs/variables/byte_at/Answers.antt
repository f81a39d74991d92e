-- The byte is that of the first label that has the place.
use Rattle.std.proofs.Common.{slice_index, refl, sym, ap, ◌∙◌, arith}
use Rattle.player_image.specs.Images.{byte_of}
use Rattle.player_image.proofs.Placed.{label_here, label_later, no_label}
use Rattle.player_image.proofs.variables.byte_at.Goals as goal

pub loop-label-init : goal.loop-label-init
loop-label-init c = refl

pub returns-then-places-label : goal.returns-then-places-label
returns-then-places-label c =
    sym (ap (byte_of c.args.variables.now)
    (c.loop-label.invariant
    ∙ label_here (slice_index c.args.places.now) c.args.place c.loop-label.label c.loop-label-test.true
    c.if-places-label.true))

pub loop-label-preserved : goal.loop-label-preserved
loop-label-preserved c =
    c.loop-label.invariant
    ∙ label_later (slice_index c.args.places.now) c.args.place c.loop-label.label c.loop-label-test.true
    c.if-places-label.false

pub returns : goal.returns
returns c =
    let high = c.loop-label-test.false in
    sym (ap (byte_of c.args.variables.now)
    (c.loop-label.invariant
    ∙ no_label (slice_index c.args.places.now) c.args.place c.loop-label.label (omega (arith, high))))
