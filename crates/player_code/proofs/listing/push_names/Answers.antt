-- Each label is named where its place is the one.
use Rattle.std.proofs.Common.{◌++◌, slice_index, ap, ◌∙◌}
use Rattle.player_code.proofs.Variables.{names_begin, named_here, not_here}
use Rattle.player_code.proofs.listing.push_names.Goals as goal
use Rattle.player_code.proofs.listing.push_names.Goals.{then-label_place-place+in_ok-push, else-label_place-place}

pub loop-label-init : goal.loop-label-init
loop-label-init c =
    ap (λ ls. c.args.listing.now ++ ls) (names_begin (slice_index c.args.places.now) c.args.place)

pub loop-label-preserved : goal.loop-label-preserved
loop-label-preserved c =
    elim c.if-label_place-place.branch [
      | then-label_place-place+in_ok-push w ↦
          named_here (slice_index c.args.places.now) c.args.place c.loop-label.label c.loop-label-test.true _
          c.loop-label.listing _ w.name.result c.loop-label.invariant (w.listing-is ∙ w.in_ok-push.ensures.ok)
          w.name.ensures w.if-label_place-place.true
      | else-label_place-place w ↦
          not_here (slice_index c.args.places.now) c.args.place c.loop-label.label c.loop-label-test.true _
          c.loop-label.listing _ c.loop-label.invariant w.listing-is w.if-label_place-place.false
    ]
