-- The label is a place of 16 bits.
use Rattle.std.proofs.Common.{arith}
use Rattle.song_lists.proofs.Lists.{frequency_labels, frequencies_end}
use Rattle.song_lists.proofs.PlaceSteps.{end_below, end_back, end_label_below}
use Rattle.song_lists.proofs.places.highs_place.Goals as goal

pub overflow_add-result : goal.overflow_add-result
overflow_add-result c =
    let below = end_below c.frequencies_place.result c.from.result _ _ _ c.frequencies_place.ensures
    c.from.ensures (frequencies_end c.args.dependent c.args.packed.now)
    c.requires in
    omega (arith, below)

pub overflow_sub-result : goal.overflow_sub-result
overflow_sub-result c =
    end_back c.frequencies_place.result c.from.result c.bytes_back.result _ _
    c.frequencies_place.ensures c.bytes_back.ensures (frequency_labels c.args.dependent c.args.packed.now).back

pub returns-clause-most : goal.returns-clause-most
returns-clause-most c =
    let labels = frequency_labels c.args.dependent c.args.packed.now in
    end_label_below c.frequencies_place.result c.from.result c.bytes_back.result _ _ _ _
    c.frequencies_place.ensures c.from.ensures c.bytes_back.ensures labels.back labels.some
    (frequencies_end c.args.dependent c.args.packed.now) c.requires
