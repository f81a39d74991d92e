-- The label is a place of 16 bits.
use Rattle.song_lists.proofs.Lists.{frequency_labels, frequencies_end}
use Rattle.song_lists.proofs.PlaceSteps.{label_back, label_below}
use Rattle.song_lists.proofs.places.lows_place.Goals as goal

pub overflow_sub-result : goal.overflow_sub-result
overflow_sub-result c =
    label_back c.frequencies_place.result c.bytes_back.result _ _ c.frequencies_place.ensures c.bytes_back.ensures
    (frequency_labels c.args.dependent c.args.packed.now).back

pub returns-clause-most : goal.returns-clause-most
returns-clause-most c =
    let labels = frequency_labels c.args.dependent c.args.packed.now in
    label_below c.frequencies_place.result c.bytes_back.result _ _ _ _ c.frequencies_place.ensures c.bytes_back.ensures
    labels.back labels.some (frequencies_end c.args.dependent c.args.packed.now) c.requires
