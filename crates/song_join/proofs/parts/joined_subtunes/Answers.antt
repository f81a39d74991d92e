use Rattle.std.proofs.Common.{List, get_or, length, map, take, sym, ◌∙◌, ap, arith, length-append}
use Rattle.std.specs.List.{filter}
use Rattle.std.proofs.lemmas.List.{length-map}
use Rattle.song_model.specs.declared.orders.Subtune.{Subtune}
use Rattle.song_model.specs.LookUp.{is_playable_subtune}
use Rattle.same_frames.specs.OrderLaws.{moved_subtune}
use Rattle.song_join.specs.declared.faults.JoinPart.TheVariants.{Subtunes}
use Rattle.song_join.specs.Numbers.{new_numbers}
use Rattle.song_join.proofs.Channels.{count_few}
use Rattle.song_join.proofs.Named.{subtune_stored}
use Rattle.song_join.proofs.parts.joined_subtunes.Goals as goal

pub moved_subtune-requires-clause-stored : goal.moved_subtune-requires-clause-stored
moved_subtune-requires-clause-stored c =
    subtune_stored c.args.second.now c.subtune-item.result c.loop-subtune.subtune-index c.requires.playable
    (rw c.as_slice-stored.ensures.items at c.loop-subtune-test.true)
    (c.subtune-item.is
    ∙ ap (λ (xs : List Subtune). get_or xs c.loop-subtune.subtune-index c.subtune-item.result)
    c.as_slice-stored.ensures.items)
    (sym c.is_playable.ensures ∙ c.if-is_playable.true)

pub from_vec-requires : goal.from_vec-requires
from_vec-requires c =
    let move = moved_subtune (new_numbers c.args.first.now c.args.second.now) in
    let kept = filter is_playable_subtune (take c.loop-subtune.subtune-index c.as_slice-stored.result.now) in
    let count = ap length c.loop-subtune.invariant in
    let sum = length-append c.args.first.now.subtunes (map move kept) in
    let same = length-map kept move in
    let short = count_few is_playable_subtune c.as_slice-stored.result.now c.loop-subtune.subtune-index in
    let all = ap (λ (xs : List Subtune). length (filter is_playable_subtune xs)) c.as_slice-stored.ensures.items in
    let few = c.requires.within.part Subtunes in
    (omega arith, omega arith)
