use Rattle.std.proofs.Common.{List, get_or, take, sym, ap, ◌∙◌, arith}
use Rattle.std.proofs.lemmas.List.{length-take}
use Rattle.song_model.specs.declared.orders.Subtune.{Subtune}
use Rattle.song_model.specs.LookUp.{is_playable_subtune}
use Rattle.song_join.proofs.Channels.{named_at_first, next_playable, named_more, named_same, all_named, filter_few}
use Rattle.song_join.proofs.openings.check_openings.Goals.{then-is_playable+in_ok-check_subtune, else-is_playable}
use Rattle.song_join.proofs.openings.check_openings.Goals as goal

pub loop-subtune-init : goal.loop-subtune-init
loop-subtune-init c = named_at_first c.args.song.now

pub loop-subtune-preserved : goal.loop-subtune-preserved
loop-subtune-preserved c =
    let i = c.loop-subtune.subtune-index in
    let x = c.subtune-item.result in
    let inside = rw c.as_slice-stored.ensures.items at c.loop-subtune-test.true in
    let is =
    c.subtune-item.is ∙ ap (λ (xs : List Subtune). get_or xs i x) c.as_slice-stored.ensures.items in
    elim c.if-is_playable.branch [
      | then-is_playable+in_ok-check_subtune w ↦
          rw w.number-is
          (named_more c.args.song.now i c.loop-subtune.number x inside c.loop-subtune.invariant is
          (sym c.is_playable.ensures ∙ w.if-is_playable.true) w.in_ok-check_subtune.ensures.none)
      | else-is_playable w ↦
          rw w.number-is
          (named_same c.args.song.now i c.loop-subtune.number x inside c.loop-subtune.invariant is
          (sym c.is_playable.ensures ∙ w.if-is_playable.false))
    ]

pub overflow_add-number : goal.overflow_add-number
overflow_add-number c =
    let count = c.loop-subtune.invariant.count in
    let taken = take c.loop-subtune.subtune-index c.args.song.now.subtunes in
    let few = filter_few is_playable_subtune taken in
    let short = length-take c.loop-subtune.subtune-index c.args.song.now.subtunes in
    let limit = c.as_slice-stored.ensures.limit in
    omega arith

pub check_subtune-requires-clause-subtune : goal.check_subtune-requires-clause-subtune
check_subtune-requires-clause-subtune c =
    next_playable c.args.song.now c.loop-subtune.subtune-index c.loop-subtune.number c.subtune-item.result
    (rw c.as_slice-stored.ensures.items at c.loop-subtune-test.true) c.loop-subtune.invariant
    (c.subtune-item.is
    ∙ ap (λ (xs : List Subtune). get_or xs c.loop-subtune.subtune-index c.subtune-item.result)
    c.as_slice-stored.ensures.items)
    (sym c.is_playable.ensures ∙ c.if-is_playable.true)

pub returns-clause-none : goal.returns-clause-none
returns-clause-none c =
    all_named c.args.song.now c.loop-subtune.subtune-index c.loop-subtune.number
    (rw c.as_slice-stored.ensures.items at c.loop-subtune-test.false) c.loop-subtune.invariant
