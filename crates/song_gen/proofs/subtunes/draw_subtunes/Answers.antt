use Rattle.std.proofs.Common.{refl, ap, ◌∙◌, arith}
use Rattle.song_gen.specs.Draws.{after}
use Rattle.song_gen.specs.GeneratedSong.{subtune_from, subtunes_from}
use Rattle.song_gen.proofs.Loops.{draws_more, one_more, all_drawn, drawn_count}
use Rattle.song_gen.proofs.subtunes.draw_subtunes.Goals as goal

pub loop-subtune-init : goal.loop-subtune-init
unfolding after
loop-subtune-init c = record { items_are = c.new-list.ensures.items; number_is = refl }

pub loop-subtune-preserved : goal.loop-subtune-preserved
loop-subtune-preserved c =
    let s = c.loop-subtune._subtune in
    let so_far = c.loop-subtune.invariant in
    one_more so_far s (omega arith) c.in_ok-push.ensures.items
    (c.in_ok-draw_subtune.ensures.subtune ∙ ap subtune_from so_far.number_is)
    (draws_more c.args.draws.now.number 150 s _ _ so_far.number_is c.in_ok-draw_subtune.ensures.behind)

-- all eight
pub from_vec-requires : goal.from_vec-requires
from_vec-requires c =
    let e = drawn_count (all_drawn c.loop-subtune.invariant 8 c.loop-subtune.auto._subtune-end c.loop-subtune-test.false)
    in
    omega (arith, e)

pub returns : goal.returns
unfolding subtunes_from
returns c =
    c.from_vec.ensures
    ∙ (all_drawn c.loop-subtune.invariant 8 c.loop-subtune.auto._subtune-end c.loop-subtune-test.false).items_are
