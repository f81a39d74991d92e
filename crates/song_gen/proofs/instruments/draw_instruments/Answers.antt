use Rattle.std.proofs.Common.{ℕ, ◌+◌, refl, ap, ◌∙◌, arith}
use Rattle.song_gen.specs.Draws.{after}
use Rattle.song_gen.specs.GeneratedSong.{instrument_from, instruments_from}
use Rattle.song_gen.proofs.Loops.{draws_more, one_more, all_drawn, drawn_count}
use Rattle.song_gen.proofs.instruments.draw_instruments.Goals as goal

pub loop-index-init : goal.loop-index-init
unfolding after
loop-index-init c = record { items_are = c.new-list.ensures.items; number_is = refl }

pub loop-index-preserved : goal.loop-index-preserved
loop-index-preserved c =
    let k = c.loop-index.index in
    let so_far = c.loop-index.invariant in
    one_more so_far k (omega arith) c.in_ok-push.ensures.items
    (c.draw_instrument.ensures.instrument ∙ ap (λ (z : ℕ). instrument_from z (k + 1)) so_far.number_is)
    (draws_more c.args.draws.now.number 3 k _ _ so_far.number_is c.draw_instrument.ensures.behind)

-- all four
pub from_vec-requires : goal.from_vec-requires
from_vec-requires c =
    let e = drawn_count (all_drawn c.loop-index.invariant 4 c.loop-index.auto.index-end c.loop-index-test.false) in
    omega (arith, e)

pub returns-clause-instruments : goal.returns-clause-instruments
unfolding instruments_from
returns-clause-instruments c =
    c.from_vec.ensures
    ∙ (all_drawn c.loop-index.invariant 4 c.loop-index.auto.index-end c.loop-index-test.false).items_are

pub returns-clause-behind : goal.returns-clause-behind
returns-clause-behind c =
    (all_drawn c.loop-index.invariant 4 c.loop-index.auto.index-end c.loop-index-test.false).number_is
