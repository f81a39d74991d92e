use Rattle.std.proofs.Common.{length, sym, ◌∙◌, ap, arith}
use Rattle.song_cut.proofs.Marking.{played_to}
use Rattle.song_cut.proofs.AddedLengths.{none_added, added_next, fit_is, sum_is}
use Rattle.song_cut.proofs.orders.orders_length.Goals as goal

pub loop-subtune-init : goal.loop-subtune-init
loop-subtune-init c = record { are = none_added c.args.counts.now _; most = omega arith }

pub loop-subtune-preserved : goal.loop-subtune-preserved
loop-subtune-preserved c = record {
  are =
      added_next c.args.counts.now _ c.loop-subtune.lengths c.add_subtune.new.self c.as_slice-stored.result.now
      c.loop-subtune.subtune-index c.subtune-item.result c.loop-subtune-test.true c.subtune-item.is
      c.loop-subtune.invariant.are c.add_subtune.ensures.lengths;
  most = let most = c.loop-subtune.invariant.most in let more = c.add_subtune.ensures.most in omega arith;
}

pub returns-then-lengths-clause-some : goal.returns-then-lengths-clause-some
returns-then-lengths-clause-some c =
    let played = played_to c.args.song.now c.as_slice-stored.result.now c.loop-subtune.subtune-index
    c.as_slice-stored.ensures.items c.loop-subtune-test.false in (
      sym (fit_is c.args.counts.now c.loop-subtune.lengths _ _ c.loop-subtune.invariant.are played) ∙ c.if-lengths.true,
      sum_is c.args.counts.now c.loop-subtune.lengths _ _ c.loop-subtune.invariant.are played,
      (
          let most = c.loop-subtune.invariant.most in
          let end = c.loop-subtune.auto.subtune-index-end in
          let limit = c.as_slice-stored.ensures.limit in
          let all = ap length c.as_slice-stored.ensures.items in
          omega arith),
    )

pub returns-else-lengths-clause-none : goal.returns-else-lengths-clause-none
returns-else-lengths-clause-none c =
    let played = played_to c.args.song.now c.as_slice-stored.result.now c.loop-subtune.subtune-index
    c.as_slice-stored.ensures.items c.loop-subtune-test.false in
    sym (fit_is c.args.counts.now c.loop-subtune.lengths _ _ c.loop-subtune.invariant.are played) ∙ c.if-lengths.false
