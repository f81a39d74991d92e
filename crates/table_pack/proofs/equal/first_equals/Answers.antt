use Rattle.std.proofs.Common.{◌∙◌, ◌+◌, ℕ, replicate, arith}
use Rattle.std.proofs.lemmas.List.{length-replicate}
use Rattle.table_pack.specs.Programs.{IsAsked}
use Rattle.table_pack.proofs.EqualRows.{equals_none, equals_more, begins_is}
use Rattle.table_pack.proofs.equal.first_equals.Goals as goal

pub loop-index-init : goal.loop-index-init
loop-index-init c = record {
  few = rw c.new-different.ensures (omega arith);
  so_far = λ table are closed. rw c.new-different.ensures
      (equals_none table (replicate 256 0) are.firsts_are.whole (length-replicate {A = ℕ} 256 0));
}

pub loop-index-preserved : goal.loop-index-preserved
loop-index-preserved c =
    let small = c.loop-index-test.true in
    let few = c.first_equal.ensures.few in
    let before = c.loop-index.invariant.few in
    record {
      few = omega arith;
      so_far = λ table are closed.
          let so_far = c.loop-index.invariant.so_far table are closed in
          let asked : IsAsked table c.args.rows.now c.args.marks.now c.args.firsts.now c.is_in-begun.result _
          (c.loop-index.index + 1) c.loop-index.different.items =
          record {
            segments = are;
            begun_is = c.is_in-begun.ensures table are
                ∙ begins_is table (c.loop-index.index + 1) are.firsts_are.whole;
            closed_is = closed (c.loop-index.index + 1) (omega arith);
            different = so_far.different;
          } in
          equals_more table c.loop-index.index c.loop-index.equals c.loop-index.different.items
          c.first_equal.new.different.items c.first_equal.result so_far (omega arith)
          (c.first_equal.ensures.equal table asked) (c.first_equal.ensures.different table asked);
    }

pub returns : goal.returns
returns c = λ table s are closed low begun.
    let all = c.loop-index-test.false in
    (c.loop-index.invariant.so_far table are closed).equal s (omega arith) begun
