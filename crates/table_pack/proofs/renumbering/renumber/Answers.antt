use Rattle.std.proofs.Common.{◌∙◌, ℕ, List, length, replicate, ap, arith}
use Rattle.std.proofs.lemmas.List.{length-replicate, length-append}
use Rattle.base.proofs.Laws.{get_or-replicate_any}
use Rattle.song_model.specs.declared.tables.TableRow.{TableRow}
use Rattle.table_pack.specs.Marks.{is_marked}
use Rattle.table_pack.proofs.Ranks.{rank_most}
use Rattle.table_pack.proofs.Renumbered.{gathered_none, gathered_left, gathered_read, gathered_all}
use Rattle.table_pack.proofs.renumbering.renumber.Goals as goal
use Rattle.table_pack.proofs.renumbering.renumber.Goals.{then-marks-index+in_ok-push, else-marks-index}

pub loop-index-init : goal.loop-index-init
loop-index-init c = rw c.new-rows.ensures.items
    (gathered_none (is_marked c.args.marks.now) c.args.table.now (replicate 256 0) c.requires (length-replicate {A = ℕ} 256 0)
    (λ p. get_or-replicate_any 256 p 0))

pub overflow_cast-to : goal.overflow_cast-to
overflow_cast-to c =
    let most = rank_most (is_marked c.args.marks.now) c.loop-index.index in
    let count = c.loop-index.invariant.count in
    let small = c.loop-index-test.true in
    let limit = c.as_slice-row-items.ensures.limit in
    let all = ap (λ (r : List TableRow). length r) c.as_slice-row-items.ensures.items in
    let now = ap (λ (r : List TableRow). length r) (c.as_slice.ensures.value ∙ c.in_ok-push.ensures.items) in
    omega (arith, simp length-append at now)

pub loop-index-preserved : goal.loop-index-preserved
loop-index-preserved c =
    let small = c.loop-index-test.true in
    let limit = c.as_slice-row-items.ensures.limit in
    let all = ap (λ (r : List TableRow). length r) c.as_slice-row-items.ensures.items in
    elim c.if-marks-index.branch [
      | then-marks-index+in_ok-push w ↦
          rw (w.rows-is, w.to-is, w.as_slice.ensures.value, w.in_ok-push.ensures.items)
          (gathered_read (is_marked c.args.marks.now) c.args.table.now c.as_slice-row-items.result.now c.loop-index.index
          c.loop-index.rows.items c.loop-index.to _ c.requires c.loop-index.invariant w.if-marks-index.true (omega arith)
          c.as_slice-row-items.ensures.items small)
      | else-marks-index w ↦
          rw (w.rows-is, w.to-is)
          (gathered_left (is_marked c.args.marks.now) c.args.table.now c.loop-index.index c.loop-index.rows.items
          c.loop-index.to c.loop-index.invariant w.if-marks-index.false)
    ]

pub from_vec-requires : goal.from_vec-requires
from_vec-requires c =
    let most = rank_most (is_marked c.args.marks.now) c.loop-index.index in
    let count = c.loop-index.invariant.count in
    let high = c.loop-index.auto.index-end in
    let limit = c.as_slice-row-items.ensures.limit in
    (omega arith, omega (arith, ap (λ (r : List TableRow). length r) c.as_slice-row-items.ensures.items))

pub returns : goal.returns
returns c =
    let low = c.loop-index-test.false in
    let high = c.loop-index.auto.index-end in
    let all = ap (λ (r : List TableRow). length r) c.as_slice-row-items.ensures.items in
    rw c.from_vec.ensures
    (gathered_all (is_marked c.args.marks.now) c.args.table.now c.loop-index.index c.loop-index.rows.items c.loop-index.to
    c.requires (omega arith) c.loop-index.invariant)
