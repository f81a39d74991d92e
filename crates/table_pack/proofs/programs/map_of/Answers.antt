use Rattle.std.proofs.Common.{ℕ, Bool, List, length, ap, arith, replicate, false}
use Rattle.std.proofs.lemmas.List.{length-replicate}
use Rattle.base.proofs.Laws.{get_or-replicate_any}
use Rattle.song_model.specs.declared.tables.TableRow.{TableRow}
use Rattle.table_pack.proofs.Mapped.{map_none, map_read, map_all}
use Rattle.table_pack.proofs.programs.map_of.Goals as goal

pub loop-index-init : goal.loop-index-init
loop-index-init c = λ table are equal.
    map_none table (replicate 256 false) (replicate 256 0) are.firsts_are.whole (length-replicate {A = Bool} 256 false)
    (length-replicate {A = ℕ} 256 0) (λ q. get_or-replicate_any 256 q false)
    (λ q. get_or-replicate_any 256 q 0)

pub loop-index-preserved : goal.loop-index-preserved
loop-index-preserved c = λ table are equal.
    map_read table c.args.rows.now c.args.marks.now c.args.firsts.now c.args.equals.now c.loop-index.index
    c.loop-index.keep c.loop-index.to c.from.result c.is_kept.result c.stand_in.result are equal
    (c.loop-index.invariant table are equal) (omega (arith, c.loop-index-test.true)) c.from.ensures c.is_kept.ensures
    c.stand_in.ensures

pub returns : goal.returns
returns c = λ table are equal.
    let count = ap (λ (r : List TableRow). length r) are.rows_are in
    let high = c.loop-index-test.false in
    map_all table c.loop-index.index c.loop-index.keep c.loop-index.to are.firsts_are.whole (omega arith)
    (c.loop-index.invariant table are equal)
