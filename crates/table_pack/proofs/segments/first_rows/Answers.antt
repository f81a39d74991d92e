use Rattle.std.proofs.Common.{ℕ, refl, arith}
use Rattle.std.proofs.lemmas.List.{length-replicate}
use Rattle.table_pack.proofs.FirstRows.{walked_none, walked_read, walked_all}
use Rattle.table_pack.proofs.segments.first_rows.Goals as goal

pub loop-index-init : goal.loop-index-init
loop-index-init c = λ table is. walked_none table _ is.whole (length-replicate {A = ℕ} 256 0) refl

pub loop-index-preserved : goal.loop-index-preserved
loop-index-preserved c = λ table is.
    walked_read table c.args.rows.now c.args.marks.now c.args.pulse c.loop-index.index c.loop-index.firsts
    c.loop-index.first c.first_from-first.result c.loop-index.goes_on c.goes_on_behind-goes_on.result c.row_at.result is
    (c.loop-index.invariant table is) (omega (arith, c.loop-index-test.true)) c.first_from-first.ensures
    c.goes_on_behind-goes_on.ensures c.row_at.ensures

pub returns : goal.returns
returns c = λ table is.
    walked_all table c.args.rows.now c.args.marks.now c.args.pulse c.loop-index.index c.loop-index.firsts
    c.loop-index.first c.loop-index.goes_on is c.loop-index-test.false (c.loop-index.invariant table is)
