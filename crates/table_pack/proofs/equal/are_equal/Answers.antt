use Rattle.std.proofs.Common.{◌∙◌, List, length, sym, ap, arith}
use Rattle.song_model.specs.declared.tables.TableRow.{TableRow}
use Rattle.table_pack.proofs.EqualRows.{one_apart, read_apart, read_there, both_ended, all_same, one_more, same_bits, other_bits}
use Rattle.table_pack.proofs.equal.are_equal.Goals as goal

pub loop-d-init : goal.loop-d-init
loop-d-init c = λ table are e low. absurd (omega arith)

pub returns-then-is_row-is_in : goal.returns-then-is_row-is_in
returns-then-is_row-is_in c = λ table are.
    let count = ap (λ (r : List TableRow). length r) are.rows_are in
    let low = c.loop-d-test.true in
    one_apart table c.args.s c.args.t c.loop-d.d (omega arith)
    (λ h. other_bits c.is_in-is_row.result c.is_in.result c.if-is_row-is_in.true
    (c.is_in-is_row.ensures table are ∙ h ∙ sym (c.is_in.ensures table are)))

pub returns-then-not-is_row : goal.returns-then-not-is_row
returns-then-not-is_row c = λ table are.
    both_ended table c.args.s c.args.t c.loop-d.d are.firsts_are.whole
    (sym (c.is_in-is_row.ensures table are) ∙ c.if-not-is_row.true)
    (sym (c.is_in.ensures table are) ∙ sym (same_bits c.is_in-is_row.result c.is_in.result c.if-is_row-is_in.false)
    ∙ c.if-not-is_row.true)
    (c.loop-d.invariant table are)

pub returns-then-not-are_alike : goal.returns-then-not-are_alike
returns-then-not-are_alike c = λ table are.
    let count = ap (λ (r : List TableRow). length r) are.rows_are in
    let low = c.loop-d-test.true in
    read_apart table c.args.rows.now c.args.s c.args.t c.loop-d.d c.row_at.result c.row_at-in-loop-d.result are.rows_are
    (omega arith) (sym (c.is_in-is_row.ensures table are) ∙ c.if-not-is_row.false) c.row_at.ensures
    c.row_at-in-loop-d.ensures (sym c.are_alike.ensures ∙ c.if-not-are_alike.true)

pub loop-d-preserved : goal.loop-d-preserved
loop-d-preserved c = λ table are.
    one_more table c.args.s c.args.t c.loop-d.d (c.loop-d.invariant table are)
    (read_there table c.args.rows.now c.args.s c.args.t c.loop-d.d c.row_at.result c.row_at-in-loop-d.result are.rows_are
    (sym (c.is_in-is_row.ensures table are) ∙ c.if-not-is_row.false)
    (sym (c.is_in.ensures table are) ∙ sym (same_bits c.is_in-is_row.result c.is_in.result c.if-is_row-is_in.false)
    ∙ c.if-not-is_row.false)
    c.row_at.ensures c.row_at-in-loop-d.ensures (sym c.are_alike.ensures ∙ c.if-not-are_alike.false))

pub returns : goal.returns
returns c = λ table are.
    let count = ap (λ (r : List TableRow). length r) are.rows_are in
    let high = c.loop-d-test.false in
    all_same table c.args.s c.args.t c.loop-d.d (omega arith) (c.loop-d.invariant table are)
