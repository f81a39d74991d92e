use Rattle.std.proofs.Common.{◌∙◌, sym}
use Rattle.table_pack.proofs.ClosedRows.{jump_not_reached, jump_no_jump, jump_none, jump_taken}
use Rattle.table_pack.proofs.closed.look_at_jump.Goals as goal
use Rattle.table_pack.proofs.closed.look_at_jump.Goals.{then-not-marks-p-via-then-not-marks-p}
use Rattle.table_pack.proofs.closed.look_at_jump.Goals.{then-not-marks-p-via-else-not-marks-p+then-not-is_jump_row}
use Rattle.table_pack.proofs.closed.look_at_jump.Goals.{then-not-marks-p-via-else-not-marks-p+else-not-is_jump_row+then-row-eq0}

pub returns-then-not-marks-p : goal.returns-then-not-marks-p
returns-then-not-marks-p c = λ table are reached row. elim c.then-not-marks-p.branch [
  | then-not-marks-p-via-then-not-marks-p w ↦
      jump_not_reached table c.args.p c.args.row c.args.closed.now (reached ∙ w.if-not-marks-p.true)
  | then-not-marks-p-via-else-not-marks-p+then-not-is_jump_row w ↦
      jump_no_jump table c.args.p c.args.row c.args.closed.now (sym w.is_jump_row.ensures ∙ w.if-not-is_jump_row.true)
  | then-not-marks-p-via-else-not-marks-p+else-not-is_jump_row+then-row-eq0 w ↦
      jump_none table c.args.p c.args.row c.args.closed.now are.whole w.if-row-eq0.true
]

pub returns : goal.returns
returns c = λ table are reached row.
    jump_taken table c.args.p c.args.row c.args.closed.now c.jump.new.closed c.from.result are.whole
    (reached ∙ c.if-not-marks-p.false) row (sym c.is_jump_row.ensures ∙ c.if-not-is_jump_row.false) c.if-row-eq0.false
    c.from.ensures (λ there some. c.jump.ensures table are (reached ∙ c.if-not-marks-p.false) there some)
