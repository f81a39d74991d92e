use Rattle.std.proofs.Common.{◌∙◌, ◌==◌, ℕ, ap}
use Rattle.table_pack.proofs.FirstRows.{in_where_marked, not_in_where_not, not_in_behind}
use Rattle.table_pack.proofs.segments.is_in.Goals as goal
use Rattle.table_pack.proofs.segments.is_in.Goals.{then-p-rows-via-then-p-rows, then-p-rows-via-else-p-rows+then-not-marks-p}

pub returns-then-p-rows : goal.returns-then-p-rows
returns-then-p-rows c = λ table are. elim c.then-p-rows.branch [
  | then-p-rows-via-then-p-rows w ↦
      not_in_behind table c.args.rows.now c.args.marks.now c.args.firsts.now c.args.s c.args.p are w.if-p-rows.true
  | then-p-rows-via-else-p-rows+then-not-marks-p w ↦
      not_in_where_not table c.args.rows.now c.args.marks.now c.args.firsts.now c.args.s c.args.p are
      w.if-not-marks-p.true
]

pub returns : goal.returns
returns c = λ table are.
    ap (λ (k : ℕ). k == c.args.s) c.from.ensures
    ∙ in_where_marked table c.args.rows.now c.args.marks.now c.args.firsts.now c.args.s c.args.p are
    c.if-not-marks-p.false
