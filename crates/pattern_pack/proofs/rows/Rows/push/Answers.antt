use Rattle.std.proofs.Common.{◌+◌, ap, ◌∙◌, arith}
use Rattle.pattern_pack.specs.declared.rows.Rows.{Rows}
use Rattle.pattern_pack.proofs.Kept.{kept_more, kept_full, length_more}
use Rattle.pattern_pack.proofs.rows.Rows.push.Goals as goal
use Rattle.pattern_pack.proofs.rows.Rows.push.Goals.{then-self+in_ok-push, else-self}

pub returns-clause-ok : goal.returns-clause-ok
returns-clause-ok c = λ all is. let counted = is.count in elim c.if-self.branch [
  | then-self+in_ok-push w ↦ let few = w.if-self.true in record {
    kept = ap (λ (r : Rows). r.kept.items) w.self-is ∙ w.in_ok-push.ensures.items
        ∙ kept_more all c.args.self.now.kept.items c.args.row is.kept (omega arith);
    count = ap (λ (r : Rows). r.count + 1) w.self-is ∙ length_more all c.args.row c.args.self.now.count is.count;
  }
  | else-self w ↦ let many = w.if-self.false in record {
    kept = ap (λ (r : Rows). r.kept.items) w.self-is
        ∙ kept_full all c.args.self.now.kept.items c.args.row is.kept (omega arith);
    count = ap (λ (r : Rows). r.count + 1) w.self-is ∙ length_more all c.args.row c.args.self.now.count is.count;
  }
]
