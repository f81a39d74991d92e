use Rattle.std.proofs.Common.{sym}
use Rattle.asm6502.proofs.Tables.{noted_label, noted_other}
use Rattle.asm6502.proofs.labels.Labels.note.Goals as goal
use Rattle.asm6502.proofs.labels.Labels.note.Goals.{in-Some+in_ok-name, in_default}

pub returns : goal.returns
returns c before has =
    elim c.match-label_named.branch [
      | in-Some+in_ok-name w ↦ noted_label c.args.self.now w.name.new.self c.match-label_named.self c.args.set.0
          before c.args.line.now w.in-Some.label c.size.result has (sym c.if-not-is_kept.ensures)
          (sym w.in-Some.ensures) w.in_ok-name.ensures.noted.0 w.in_ok-name.ensures.noted.1 w.in_ok-name.ensures.size
          w.self-is c.size.ensures
      | in_default w ↦ noted_other c.args.self.now c.match-label_named.self c.args.set.0 before c.args.line.now
          c.size.result has (sym c.if-not-is_kept.ensures) (sym w.in_default.ensures) w.self-is c.size.ensures
    ]
