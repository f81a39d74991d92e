use Rattle.std.proofs.Common.{sym, false, length}
use Rattle.asm6502.specs.Places.{address_by}
use Rattle.asm6502.proofs.Writing.{written_kept, near_kept}
use Rattle.asm6502.proofs.output.Output.put.Goals as goal

pub returns : goal.returns
returns c before number w = (
  written_kept c.args.self.now c.put_item.new.self c.args.labels.now c.args.set.0 c.args.origin before c.args.line.now
      (sym c.if-not-is_kept.ensures) (c.requires.sound (sym c.if-not-is_kept.ensures)) w
      c.in_ok-put_item.ensures.bytes c.in_ok-put_item.ensures.fixes,
  near_kept (address_by c.args.labels.now c.args.origin) c.args.set.0 c.args.origin before c.args.line.now
      (length c.args.self.now.bytes) false (sym c.if-not-is_kept.ensures) w.size c.in_ok-put_item.ensures.near,
)
