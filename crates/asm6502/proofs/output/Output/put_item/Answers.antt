use Rattle.std.proofs.Common.{◌≡◌, ◌+◌, ◌++◌, length, OnOk, subst, sym}
use Rattle.asm6502.specs.declared.lines.Item.{Item}
use Rattle.asm6502.specs.Assembly.{item_bytes}
use Rattle.asm6502.specs.Places.{address_by}
use Rattle.asm6502.proofs.output.Output.put_item.Goals as goal

pub returns-in-Code-clause-bytes : goal.returns-in-Code-clause-bytes
returns-in-Code-clause-bytes c =
    subst (λ (item : Item). OnOk c.put_code.result
    (c.put_code.new.self.bytes ≡ c.args.self.now.bytes ++ item_bytes (address_by c.args.labels.now c.args.origin)
    (c.args.origin + length c.args.self.now.bytes) item))
    (sym c.in-Code.is) c.put_code.ensures.bytes
