use Rattle.std.proofs.Common.{◌+◌, length, ap, sym, ◌∙◌}
use Rattle.asm6502.specs.Places.{address_by}
use Rattle.asm6502.proofs.Writing.{code_bytes, code_encodes}
use Rattle.asm6502.proofs.output.Output.put_code.Goals as goal

pub returns-clause-bytes : goal.returns-clause-bytes
returns-clause-bytes c =
    code_bytes (address_by c.args.labels.now c.args.origin) c.args.origin (length c.as_slice.result.now)
    c.args.mnemonic c.args.mode c.args.operand c.in-Some.number c.in-Some-encode.encoded c.as_slice-2.result.now
    c.args.self.now.bytes c.extend.new.self (ap length c.as_slice.ensures) c.in-Some.ensures.0
    c.in-Some-encode.ensures c.as_slice-2.ensures.bytes c.in_ok-extend.ensures.ok

pub unreachable-requires : goal.unreachable-requires
unreachable-requires c =
    code_encodes (address_by c.args.labels.now c.args.origin) (c.args.origin + length c.as_slice.result.now)
    c.args.mnemonic c.args.mode c.args.operand c.in-Some.number c.requires.sound c.in-Some.ensures.0
    (sym c.encode.ensures ∙ c.in_default-encode.is)
