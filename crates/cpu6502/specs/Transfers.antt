-- From one register to another: N and Z are set, but not by TXS. Source: the MOS 6502 programming manual.
use Rattle.std.specs.Prelude.{Option, Some, None}
use Rattle.cpu6502.specs.declared.mnemonic.Mnemonic.{Mnemonic}
use Rattle.cpu6502.specs.declared.mnemonic.Mnemonic.TheVariants.{Tax, Tay, Tsx, Txa, Txs, Tya}
use Rattle.cpu6502.specs.declared.cpu.Cpu.{Cpu}
use Rattle.cpu6502.specs.declared.effect.Effect.{Effect}
use Rattle.cpu6502.specs.Registers.{with_a, with_x, with_y, quiet}

-- what the six transfers do; none for any other name
abbrev pub transfer_effect : Mnemonic → Cpu → Option Effect
transfer_effect Tax cpu = Some (quiet (with_x cpu cpu.a))
transfer_effect Tay cpu = Some (quiet (with_y cpu cpu.a))
transfer_effect Tsx cpu = Some (quiet (with_x cpu cpu.sp))
transfer_effect Txa cpu = Some (quiet (with_a cpu cpu.x))
transfer_effect Tya cpu = Some (quiet (with_a cpu cpu.y))
transfer_effect Txs cpu = Some (quiet (record cpu { sp = cpu.x }))
transfer_effect _ cpu = None
