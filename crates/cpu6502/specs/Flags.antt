-- Flags that are cleared or set, and no operation. Source: the MOS 6502 programming manual.
use Rattle.std.specs.Prelude.{true, false, Option, Some, None}
use Rattle.cpu6502.specs.declared.mnemonic.Mnemonic.{Mnemonic}
use Rattle.cpu6502.specs.declared.mnemonic.Mnemonic.TheVariants.{Clc, Cld, Cli, Clv, Sec, Sed, Sei, Nop}
use Rattle.cpu6502.specs.declared.cpu.Cpu.{Cpu}
use Rattle.cpu6502.specs.declared.effect.Effect.{Effect}
use Rattle.cpu6502.specs.Registers.{quiet}

-- what the instructions do that clear or set one flag, and NOP, which does nothing; none for any other name
abbrev pub flag_effect : Mnemonic → Cpu → Option Effect
flag_effect Clc cpu = Some (quiet (record cpu { c = false }))
flag_effect Cld cpu = Some (quiet (record cpu { d = false }))
flag_effect Cli cpu = Some (quiet (record cpu { i = false }))
flag_effect Clv cpu = Some (quiet (record cpu { v = false }))
flag_effect Sec cpu = Some (quiet (record cpu { c = true }))
flag_effect Sed cpu = Some (quiet (record cpu { d = true }))
flag_effect Sei cpu = Some (quiet (record cpu { i = true }))
flag_effect Nop cpu = Some (quiet cpu)
flag_effect _ cpu = None
