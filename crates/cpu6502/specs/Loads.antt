-- Loads and stores. Source: the MOS 6502 programming manual.
use Rattle.std.specs.Prelude.{ℕ, Option, Some, None}
use Rattle.cpu6502.specs.declared.mnemonic.Mnemonic.{Mnemonic}
use Rattle.cpu6502.specs.declared.mnemonic.Mnemonic.TheVariants.{Lda, Ldx, Ldy, Sta, Stx, Sty}
use Rattle.cpu6502.specs.declared.cpu.Cpu.{Cpu}
use Rattle.cpu6502.specs.declared.effect.Effect.{Effect}
use Rattle.cpu6502.specs.Registers.{with_a, with_x, with_y, quiet, storing}

-- what loads and stores do: a byte into a register, with N and Z, or a register into memory; none for any other name
abbrev pub load_effect : Mnemonic → ℕ → (ℕ → ℕ) → Cpu → Option Effect
load_effect Lda place at cpu = Some (quiet (with_a cpu (at place)))
load_effect Ldx place at cpu = Some (quiet (with_x cpu (at place)))
load_effect Ldy place at cpu = Some (quiet (with_y cpu (at place)))
load_effect Sta place at cpu = Some (storing cpu place cpu.a)
load_effect Stx place at cpu = Some (storing cpu place cpu.x)
load_effect Sty place at cpu = Some (storing cpu place cpu.y)
load_effect _ place at cpu = None
