-- Comparisons of a register with memory. Source: the MOS 6502 programming manual.
use Rattle.std.specs.Prelude.{ℕ, ◌+◌, ◌-◌, ◌%◌, Option, Some, None, nat_le}
use Rattle.cpu6502.specs.declared.mnemonic.Mnemonic.{Mnemonic}
use Rattle.cpu6502.specs.declared.mnemonic.Mnemonic.TheVariants.{Cmp, Cpx, Cpy}
use Rattle.cpu6502.specs.declared.cpu.Cpu.{Cpu}
use Rattle.cpu6502.specs.declared.effect.Effect.{Effect}
use Rattle.cpu6502.specs.Registers.{with_sign_and_zero, quiet}

-- N and Z of the difference; C where the register is not below the byte
abbrev pub compared : Cpu → ℕ → ℕ → Cpu
compared cpu register byte =
    with_sign_and_zero (record cpu { c = nat_le byte register }) ((register + (256 - byte)) % 256)

-- what CMP, CPX and CPY do: they compare A, X or Y with the byte at a place, and set flags alone; none for any other
-- name
abbrev pub compare_effect : Mnemonic → ℕ → (ℕ → ℕ) → Cpu → Option Effect
compare_effect Cmp place at cpu = Some (quiet (compared cpu cpu.a (at place)))
compare_effect Cpx place at cpu = Some (quiet (compared cpu cpu.x (at place)))
compare_effect Cpy place at cpu = Some (quiet (compared cpu cpu.y (at place)))
compare_effect _ place at cpu = None
