-- Bit by bit: AND, ORA, EOR and BIT. Source: the MOS 6502 programming manual.
use Rattle.std.specs.Prelude.{ℕ, ◌/◌, ◌%◌, Option, Some, None, nat_eq, nat_le, bit_and, bit_or, bit_xor}
use Rattle.cpu6502.specs.declared.mnemonic.Mnemonic.{Mnemonic}
use Rattle.cpu6502.specs.declared.mnemonic.Mnemonic.TheVariants.{And, Ora, Eor, Bit}
use Rattle.cpu6502.specs.declared.cpu.Cpu.{Cpu}
use Rattle.cpu6502.specs.declared.effect.Effect.{Effect}
use Rattle.cpu6502.specs.Registers.{with_a, quiet}

-- N and V are bits 7 and 6 of the byte, Z says that it has no bit in common with A
abbrev pub tested : Cpu → ℕ → Cpu
tested cpu byte =
    record cpu { n = nat_le 128 byte; v = nat_eq (byte / 64 % 2) 1; z = nat_eq (bit_and cpu.a byte) 0 }

-- what these four do with A and the byte at a place: three leave the result in A, BIT sets flags alone; none for any
-- other name
abbrev pub logic_effect : Mnemonic → ℕ → (ℕ → ℕ) → Cpu → Option Effect
logic_effect And place at cpu = Some (quiet (with_a cpu (bit_and cpu.a (at place))))
logic_effect Ora place at cpu = Some (quiet (with_a cpu (bit_or cpu.a (at place))))
logic_effect Eor place at cpu = Some (quiet (with_a cpu (bit_xor cpu.a (at place))))
logic_effect Bit place at cpu = Some (quiet (tested cpu (at place)))
logic_effect _ place at cpu = None
