-- Shifts and rotations by one bit, of a byte in memory or of the accumulator. Source: the MOS 6502 programming
-- manual.
use Rattle.std.specs.Prelude.{ℕ, ◌+◌, ◌*◌, ◌/◌, ◌%◌, Bool, Option, Some, None, Result, Ok, Err, nat_eq, nat_le}
use Rattle.cpu6502.specs.declared.mnemonic.Mnemonic.{Mnemonic}
use Rattle.cpu6502.specs.declared.mnemonic.Mnemonic.TheVariants.{Asl, Lsr, Rol, Ror}
use Rattle.cpu6502.specs.declared.cpu.Cpu.{Cpu}
use Rattle.cpu6502.specs.declared.effect.Effect.{Effect}
use Rattle.cpu6502.specs.declared.stop.Stop.{Stop}
use Rattle.cpu6502.specs.declared.stop.Stop.TheVariants.{Illegal}
use Rattle.cpu6502.specs.Registers.{one_if, with_sign_and_zero, with_a, quiet, storing}

-- a byte shifted by one, and the bit that leaves it; the rotations take in the carry
abbrev pub shifted : Mnemonic → ℕ → Bool → Option (ℕ × Bool)
shifted Asl byte carry = Some (2 * byte % 256, nat_le 128 byte)
shifted Lsr byte carry = Some (byte / 2, nat_eq (byte % 2) 1)
shifted Rol byte carry = Some ((2 * byte + one_if carry) % 256, nat_le 128 byte)
shifted Ror byte carry = Some (byte / 2 + 128 * one_if carry, nat_eq (byte % 2) 1)
shifted _ byte carry = None

-- in memory the byte is written once; C is the bit that left it
abbrev pub shifted_in_memory : Option (ℕ × Bool) → ℕ → Cpu → Option Effect
shifted_in_memory None place cpu = None
shifted_in_memory (Some after) place cpu =
    Some (storing (with_sign_and_zero (record cpu { c = after.1 }) after.0) place after.0)

-- what a shift of the byte at a place does; none for any other name
abbrev pub shift_effect : Mnemonic → ℕ → (ℕ → ℕ) → Cpu → Option Effect
shift_effect mnemonic place at cpu = shifted_in_memory (shifted mnemonic (at place) cpu.c) place cpu

-- in the accumulator the byte is not written to memory; C is the bit that left it
abbrev pub shifted_in_a : Option (ℕ × Bool) → ℕ → Cpu → Result Effect Stop
shifted_in_a None own cpu = Err (Illegal own)
shifted_in_a (Some after) own cpu = Ok (quiet (with_a (record cpu { c = after.1 }) after.0))

-- what a shift of the accumulator does; any other name stops as Illegal, and no row has one
abbrev pub accumulator_effect : Mnemonic → ℕ → Cpu → Result Effect Stop
accumulator_effect mnemonic own cpu = shifted_in_a (shifted mnemonic cpu.a cpu.c) own cpu
