-- The rows of the table that work on the accumulator are shifts and rotations.
use Rattle.std.proofs.Common.{◌≡◌, ℕ, ◌<◌, Bool, true, Some, refl, ap, ◌∙◌}
use Rattle.std.specs.Option.{IsSome}
use Rattle.std.proofs.lemmas.Bool.{false≢true}
use Rattle.cpu6502.specs.declared.mnemonic.Mnemonic.{Mnemonic}
use Rattle.cpu6502.specs.declared.mnemonic.Mnemonic.TheVariants.{Asl, Lsr, Rol, Ror}
use Rattle.cpu6502.specs.declared.mnemonic.Mode.{Mode}
use Rattle.cpu6502.specs.declared.cpu.Cpu.{Cpu}
use Rattle.cpu6502.specs.Opcodes.{meaning_of, length_of, is_accumulator}
use Rattle.cpu6502.specs.Shifts.{shifted, accumulator_effect}
use Rattle.cpu6502.specs.Effects.{done_by, effect, moved}
use Rattle.cpu6502.proofs.EachRow.{shifts, accumulator_shifts}

is_shifted : (mn : Mnemonic) (byte : ℕ) (carry : Bool) → shifts mn ≡ true → IsSome (shifted mn byte carry)
is_shifted Asl byte carry e = refl
is_shifted Lsr byte carry e = refl
is_shifted Rol byte carry e = refl
is_shifted Ror byte carry e = refl
is_shifted _ byte carry e = absurd (false≢true e)

pub accumulator_is_shifted : (opcode byte : ℕ) (carry : Bool) (mn : Mnemonic) (mode : Mode) → opcode < 256 →
    meaning_of opcode ≡ Some (mn, mode) → is_accumulator mode ≡ true → IsSome (shifted mn byte carry)
accumulator_is_shifted opcode byte carry mn mode small row is =
    is_shifted mn byte carry (accumulator_shifts opcode mn mode small row is)

-- the effect at the program counter is that of the row
pub accumulator_is : (at : ℕ → ℕ) (cpu : Cpu) (mn : Mnemonic) (mode : Mode) →
    meaning_of (at cpu.pc) ≡ Some (mn, mode) → is_accumulator mode ≡ true →
    effect at cpu ≡ accumulator_effect mn cpu.pc (moved cpu (length_of mode))
accumulator_is at cpu mn mode e a = ap (λ meaning. done_by meaning at cpu) e ∙ rw a refl
