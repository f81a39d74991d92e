-- Why a step stops: each of the three stops has exactly one cause. Source: the MOS 6502 programming manual's table of
-- opcodes; that BRK and decimal sums stop is this project's own profile.
use Rattle.std.specs.Prelude.{◌≡◌, ℕ, ◌<◌, true, ◌⊎◌, ◌↔◌, Option, Some, None, Err}
use Rattle.cpu6502.specs.declared.mnemonic.Mnemonic.TheVariants.{Adc, Sbc, Brk}
use Rattle.cpu6502.specs.declared.mnemonic.Mode.{Mode}
use Rattle.cpu6502.specs.declared.mnemonic.Mode.TheVariants.{Implied}
use Rattle.cpu6502.specs.declared.cpu.Cpu.{Cpu}
use Rattle.cpu6502.specs.declared.stop.Stop.{Stop}
use Rattle.cpu6502.specs.declared.stop.Stop.TheVariants.{Illegal, Break, Decimal}
use Rattle.cpu6502.specs.Opcodes.{Meaning, meaning_of}
use Rattle.cpu6502.specs.Effects.{effect}

-- a row of ADC or of SBC, in some mode
abbrev pub IsSumRow : Option Meaning → Type 0
IsSumRow row = ((mode : Mode) × (row ≡ Some (Adc, mode))) ⊎ ((mode : Mode) × (row ≡ Some (Sbc, mode)))

-- what each stop says of the byte at the program counter and of the registers: a byte with no row, BRK, or a sum or
-- difference with the decimal flag set; the stop names the byte's place
abbrev pub IsCause : (ℕ → ℕ) → Cpu → Stop → Type 0
IsCause at cpu (Illegal place) = (meaning_of (at cpu.pc) ≡ None) × (place ≡ cpu.pc)
IsCause at cpu (Break place) = (meaning_of (at cpu.pc) ≡ Some (Brk, Implied)) × (place ≡ cpu.pc)
IsCause at cpu (Decimal place) = IsSumRow (meaning_of (at cpu.pc)) × (cpu.d ≡ true) × (place ≡ cpu.pc)

-- an instruction has a stop in the place of an effect exactly where that stop's cause is there
abbrev pub StopsHaveCauses : Type 0
StopsHaveCauses = (at : ℕ → ℕ) (cpu : Cpu) (stop : Stop) → at cpu.pc < 256 →
    (effect at cpu ≡ Err stop) ↔ IsCause at cpu stop
