-- What a sum and a difference with the carry are, as numbers: their byte and their flags, from 0 to 255 and from -128
-- to 127. Source: the MOS 6502 programming manual, ADC and SBC.
use Rattle.std.specs.Prelude.{◌≡◌, ℕ, ◌+◌, ◌-◌, ◌%◌, ◌<◌, ◌≤◌, true, false, not, ◌↔◌, Some}
use Rattle.cpu6502.specs.declared.mnemonic.Mnemonic.TheVariants.{Adc, Sbc}
use Rattle.cpu6502.specs.declared.cpu.Cpu.{Cpu}
use Rattle.cpu6502.specs.Registers.{one_if, quiet}
use Rattle.cpu6502.specs.Arithmetic.{arithmetic_effect}

-- a byte as a signed number, and 128 more: 0 for -128, 128 for 0, 255 for 127
abbrev pub raised : ℕ → ℕ
raised byte = (byte + 128) % 256

-- N and Z are those of the byte in A
pub record ShowsA (after : Cpu) : Type 0 where
  pub sign : (after.n ≡ true) ↔ (128 ≤ after.a)
  pub zero : (after.z ≡ true) ↔ (after.a ≡ 0)

-- A, N, Z, C and V are all that a sum and a difference change
pub record ChangesSumAlone (before after : Cpu) : Type 0 where
  pub rest : after ≡ record before { a = after.a; n = after.n; v = after.v; z = after.z; c = after.c }

-- the registers after A + M + C: the sum's byte in A, C where the sum is 256 or more, V clear where the sum of the
-- signed numbers is from -128 to 127
pub record IsSum (before : Cpu) (m : ℕ) (after : Cpu) : Type 0 where
  pub byte : after.a ≡ (before.a + m + one_if before.c) % 256
  pub carry : (after.c ≡ true) ↔ (256 ≤ before.a + m + one_if before.c)
  pub fits : (after.v ≡ false) ↔ ((128 ≤ raised before.a + raised m + one_if before.c)
      × (raised before.a + raised m + one_if before.c ≤ 383))
  pub shows : ShowsA after
  pub alone : ChangesSumAlone before after

-- the registers after A - M - (1 - C): the difference's byte in A, C where nothing was borrowed, V clear where the
-- difference of the signed numbers is from -128 to 127
pub record IsDifference (before : Cpu) (m : ℕ) (after : Cpu) : Type 0 where
  pub byte : after.a ≡ (before.a + 256 - (m + one_if (not before.c))) % 256
  pub carry : (after.c ≡ true) ↔ (m + one_if (not before.c) ≤ before.a)
  pub fits : (after.v ≡ false) ↔ ((raised m + one_if (not before.c) ≤ raised before.a + 128)
      × (raised before.a ≤ raised m + one_if (not before.c) + 127))
  pub shows : ShowsA after
  pub alone : ChangesSumAlone before after

-- ADC's effect is the sum of A, the byte and the carry
abbrev pub SumsAreOfNumbers : Type 0
SumsAreOfNumbers =
    (place : ℕ) (at : ℕ → ℕ) (before : Cpu) → before.a < 256 → at place < 256 → (after : Cpu)
    × (arithmetic_effect Adc place at before ≡ Some (quiet after)) × IsSum before (at place) after

-- SBC's effect is the difference of A and the byte, with what the carry's absence borrows
abbrev pub DifferencesAreOfNumbers : Type 0
DifferencesAreOfNumbers =
    (place : ℕ) (at : ℕ → ℕ) (before : Cpu) → before.a < 256 → at place < 256 → (after : Cpu)
    × (arithmetic_effect Sbc place at before ≡ Some (quiet after)) × IsDifference before (at place) after
