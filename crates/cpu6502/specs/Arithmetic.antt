-- Sums and differences with the carry: ADC and SBC. Source: the MOS 6502 programming manual.
use Rattle.std.specs.Prelude.{ℕ, ◌+◌, ◌-◌, ◌%◌, Bool, ◌&&◌, Option, Some, None, nat_le, nat_lt}
use Rattle.std.specs.Prelude.{if◌then◌else◌}
use Rattle.cpu6502.specs.declared.mnemonic.Mnemonic.{Mnemonic}
use Rattle.cpu6502.specs.declared.mnemonic.Mnemonic.TheVariants.{Adc, Sbc}
use Rattle.cpu6502.specs.declared.cpu.Cpu.{Cpu}
use Rattle.cpu6502.specs.declared.effect.Effect.{Effect}
use Rattle.cpu6502.specs.Registers.{one_if, with_a, quiet}

-- whether the signed sum of two bytes does not fit: two negative numbers have a sum byte that is not, or two others
-- one that is
abbrev pub overflows : ℕ → ℕ → ℕ → Bool
overflows a byte sum =
    if nat_le 128 a then nat_le 128 byte && nat_lt sum 128 else nat_lt byte 128 && nat_le 128 sum

-- the registers with a sum in A: N and Z of its byte, C where it passes 255, and V
abbrev pub with_sum : Cpu → ℕ → ℕ → Cpu
with_sum cpu byte sum =
    with_a (record cpu { v = overflows cpu.a byte (sum % 256); c = nat_le 256 sum }) (sum % 256)

-- the registers after A, a byte and the carry are added: the sum in A, with N, Z, C and V
abbrev pub added : Cpu → ℕ → Cpu
added cpu byte = with_sum cpu byte (cpu.a + byte + one_if cpu.c)

-- what ADC and SBC do with the byte at a place; none for any other name. A difference is the sum with the byte's
-- complement: A - M - (1 - C) is A + (255 - M) + C - 256
abbrev pub arithmetic_effect : Mnemonic → ℕ → (ℕ → ℕ) → Cpu → Option Effect
arithmetic_effect Adc place at cpu = Some (quiet (added cpu (at place)))
arithmetic_effect Sbc place at cpu = Some (quiet (added cpu (255 - at place)))
arithmetic_effect _ place at cpu = None
