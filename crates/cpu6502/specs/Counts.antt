-- Up or down by one, with N and Z. Source: the MOS 6502 programming manual.
use Rattle.std.specs.Prelude.{ℕ, ◌+◌, ◌%◌, Option, Some, None}
use Rattle.cpu6502.specs.declared.mnemonic.Mnemonic.{Mnemonic}
use Rattle.cpu6502.specs.declared.mnemonic.Mnemonic.TheVariants.{Inc, Dec, Inx, Dex, Iny, Dey}
use Rattle.cpu6502.specs.declared.cpu.Cpu.{Cpu}
use Rattle.cpu6502.specs.declared.effect.Effect.{Effect}
use Rattle.cpu6502.specs.Registers.{with_sign_and_zero, with_x, with_y, quiet, storing}

-- the effect of a count in memory: the byte is written once, and N and Z are those of the byte
abbrev pub counted : Cpu → ℕ → ℕ → Effect
counted cpu place byte = storing (with_sign_and_zero cpu byte) place byte

-- what the six counts do with the byte at a place, with X or with Y: up or down by one, mod 256; none for any other
-- name
abbrev pub count_effect : Mnemonic → ℕ → (ℕ → ℕ) → Cpu → Option Effect
count_effect Inc place at cpu = Some (counted cpu place ((at place + 1) % 256))
count_effect Dec place at cpu = Some (counted cpu place ((at place + 255) % 256))
count_effect Inx place at cpu = Some (quiet (with_x cpu ((cpu.x + 1) % 256)))
count_effect Dex place at cpu = Some (quiet (with_x cpu ((cpu.x + 255) % 256)))
count_effect Iny place at cpu = Some (quiet (with_y cpu ((cpu.y + 1) % 256)))
count_effect Dey place at cpu = Some (quiet (with_y cpu ((cpu.y + 255) % 256)))
count_effect _ place at cpu = None
