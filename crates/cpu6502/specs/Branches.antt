-- Branches, each on one flag. Source: the MOS 6502 programming manual.
use Rattle.std.specs.Prelude.{ℕ, Bool, not, Option, Some, None, if◌then◌else◌}
use Rattle.std.specs.Option.{option_map}
use Rattle.cpu6502.specs.declared.mnemonic.Mnemonic.{Mnemonic}
use Rattle.cpu6502.specs.declared.mnemonic.Mnemonic.TheVariants.{Bcc, Bcs, Beq, Bmi, Bne, Bpl, Bvc, Bvs}
use Rattle.cpu6502.specs.declared.cpu.Cpu.{Cpu}
use Rattle.cpu6502.specs.declared.effect.Effect.{Effect}
use Rattle.cpu6502.specs.Registers.{quiet}

-- the registers with the program counter at the place where the branch is taken; else it stays at the next
-- instruction
abbrev pub branched : Cpu → Bool → ℕ → Cpu
branched cpu taken place = if taken then record cpu { pc = place } else cpu

-- whether a branch is taken: where its flag is clear or set, as its name says; none for any other name
abbrev pub is_taken : Mnemonic → Cpu → Option Bool
is_taken Bcc cpu = Some (not cpu.c)
is_taken Bcs cpu = Some cpu.c
is_taken Bne cpu = Some (not cpu.z)
is_taken Beq cpu = Some cpu.z
is_taken Bpl cpu = Some (not cpu.n)
is_taken Bmi cpu = Some cpu.n
is_taken Bvc cpu = Some (not cpu.v)
is_taken Bvs cpu = Some cpu.v
is_taken _ cpu = None

-- what a branch to a place does: it writes nothing; none for any other name
abbrev pub branch_effect : Mnemonic → ℕ → Cpu → Option Effect
branch_effect mnemonic place cpu = option_map (λ taken. quiet (branched cpu taken place)) (is_taken mnemonic cpu)
