-- The clock cycles of an instruction in a mode, as the MOS 6502 programming manual's tables have them: the rule by which
-- the column of the decode table is checked.
use Rattle.std.specs.Prelude.{◌≡◌, ◌≢◌, ℕ, ◌<◌, ◌≤◌, Some, Ok, ◌↔◌}
use Rattle.cpu6502.specs.declared.cpu.Cpu.{Cpu}
use Rattle.cpu6502.specs.declared.effect.Effect.{Effect}
use Rattle.cpu6502.specs.declared.mnemonic.Mnemonic.{Mnemonic}
use Rattle.cpu6502.specs.declared.mnemonic.Mnemonic.TheVariants.{Asl, Brk, Dec, Inc, Jmp, Jsr, Lsr, Pha, Php, Pla, Plp}
use Rattle.cpu6502.specs.declared.mnemonic.Mnemonic.TheVariants.{Rol, Ror, Rti, Rts, Sta, Stx, Sty}
use Rattle.cpu6502.specs.declared.mnemonic.Mode.{Mode}
use Rattle.cpu6502.specs.declared.mnemonic.Mode.TheVariants.{Implied, Accumulator, Immediate, ZeroPage, ZeroPageX}
use Rattle.cpu6502.specs.declared.mnemonic.Mode.TheVariants.{ZeroPageY, Absolute, AbsoluteX, AbsoluteY, IndirectX}
use Rattle.cpu6502.specs.declared.mnemonic.Mode.TheVariants.{IndirectY, Indirect, Relative}
use Rattle.cpu6502.specs.declared.table.Row.{Row}
use Rattle.cpu6502.specs.Opcodes.{row_of}
use Rattle.cpu6502.specs.Effects.{effect}
use Rattle.cpu6502.specs.Cycles.{cycles}

-- what neither stores nor changes a byte: what reads one, works on registers and flags, or branches; of the jumps, the
-- one by a pointer
abbrev pub read_cycles : Mode → ℕ
read_cycles Implied = 2
read_cycles Accumulator = 2
read_cycles Immediate = 2
read_cycles ZeroPage = 3
read_cycles ZeroPageX = 4
read_cycles ZeroPageY = 4
read_cycles Absolute = 4
read_cycles AbsoluteX = 4
read_cycles AbsoluteY = 4
read_cycles IndirectX = 6
read_cycles IndirectY = 5
read_cycles Indirect = 5
read_cycles Relative = 2

-- what stores one
abbrev pub store_cycles : Mode → ℕ
store_cycles AbsoluteX = 5
store_cycles AbsoluteY = 5
store_cycles IndirectY = 6
store_cycles mode = read_cycles mode

-- what changes one, or the accumulator
abbrev pub change_cycles : Mode → ℕ
change_cycles ZeroPage = 5
change_cycles ZeroPageX = 6
change_cycles Absolute = 6
change_cycles AbsoluteX = 7
change_cycles mode = read_cycles mode

abbrev pub jump_cycles : Mode → ℕ
jump_cycles Absolute = 3
jump_cycles mode = read_cycles mode

-- by the name
abbrev pub cycles_of : Mnemonic → Mode → ℕ
cycles_of Sta mode = store_cycles mode
cycles_of Stx mode = store_cycles mode
cycles_of Sty mode = store_cycles mode
cycles_of Asl mode = change_cycles mode
cycles_of Lsr mode = change_cycles mode
cycles_of Rol mode = change_cycles mode
cycles_of Ror mode = change_cycles mode
cycles_of Inc mode = change_cycles mode
cycles_of Dec mode = change_cycles mode
cycles_of Jmp mode = jump_cycles mode
cycles_of Jsr mode = 6
cycles_of Rts mode = 6
cycles_of Rti mode = 6
cycles_of Brk mode = 7
cycles_of Pha mode = 3
cycles_of Php mode = 3
cycles_of Pla mode = 4
cycles_of Plp mode = 4
cycles_of mnemonic mode = read_cycles mode

-- each row of the table has these
abbrev pub RowsHaveTheseCycles : Type 0
RowsHaveTheseCycles = (opcode : ℕ) (row : Row) → row_of opcode ≡ Some row → row.cycles ≡ cycles_of row.mnemonic row.mode

-- the instruction at the program counter does something
abbrev pub HasEffect : (ℕ → ℕ) → Cpu → Type 0
HasEffect at cpu = (done : Effect) × (effect at cpu ≡ Ok done)

-- it takes no cycles exactly where it does nothing
abbrev pub EffectsTakeCycles : Type 0
EffectsTakeCycles = (at : ℕ → ℕ) (cpu : Cpu) → at cpu.pc < 256 → (cycles at cpu ≢ 0) ↔ HasEffect at cpu

-- and else 2 to 7
abbrev pub CyclesAreInRange : Type 0
CyclesAreInRange =
    (at : ℕ → ℕ) (cpu : Cpu) → at cpu.pc < 256 → cycles at cpu ≢ 0 → (2 ≤ cycles at cpu) × (cycles at cpu ≤ 7)
