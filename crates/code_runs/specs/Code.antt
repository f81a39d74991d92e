-- Instructions that stand in memory, as they are decoded and not as bytes. Source: the MOS 6502 programming manual,
-- whose modes say what an operand is.
use Rattle.std.specs.Prelude.{◌≡◌, ℕ, ◌+◌, ◌%◌, ◌<◌, ◌≤◌, List, [], ◌∷◌, Some}
use Rattle.cpu6502.specs.declared.cpu.Cpu.{Cpu}
use Rattle.cpu6502.specs.declared.memory.TheConstants.{MEMORY_SIZE}
use Rattle.cpu6502.specs.declared.mnemonic.Mnemonic.{Mnemonic}
use Rattle.cpu6502.specs.declared.mnemonic.Mode.{Mode}
use Rattle.cpu6502.specs.declared.mnemonic.Mode.TheVariants.{Implied, Accumulator, Immediate, ZeroPage, ZeroPageX}
use Rattle.cpu6502.specs.declared.mnemonic.Mode.TheVariants.{ZeroPageY, Absolute, AbsoluteX, AbsoluteY, IndirectX}
use Rattle.cpu6502.specs.declared.mnemonic.Mode.TheVariants.{IndirectY, Indirect, Relative}
use Rattle.cpu6502.specs.Opcodes.{meaning_of, length_of}
use Rattle.cpu6502.specs.Effects.{word_at, zero_page_word, same_page_word, displacement}

-- an instruction with its operand: the byte of Immediate and of the zero page, the address of the absolute modes, the
-- place that a branch goes to, and 0 where there is none
pub record Instruction : Type 0 where
  pub mnemonic : Mnemonic
  pub mode : Mode
  pub operand : ℕ

-- the operand of the instruction at pc
abbrev pub operand_at : Mode → (ℕ → ℕ) → ℕ → ℕ
operand_at Implied at pc = 0
operand_at Accumulator at pc = 0
operand_at Immediate at pc = at ((pc + 1) % MEMORY_SIZE)
operand_at ZeroPage at pc = at ((pc + 1) % MEMORY_SIZE)
operand_at ZeroPageX at pc = at ((pc + 1) % MEMORY_SIZE)
operand_at ZeroPageY at pc = at ((pc + 1) % MEMORY_SIZE)
operand_at Absolute at pc = word_at at ((pc + 1) % MEMORY_SIZE)
operand_at AbsoluteX at pc = word_at at ((pc + 1) % MEMORY_SIZE)
operand_at AbsoluteY at pc = word_at at ((pc + 1) % MEMORY_SIZE)
operand_at IndirectX at pc = at ((pc + 1) % MEMORY_SIZE)
operand_at IndirectY at pc = at ((pc + 1) % MEMORY_SIZE)
operand_at Indirect at pc = word_at at ((pc + 1) % MEMORY_SIZE)
operand_at Relative at pc = (pc + 2 + displacement (at ((pc + 1) % MEMORY_SIZE))) % MEMORY_SIZE

-- the place at which an instruction with this operand works: that of its byte, or the one that it jumps to; 0 where
-- there is none
abbrev pub place_of : Mode → ℕ → (ℕ → ℕ) → Cpu → ℕ
place_of Implied operand at cpu = 0
place_of Accumulator operand at cpu = 0
place_of Immediate operand at cpu = (cpu.pc + 1) % MEMORY_SIZE
place_of ZeroPage operand at cpu = operand
place_of ZeroPageX operand at cpu = (operand + cpu.x) % 256
place_of ZeroPageY operand at cpu = (operand + cpu.y) % 256
place_of Absolute operand at cpu = operand
place_of AbsoluteX operand at cpu = (operand + cpu.x) % MEMORY_SIZE
place_of AbsoluteY operand at cpu = (operand + cpu.y) % MEMORY_SIZE
place_of IndirectX operand at cpu = zero_page_word at ((operand + cpu.x) % 256)
place_of IndirectY operand at cpu = (zero_page_word at operand + cpu.y) % MEMORY_SIZE
place_of Indirect operand at cpu = same_page_word at operand
place_of Relative operand at cpu = operand

-- an instruction stands at pc
pub record Stands (at : ℕ → ℕ) (pc : ℕ) (mnemonic : Mnemonic) (mode : Mode) (operand : ℕ) : Type 0 where
  pub decoded : meaning_of (at pc) ≡ Some (mnemonic, mode)
  pub operand_is : operand_at mode at pc ≡ operand

-- these instructions stand from pc on, each where the one before it ends; places are not taken mod 65,536, so this is
-- for code that ends below the end of memory
abbrev pub CodeAt : (ℕ → ℕ) → ℕ → List Instruction → Type 0
CodeAt at pc [] = Unit {0}
CodeAt at pc (i ∷ rest) = Stands at pc i.mnemonic i.mode i.operand × CodeAt at (pc + length_of i.mode) rest

-- the bytes that these instructions take
abbrev pub size_of : List Instruction → ℕ
size_of [] = 0
size_of (i ∷ rest) = length_of i.mode + size_of rest

-- two memories have the same bytes from a place up to another
pub record SameFrom (low high : ℕ) (at at' : ℕ → ℕ) : Type 0 where
  pub same : (q : ℕ) → low ≤ q → q < high → at' q ≡ at q
