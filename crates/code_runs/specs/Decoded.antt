-- What decoded instructions do, and when they still stand. Source: the MOS 6502 programming manual.
use Rattle.std.specs.Prelude.{◌≡◌, ◌≢◌, ℕ, ◌+◌, ◌*◌, ◌%◌, ◌≤◌, List, Some, if◌then◌else◌}
use Rattle.cpu6502.specs.declared.cpu.Cpu.{Cpu}
use Rattle.cpu6502.specs.declared.memory.TheConstants.{MEMORY_SIZE}
use Rattle.cpu6502.specs.declared.mnemonic.Mnemonic.{Mnemonic}
use Rattle.cpu6502.specs.declared.mnemonic.Mode.{Mode}
use Rattle.cpu6502.specs.declared.mnemonic.Mode.TheVariants.{Relative}
use Rattle.cpu6502.specs.Opcodes.{meaning_of, length_of, is_accumulator}
use Rattle.cpu6502.specs.Shifts.{accumulator_effect}
use Rattle.cpu6502.specs.Effects.{displacement, effect, effect_of, moved}
use Rattle.code_runs.specs.Code.{Instruction, place_of, Stands, CodeAt, SameFrom, size_of}

-- an instruction that stands at the program counter has the effect of its name, at the place that its mode and its
-- operand give
abbrev pub StandingHasEffect : Type 0
StandingHasEffect =
    (at : ℕ → ℕ) (cpu : Cpu) (mnemonic : Mnemonic) (mode : Mode) (operand : ℕ) →
    Stands at cpu.pc mnemonic mode operand →
    effect at cpu
    ≡ (if is_accumulator mode
    then accumulator_effect mnemonic cpu.pc (moved cpu (length_of mode))
    else effect_of mnemonic cpu.pc (place_of mode operand at cpu) at (moved cpu (length_of mode)))

-- an instruction without operand stands where its opcode does
abbrev pub StandAlone : Type 0
StandAlone =
    (at : ℕ → ℕ) (pc opcode : ℕ) (mnemonic : Mnemonic) (mode : Mode) → length_of mode ≡ 1 →
    at pc ≡ opcode → meaning_of opcode ≡ Some (mnemonic, mode) → Stands at pc mnemonic mode 0

-- one of two bytes that is no branch, where its opcode does and the operand's byte after it
abbrev pub StandByByte : Type 0
StandByByte =
    (at : ℕ → ℕ) (pc opcode p1 byte : ℕ) (mnemonic : Mnemonic) (mode : Mode) → length_of mode ≡ 2 →
    mode ≢ Relative →
    at pc ≡ opcode → meaning_of opcode ≡ Some (mnemonic, mode) → (pc + 1) % MEMORY_SIZE ≡ p1 → at p1 ≡ byte →
    Stands at pc mnemonic mode byte

-- one of three bytes, where its opcode does and after it the operand's low byte and its high byte
abbrev pub StandByWord : Type 0
StandByWord =
    (at : ℕ → ℕ) (pc opcode p1 p2 low high word : ℕ) (mnemonic : Mnemonic) (mode : Mode) → length_of mode ≡ 3 →
    at pc ≡ opcode → meaning_of opcode ≡ Some (mnemonic, mode) → (pc + 1) % MEMORY_SIZE ≡ p1 →
    (p1 + 1) % MEMORY_SIZE ≡ p2 → at p1 ≡ low → at p2 ≡ high → low + 256 * high ≡ word →
    Stands at pc mnemonic mode word

-- a branch, where its opcode does and the byte after it that leads to its target
abbrev pub BranchesStand : Type 0
BranchesStand =
    (at : ℕ → ℕ) (pc opcode p1 byte target : ℕ) (mnemonic : Mnemonic) →
    at pc ≡ opcode → meaning_of opcode ≡ Some (mnemonic, Relative) → (pc + 1) % MEMORY_SIZE ≡ p1 → at p1 ≡ byte →
    (pc + 2 + displacement byte) % MEMORY_SIZE ≡ target → Stands at pc mnemonic Relative target

-- code still stands where its bytes are the same, whatever the rest of memory holds
abbrev pub CodeStays : Type 0
CodeStays =
    (at at' : ℕ → ℕ) (pc high : ℕ) (code : List Instruction) →
    pc + size_of code ≤ high → high ≤ MEMORY_SIZE → SameFrom pc high at at' → CodeAt at pc code → CodeAt at' pc code
