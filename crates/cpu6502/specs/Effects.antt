-- What one instruction does, from a memory that is read by place and from the registers: the registers after it, and
-- what it writes. Source: the MOS 6502 programming manual.
use Rattle.std.specs.Prelude.{ℕ, ◌+◌, ◌*◌, ◌/◌, ◌%◌, Option, Some, None, Result, Ok, Err, nat_lt}
use Rattle.std.specs.Prelude.{if◌then◌else◌}
use Rattle.cpu6502.specs.declared.mnemonic.Mnemonic.{Mnemonic}
use Rattle.cpu6502.specs.declared.mnemonic.Mnemonic.TheVariants.{Adc, Sbc, Brk}
use Rattle.cpu6502.specs.declared.mnemonic.Mode.{Mode}
use Rattle.cpu6502.specs.declared.mnemonic.Mode.TheVariants.{Implied, Accumulator, Immediate, ZeroPage, ZeroPageX}
use Rattle.cpu6502.specs.declared.mnemonic.Mode.TheVariants.{ZeroPageY, Absolute, AbsoluteX, AbsoluteY, IndirectX}
use Rattle.cpu6502.specs.declared.mnemonic.Mode.TheVariants.{IndirectY, Indirect, Relative}
use Rattle.cpu6502.specs.declared.cpu.Cpu.{Cpu}
use Rattle.cpu6502.specs.declared.effect.Effect.{Effect}
use Rattle.cpu6502.specs.declared.stop.Stop.{Stop}
use Rattle.cpu6502.specs.declared.stop.Stop.TheVariants.{Illegal, Break, Decimal}
use Rattle.cpu6502.specs.declared.memory.TheConstants.{MEMORY_SIZE}
use Rattle.cpu6502.specs.Opcodes.{Meaning, meaning_of, length_of, is_accumulator}
use Rattle.cpu6502.specs.Loads.{load_effect}
use Rattle.cpu6502.specs.Arithmetic.{arithmetic_effect}
use Rattle.cpu6502.specs.Compares.{compare_effect}
use Rattle.cpu6502.specs.Logic.{logic_effect}
use Rattle.cpu6502.specs.Shifts.{shift_effect, accumulator_effect}
use Rattle.cpu6502.specs.Counts.{count_effect}
use Rattle.cpu6502.specs.Branches.{branch_effect}
use Rattle.cpu6502.specs.Stack.{stack_effect}
use Rattle.cpu6502.specs.Jumps.{jump_effect}
use Rattle.cpu6502.specs.Flags.{flag_effect}
use Rattle.cpu6502.specs.Transfers.{transfer_effect}
pub use Rattle.cpu6502.specs.Registers.{stack_place, with_sign_and_zero, with_a, with_x, quiet, storing}

-- the two bytes at a place, the low one first; the place after the last is 0
abbrev pub word_at : (ℕ → ℕ) → ℕ → ℕ
word_at at place = at place + 256 * at ((place + 1) % MEMORY_SIZE)

-- the two bytes at a place of page 0, where the place after the last is the first
abbrev pub zero_page_word : (ℕ → ℕ) → ℕ → ℕ
zero_page_word at place = at place + 256 * at ((place + 1) % 256)

-- the two bytes at a place, where the second is read from the same page
abbrev pub same_page_word : (ℕ → ℕ) → ℕ → ℕ
same_page_word at place = at place + 256 * at (256 * (place / 256) + (place % 256 + 1) % 256)

-- a displacement byte as a number to add mod 65,536: 128 to 255 stand for -128 to -1
abbrev pub displacement : ℕ → ℕ
displacement byte = if nat_lt byte 128 then byte else byte + 65280

-- the place of the operand of the instruction at pc; for a branch the place it goes to, and 0 where there is no
-- operand
abbrev pub address_of : Mode → (ℕ → ℕ) → ℕ → ℕ → ℕ → ℕ
address_of Implied at pc x y = 0
address_of Accumulator at pc x y = 0
address_of Immediate at pc x y = (pc + 1) % MEMORY_SIZE
address_of ZeroPage at pc x y = at ((pc + 1) % MEMORY_SIZE)
address_of ZeroPageX at pc x y = (at ((pc + 1) % MEMORY_SIZE) + x) % 256
address_of ZeroPageY at pc x y = (at ((pc + 1) % MEMORY_SIZE) + y) % 256
address_of Absolute at pc x y = word_at at ((pc + 1) % MEMORY_SIZE)
address_of AbsoluteX at pc x y = (word_at at ((pc + 1) % MEMORY_SIZE) + x) % MEMORY_SIZE
address_of AbsoluteY at pc x y = (word_at at ((pc + 1) % MEMORY_SIZE) + y) % MEMORY_SIZE
address_of IndirectX at pc x y = zero_page_word at ((at ((pc + 1) % MEMORY_SIZE) + x) % 256)
address_of IndirectY at pc x y = (zero_page_word at (at ((pc + 1) % MEMORY_SIZE)) + y) % MEMORY_SIZE
address_of Indirect at pc x y = same_page_word at (word_at at ((pc + 1) % MEMORY_SIZE))
address_of Relative at pc x y = (pc + 2 + displacement (at ((pc + 1) % MEMORY_SIZE))) % MEMORY_SIZE

-- an effect, or the other one where there is none
abbrev pub or_effect : Option Effect → Option Effect → Option Effect
or_effect (Some done) other = Some done
or_effect None other = other

-- what the instructions do that work on bytes
abbrev pub data_effect : Mnemonic → ℕ → (ℕ → ℕ) → Cpu → Option Effect
data_effect mnemonic place at cpu =
    or_effect (load_effect mnemonic place at cpu)
    (or_effect (arithmetic_effect mnemonic place at cpu)
    (or_effect (compare_effect mnemonic place at cpu)
    (or_effect (logic_effect mnemonic place at cpu)
    (or_effect (shift_effect mnemonic place at cpu) (count_effect mnemonic place at cpu)))))

-- what the others do
abbrev pub other_effect : Mnemonic → ℕ → ℕ → (ℕ → ℕ) → Cpu → Option Effect
other_effect mnemonic own place at cpu =
    or_effect (branch_effect mnemonic place cpu)
    (or_effect (jump_effect mnemonic own place at cpu)
    (or_effect (stack_effect mnemonic at cpu) (or_effect (flag_effect mnemonic cpu)
    (transfer_effect mnemonic cpu))))

-- where an instruction stops instead: BRK always, sums and differences with the decimal flag set
abbrev pub stop_of : Mnemonic → ℕ → Cpu → Option Stop
stop_of Brk own cpu = Some (Break own)
stop_of Adc own cpu = if cpu.d then Some (Decimal own) else None
stop_of Sbc own cpu = if cpu.d then Some (Decimal own) else None
stop_of _ own cpu = None

-- a stop, or else an effect; each name but BRK has one
abbrev pub unless_stopped : Option Stop → ℕ → Option Effect → Result Effect Stop
unless_stopped (Some stop) own outcome = Err stop
unless_stopped None own (Some outcome) = Ok outcome
unless_stopped None own None = Err (Illegal own)

-- the effect of an instruction on registers whose program counter is at the next one; own is its own place, place
-- that of its operand in memory
abbrev pub effect_of : Mnemonic → ℕ → ℕ → (ℕ → ℕ) → Cpu → Result Effect Stop
effect_of mnemonic own place at cpu =
    unless_stopped (stop_of mnemonic own cpu) own
    (or_effect (data_effect mnemonic place at cpu) (other_effect mnemonic own place at cpu))

-- the registers with the program counter after an instruction of this many bytes
abbrev pub moved : Cpu → ℕ → Cpu
moved cpu length = record cpu { pc = (cpu.pc + length) % MEMORY_SIZE }

-- the effect of a decoded instruction, or a stop where there is none
abbrev pub done_by : Option Meaning → (ℕ → ℕ) → Cpu → Result Effect Stop
done_by None at cpu = Err (Illegal cpu.pc)
done_by (Some meaning) at cpu =
    if is_accumulator meaning.1
    then accumulator_effect meaning.0 cpu.pc (moved cpu (length_of meaning.1))
    else effect_of meaning.0 cpu.pc (address_of meaning.1 at cpu.pc cpu.x cpu.y) at (moved cpu (length_of meaning.1))

-- the effect of the instruction at the program counter
abbrev pub effect : (ℕ → ℕ) → Cpu → Result Effect Stop
effect at cpu = done_by (meaning_of (at cpu.pc)) at cpu
