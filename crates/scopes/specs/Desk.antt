-- The desk on which a block means something: the registers and flags of the 6502, and the byte at each place of memory.
-- Source: the MOS 6502 programming manual, and the places of the SID and of CIA 1 in the Commodore 64.
use Rattle.std.specs.Prelude.{ℕ, ◌+◌, ◌*◌, ◌%◌, Bool}
use Rattle.cpu6502.specs.declared.cpu.Cpu.{Cpu}
use Rattle.cpu6502.specs.declared.memory.TheConstants.{MEMORY_SIZE}
use Rattle.scopes.specs.declared.line.Half.{Half}
use Rattle.scopes.specs.declared.line.Half.TheVariants.{Low, High}
use Rattle.scopes.specs.declared.line.Operand.{Operand}
use Rattle.scopes.specs.declared.line.Operand.TheVariants.{Number, Var, Own, Entry, Pointed, Pointer, Register}
use Rattle.scopes.specs.declared.line.Operand.TheVariants.{OwnRegister, Timer}

pub record Desk : Type 0 where
  pub cpu : Cpu
  pub at : ℕ → ℕ

-- what a block is laid out by: the address of each label, the place of the pointer's low byte in page 0, 0 to 254,
-- which conditions hold, how many turns an open loop has, and at which places it may read and write beside the pointer's
-- own two
pub record Layout : Type 0 where
  pub address : ℕ → ℕ
  pub pointer : ℕ
  pub holds : ℕ → Bool
  pub open_turns : ℕ
  pub may_read : ℕ → Bool
  pub may_write : ℕ → Bool

-- the place of one of two bytes, of which the low one stands first
abbrev pub half_place : ℕ → Half → ℕ
half_place place Low = place
half_place place High = place + 1

-- the place of an operand in memory, mod 65,536 where it is by a register; a number has none
abbrev pub operand_place : Layout → Operand → Desk → ℕ
operand_place layout (Number number) desk = 0
operand_place layout (Var label) desk = layout.address label
operand_place layout (Own label) desk = (layout.address label + desk.cpu.x) % MEMORY_SIZE
operand_place layout (Entry label) desk = (layout.address label + desk.cpu.y) % MEMORY_SIZE
operand_place layout Pointed desk =
    (desk.at layout.pointer + 256 * desk.at (layout.pointer + 1) + desk.cpu.y) % MEMORY_SIZE
operand_place layout (Pointer half) desk = half_place layout.pointer half
operand_place layout (Register register) desk = 0xD400 + register
operand_place layout (OwnRegister register) desk = (0xD400 + register + desk.cpu.x) % MEMORY_SIZE
operand_place layout (Timer half) desk = half_place 0xDC04 half

-- what is read there
abbrev pub operand_read : Operand → Desk → ℕ → ℕ
operand_read (Number number) desk place = number
operand_read operand desk place = desk.at place
