-- Steps that are worked by hand from the MOS 6502 programming manual, at the corners: wraps of pages and of the
-- stack, flags, the carry and the overflow, and the stops.
use Rattle.std.specs.Prelude.{◌≡◌, ℕ, ◌+◌, ◌%◌, Bool, true, false, List, [], ◌∷◌, Result, Ok, Err}
use Rattle.std.specs.Prelude.{nat_eq, if◌then◌else◌}
use Rattle.cpu6502.specs.declared.cpu.Cpu.{Cpu}
use Rattle.cpu6502.specs.declared.effect.Effect.{Effect}
use Rattle.cpu6502.specs.declared.stop.Stop.{Stop}
use Rattle.cpu6502.specs.declared.stop.Stop.TheVariants.{Illegal, Break, Decimal}
use Rattle.cpu6502.specs.declared.memory.TheConstants.{MEMORY_SIZE}
use Rattle.cpu6502.specs.Registers.{quiet, storing}
use Rattle.cpu6502.specs.Effects.{effect}

-- a memory with these bytes from a place on
abbrev pub over : (ℕ → ℕ) → ℕ → List ℕ → ℕ → ℕ
over at place [] q = at q
over at place (byte ∷ bytes) q = if nat_eq q place then byte else over at ((place + 1) % MEMORY_SIZE) bytes q

-- $02 everywhere, which is no opcode, but for what is pulled at both ends of the stack: $45 and $23 at $01FE, $88 and
-- $78 at $0100
abbrev pub blank : ℕ → ℕ
blank = over (over (λ q. 0x02) 0x01FE (0x45 ∷ 0x23 ∷ [])) 0x0100 (0x88 ∷ 0x78 ∷ [])

-- registers that no row leaves out
abbrev pub start : Cpu
start = record {
  a = 0x5A;
  x = 1;
  y = 0x33;
  sp = 0xFD;
  pc = 0x1000;
  n = false;
  v = true;
  d = true;
  i = true;
  z = false;
  c = true;
}

-- what code at the program counter does in its first step
abbrev pub worked : Cpu → List ℕ → Result Effect Stop
worked before code = effect (over blank before.pc code) before

-- it leaves these registers and writes nothing; or writes a byte
abbrev pub Leaves : Cpu → List ℕ → Cpu → Type 0
Leaves before code after = worked before code ≡ Ok (quiet after)

abbrev pub Stores : Cpu → List ℕ → Cpu → ℕ → ℕ → Type 0
Stores before code after place byte = worked before code ≡ Ok (storing after place byte)

-- loads set N and Z; stores wrap past the end of memory, and so does an instruction
abbrev pub LoadsAndStores : Type 0
LoadsAndStores =
    Leaves start (0xA9 ∷ 0x00 ∷ []) (record start { pc = 0x1002; a = 0x00; z = true })
    × Leaves start (0xA9 ∷ 0x80 ∷ []) (record start { pc = 0x1002; a = 0x80; n = true })
    × Leaves (record start { a = 0x01; n = true; z = true }) (0xA9 ∷ 0x7F ∷ [])
    (record start { pc = 0x1002; a = 0x7F })
    × Leaves start (0xA2 ∷ 0xFF ∷ []) (record start { pc = 0x1002; x = 0xFF; n = true })
    × Leaves (record start { pc = 0xFFFF }) (0xA9 ∷ 0x21 ∷ []) (record start { pc = 0x01; a = 0x21 })
    × Stores (record start { pc = 0xFFFE }) (0x8D ∷ 0x34 ∷ 0x12 ∷ []) (record start { pc = 0x01 }) 0x1234 0x5A
    × Stores start (0x9D ∷ 0xFF ∷ 0x20 ∷ []) (record start { pc = 0x1003 }) 0x2100 0x5A
    × Stores start (0x9D ∷ 0xFF ∷ 0xFF ∷ []) (record start { pc = 0x1003 }) 0x0000 0x5A
    × Stores (record start { x = 0xFF }) (0x9D ∷ 0xF0 ∷ 0xFF ∷ []) (record start { x = 0xFF; pc = 0x1003 }) 0x00EF
    0x5A

-- JMP (xxFF) stays in its page; branches go over pages and over the end of memory; RTS adds one, RTI nothing; the
-- stack wraps
abbrev pub JumpsAndReturns : Type 0
JumpsAndReturns =
    Leaves (record start { pc = 0xFFFE }) (0x4C ∷ 0x78 ∷ 0x56 ∷ []) (record start { pc = 0x5678 })
    × Leaves (record start { pc = 0x1000 }) (0x6C ∷ 0x00 ∷ 0x01 ∷ []) (record start { pc = 0x7888 })
    × Leaves (record start { pc = 0x1000 }) (0x6C ∷ 0xFF ∷ 0x01 ∷ []) (record start { pc = 0x8823 })
    × Leaves (record start { pc = 0x1000 }) (0x10 ∷ 0xFB ∷ []) (record start { pc = 0x0FFD })
    × Leaves (record start { pc = 0x1090 }) (0x10 ∷ 0x7F ∷ []) (record start { pc = 0x1111 })
    × Leaves (record start { pc = 0x1000 }) (0x10 ∷ 0x80 ∷ []) (record start { pc = 0x0F82 })
    × Leaves (record start { pc = 0xFFFF }) (0x10 ∷ 0x10 ∷ []) (record start { pc = 0x11 })
    × Leaves (record start { pc = 0x02 }) (0x10 ∷ 0xF0 ∷ []) (record start { pc = 0xFFF4 })
    × Leaves start (0x60 ∷ []) (record start { sp = 0xFF; pc = 0x2346 })
    × Leaves (record start { sp = 0xFF }) (0x60 ∷ []) (record start { sp = 0x01; pc = 0x7889 })
    × Leaves (record start { sp = 0xFE }) (0x60 ∷ []) (record start { sp = 0x00; pc = 0x8824 })
    × Leaves start (0x40 ∷ []) (record start { sp = 0x00; pc = 0x8823; d = false })

-- shifts and rotations of the accumulator; X and Y up and down
abbrev pub ShiftsAndCounts : Type 0
ShiftsAndCounts =
    Leaves start (0x0A ∷ []) (record start { pc = 0x1001; a = 0xB4; n = true; z = false; c = false })
    × Leaves start (0x4A ∷ []) (record start { pc = 0x1001; a = 0x2D; n = false; z = false; c = false })
    × Leaves start (0x2A ∷ []) (record start { pc = 0x1001; a = 0xB5; n = true; z = false; c = false })
    × Leaves start (0x6A ∷ []) (record start { pc = 0x1001; a = 0xAD; n = true; z = false; c = false })
    × Leaves (record start { a = 0x01; c = false }) (0x6A ∷ []) (record start { pc = 0x1001; a = 0x00; z = true })
    × Leaves (record start { x = 0xFF }) (0xE8 ∷ [])
    (record start { pc = 0x1001; x = 0x00; n = false; z = true; c = true })
    × Leaves (record start { y = 0x7F }) (0xC8 ∷ [])
    (record start { pc = 0x1001; y = 0x80; n = true; z = false; c = true })
    × Leaves (record start { x = 0x01 }) (0xCA ∷ [])
    (record start { pc = 0x1001; x = 0x00; n = false; z = true; c = true })
    × Leaves (record start { x = 0x80 }) (0xCA ∷ [])
    (record start { pc = 0x1001; x = 0x7F; n = false; z = false; c = true })
    × Leaves (record start { x = 0x00 }) (0xCA ∷ [])
    (record start { pc = 0x1001; x = 0xFF; n = true; z = false; c = true })
    × Leaves (record start { y = 0x00 }) (0x88 ∷ [])
    (record start { pc = 0x1001; y = 0xFF; n = true; z = false; c = true })

-- transfers set N and Z, but not TXS; flags one by one; NOP
abbrev pub TransfersAndFlags : Type 0
TransfersAndFlags =
    Leaves start (0xAA ∷ []) (record start { pc = 0x1001; x = 0x5A; n = false; z = false; c = true })
    × Leaves (record start { a = 0x00 }) (0xA8 ∷ [])
    (record start { pc = 0x1001; a = 0x00; y = 0x00; n = false; z = true; c = true })
    × Leaves start (0xBA ∷ []) (record start { pc = 0x1001; x = 0xFD; n = true; z = false; c = true })
    × Leaves (record start { x = 0x00 }) (0x8A ∷ [])
    (record start { pc = 0x1001; x = 0x00; a = 0x00; n = false; z = true; c = true })
    × Leaves (record start { y = 0x80 }) (0x98 ∷ [])
    (record start { pc = 0x1001; y = 0x80; a = 0x80; n = true; z = false; c = true })
    × Leaves (record start { x = 0x00 }) (0x9A ∷ [])
    (record start { pc = 0x1001; x = 0x00; sp = 0x00; n = false; z = false; c = true })
    × Leaves start (0x18 ∷ []) (record start { pc = 0x1001; c = false })
    × Leaves start (0xD8 ∷ []) (record start { pc = 0x1001; d = false })
    × Leaves start (0x58 ∷ []) (record start { pc = 0x1001; i = false })
    × Leaves start (0xB8 ∷ []) (record start { pc = 0x1001; v = false })
    × Leaves (record start { c = false }) (0x38 ∷ []) (record start { pc = 0x1001 })
    × Leaves (record start { d = false }) (0xF8 ∷ []) (record start { pc = 0x1001 })
    × Leaves (record start { i = false }) (0x78 ∷ []) (record start { pc = 0x1001 })
    × Leaves start (0xEA ∷ []) (record start { pc = 0x1001 })

-- pushes and pulls at both ends of the stack; PHP sets bits 5 and 4, PLP leaves them out; JSR pushes the address of
-- its own last byte
abbrev pub Stack : Type 0
Stack =
    Stores start (0x48 ∷ []) (record start { sp = 0xFC; pc = 0x1001 }) 0x01FD 0x5A
    × Stores (record start { sp = 0x00 }) (0x48 ∷ []) (record start { sp = 0xFF; pc = 0x1001 }) 0x0100 0x5A
    × Stores start (0x08 ∷ []) (record start { sp = 0xFC; pc = 0x1001 }) 0x01FD 0x7D
    × (worked start (0x20 ∷ 0x34 ∷ 0x12 ∷ []) ≡ Ok
    (record {
      cpu = (record start { sp = 0xFB; pc = 0x1234 });
      writes = (record { place = 0x01FD; value = 0x10 }) ∷ (record { place = 0x01FC; value = 0x02 }) ∷ [];
    }))
    × (worked (record start { sp = 0x00 }) (0x20 ∷ 0x34 ∷ 0x12 ∷ []) ≡ Ok
    (record {
      cpu = (record start { sp = 0xFE; pc = 0x1234 });
      writes = (record { place = 0x0100; value = 0x10 }) ∷ (record { place = 0x01FF; value = 0x02 }) ∷ [];
    }))
    × Leaves start (0x68 ∷ []) (record start { sp = 0xFE; pc = 0x1001; a = 0x45 })
    × Leaves (record start { sp = 0xFF }) (0x68 ∷ []) (record start { sp = 0x00; pc = 0x1001; a = 0x88; n = true })
    × Leaves start (0x28 ∷ []) (record start { sp = 0xFE; pc = 0x1001; d = false })

-- registers with these flags N, V, Z and C
abbrev pub flagged : Bool → Bool → Bool → Bool → Cpu
flagged n v z c = record start { n = n; v = v; z = z; c = c }

-- a branch by $10 goes there, or goes on
abbrev pub BranchIs : ℕ → Cpu → Bool → Type 0
BranchIs opcode before taken =
    Leaves before (opcode ∷ 0x10 ∷ []) (record before { pc = if taken then 0x1012 else 0x1002 })

-- a branch is taken as said where its flag alone is set, and the other way where all others are
abbrev pub BranchBy : ℕ → Cpu → Cpu → Bool → Type 0
BranchBy opcode alone others taken =
    BranchIs opcode alone taken × BranchIs opcode others (if taken then false else true)

-- each branch looks at its own flag
abbrev pub Branches : Type 0
Branches =
    BranchBy 0x10 (flagged true false false false) (flagged false true true true) false
    × BranchBy 0x30 (flagged true false false false) (flagged false true true true) true
    × BranchBy 0x50 (flagged false true false false) (flagged true false true true) false
    × BranchBy 0x70 (flagged false true false false) (flagged true false true true) true
    × BranchBy 0x90 (flagged false false false true) (flagged true true true false) false
    × BranchBy 0xB0 (flagged false false false true) (flagged true true true false) true
    × BranchBy 0xD0 (flagged false false true false) (flagged true true false true) false
    × BranchBy 0xF0 (flagged false false true false) (flagged true true false true) true

-- A and a byte with this carry give this byte, with N, V, Z and C
abbrev pub SumIs : ℕ → ℕ → ℕ → Bool → ℕ → Cpu → Type 0
SumIs opcode a byte carry sum flags =
    Leaves (record start { a = a; c = carry; d = false }) (opcode ∷ byte ∷ [])
    (record flags { a = sum; d = false; pc = 0x1002 })

-- the four corners of ADC with both carries
abbrev pub Sums : Type 0
Sums =
    SumIs 0x69 0x7F 0x7F false 0xFE (flagged true true false false)
    × SumIs 0x69 0x7F 0x7F true 0xFF (flagged true true false false)
    × SumIs 0x69 0x7F 0x80 false 0xFF (flagged true false false false)
    × SumIs 0x69 0x7F 0x80 true 0x00 (flagged false false true true)
    × SumIs 0x69 0x80 0x7F false 0xFF (flagged true false false false)
    × SumIs 0x69 0x80 0x7F true 0x00 (flagged false false true true)
    × SumIs 0x69 0x80 0x80 false 0x00 (flagged false true true true)
    × SumIs 0x69 0x80 0x80 true 0x01 (flagged false true false true)

-- the four corners of SBC with both carries
abbrev pub Differences : Type 0
Differences =
    SumIs 0xE9 0x7F 0x7F false 0xFF (flagged true false false false)
    × SumIs 0xE9 0x7F 0x7F true 0x00 (flagged false false true true)
    × SumIs 0xE9 0x7F 0x80 false 0xFE (flagged true true false false)
    × SumIs 0xE9 0x7F 0x80 true 0xFF (flagged true true false false)
    × SumIs 0xE9 0x80 0x7F false 0x00 (flagged false true true true)
    × SumIs 0xE9 0x80 0x7F true 0x01 (flagged false true false true)
    × SumIs 0xE9 0x80 0x80 false 0xFF (flagged true false false false)
    × SumIs 0xE9 0x80 0x80 true 0x00 (flagged false false true true)

-- BRK stops, and sums and differences with the decimal flag, and two bytes that are no opcodes
abbrev pub Stops : Type 0
Stops =
    (worked start (0x00 ∷ []) ≡ Err (Break 0x1000))
    × (worked start (0x69 ∷ []) ≡ Err (Decimal 0x1000))
    × (worked start (0xE9 ∷ []) ≡ Err (Decimal 0x1000))
    × (worked start (0x02 ∷ []) ≡ Err (Illegal 0x1000))
    × (worked start (0x03 ∷ []) ≡ Err (Illegal 0x1000))
