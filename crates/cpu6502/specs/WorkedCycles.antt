-- Clock cycles that are worked by hand from the MOS 6502 programming manual: pages that are crossed and aren't, branches
-- that are taken and aren't, stops, and runs.
use Rattle.std.specs.Prelude.{◌≡◌, ℕ, Bool, true, false, List, [], ◌∷◌, if◌then◌else◌}
use Rattle.cpu6502.specs.declared.cpu.Cpu.{Cpu}
use Rattle.cpu6502.specs.declared.machine.Machine.{Machine}
use Rattle.cpu6502.specs.Cycles.{cycles}
use Rattle.cpu6502.specs.Call.{cycles_in, call_cycles}
use Rattle.cpu6502.specs.WorkedSteps.{over, blank, start, flagged}

-- what code at the program counter takes in its first step
abbrev pub Takes : Cpu → List ℕ → ℕ → Type 0
Takes before code n = cycles (over blank before.pc code) before ≡ n

-- ---- pages

-- X is 1, Y is $33; the pointers at $80 and $82 are $20CC and $20CD
abbrev pub plain : Cpu
plain = record start { d = false }

abbrev pub TakesBy : Cpu → List ℕ → ℕ → Type 0
TakesBy before code n =
    cycles (over (over blank 0x80 (0xCC ∷ 0x20 ∷ 0xCD ∷ 0x20 ∷ [])) before.pc code) before ≡ n

-- a read by an index takes one cycle more in another page, also over the end of memory, and not in the same page
abbrev pub ReadsCross : Type 0
ReadsCross =
    TakesBy plain (0xBD ∷ 0xFE ∷ 0x20 ∷ []) 4 × TakesBy plain (0xBD ∷ 0xFF ∷ 0x20 ∷ []) 5
    × TakesBy plain (0xB9 ∷ 0xCC ∷ 0x20 ∷ []) 4 × TakesBy plain (0xB9 ∷ 0xCD ∷ 0x20 ∷ []) 5
    × TakesBy plain (0xB1 ∷ 0x80 ∷ []) 5 × TakesBy plain (0xB1 ∷ 0x82 ∷ []) 6
    × TakesBy plain (0xBD ∷ 0xFF ∷ 0xFF ∷ []) 5 × TakesBy (record plain { x = 0 }) (0xBD ∷ 0xFF ∷ 0x20 ∷ []) 4
    × TakesBy (record plain { x = 0xFF }) (0xBD ∷ 0x00 ∷ 0x20 ∷ []) 4
    × TakesBy (record plain { x = 0xFF }) (0xBD ∷ 0x01 ∷ 0x20 ∷ []) 5

-- so does each instruction that reads
abbrev pub CrossesIn : ℕ → ℕ → Type 0
CrossesIn opcode n = TakesBy plain (opcode ∷ 0xFF ∷ 0x20 ∷ []) n

abbrev pub EachReadCrosses : Type 0
EachReadCrosses =
    CrossesIn 0x7D 5 × CrossesIn 0x3D 5 × CrossesIn 0xDD 5 × CrossesIn 0x5D 5 × CrossesIn 0xBD 5 × CrossesIn 0xBC 5
    × CrossesIn 0xBE 5 × CrossesIn 0x1D 5 × CrossesIn 0xFD 5

-- what writes takes as many in either case; and no page is crossed by an index in page 0, or before a pointer is read
abbrev pub OthersDoNotCross : Type 0
OthersDoNotCross =
    TakesBy plain (0x9D ∷ 0xFE ∷ 0x20 ∷ []) 5 × TakesBy plain (0x9D ∷ 0xFF ∷ 0x20 ∷ []) 5
    × TakesBy plain (0x99 ∷ 0xCD ∷ 0x20 ∷ []) 5 × TakesBy plain (0x91 ∷ 0x80 ∷ []) 6
    × TakesBy plain (0x91 ∷ 0x82 ∷ []) 6 × TakesBy plain (0xFE ∷ 0xFE ∷ 0x20 ∷ []) 7
    × TakesBy plain (0xFE ∷ 0xFF ∷ 0x20 ∷ []) 7 × TakesBy plain (0x1E ∷ 0xFF ∷ 0x20 ∷ []) 7
    × TakesBy plain (0x5E ∷ 0xFF ∷ 0x20 ∷ []) 7 × TakesBy plain (0x3E ∷ 0xFF ∷ 0x20 ∷ []) 7
    × TakesBy plain (0x7E ∷ 0xFF ∷ 0x20 ∷ []) 7 × TakesBy plain (0xDE ∷ 0xFF ∷ 0x20 ∷ []) 7
    × TakesBy plain (0xB5 ∷ 0xFF ∷ []) 4 × TakesBy plain (0xB6 ∷ 0xFF ∷ []) 4 × TakesBy plain (0xA1 ∷ 0xFF ∷ []) 6
    × TakesBy plain (0xA1 ∷ 0x7F ∷ []) 6

-- ---- branches

-- BNE at this place with this displacement
abbrev pub BranchTakes : ℕ → ℕ → ℕ → Type 0
BranchTakes place byte n = Takes (record plain { pc = place; z = false }) (0xD0 ∷ byte ∷ []) n

-- 2 where it isn't taken, 3 where it is, also to the next instruction, and 4 where that is in another page than the
-- next instruction, forwards, backwards and over the end of memory; the page of the branch itself is no matter
abbrev pub BranchesCross : Type 0
BranchesCross =
    Takes (record plain { z = true }) (0xD0 ∷ 0x10 ∷ []) 2
    × Takes (record plain { pc = 0x10F0; z = true }) (0xD0 ∷ 0x10 ∷ []) 2
    × BranchTakes 0x1000 0x10 3 × BranchTakes 0x1000 0x00 3 × BranchTakes 0x10F0 0x0D 3 × BranchTakes 0x10F0 0x0E 4
    × BranchTakes 0x1100 0xFE 3 × BranchTakes 0x1100 0xFD 4 × BranchTakes 0x10FD 0x00 3 × BranchTakes 0x10FE 0x00 3
    × BranchTakes 0x10FE 0xFF 4 × BranchTakes 0xFFF0 0x20 4 × BranchTakes 0xFFFE 0x00 3

-- each branch takes 3 where it is taken, and 2 where it isn't: where its flag alone is set, and where all others are
abbrev pub BranchTakesBy : ℕ → Cpu → Cpu → Bool → Type 0
BranchTakesBy opcode alone others taken =
    Takes alone (opcode ∷ 0x10 ∷ []) (if taken then 3 else 2)
    × Takes others (opcode ∷ 0x10 ∷ []) (if taken then 2 else 3)

abbrev pub EachBranchTakes : Type 0
EachBranchTakes =
    BranchTakesBy 0x10 (flagged true false false false) (flagged false true true true) false
    × BranchTakesBy 0x30 (flagged true false false false) (flagged false true true true) true
    × BranchTakesBy 0x50 (flagged false true false false) (flagged true false true true) false
    × BranchTakesBy 0x70 (flagged false true false false) (flagged true false true true) true
    × BranchTakesBy 0x90 (flagged false false false true) (flagged true true true false) false
    × BranchTakesBy 0xB0 (flagged false false false true) (flagged true true true false) true
    × BranchTakesBy 0xD0 (flagged false false true false) (flagged true true false true) false
    × BranchTakesBy 0xF0 (flagged false false true false) (flagged true true false true) true

-- ---- others

-- what takes its row's cycles alone; and what stops takes none: a byte without a row, BRK, decimal sums and differences
abbrev pub OthersTake : Type 0
OthersTake =
    Takes plain (0xEA ∷ []) 2 × Takes plain (0xA9 ∷ 0x10 ∷ []) 2 × Takes plain (0x69 ∷ 0x10 ∷ []) 2
    × Takes plain (0x0A ∷ []) 2 × Takes plain (0x48 ∷ []) 3 × Takes plain (0x68 ∷ []) 4
    × Takes plain (0x20 ∷ 0x34 ∷ 0x12 ∷ []) 6 × Takes plain (0x60 ∷ []) 6 × Takes plain (0x40 ∷ []) 6
    × Takes plain (0x4C ∷ 0x34 ∷ 0x12 ∷ []) 3 × Takes plain (0x6C ∷ 0x34 ∷ 0x12 ∷ []) 5

abbrev pub StopsTakeNone : Type 0
StopsTakeNone =
    Takes start (0x02 ∷ []) 0 × Takes start (0x00 ∷ []) 0 × Takes start (0x69 ∷ []) 0 × Takes start (0xE9 ∷ []) 0

-- ---- runs

-- LDX #2; DEX; BNE back to the DEX; and a byte that is no opcode
abbrev pub looping : Machine
looping = record { cpu = record plain { pc = 0 }; memory = 0xA2 ∷ 2 ∷ 0xCA ∷ 0xD0 ∷ 0xFD ∷ 0x02 ∷ [] }

-- the cycles of a run are those of its steps, 2, 2, 3, 2 and 2, and of what stops none; those of a call are those of
-- its run
abbrev pub RunsTake : Type 0
RunsTake =
    (cycles_in 0 looping ≡ 0) × (cycles_in 1 looping ≡ 2) × (cycles_in 3 looping ≡ 7) × (cycles_in 4 looping ≡ 9)
    × (cycles_in 5 looping ≡ 11) × (cycles_in 6 looping ≡ 11) × (cycles_in 100 looping ≡ 11)
    × (call_cycles looping 0 7 4 ≡ 9) × (call_cycles looping 2 7 4 ≡ 4)
