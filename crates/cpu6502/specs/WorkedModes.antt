-- Each instruction that has an operand in memory, worked by hand in each of its modes from the MOS 6502 programming
-- manual. The places of the indexed and indirect modes are over the end of page 0 or of memory.
use Rattle.std.specs.Prelude.{◌≡◌, ℕ, ◌+◌, true, false, List, [], ◌∷◌, Result, Ok}
use Rattle.cpu6502.specs.declared.cpu.Cpu.{Cpu}
use Rattle.cpu6502.specs.declared.effect.Effect.{Effect}
use Rattle.cpu6502.specs.declared.stop.Stop.{Stop}
use Rattle.cpu6502.specs.Registers.{quiet, storing}
use Rattle.cpu6502.specs.Effects.{effect}
use Rattle.cpu6502.specs.WorkedSteps.{over, start}

-- registers whose X and Y take each indexed mode over an end
abbrev pub base : Cpu
base = record start { x = 5; y = 7; v = false; d = false }

-- the bytes of an operand, its place and the instruction's length, mode by mode
pub record Spot : Type 0 where
  pub operand : List ℕ
  pub place : ℕ
  pub length : ℕ

abbrev pub spot : List ℕ → ℕ → ℕ → Spot
spot operand place length = record { operand = operand; place = place; length = length }

abbrev pub immediate : Spot
immediate = spot (0x02 ∷ []) 0x1001 2

abbrev pub zero_page : Spot
zero_page = spot (0xF0 ∷ []) 0x00F0 2

abbrev pub zero_page_x : Spot
zero_page_x = spot (0xFE ∷ []) 0x0003 2

abbrev pub zero_page_y : Spot
zero_page_y = spot (0xFE ∷ []) 0x0005 2

abbrev pub absolute : Spot
absolute = spot (0x45 ∷ 0x23 ∷ []) 0x2345 3

abbrev pub absolute_x : Spot
absolute_x = spot (0xFE ∷ 0xFF ∷ []) 0x0003 3

abbrev pub absolute_y : Spot
absolute_y = spot (0xFD ∷ 0xFF ∷ []) 0x0004 3

abbrev pub indirect_x : Spot
indirect_x = spot (0xFA ∷ []) 0xFFFC 2

abbrev pub indirect_y : Spot
indirect_y = spot (0xFF ∷ []) 0x0003 2

-- what an opcode does with a byte at its operand's place; the pointer of the indirect modes is $FFFC, and stands at
-- the last and the first place of page 0
abbrev pub in_mode : ℕ → Spot → ℕ → Result Effect Stop
in_mode opcode spot byte =
    effect
    (over (over (over (over (λ q. 0x02) 0x00FF (0xFC ∷ [])) 0x0000 (0xFF ∷ [])) 0x1000 (opcode ∷ spot.operand))
    spot.place (byte ∷ []))
    base

-- the registers after it
abbrev pub after_mode : Spot → Cpu → Cpu
after_mode spot cpu = record cpu { pc = 0x1000 + spot.length }

-- in each of these modes an instruction reads this byte and leaves these registers
abbrev pub ReadIn : List (ℕ × Spot) → ℕ → Cpu → Type 0
ReadIn [] byte after = Unit {0}
ReadIn (mode ∷ modes) byte after =
    (in_mode mode.0 mode.1 byte ≡ Ok (quiet (after_mode mode.1 after))) × ReadIn modes byte after

-- in each of these modes it leaves this byte in the place of the other, and these registers
abbrev pub WriteIn : List (ℕ × Spot) → ℕ → ℕ → Cpu → Type 0
WriteIn [] byte result after = Unit {0}
WriteIn (mode ∷ modes) byte result after =
    (in_mode mode.0 mode.1 byte ≡ Ok (storing (after_mode mode.1 after) mode.1.place result))
    × WriteIn modes byte result after

-- LDA, LDX, LDY
abbrev pub LoadsInModes : Type 0
LoadsInModes =
    ReadIn ((0xA9, immediate) ∷ (0xA5, zero_page) ∷ (0xB5, zero_page_x) ∷ (0xAD, absolute) ∷ (0xBD, absolute_x) ∷
    (0xB9, absolute_y) ∷ (0xA1, indirect_x) ∷ (0xB1, indirect_y) ∷ []) 0xC3 (record base { a = 0xC3; n = true })
    × ReadIn ((0xA2, immediate) ∷ (0xA6, zero_page) ∷ (0xB6, zero_page_y) ∷ (0xAE, absolute) ∷ (0xBE, absolute_y) ∷
    []) 0x00 (record base { x = 0x00; z = true })
    × ReadIn ((0xA0, immediate) ∷ (0xA4, zero_page) ∷ (0xB4, zero_page_x) ∷ (0xAC, absolute) ∷ (0xBC, absolute_x) ∷
    []) 0x80 (record base { y = 0x80; n = true })

-- STA, STX, STY
abbrev pub StoresInModes : Type 0
StoresInModes =
    WriteIn ((0x85, zero_page) ∷ (0x95, zero_page_x) ∷ (0x8D, absolute) ∷ (0x9D, absolute_x) ∷ (0x99, absolute_y) ∷
    (0x81, indirect_x) ∷ (0x91, indirect_y) ∷ []) 0xEE 0x5A base
    × WriteIn ((0x86, zero_page) ∷ (0x96, zero_page_y) ∷ (0x8E, absolute) ∷ []) 0xEE 0x05 base
    × WriteIn ((0x84, zero_page) ∷ (0x94, zero_page_x) ∷ (0x8C, absolute) ∷ []) 0xEE 0x07 base

-- ADC, SBC
abbrev pub SumsInModes : Type 0
SumsInModes =
    ReadIn ((0x69, immediate) ∷ (0x65, zero_page) ∷ (0x75, zero_page_x) ∷ (0x6D, absolute) ∷ (0x7D, absolute_x) ∷
    (0x79, absolute_y) ∷ (0x61, indirect_x) ∷ (0x71, indirect_y) ∷ []) 0xA6 (record base { a = 0x01 })
    × ReadIn ((0xE9, immediate) ∷ (0xE5, zero_page) ∷ (0xF5, zero_page_x) ∷ (0xED, absolute) ∷ (0xFD, absolute_x) ∷
    (0xF9, absolute_y) ∷ (0xE1, indirect_x) ∷ (0xF1, indirect_y) ∷ []) 0x5B
    (record base { a = 0xFF; n = true; c = false })

-- CMP, CPX, CPY
abbrev pub ComparesInModes : Type 0
ComparesInModes =
    ReadIn ((0xC9, immediate) ∷ (0xC5, zero_page) ∷ (0xD5, zero_page_x) ∷ (0xCD, absolute) ∷ (0xDD, absolute_x) ∷
    (0xD9, absolute_y) ∷ (0xC1, indirect_x) ∷ (0xD1, indirect_y) ∷ []) 0x5A (record base { z = true })
    × ReadIn ((0xE0, immediate) ∷ (0xE4, zero_page) ∷ (0xEC, absolute) ∷ []) 0x06
    (record base { n = true; c = false })
    × ReadIn ((0xC0, immediate) ∷ (0xC4, zero_page) ∷ (0xCC, absolute) ∷ []) 0x07 (record base { z = true })

-- AND, ORA, EOR, BIT
abbrev pub LogicInModes : Type 0
LogicInModes =
    ReadIn ((0x29, immediate) ∷ (0x25, zero_page) ∷ (0x35, zero_page_x) ∷ (0x2D, absolute) ∷ (0x3D, absolute_x) ∷
    (0x39, absolute_y) ∷ (0x21, indirect_x) ∷ (0x31, indirect_y) ∷ []) 0xC3 (record base { a = 0x42 })
    × ReadIn ((0x09, immediate) ∷ (0x05, zero_page) ∷ (0x15, zero_page_x) ∷ (0x0D, absolute) ∷ (0x1D, absolute_x) ∷
    (0x19, absolute_y) ∷ (0x01, indirect_x) ∷ (0x11, indirect_y) ∷ []) 0xC3 (record base { a = 0xDB; n = true })
    × ReadIn ((0x49, immediate) ∷ (0x45, zero_page) ∷ (0x55, zero_page_x) ∷ (0x4D, absolute) ∷ (0x5D, absolute_x) ∷
    (0x59, absolute_y) ∷ (0x41, indirect_x) ∷ (0x51, indirect_y) ∷ []) 0x5A (record base { a = 0x00; z = true })
    × ReadIn ((0x24, zero_page) ∷ (0x2C, absolute) ∷ []) 0xA5 (record base { n = true; z = true })

-- ASL, LSR, ROL, ROR
abbrev pub ShiftsInModes : Type 0
ShiftsInModes =
    WriteIn ((0x06, zero_page) ∷ (0x16, zero_page_x) ∷ (0x0E, absolute) ∷ (0x1E, absolute_x) ∷ []) 0xC1 0x82
    (record base { n = true })
    × WriteIn ((0x46, zero_page) ∷ (0x56, zero_page_x) ∷ (0x4E, absolute) ∷ (0x5E, absolute_x) ∷ []) 0x01 0x00
    (record base { z = true })
    × WriteIn ((0x26, zero_page) ∷ (0x36, zero_page_x) ∷ (0x2E, absolute) ∷ (0x3E, absolute_x) ∷ []) 0x40 0x81
    (record base { n = true; c = false })
    × WriteIn ((0x66, zero_page) ∷ (0x76, zero_page_x) ∷ (0x6E, absolute) ∷ (0x7E, absolute_x) ∷ []) 0x02 0x81
    (record base { n = true; c = false })

-- DEC, INC
abbrev pub CountsInModes : Type 0
CountsInModes =
    WriteIn ((0xC6, zero_page) ∷ (0xD6, zero_page_x) ∷ (0xCE, absolute) ∷ (0xDE, absolute_x) ∷ []) 0x00 0xFF
    (record base { n = true })
    × WriteIn ((0xE6, zero_page) ∷ (0xF6, zero_page_x) ∷ (0xEE, absolute) ∷ (0xFE, absolute_x) ∷ []) 0xFF 0x00
    (record base { z = true })
