-- Small images at $1000: a jump to the routine of init, a jump to that of play, and the two routines, of a few
-- instructions each. Source: the opcodes of the MOS 6502 programming manual.
use Rattle.std.specs.Prelude.{ℕ, ◌+◌, ◌/◌, ◌%◌, List, [], ◌∷◌, ◌++◌, length}

-- LDA and LDX of a byte, LDA of the byte at a place, STA and STX at a place, and BEQ over a NOP; and a wait of 1 to 256
-- turns: LDX #0, LDY of their number, where 0 is 256, and a loop in a loop of two NOPs, DEX, BNE, DEY and BNE
pub data Op : Type 0 where
  LoadA : (byte : ℕ) → Op
  LoadX : (byte : ℕ) → Op
  FetchA : (place : ℕ) → Op
  StoreA : (place : ℕ) → Op
  StoreX : (place : ℕ) → Op
  SkipNop : Op
  Wait : (turns : ℕ) → Op

-- the bytes of a routine, which ends with RTS
abbrev pub routine : List Op → List ℕ
routine [] = 0x60 ∷ []
routine (LoadA byte ∷ ops) = 0xA9 ∷ byte ∷ routine ops
routine (LoadX byte ∷ ops) = 0xA2 ∷ byte ∷ routine ops
routine (FetchA place ∷ ops) = 0xAD ∷ place % 256 ∷ place / 256 ∷ routine ops
routine (StoreA place ∷ ops) = 0x8D ∷ place % 256 ∷ place / 256 ∷ routine ops
routine (StoreX place ∷ ops) = 0x8E ∷ place % 256 ∷ place / 256 ∷ routine ops
routine (SkipNop ∷ ops) = 0xF0 ∷ 0x01 ∷ 0xEA ∷ routine ops
routine (Wait turns ∷ ops) =
    0xA2 ∷ 0x00 ∷ 0xA0 ∷ turns % 256 ∷ 0xEA ∷ 0xEA ∷ 0xCA ∷ 0xD0 ∷ 0xFB ∷ 0x88 ∷ 0xD0 ∷ 0xF8 ∷ routine ops

-- JMP $1006, JMP to the routine of play, and the routines; that of init has less than 250 bytes. Here another opcode may
-- stand in place of the second JMP's.
abbrev pub image_with : ℕ → List Op → List Op → List ℕ
image_with opcode init play =
    0x4C ∷ 0x06 ∷ 0x10 ∷ opcode ∷ (6 + length (routine init)) ∷ 0x10 ∷ (routine init ++ routine play)

abbrev pub image_of : List Op → List Op → List ℕ
image_of init play = image_with 0x4C init play
