-- The bytes of one instruction, by the machine's decode table. Source: the MOS 6502 programming manual.
use Rattle.std.specs.Prelude.{◌≡◌, ℕ, ◌+◌, ◌*◌, ◌/◌, ◌%◌, ◌<◌, List, [], ◌∷◌}
use Rattle.std.specs.Prelude.{◌++◌, length, take, Option, Some, None, nat_eq, nat_lt, if◌then◌else◌, All}
use Rattle.std.specs.Option.{option_map, option_and_then}
use Rattle.cpu6502.specs.declared.mnemonic.Mode.{Mode}
use Rattle.cpu6502.specs.Opcodes.{Meaning, meaning_of, opcode_of, length_of}
use Rattle.asm6502.specs.declared.instructions.Instr.{Instr}

-- the bytes after the opcode: none, one, or two with the low one first; none where the operand doesn't fit
abbrev pub operand_bytes : Mode → ℕ → Option (List ℕ)
operand_bytes mode operand =
    if nat_eq (length_of mode) 1 then (if nat_eq operand 0 then Some [] else None)
    else if nat_eq (length_of mode) 2 then (if nat_lt operand 256 then Some (operand ∷ []) else None)
    else Some (operand % 256 ∷ operand / 256 ∷ [])

-- the bytes of an instruction
abbrev pub encoding : Instr → Option (List ℕ)
encoding instr =
    option_and_then (λ opcode. option_map (λ bytes. opcode ∷ bytes) (operand_bytes instr.mode instr.operand))
    (opcode_of instr.mnemonic instr.mode)

-- a number of one byte, and of two with the low one first, that bytes begin with
abbrev pub byte_from : List ℕ → Option ℕ
byte_from [] = None
byte_from (byte ∷ rest) = Some byte

abbrev pub word_from : List ℕ → Option ℕ
word_from [] = None
word_from (low ∷ []) = None
word_from (low ∷ high ∷ rest) = Some (low + 256 * high)

-- the operand that stands after an opcode
abbrev pub operand_from : Mode → List ℕ → Option ℕ
operand_from mode rest =
    if nat_eq (length_of mode) 1 then Some 0 else if nat_eq (length_of mode) 2 then byte_from rest else word_from rest

-- the instruction of this meaning whose operand stands at the front of these bytes, and the bytes that it takes with
-- its opcode
abbrev pub decoding_as : Meaning → List ℕ → Option (Instr × ℕ)
decoding_as meaning rest =
    option_map (λ operand. (
      record { mnemonic = meaning.0; mode = meaning.1; operand = operand },
      length_of
          meaning.1,
    )) (operand_from meaning.1 rest)

-- the instruction that bytes begin with, and the bytes that it takes
abbrev pub decoding : List ℕ → Option (Instr × ℕ)
decoding [] = None
decoding (opcode ∷ rest) = option_and_then (λ meaning. decoding_as meaning rest) (meaning_of opcode)

-- the bytes of an instruction, with any bytes after them, are read as that instruction and their number
abbrev pub WhatIsEncodedDecodes : Type 0
WhatIsEncodedDecodes =
    (instr : Instr) (bytes rest : List ℕ) → encoding instr ≡ Some bytes →
    decoding (bytes ++ rest) ≡ Some (instr, length bytes)

-- and nothing else is read: the bytes that are read as an instruction are its bytes
abbrev pub NothingElseDecodes : Type 0
NothingElseDecodes =
    (bytes : List ℕ) (instr : Instr) (taken : ℕ) → All (λ byte. byte < 256) bytes →
    decoding bytes ≡ Some (instr, taken) → (encoding instr ≡ Some (take taken bytes))
    × (length (take taken bytes) ≡ taken)
