-- Packed patterns that were worked out by hand.
use Rattle.std.specs.Prelude.{◌≡◌, ℕ, zero, suc, ◌+◌, ◌%◌, List, [], ◌∷◌, ◌++◌, length, map}
use Rattle.std.specs.Prelude.{replicate, Some, Ok}
use Rattle.std.specs.List.{range_with_len}
use Rattle.song_model.specs.declared.rows.Row.{Row}
use Rattle.packed_form.specs.declared.faults.PackedFault.{PackedFault}
use Rattle.packed_form.specs.declared.faults.PackedFault.TheVariants.{BadByte, NoEnd, BadLength}
use Rattle.packed_form.specs.Entries.{no_command, row_with}
use Rattle.packed_form.specs.PackedText.{packed_text}
use Rattle.packed_form.specs.Faults.{unpacked, packed_fault_of}

abbrev pub Packs : List Row → List ℕ → Type 0
Packs rows bytes = packed_text rows ≡ bytes

abbrev pub Unpacks : List ℕ → List Row → Type 0
Unpacks bytes rows = unpacked bytes ≡ Ok rows

abbrev pub HasFault : List ℕ → PackedFault → Type 0
HasFault bytes fault = packed_fault_of bytes ≡ Some fault

-- a row without a command
abbrev pub bare : ℕ → ℕ → Row
bare note instrument = row_with note instrument no_command

-- a row without an instrument
abbrev pub with_command : ℕ → ℕ → ℕ → Row
with_command note number param = row_with note 0 (record { number = number; param = param })

abbrev pub rest : Row
rest = bare 0xBD 0

-- n times the list, one after the other
abbrev pub times : {X : Type 0} → ℕ → List X → List X
times zero xs = []
times (suc n) xs = xs ++ times n xs

-- 64 rows with a note and the same instrument on every eighth: the instrument is named once
abbrev pub EighthsArePacked : Type 0
EighthsArePacked =
    Packs (times 8 (bare 0x90 1 ∷ replicate 7 rest)) (0x01 ∷ 0x90 ∷ 0xC6 ∷ (times 7 (0x90 ∷ 0xC6 ∷ [])
    ++ 0x00 ∷ []))

-- a note and a keyoff
abbrev pub KeyoffIsUnpacked : Type 0
KeyoffIsUnpacked = Packs (bare 0x90 1 ∷ bare 0xBE 0 ∷ []) (0x01 ∷ 0x90 ∷ 0xBE ∷ 0x00 ∷ [])
    × Unpacks (0x01 ∷ 0x90 ∷ 0xBE ∷ 0x00 ∷ []) (bare 0x90 1 ∷ bare 0xBE 0 ∷ [])

-- 64 rests are one run, 65 are two, with the longest first; an instrument in between ends a run, and belongs to the
-- first rest of the next one
abbrev pub RestsAreGathered : Type 0
RestsAreGathered = Packs (replicate 64 rest) (0xFF ∷ 0x00 ∷ []) × Packs (replicate 65 rest) (0xFF ∷ 0xC0 ∷ 0x00 ∷ [])
    × Packs (rest ∷ bare 0xBD 2 ∷ rest ∷ bare 0xBD 2 ∷ []) (0xC0 ∷ 0x02 ∷ 0xC2 ∷ 0x00 ∷ [])

-- a command that changes on a rest, stays for a note and a rest, changes on a note, ends on a rest; command 0 with
-- parameters names nothing
abbrev pub CommandsAreNamedOnce : Type 0
CommandsAreNamedOnce =
    Packs (with_command 0xBD 3 7 ∷ with_command 0xBD 3 7 ∷ with_command 0x90 3 7 ∷ with_command 0x91 3 8
    ∷ rest ∷ rest ∷ [])
    (0x53 ∷ 0x07 ∷ 0xC0 ∷ 0x90 ∷ 0x43 ∷ 0x08 ∷ 0x91 ∷ 0x50 ∷ 0x00 ∷ 0xC0 ∷ 0x00 ∷ [])
    × Packs (with_command 0xBD 0 5 ∷ with_command 0xBD 0 6 ∷ []) (0xC1 ∷ 0x00 ∷ [])

-- so many rows with a note, the other one of two instruments and another parameter of command 5 each
abbrev pub changing : ℕ → List Row
changing n = map (λ i. record { note = 0x90; instrument = 1 + i % 2; command = 5; param = i }) (range_with_len 0 n)

-- each of these rows has four bytes; 63 of them and one that names no instrument are the longest packed pattern
abbrev pub LongTextsAre : Type 0
LongTextsAre = (length (packed_text (changing 60)) ≡ 241)
    × (length (packed_text (changing 63 ++ with_command 0x90 6 0 ∷ [])) ≡ 256)
    × (length (packed_text (changing 64)) ≡ 257) × (length (packed_text (changing 128)) ≡ 513)

-- rests that the packer would write otherwise: a note $BD, behind a command or alone, and two short runs; and 64 and 65
-- rests
abbrev pub OtherSpellingsAreUnpacked : Type 0
OtherSpellingsAreUnpacked = Unpacks (0x40 ∷ 0x00 ∷ 0xBD ∷ 0x00 ∷ []) (rest ∷ [])
    × Unpacks (0xBD ∷ 0xC0 ∷ 0xC0 ∷ 0x00 ∷ []) (rest ∷ rest ∷ rest ∷ [])
    × Unpacks (0x42 ∷ 0x09 ∷ 0xBD ∷ 0x90 ∷ 0x00 ∷ []) (with_command 0xBD 2 9 ∷ with_command 0x90 2 9 ∷ [])
    × Unpacks (0xFF ∷ 0x00 ∷ []) (replicate 64 rest) × Unpacks (0xFF ∷ 0xC0 ∷ 0x00 ∷ []) (replicate 65 rest)

-- a $00 and another instrument behind an instrument, a $00 behind an instrument behind a note, a byte behind the end, a
-- parameter of command 0, a run of rests where a note is wanted, and a byte behind the end of too many rows
abbrev pub BadBytesAreFound : Type 0
BadBytesAreFound = HasFault (0x01 ∷ 0x00 ∷ []) (BadByte 1) × HasFault (0x01 ∷ 0x02 ∷ 0x90 ∷ 0x00 ∷ []) (BadByte 1)
    × HasFault (0x90 ∷ 0x01 ∷ 0x00 ∷ []) (BadByte 2) × HasFault (0x90 ∷ 0x00 ∷ 0x90 ∷ 0x00 ∷ []) (BadByte 2)
    × HasFault (0x40 ∷ 0x05 ∷ 0x90 ∷ []) (BadByte 1) × HasFault (0x90 ∷ 0x50 ∷ 0x05 ∷ 0x00 ∷ []) (BadByte 2)
    × HasFault (0x41 ∷ 0x05 ∷ 0xC0 ∷ 0x00 ∷ []) (BadByte 2)
    × HasFault (0xFF ∷ 0xFF ∷ 0xC0 ∷ 0x00 ∷ 0x00 ∷ []) (BadByte 4)

-- no byte, and none behind a note, an instrument, a command, a parameter, a command with a note
abbrev pub EndsAreWanted : Type 0
EndsAreWanted = HasFault [] NoEnd × HasFault (0x90 ∷ []) NoEnd × HasFault (0x01 ∷ []) NoEnd
    × HasFault (0x41 ∷ []) NoEnd × HasFault (0x51 ∷ []) NoEnd × HasFault (0x41 ∷ 0x05 ∷ []) NoEnd
    × HasFault (0x40 ∷ 0x00 ∷ 0xBD ∷ []) NoEnd

-- no row, 128 rows and 129 rows
abbrev pub LengthsAreLimited : Type 0
LengthsAreLimited = HasFault (0x00 ∷ []) BadLength × Unpacks (0xFF ∷ 0xFF ∷ 0x00 ∷ []) (replicate 128 rest)
    × HasFault (0xFF ∷ 0xFF ∷ 0xC0 ∷ 0x00 ∷ []) BadLength
