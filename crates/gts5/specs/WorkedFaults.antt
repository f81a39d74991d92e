-- Texts whose faults were worked out by hand: the silent song of 128 bytes, cut, or with some bytes changed.
use Rattle.std.specs.Prelude.{◌≡◌, ℕ, List, [], ◌∷◌, ◌++◌, take, drop, replicate, slice_set, Some, None}
use Rattle.std.specs.List.{flat_map}
use Rattle.song_model.specs.Canonical.{row_text, end_row_text}
use Rattle.song_model.specs.Silence.{silence_bytes, rest_row}
use Rattle.gts5.specs.declared.faults.SongFault.{SongFault}
use Rattle.gts5.specs.declared.faults.SongFault.TheVariants.{NotGts5, Truncated, OutOfLimit, BadOrder, BadRow}
use Rattle.gts5.specs.Faults.{fault_of}

abbrev pub HasFault : List ℕ → SongFault → Type 0
HasFault bytes fault = fault_of bytes ≡ Some fault

abbrev pub HasNoFault : List ℕ → Type 0
HasNoFault bytes = fault_of bytes ≡ None

abbrev pub cut_to : ℕ → List ℕ
cut_to n = take n silence_bytes

abbrev pub changed : ℕ → ℕ → List ℕ
changed at byte = slice_set silence_bytes at byte

-- the silent song with this first orderlist, whose count stands at 101
abbrev pub with_order : List ℕ → List ℕ
with_order piece = take 101 silence_bytes ++ piece ++ drop 105 silence_bytes

-- the silent song with this pattern, whose count stands at 119
abbrev pub with_pattern : List ℕ → List ℕ
with_pattern piece = take 119 silence_bytes ++ piece

-- n rests
abbrev pub rests : ℕ → List ℕ
rests n = flat_map row_text (replicate n rest_row)

-- another magic, and less than a magic
abbrev pub MagicIsWanted : Type 0
MagicIsWanted = HasFault [] NotGts5 × HasFault (cut_to 3) NotGts5 × HasFault (changed 3 0x34) NotGts5

-- no byte of a text, of a count, of an orderlist, of a table's count, of a pattern; no byte of an instrument, of a
-- table
abbrev pub CutsAreTruncated : Type 0
CutsAreTruncated = HasFault (cut_to 4) (Truncated 4) × HasFault (cut_to 99) (Truncated 99)
    × HasFault (cut_to 100) (Truncated 100)
    × HasFault (cut_to 101) (Truncated 101) × HasFault (cut_to 103) (Truncated 103)
    × HasFault (cut_to 114) (Truncated 114)
    × HasFault (cut_to 119) (Truncated 119) × HasFault (cut_to 127) (Truncated 127)
    × HasFault (changed 113 1) (Truncated 128) × HasFault (changed 114 7) (Truncated 128)

-- 33 subtunes, 64 instruments, 209 patterns
abbrev pub CountsAreLimited : Type 0
CountsAreLimited = HasFault (changed 100 33) (OutOfLimit 100) × HasFault (changed 113 64) (OutOfLimit 113)
    × HasFault (changed 118 209) (OutOfLimit 118)

-- no endmark in the first n bytes; n is 0, 1, 2; n is 255
abbrev pub OrdersHaveEndmarks : Type 0
OrdersHaveEndmarks = HasFault (changed 101 0) (BadOrder 101) × HasFault (changed 101 1) (BadOrder 101)
    × HasFault (changed 103 0xFE) (BadOrder 101)
    × HasNoFault (with_order (255 ∷ (replicate 254 0 ++ 0xFF ∷ 0 ∷ [])))
    × HasFault (with_order (255 ∷ (replicate 255 0 ++ 0xFF ∷ []))) (BadOrder 101)

-- a note, an instrument and a command out of their ranges, also in a later row; an end row first
abbrev pub RowsAreInRange : Type 0
RowsAreInRange = HasFault (changed 120 0x5F) (BadRow 120) × HasFault (changed 120 0xC0) (BadRow 120)
    × HasFault (changed 120 0xFE) (BadRow 120)
    × HasFault (changed 121 0x40) (BadRow 120) × HasFault (changed 122 0x10) (BadRow 120)
    × HasFault (changed 120 0xFF) (BadRow 120)
    × HasFault (with_pattern (3 ∷ (rests 1 ++ 0x5F ∷ 0 ∷ 0 ∷ 0 ∷ end_row_text))) (BadRow 124)

-- no row, no end row, 128 rows with and without the end row, 129 rows
abbrev pub PatternsEnd : Type 0
PatternsEnd = HasFault (changed 119 0) (BadRow 119) × HasFault (changed 124 0xBD) (BadRow 119)
    × HasNoFault (with_pattern (129 ∷ (rests 128 ++ end_row_text)))
    × HasFault (with_pattern (128 ∷ rests 128)) (BadRow 119)
    × HasFault (with_pattern (130 ∷ (rests 129 ++ end_row_text))) (OutOfLimit 119)
    × HasFault (with_pattern (129 ∷ (rests 128 ++ 0x5F ∷ 0 ∷ 0 ∷ 0 ∷ []))) (OutOfLimit 119)

-- bytes after a restart position, in and after an end row, after the last pattern
abbrev pub LooseTextsHaveNoFault : Type 0
LooseTextsHaveNoFault = HasNoFault (with_order (4 ∷ 0 ∷ 0xFF ∷ 0 ∷ 0x55 ∷ 0xFF ∷ []))
    × HasNoFault (with_pattern (3 ∷ (rests 1 ++ 0xFF ∷ 1 ∷ 2 ∷ 7 ∷ 0 ∷ 0x40 ∷ 0x10 ∷ 0 ∷ [])) ++ 1
    ∷ 2 ∷ 3 ∷ [])
