-- What a reader may rely on in the faults of bytes that are no packed pattern: they are those of the grammar.
use Rattle.std.specs.Prelude.{◌≡◌, ◌↔◌, ℕ, ◌+◌, ◌<◌, List, ◌++◌, length, take, All, Some}
use Rattle.song_model.specs.Basics.{IsByte}
use Rattle.song_model.specs.PatternLimits.{IsPatternLength}
use Rattle.packed_form.specs.declared.entries.Entry.{Entry}
use Rattle.packed_form.specs.declared.faults.PackedFault.TheVariants.{BadByte, NoEnd, BadLength}
use Rattle.packed_form.specs.Entries.{IsEntry, no_command, rows_from}
use Rattle.packed_form.specs.PackedSpells.{text_of}
use Rattle.packed_form.specs.Faults.{packed_fault_of}

-- the bytes are these entries and the end, however many rows that is
pub record IsTextOf (bytes : List ℕ) (entries : List Entry) : Type 0 where
  pub each : All IsEntry entries
  pub text : bytes ≡ text_of entries

-- with some more bytes, or none, these are the text of entries
pub record IsBegun (bytes : List ℕ) : Type 0 where
  pub others : List ℕ
  pub entries : List Entry
  pub is : IsTextOf (bytes ++ others) entries

-- the bad byte is the first one with which the bytes begin no text of entries
abbrev pub BadBytesAreFirst : Type 0
BadBytesAreFirst = (bytes : List ℕ) (offset : ℕ) → All IsByte bytes →
    (packed_fault_of bytes ≡ Some (BadByte offset))
    ↔ ((offset < length bytes) × IsBegun (take offset bytes) × (¬ IsBegun (take (offset + 1) bytes)))

-- the end is missing exactly where the bytes begin a text of entries and are none
abbrev pub EndsAreMissing : Type 0
EndsAreMissing = (bytes : List ℕ) → All IsByte bytes →
    (packed_fault_of bytes ≡ Some NoEnd) ↔ (IsBegun bytes × ((entries : List Entry) → ¬ IsTextOf bytes entries))

-- the length is bad exactly where the bytes are the text of entries with no row or more than 128
abbrev pub LengthsAreBad : Type 0
LengthsAreBad = (bytes : List ℕ) → All IsByte bytes →
    (packed_fault_of bytes ≡ Some BadLength)
    ↔ ((entries : List Entry) × IsTextOf bytes entries × (¬ IsPatternLength (length (rows_from no_command entries))))
