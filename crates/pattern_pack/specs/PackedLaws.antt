-- What a reader may rely on in the definitions of packed patterns.
use Rattle.std.specs.Prelude.{◌≡◌, ℕ, ◌+◌, ◌*◌, ◌≤◌, List, length, All, None, MatchOption}
use Rattle.song_model.specs.declared.rows.Row.{Row}
use Rattle.song_model.specs.Basics.{IsByte}
use Rattle.song_model.specs.PatternLimits.{IsPattern}
use Rattle.packed_form.specs.declared.packed_patterns.TheConstants.{MOST_PACKED_BYTES}
use Rattle.pattern_pack.specs.declared.texts.TheConstants.{MOST_TEXT_BYTES}
use Rattle.pattern_pack.specs.declared.unpacking.TheConstants.{MOST_BYTES}
use Rattle.packed_form.specs.PackedSpells.{PackedSpells}
use Rattle.packed_form.specs.Normal.{normal_rows}
use Rattle.packed_form.specs.PackedText.{packed_text}
use Rattle.packed_form.specs.Faults.{packed_fault_of}

-- a packed pattern may have 256 bytes, a packed text 513; 65,536 bytes may be unpacked
abbrev pub ConstantsAre : Type 0
ConstantsAre = (MOST_PACKED_BYTES ≡ 256) × (MOST_TEXT_BYTES ≡ 513) × (MOST_BYTES ≡ 65536)

-- the packer's text of a pattern's rows spells its normal rows
abbrev pub PackedTextIsSpelled : Type 0
PackedTextIsSpelled = (rows : List Row) → IsPattern rows → PackedSpells (packed_text rows) (normal_rows rows)

-- so it has no fault
abbrev pub PackedTextHasNoFault : Type 0
PackedTextHasNoFault = (rows : List Row) → IsPattern rows → packed_fault_of (packed_text rows) ≡ None

-- it has at most four bytes for each row, and its end: at most 513 for 128 rows
abbrev pub PackedTextIsShort : Type 0
PackedTextIsShort = (rows : List Row) → length (packed_text rows) ≤ 4 * length rows + 1

-- bytes spell at most one list of rows
abbrev pub SpelledOnce : Type 0
SpelledOnce = (bytes : List ℕ) (rows others : List Row) → PackedSpells bytes rows →
    PackedSpells bytes others → rows ≡ others

-- rows that are spelled are those of a pattern
abbrev pub SpelledArePatterns : Type 0
SpelledArePatterns = (bytes : List ℕ) (rows : List Row) → PackedSpells bytes rows → IsPattern rows

-- where bytes have no fault they spell rows, where they have one they spell none
abbrev pub RowsOrFault : Type 0
RowsOrFault = (bytes : List ℕ) → All IsByte bytes
    → MatchOption (packed_fault_of bytes) ((rows : List Row) × PackedSpells bytes rows)
    (λ fault. (rows : List Row) → ¬ PackedSpells bytes rows)

-- no bytes that spell the normal rows are shorter than the packer's text
abbrev pub NoneIsShorter : Type 0
NoneIsShorter = (rows : List Row) (bytes : List ℕ) → PackedSpells bytes (normal_rows rows) →
    length (packed_text rows) ≤ length bytes
