-- New numbers of the rows of two small tables, worked out by hand.
use Rattle.std.specs.Prelude.{◌≡◌, ℕ, List, [], ◌∷◌, length}
use Rattle.song_model.specs.declared.tables.TableRow.{TableRow}
use Rattle.song_model.specs.Silence.{empty_song}
use Rattle.packing_rules.specs.ProgramMaps.{row_at}
use Rattle.packing_rules.specs.WorkedSizes.{among}
use Rattle.table_pack.specs.TableMaps.{IsRenumbering}
use Rattle.table_pack.specs.Speeds.{IsSpeedMerge}

abbrev pub with_sides : ℕ → ℕ → TableRow
with_sides left right = record { left = left; right = right }

-- two programs, of which the second one is a loop
abbrev pub six_rows : List TableRow
six_rows = with_sides 0x41 0 ∷ with_sides 0xFF 0 ∷ with_sides 0x21 0 ∷ with_sides 0x21 4 ∷ with_sides 0x21 7
    ∷ with_sides 0xFF 3 ∷ []

-- the last four are kept, with their right sides: the jump still names row 3
abbrev pub LastFourAreKept : Type 0
LastFourAreKept = (rows : List TableRow) (to : ℕ → ℕ) → IsRenumbering (among (3 ∷ 4 ∷ 5 ∷ 6
    ∷ [])) six_rows rows to →
    (length rows ≡ 4) × (to 2 ≡ 0) × (to 3 ≡ 1) × (to 6 ≡ 4) × (row_at rows 1 ≡ with_sides 0x21 0)
    × (row_at rows 4 ≡ with_sides 0xFF 3)

-- two numbers past a speed table without rows are one row
abbrev pub ZeroSpeedsAreOne : Type 0
ZeroSpeedsAreOne = (rows : List TableRow) (to : ℕ → ℕ) → IsSpeedMerge empty_song (among (7 ∷ 255 ∷ [])) rows to →
    (rows ≡ with_sides 0 0 ∷ []) × (to 7 ≡ 1) × (to 255 ≡ 1)
