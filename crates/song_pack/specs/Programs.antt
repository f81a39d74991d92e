-- A table of programs, and the speed table, as they are packed.
use Rattle.std.specs.Prelude.{◌≡◌, ℕ, Bool, List, slice_index}
use Rattle.song_model.specs.declared.tables.TableRow.{TableRow}
use Rattle.song_model.specs.declared.songs.Song.{Song}
use Rattle.packing_rules.specs.Segments.{ProgramTable}
use Rattle.packing_rules.specs.Renumbering.{speed_number, program_number, program_rows}
use Rattle.song_pack.specs.Packed.{AreSpeeds}

-- the rows that stay, and the new number of each row
pub record IsPackedTable (table : ProgramTable) (rows : List TableRow) (to : List ℕ) : Type 0 where
  pub rows_are : rows ≡ program_rows table
  pub numbers : (p : ℕ) → slice_index to p ≡ program_number table p

-- the rows of the speed table, each once, and the new number of each
pub record AreMadeSpeeds (song : Song) (used : ℕ → Bool) (rows : List TableRow) (to : List ℕ) : Type 0 where
  pub rows_are : AreSpeeds song used rows
  pub number : (p : ℕ) → slice_index to p ≡ speed_number song used p
