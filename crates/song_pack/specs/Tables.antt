-- The tables of a song as they are packed, with the new numbers of their rows.
use Rattle.std.specs.Prelude.{◌≡◌, ℕ}
use Rattle.song_model.specs.declared.tables.TableName.{TableName}
use Rattle.song_model.specs.declared.tables.TableName.TheVariants.{Speed}
use Rattle.song_model.specs.declared.songs.Song.{Song}
use Rattle.packing_rules.specs.UsedSets.{UsedSets}
use Rattle.packing_rules.specs.Renumbering.{wave_programs, pulse_programs, filter_programs, program_rows, table_number}
use Rattle.song_pack.specs.declared.tables.PackedTables.{PackedTables}
use Rattle.song_pack.specs.Numbers.{row_of}
use Rattle.song_pack.specs.Packed.{AreSpeeds}

pub record AreTables (song : Song) (used : UsedSets) (tables : PackedTables) : Type 0 where
  pub wave : tables.wave ≡ program_rows (wave_programs song used)
  pub pulse : tables.pulse ≡ program_rows (pulse_programs song used)
  pub filter : tables.filter ≡ program_rows (filter_programs song used)
  pub speed : AreSpeeds song (used.pointers Speed) tables.speed
  pub numbers : (name : TableName) (p : ℕ) → row_of tables.numbers name p ≡ table_number song used name p
