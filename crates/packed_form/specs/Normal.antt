-- Normal rows, from this project's own packed form: the rows with nothing said twice.
use Rattle.std.specs.Prelude.{ℕ, ◌==◌, if◌then◌else◌, List, [], ◌∷◌}
use Rattle.song_model.specs.declared.rows.Row.{Row}

-- the last instrument other than 0, from this row on
abbrev pub last_instrument : ℕ → Row → ℕ
last_instrument last row = if row.instrument == 0 then last else row.instrument

-- an instrument that is the last one becomes 0, and so does the parameter of command 0
abbrev pub normal_row : ℕ → Row → Row
normal_row last row = record {
  note = row.note;
  instrument = if row.instrument == last then 0 else row.instrument;
  command = row.command;
  param = if row.command == 0 then 0 else row.param;
}

-- behind rows whose last instrument other than 0 is this one
abbrev pub normal_from : ℕ → List Row → List Row
normal_from last [] = []
normal_from last (row ∷ rows) = normal_row last row ∷ normal_from (last_instrument last row) rows

-- at the beginning of a pattern there is no last instrument
abbrev pub normal_rows : List Row → List Row
normal_rows rows = normal_from 0 rows
