-- Fetching a normal row of a pattern does what fetching the row does, but for the parameter of command 0.
use Rattle.std.specs.Prelude.{◌≡◌, ◌≢◌, ℕ, suc, ◌<◌, ℤ, ◌==◌, if◌then◌else◌, List, []}
use Rattle.std.specs.Prelude.{◌∷◌, length, take}
use Rattle.song_model.specs.declared.rows.Row.{Row}
use Rattle.play_model.specs.LookUps.{LookUps}
use Rattle.play_model.specs.State.{Voice}
use Rattle.play_model.specs.FetchRow.{fetched_from}
use Rattle.packed_form.specs.Normal.{last_instrument, normal_rows}

-- the last instrument other than 0 behind these rows, where this was the last one before them
abbrev pub instrument_behind : ℕ → List Row → ℕ
instrument_behind last [] = last
instrument_behind last (row ∷ rows) = instrument_behind (last_instrument last row) rows

-- the voice has the instrument that was named last, where one was
abbrev pub HasNamed : ℕ → Voice → Type 0
HasNamed last v = last ≢ 0 → v.instrument ≡ last

-- the same voice, with no parameter of command 0
abbrev pub bare_param : Voice → Voice
bare_param v = record v { new_param = if v.new_command == 0 then 0 else v.new_param }

-- fetching a normal row does what fetching the row does, but for the parameter of command 0, where the voice has the
-- instrument that an earlier row of the pattern named last; and then it has the one that is named last behind the row
abbrev pub NormalRowsAreFetched : Type 0
NormalRowsAreFetched =
    (look : LookUps) (rows : List Row) (transpose : ℤ) (v : Voice) → v.row < length rows →
    HasNamed (instrument_behind 0 (take v.row rows)) v →
    (fetched_from look (normal_rows rows) transpose v ≡ bare_param (fetched_from look rows transpose v))
    × HasNamed (instrument_behind 0 (take (suc v.row) rows)) (fetched_from look rows transpose v)
