-- What the bytes of a packed pattern spell, from this project's own packed form: entries one after the other, and a
-- last byte $00.
use Rattle.std.specs.Prelude.{◌≡◌, ℕ, List, [], ◌∷◌, ◌++◌, length, All}
use Rattle.std.specs.List.{flat_map}
use Rattle.song_model.specs.declared.rows.Row.{Row}
use Rattle.song_model.specs.PatternLimits.{IsPatternLength}
use Rattle.packed_form.specs.declared.entries.Entry.{Entry}
use Rattle.packed_form.specs.Entries.{IsEntry, entry_bytes, no_command, rows_from}

-- the bytes are these entries and the end
abbrev pub text_of : List Entry → List ℕ
text_of entries = flat_map entry_bytes entries ++ 0x00 ∷ []

-- there are entries that are the bytes, and whose rows are these, 1 to 128 of them
pub record PackedSpells (bytes : List ℕ) (rows : List Row) : Type 0 where
  pub entries : List Entry
  pub each : All IsEntry entries
  pub text : bytes ≡ text_of entries
  pub are : rows ≡ rows_from no_command entries
  pub count : IsPatternLength (length rows)
