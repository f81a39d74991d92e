-- The packed text of a pattern's rows, by the packer's rule: of the spellings of its normal rows, the one that names an
-- instrument and a command only where it must, and gathers rests.
use Rattle.std.specs.Prelude.{ℕ, zero, suc, min, Bool, ◌&&◌, ◌==◌, if◌then◌else◌, List, [], ◌∷◌}
use Rattle.song_model.specs.declared.rows.Row.{Row}
use Rattle.packed_form.specs.declared.entries.Command.{Command}
use Rattle.packed_form.specs.declared.entries.EntryKind.{EntryKind}
use Rattle.packed_form.specs.declared.entries.EntryKind.TheVariants.{NamedNote, NamedRest, Note, Rests}
use Rattle.packed_form.specs.declared.entries.Entry.{Entry}
use Rattle.packed_form.specs.Entries.{no_command, command_of, more_rests}
use Rattle.packed_form.specs.Normal.{normal_rows}
use Rattle.packed_form.specs.PackedSpells.{text_of}

-- the row keeps the running command
abbrev pub keeps : Command → Row → Bool
keeps running row = row.command == running.number && row.param == running.param

-- a rest that names nothing
abbrev pub is_bare_rest : Command → Row → Bool
is_bare_rest running row = row.note == 0xBD && row.instrument == 0 && keeps running row

-- how many such rests there are before any other row
abbrev pub rests_in_front : Command → List Row → ℕ
rests_in_front running [] = 0
rests_in_front running (row ∷ rows) = if is_bare_rest running row then suc (rests_in_front running rows) else 0

-- a row, before these others: a command is named exactly where it isn't the running one; a rest that names none gathers
-- the rests behind it that name nothing, at most 63
abbrev pub first_kind : Command → Row → List Row → EntryKind
first_kind running row rows =
    if keeps running row
    then (if row.note == 0xBD then Rests (min 63 (rests_in_front (command_of row) rows)) else Note row.note)
    else (if row.note == 0xBD then NamedRest (command_of row) else NamedNote (command_of row) row.note)

-- an instrument is named exactly where the row's isn't 0
abbrev pub first_entry : Command → Row → List Row → Entry
first_entry running row rows = record { instrument = row.instrument; kind = first_kind running row rows }

-- the entries of the rows but for the first ones, so many as the entry before has gathered
abbrev pub entries_from : Command → ℕ → List Row → List Entry
entries_from running gathered [] = []
entries_from running zero (row ∷ rows) =
    first_entry running row rows ∷ entries_from (command_of row) (more_rests (first_kind running row rows)) rows
entries_from running (suc gathered) (row ∷ rows) = entries_from running gathered rows

-- the entries of normal rows
abbrev pub packed_entries : List Row → List Entry
packed_entries rows = entries_from no_command 0 rows

unfoldable pub packed_text : List Row → List ℕ
packed_text rows = text_of (packed_entries (normal_rows rows))
