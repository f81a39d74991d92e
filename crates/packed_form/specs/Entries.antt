-- The entries of a packed pattern, from this project's own packed form: how each is spelled, and which rows it is.
use Rattle.std.specs.Prelude.{◌≡◌, ℕ, ◌+◌, ◌≤◌, ◌==◌, if◌then◌else◌, List, [], ◌∷◌}
use Rattle.std.specs.Prelude.{◌++◌, replicate}
use Rattle.song_model.specs.declared.rows.Row.{Row}
use Rattle.song_model.specs.Basics.{IsByte}
use Rattle.packed_form.specs.declared.entries.Command.{Command}
use Rattle.packed_form.specs.declared.entries.EntryKind.{EntryKind}
use Rattle.packed_form.specs.declared.entries.EntryKind.TheVariants.{NamedNote, NamedRest, Note, Rests}
use Rattle.packed_form.specs.declared.entries.Entry.{Entry}

-- ---- ranges

-- a command, and a parameter that is 0 for command 0
pub record IsCommand (command : Command) : Type 0 where
  pub number : command.number ≤ 0x0F
  pub param : IsByte command.param
  pub bare : command.number ≡ 0 → command.param ≡ 0

-- a note, a rest, keyoff or keyon
pub record IsNote (note : ℕ) : Type 0 where
  pub from : 0x60 ≤ note
  pub to : note ≤ 0xBF

abbrev pub IsKind : EntryKind → Type 0
IsKind (NamedNote command note) = IsCommand command × IsNote note
IsKind (NamedRest command) = IsCommand command
IsKind (Note note) = IsNote note
IsKind (Rests more) = more ≤ 63

pub record IsEntry (entry : Entry) : Type 0 where
  pub instrument : entry.instrument ≤ 0x3F
  pub kind : IsKind entry.kind

-- ---- bytes

-- an instrument's byte, which isn't there for instrument 0
abbrev pub instrument_bytes : ℕ → List ℕ
instrument_bytes instrument = if instrument == 0 then [] else instrument ∷ []

abbrev pub kind_bytes : EntryKind → List ℕ
kind_bytes (NamedNote command note) = (0x40 + command.number) ∷ command.param ∷ note ∷ []
kind_bytes (NamedRest command) = (0x50 + command.number) ∷ command.param ∷ []
kind_bytes (Note note) = note ∷ []
kind_bytes (Rests more) = (0xC0 + more) ∷ []

-- the instrument stands first
abbrev pub entry_bytes : Entry → List ℕ
entry_bytes entry = instrument_bytes entry.instrument ++ kind_bytes entry.kind

-- ---- rows

-- the command with which each pattern begins
abbrev pub no_command : Command
no_command = record { number = 0; param = 0 }

-- the running command from the entry's first row on: the one that it names, or else the one before
abbrev pub command_behind : Command → EntryKind → Command
command_behind running (NamedNote command note) = command
command_behind running (NamedRest command) = command
command_behind running (Note note) = running
command_behind running (Rests more) = running

-- the note of the entry's first row
abbrev pub entry_note : EntryKind → ℕ
entry_note (NamedNote command note) = note
entry_note (NamedRest command) = 0xBD
entry_note (Note note) = note
entry_note (Rests more) = 0xBD

-- how many rests follow the first row
abbrev pub more_rests : EntryKind → ℕ
more_rests (NamedNote command note) = 0
more_rests (NamedRest command) = 0
more_rests (Note note) = 0
more_rests (Rests more) = more

abbrev pub row_with : ℕ → ℕ → Command → Row
row_with note instrument command = record {
  note = note;
  instrument = instrument;
  command = command.number;
  param = command.param;
}

-- the instrument belongs to the first row, the command to each
abbrev pub entry_rows : Command → Entry → List Row
entry_rows running entry =
    row_with (entry_note entry.kind) entry.instrument (command_behind running entry.kind)
    ∷ replicate (more_rests entry.kind) (row_with 0xBD 0 (command_behind running entry.kind))

-- the rows of entries, one after the other, where this command is running before the first
abbrev pub rows_from : Command → List Entry → List Row
rows_from running [] = []
rows_from running (entry ∷ entries) = entry_rows running entry ++ rows_from (command_behind running entry.kind) entries

-- the command of a row
abbrev pub command_of : Row → Command
command_of row = record { number = row.command; param = row.param }
