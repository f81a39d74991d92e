-- How the answer of a call stands to what reading gives, and what is kept of the rows that were read.
use Rattle.std.specs.Prelude.{◌≡◌, ◌≢◌, ◌⊎◌, ◌+◌, ◌≤◌, List, [], ◌∷◌, ◌++◌}
use Rattle.std.specs.Prelude.{length, take, Option, Some, None, Result, Ok, Err}
use Rattle.song_model.specs.declared.rows.Row.{Row}
use Rattle.song_model.specs.declared.patterns.TheConstants.{MOST_ROWS}
use Rattle.packed_form.specs.declared.entries.Command.{Command}
use Rattle.packed_form.specs.declared.entries.Entry.{Entry}
use Rattle.packed_form.specs.declared.places.Place.{Place}
use Rattle.packed_form.specs.declared.places.Place.TheVariants.{AtEntry}
use Rattle.packed_form.specs.declared.places.Taken.{Taken}
use Rattle.packed_form.specs.declared.places.Taken.TheVariants.{On, Made, End}
use Rattle.pattern_pack.specs.declared.rows.Rows.{Rows}
use Rattle.packed_form.specs.declared.faults.PackedFault.{PackedFault}
use Rattle.packed_form.specs.declared.faults.PackedFault.TheVariants.{NoMemory}
use Rattle.packed_form.specs.Entries.{command_behind, no_command, rows_from}

-- the answer is the wanted one, unless it is out of memory
abbrev pub IsAnswer : {X : Type 0} → Result X PackedFault → Result X PackedFault → Type 0
IsAnswer result wanted = (result ≡ wanted) ⊎ (result ≡ Err NoMemory)

-- the answer is what reading gives, unless it is out of memory
abbrev pub Gives : {X : Type 0} → Result X PackedFault → Result X PackedFault → Type 0
Gives (Ok x) reading = reading ≡ Ok x
Gives (Err fault) reading = fault ≢ NoMemory → reading ≡ Err fault

-- the running command behind entries, where this one was running before them
abbrev pub command_after : Command → List Entry → Command
command_after running [] = running
command_after running (entry ∷ entries) = command_after (command_behind running entry.kind) entries

-- what is kept of all rows: the first 128, and their number
pub record RowsAre (rows : Rows) (all : List Row) : Type 0 where
  pub kept : rows.kept.items ≡ take MOST_ROWS all
  pub count : rows.count ≡ length all

-- what is kept of the rows of a pattern's first entries
pub record RowsOf (rows : Rows) (done : List Entry) : Type 0 where
  pub are : RowsAre rows (rows_from no_command done)
  pub running : rows.running ≡ command_after no_command done

-- what becomes of the rows by what a byte does, and where the next byte stands
abbrev pub GoesOn : Rows → Taken → Rows → Option Place → Type 0
GoesOn before (On place) after next = (next ≡ Some place) × (after ≡ before)
GoesOn before (Made entry) after next =
    (next ≡ Some (AtEntry 0)) × ((done : List Entry) → RowsOf before done → RowsOf after (done ++ entry ∷ []))
    × (after.count ≤ before.count + 256)
GoesOn before End after next = (next ≡ None) × (after ≡ before)
