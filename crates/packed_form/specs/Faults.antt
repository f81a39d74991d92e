-- The first fault of bytes that are no packed pattern, from this project's own packed form: they are taken byte by byte,
-- from the left.
use Rattle.std.specs.Prelude.{ℕ, ◌+◌, ◌-◌, Bool, ◌&&◌, ◌||◌, not, nat_lt, nat_le, ◌==◌}
use Rattle.std.specs.Prelude.{if◌then◌else◌, List, [], ◌∷◌, length, Option, Some, None, Result, Ok, Err}
use Rattle.song_model.specs.declared.rows.Row.{Row}
use Rattle.song_model.specs.declared.patterns.TheConstants.{MOST_ROWS}
use Rattle.packed_form.specs.declared.entries.EntryKind.TheVariants.{NamedNote, NamedRest, Note, Rests}
use Rattle.packed_form.specs.declared.entries.Entry.{Entry}
use Rattle.packed_form.specs.declared.faults.PackedFault.{PackedFault}
use Rattle.packed_form.specs.declared.faults.PackedFault.TheVariants.{BadByte, NoEnd, BadLength}
use Rattle.packed_form.specs.declared.places.Place.{Place}
use Rattle.packed_form.specs.declared.places.Place.TheVariants.{AtEntry, AtNoteParam, AtRestParam, AtNote}
use Rattle.packed_form.specs.declared.places.Taken.{Taken}
use Rattle.packed_form.specs.declared.places.Taken.TheVariants.{On, Made, End}
use Rattle.packed_form.specs.Entries.{no_command, rows_from}

-- the parameter of command 0 is 0
abbrev pub has_param : ℕ → ℕ → Bool
has_param number param = not (number == 0) || param == 0

-- what a byte does at a place: it leads to a place within an entry, it ends an entry, it ends the pattern; or no entry
-- admits it. Behind an instrument neither another one nor the end may stand.
abbrev pub taken : Place → ℕ → Option Taken
taken (AtEntry instrument) byte =
    if byte == 0x00 then (if instrument == 0 then Some End else None)
    else if nat_lt byte 0x40 then (if instrument == 0 then Some (On (AtEntry byte)) else None)
    else if nat_lt byte 0x50 then Some (On (AtNoteParam instrument (byte - 0x40)))
    else if nat_lt byte 0x60 then Some (On (AtRestParam instrument (byte - 0x50)))
    else if nat_lt byte 0xC0 then Some (Made (record { instrument = instrument; kind = Note byte }))
    else Some (Made (record { instrument = instrument; kind = Rests (byte - 0xC0) }))
taken (AtNoteParam instrument number) byte =
    if has_param number byte then Some (On (AtNote instrument (record { number = number; param = byte }))) else None
taken (AtRestParam instrument number) byte =
    if has_param number byte
    then Some (Made (record { instrument = instrument; kind = NamedRest (record { number = number; param = byte }) }))
    else None
taken (AtNote instrument command) byte =
    if nat_le 0x60 byte && nat_lt byte 0xC0
    then Some (Made (record { instrument = instrument; kind = NamedNote command byte }))
    else None

-- an entry before others, where these have no fault
abbrev pub with_entry : Entry → Result (List Entry) PackedFault → Result (List Entry) PackedFault
with_entry entry (Ok entries) = Ok (entry ∷ entries)
with_entry entry (Err fault) = Err fault

-- what was done with the byte at this offset, these bytes follow it, and this is what they give from a place on;
-- a byte behind the end is a bad one
abbrev pub goes_on : Option Taken → ℕ → List ℕ → (Place → Result (List Entry) PackedFault) →
    Result (List Entry) PackedFault
goes_on None offset others from_place = Err (BadByte offset)
goes_on (Some (On place)) offset others from_place = from_place place
goes_on (Some (Made entry)) offset others from_place = with_entry entry (from_place (AtEntry 0))
goes_on (Some End) offset [] from_place = Ok []
goes_on (Some End) offset (byte ∷ others) from_place = Err (BadByte (offset + 1))

-- the entries of bytes that begin at this offset and place, up to the end of the pattern, or the first fault
abbrev pub entries_at : ℕ → Place → List ℕ → Result (List Entry) PackedFault
entries_at offset place [] = Err NoEnd
entries_at offset place (byte ∷ others) =
    goes_on (taken place byte) offset others (λ next. entries_at (offset + 1) next others)

-- a pattern has 1 to 128 rows
abbrev pub within_length : List Row → Result (List Row) PackedFault
within_length rows = if nat_le 1 (length rows) && nat_le (length rows) MOST_ROWS then Ok rows else Err BadLength

-- the rows are counted where the end has been found
abbrev pub rows_within : Result (List Entry) PackedFault → Result (List Row) PackedFault
rows_within (Ok entries) = within_length (rows_from no_command entries)
rows_within (Err fault) = Err fault

abbrev pub unpacked : List ℕ → Result (List Row) PackedFault
unpacked bytes = rows_within (entries_at 0 (AtEntry 0) bytes)

abbrev pub fault_in : {X : Type 0} → Result X PackedFault → Option PackedFault
fault_in (Ok x) = None
fault_in (Err fault) = Some fault

-- the first fault, or none where there is none
unfoldable pub packed_fault_of : List ℕ → Option PackedFault
packed_fault_of bytes = fault_in (unpacked bytes)
