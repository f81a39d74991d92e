-- The rows of entries in their ranges are in theirs.
use Rattle.std.proofs.Common.{◌≡◌, ℕ, ◌≤◌, List, [], ◌∷◌, ◌++◌, replicate, refl, ap, sym}
use Rattle.std.proofs.Common.{◌∙◌, append_assoc, arith}
use Rattle.std.specs.List.{All}
use Rattle.std.proofs.lemmas.List.Elements.{All-nil, All-cons, All-head, All-tail, All-append, All-replicate}
use Rattle.song_model.specs.declared.rows.Row.{Row}
use Rattle.song_model.specs.PatternLimits.{IsRow}
use Rattle.packed_form.specs.declared.entries.Command.{Command}
use Rattle.packed_form.specs.declared.entries.EntryKind.{EntryKind}
use Rattle.packed_form.specs.declared.entries.EntryKind.TheVariants.{NamedNote, NamedRest, Note, Rests}
use Rattle.packed_form.specs.declared.entries.Entry.{Entry}
use Rattle.packed_form.specs.Entries.{IsCommand, IsNote, IsKind, IsEntry, no_command, command_behind, entry_note}
use Rattle.packed_form.specs.Entries.{more_rests, row_with, entry_rows, rows_from}
use Rattle.pattern_pack.specs.Answers.{command_after}

pub no_command_is : IsCommand no_command
no_command_is = record { number = omega arith; param = omega arith; bare = λ _. refl }

pub behind_is : (running : Command) (kind : EntryKind) → IsCommand running → IsKind kind →
    IsCommand (command_behind running kind)
behind_is running (NamedNote command note) is kind = kind.0
behind_is running (NamedRest command) is kind = kind
behind_is running (Note note) is kind = is
behind_is running (Rests more) is kind = is

rest_is : IsNote 0xBD
rest_is = record { from = omega arith; to = omega arith }

note_is : (kind : EntryKind) → IsKind kind → IsNote (entry_note kind)
note_is (NamedNote command note) kind = kind.1
note_is (NamedRest command) kind = rest_is
note_is (Note note) kind = kind
note_is (Rests more) kind = rest_is

row_is : (note instrument : ℕ) (command : Command) → IsNote note → instrument ≤ 63 → IsCommand command →
    IsRow (row_with note instrument command)
row_is note instrument command is small of = record {
  note_from = is.from;
  note_to = is.to;
  instrument = small;
  command = of.number;
  param = of.param;
}

entry_rows_are : (running : Command) (entry : Entry) → IsCommand running → IsEntry entry →
    All IsRow (entry_rows running entry)
entry_rows_are running entry is of =
    let behind = behind_is running entry.kind is of.kind in
    let rest = row_with 0xBD 0 (command_behind running entry.kind) in
    All-cons IsRow _ (replicate (more_rests entry.kind) rest)
    (row_is (entry_note entry.kind) entry.instrument _ (note_is entry.kind of.kind) of.instrument behind)
    (All-replicate IsRow (more_rests entry.kind) rest (row_is 0xBD 0 _ rest_is (omega arith) behind))

pub rows_are : (running : Command) (entries : List Entry) → IsCommand running → All IsEntry entries →
    All IsRow (rows_from running entries)
rows_are running [] is are = All-nil IsRow
rows_are running (entry ∷ entries) is are =
    let one = All-head IsEntry entry entries are in
    let behind = command_behind running entry.kind in
    All-append IsRow (entry_rows running entry) (rows_from behind entries) (entry_rows_are running entry is one)
    (rows_are behind entries (behind_is running entry.kind is one.kind) (All-tail IsEntry entry entries are))

-- ---- entries one after the other

pub rows_from-append : (running : Command) (xs ys : List Entry) →
    rows_from running (xs ++ ys) ≡ rows_from running xs ++ rows_from (command_after running xs) ys
rows_from-append running [] ys = refl
rows_from-append running (x ∷ xs) ys =
    let behind = command_behind running x.kind in
    ap (λ (t : List Row). entry_rows running x ++ t) (rows_from-append behind xs ys)
    ∙ sym (append_assoc (entry_rows running x) (rows_from behind xs) (rows_from (command_after behind xs) ys))

pub command_after-append : (running : Command) (xs ys : List Entry) →
    command_after running (xs ++ ys) ≡ command_after (command_after running xs) ys
command_after-append running [] ys = refl
command_after-append running (x ∷ xs) ys = command_after-append (command_behind running x.kind) xs ys
