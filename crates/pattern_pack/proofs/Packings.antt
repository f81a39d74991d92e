-- What is packed is the normal rows, in entries that are in their ranges.
use Rattle.std.proofs.Common.{◌≡◌, ℕ, zero, suc, ◌≤◌, min, Bool, true, false, cond, eqb, ◌&&◌, List}
use Rattle.std.proofs.Common.{[], ◌∷◌, ◌++◌, length, drop, replicate, refl, ap, sym, subst, ◌∙◌}
use Rattle.std.proofs.Common.{append_assoc, arith, length-append}
use Rattle.std.specs.List.{All, flat_map}
use Rattle.std.proofs.Math.Nat.{min-le_left, min-le_right}
use Rattle.std.proofs.lemmas.Bool.{eqb-true, eqb-false, and_parts}
use Rattle.std.proofs.lemmas.List.Elements.{All-nil, All-cons, All-head, All-tail, All-drop}
use Rattle.song_model.specs.declared.rows.Row.{Row}
use Rattle.song_model.specs.PatternLimits.{IsRow}
use Rattle.packed_form.specs.declared.entries.Command.{Command}
use Rattle.packed_form.specs.declared.entries.EntryKind.{EntryKind}
use Rattle.packed_form.specs.declared.entries.EntryKind.TheVariants.{NamedNote, NamedRest, Note, Rests}
use Rattle.packed_form.specs.declared.entries.Entry.{Entry}
use Rattle.packed_form.specs.Entries.{IsCommand, IsKind, IsEntry, instrument_bytes, kind_bytes, entry_bytes}
use Rattle.packed_form.specs.Entries.{command_behind, entry_note, more_rests, row_with, rows_from, command_of}
use Rattle.packed_form.specs.Normal.{last_instrument, normal_row, normal_from}
use Rattle.packed_form.specs.PackedText.{keeps, is_bare_rest, rests_in_front, first_kind, first_entry, entries_from}

-- ---- rests that name nothing

pub record Keeps (running : Command) (row : Row) : Type 0 where
  pub number : row.command ≡ running.number
  pub param : row.param ≡ running.param

keeps_is : (running : Command) (row : Row) → keeps running row ≡ true → Keeps running row
keeps_is running row e =
    let parts = and_parts (eqb row.command running.number) (eqb row.param running.param) e in
    record { number = eqb-true _ _ parts.0; param = eqb-true _ _ parts.1 }

pub keeps_command : (running : Command) (row : Row) → Keeps running row → running ≡ command_of row
keeps_command running row is =
    ap (λ (n : ℕ). record { number = n; param = running.param }) (sym is.number)
    ∙ ap (λ (p : ℕ). record { number = row.command; param = p }) (sym is.param)

pub record IsBareRest (running : Command) (row : Row) : Type 0 where
  pub note : row.note ≡ 0xBD
  pub instrument : row.instrument ≡ 0
  pub keeps : Keeps running row

pub bare_is : (running : Command) (row : Row) → is_bare_rest running row ≡ true → IsBareRest running row
bare_is running row e =
    let a = and_parts (eqb row.note 189 && eqb row.instrument 0) (keeps running row) e in
    let b = and_parts (eqb row.note 189) (eqb row.instrument 0) a.0 in
    record { note = eqb-true _ _ b.0; instrument = eqb-true _ _ b.1; keeps = keeps_is running row a.1 }

same_row : (row : Row) (note instrument command param : ℕ) → row.note ≡ note → row.instrument ≡ instrument →
    row.command ≡ command → row.param ≡ param →
    row_with note instrument (record { number = command; param = param }) ≡ row
same_row row note instrument command param a b c d = rw (sym a, sym b, sym c, sym d) refl

bare_row : (running : Command) (row : Row) → IsBareRest running row → row_with 0xBD 0 running ≡ row
bare_row running row is =
    same_row row 0xBD 0 running.number running.param is.note is.instrument is.keeps.number is.keeps.param

front_step : (running : Command) (row : Row) (rows : List Row) (k : ℕ)
    → (k ≤ rests_in_front running rows → replicate k (row_with 0xBD 0 running) ++ drop k rows ≡ rows)
    → (z : Bool) → is_bare_rest running row ≡ z → suc k ≤ cond z (suc (rests_in_front running rows)) 0 →
    row_with 0xBD 0 running ∷ (replicate k (row_with 0xBD 0 running) ++ drop k rows) ≡ row ∷ rows
front_step running row rows k rest true e few =
    ap (λ (r : Row). r ∷ (replicate k (row_with 0xBD 0 running) ++ drop k rows)) (bare_row running row (bare_is running row e))
    ∙ ap (λ (t : List Row). row ∷ t) (rest (omega arith))
front_step running row rows k rest false e few = absurd (omega arith)

-- the rests in front of rows are these rows
pub front_are_rests : (rows : List Row) (running : Command) (k : ℕ) → k ≤ rests_in_front running rows →
    replicate k (row_with 0xBD 0 running) ++ drop k rows ≡ rows
front_are_rests rows running zero few = refl
front_are_rests [] running (suc k) few = absurd (omega arith)
front_are_rests (row ∷ rows) running (suc k) few =
    front_step running row rows k (front_are_rests rows running k) (is_bare_rest running row) refl few

front_fits_step : (n most : ℕ) (z : Bool) → n ≤ most → cond z (suc n) 0 ≤ suc most
front_fits_step n most true few = omega arith
front_fits_step n most false few = omega arith

pub front_fits : (running : Command) (rows : List Row) → rests_in_front running rows ≤ length rows
front_fits running [] = omega arith
front_fits running (row ∷ rows) =
    front_fits_step (rests_in_front running rows) (length rows) (is_bare_rest running row) (front_fits running rows)

-- ---- the entry of a row

-- a row that can be named: command 0 has parameter 0
pub record IsPlain (row : Row) : Type 0 where
  pub is : IsRow row
  pub bare : row.command ≡ 0 → row.param ≡ 0

plain_command : (row : Row) → IsPlain row → IsCommand (command_of row)
plain_command row plain = record { number = plain.is.command; param = plain.is.param; bare = plain.bare }

pub record FirstIs (running : Command) (row : Row) (rows : List Row) (kind : EntryKind) : Type 0 where
  pub command : command_behind running kind ≡ command_of row
  pub note : entry_note kind ≡ row.note
  pub more : more_rests kind ≤ rests_in_front (command_of row) rows
  pub range : IsPlain row → IsKind kind

kind_is : (running : Command) (row : Row) (rows : List Row) (z b : Bool) → keeps running row ≡ z →
    eqb row.note 189 ≡ b
    → FirstIs running row rows (
    cond z (cond b (Rests (min 63 (rests_in_front (command_of row) rows))) (Note row.note))
    (cond b (NamedRest (command_of row)) (NamedNote (command_of row) row.note)))
kind_is running row rows true true hz hb = record {
  command = keeps_command running row (keeps_is running row hz);
  note = sym (eqb-true row.note 189 hb);
  more = min-le_right 63 (rests_in_front (command_of row) rows);
  range = λ plain. min-le_left 63 (rests_in_front (command_of row) rows);
}
kind_is running row rows true false hz hb = record {
  command = keeps_command running row (keeps_is running row hz);
  note = refl;
  more = omega arith;
  range = λ plain. record { from = plain.is.note_from; to = plain.is.note_to };
}
kind_is running row rows false true hz hb = record {
  command = refl;
  note = sym (eqb-true row.note 189 hb);
  more = omega arith;
  range = λ plain. plain_command row plain;
}
kind_is running row rows false false hz hb = record {
  command = refl;
  note = refl;
  more = omega arith;
  range = λ plain. (plain_command row plain, record { from = plain.is.note_from; to = plain.is.note_to });
}

pub first_is : (running : Command) (row : Row) (rows : List Row) → FirstIs running row rows (first_kind running row rows)
first_is running row rows = kind_is running row rows (keeps running row) (eqb row.note 189) refl refl

pub entry_is : (running : Command) (row : Row) (rows : List Row) → IsPlain row → IsEntry (first_entry running row rows)
entry_is running row rows plain =
    let first = first_is running row rows in
    record { instrument = plain.is.instrument; kind = first.range plain }

pub more_fits : (running : Command) (row : Row) (rows : List Row) → more_rests (first_kind running row rows) ≤ length rows
more_fits running row rows =
    let first = first_is running row rows in
    omega (arith, first.more, front_fits (command_of row) rows)

-- ---- the entries of rows

-- rows that were gathered are passed over
pub gathered_rows : (rows : List Row) (running : Command) (k : ℕ) →
    entries_from running k rows ≡ entries_from running 0 (drop k rows)
gathered_rows [] running zero = refl
gathered_rows [] running (suc k) = refl
gathered_rows (row ∷ rows) running zero = refl
gathered_rows (row ∷ rows) running (suc k) = gathered_rows rows running k

one_entry : (row : Row) (rows : List Row) (behind : Command) (note more : ℕ) (entries : List Entry) →
    behind ≡ command_of row → note ≡ row.note → more ≤ rests_in_front (command_of row) rows →
    rows_from (command_of row) entries ≡ drop more rows →
    row_with note row.instrument behind ∷ (replicate more (row_with 0xBD 0 behind) ++ rows_from behind entries)
    ≡ row ∷ rows
one_entry row rows behind note more entries command same few rest =
    rw (command, same, rest) (ap (λ (t : List Row). row ∷ t) (front_are_rests rows (command_of row) more few))

-- the rows of the entries of rows are these rows
pub rows_of_entries : (rows : List Row) (running : Command) (k : ℕ) →
    rows_from running (entries_from running k rows) ≡ drop k rows
rows_of_entries [] running zero = refl
rows_of_entries [] running (suc k) = refl
rows_of_entries (row ∷ rows) running zero =
    let kind = first_kind running row rows in
    let first = first_is running row rows in
    one_entry row rows (command_behind running kind) (entry_note kind) (more_rests kind)
    (entries_from (command_of row) (more_rests kind) rows) first.command first.note first.more
    (rows_of_entries rows (command_of row) (more_rests kind))
rows_of_entries (row ∷ rows) running (suc k) = rows_of_entries rows running k

pub entries_are : (rows : List Row) (running : Command) (k : ℕ) → All IsPlain rows →
    All IsEntry (entries_from running k rows)
entries_are [] running zero are = All-nil IsEntry
entries_are [] running (suc k) are = All-nil IsEntry
entries_are (row ∷ rows) running zero are =
    let more = more_rests (first_kind running row rows) in
    All-cons IsEntry (first_entry running row rows) (entries_from (command_of row) more rows)
    (entry_is running row rows (All-head IsPlain row rows are))
    (entries_are rows (command_of row) more (All-tail IsPlain row rows are))
entries_are (row ∷ rows) running (suc k) are = entries_are rows running k (All-tail IsPlain row rows are)

-- ---- normal rows

small_cond : (a b n : ℕ) (z : Bool) → a ≤ n → b ≤ n → cond z a b ≤ n
small_cond a b n true ha hb = ha
small_cond a b n false ha hb = hb

bare_param : (command param : ℕ) → command ≡ 0 → cond (eqb command 0) 0 param ≡ 0
bare_param command param e = rw e refl

pub normal_is_plain : (last : ℕ) (row : Row) → IsRow row → IsPlain (normal_row last row)
normal_is_plain last row is =
    let byte = is.param in
    let small = small_cond 0 row.param 255 (eqb row.command 0) (omega arith) (omega arith) in
    record {
      is = record {
        note_from = is.note_from;
        note_to = is.note_to;
        instrument = small_cond 0 row.instrument 63 (eqb row.instrument last) (omega arith) is.instrument;
        command = is.command;
        param = omega (arith, small);
      };
      bare = bare_param row.command row.param;
    }

pub normal_are_plain : (rows : List Row) (last : ℕ) → All IsRow rows → All IsPlain (normal_from last rows)
normal_are_plain [] last are = All-nil IsPlain
normal_are_plain (row ∷ rows) last are =
    All-cons IsPlain (normal_row last row) (normal_from (last_instrument last row) rows)
    (normal_is_plain last row (All-head IsRow row rows are))
    (normal_are_plain rows (last_instrument last row) (All-tail IsRow row rows are))

pub normal_length : (rows : List Row) (last : ℕ) → length (normal_from last rows) ≡ length rows
normal_length [] last = refl
normal_length (row ∷ rows) last = ap suc (normal_length rows (last_instrument last row))

stays : (last instrument : ℕ) (z e : Bool) → eqb instrument last ≡ z → eqb instrument 0 ≡ e →
    cond z 0 instrument ≡ 0 → cond e last instrument ≡ last
stays last instrument z true hz he h = refl
stays last instrument true false hz he h = eqb-true instrument last hz
stays last instrument false false hz he h = absurd (eqb-false instrument 0 he h)

-- behind a row that names no instrument the last one is the same
pub last_stays : (last : ℕ) (row : Row) → (normal_row last row).instrument ≡ 0 → last_instrument last row ≡ last
last_stays last row h = stays last row.instrument (eqb row.instrument last) (eqb row.instrument 0) refl refl h

drop_step : (last : ℕ) (row : Row) (rows : List Row) (running : Command) (k : ℕ)
    → (k ≤ rests_in_front running (normal_from last rows) →
    drop k (normal_from last rows) ≡ normal_from last (drop k rows))
    → (z : Bool) → is_bare_rest running (normal_row last row) ≡ z →
    suc k ≤ cond z (suc (rests_in_front running (normal_from (last_instrument last row) rows))) 0 →
    drop k (normal_from (last_instrument last row) rows) ≡ normal_from last (drop k rows)
drop_step last row rows running k rest true e few =
    let same = last_stays last row (bare_is running (normal_row last row) e).instrument in
    let few' : suc k ≤ suc (rests_in_front running (normal_from last rows)) =
    subst (λ (l : ℕ). suc k ≤ suc (rests_in_front running (normal_from l rows))) same few in
    ap (λ (l : ℕ). drop k (normal_from l rows)) same ∙ rest (omega arith)
drop_step last row rows running k rest false e few = absurd (omega arith)

-- behind rests that name nothing the normal rows are those of the rows that are left
pub normal_drop : (rows : List Row) (last : ℕ) (running : Command) (k : ℕ) →
    k ≤ rests_in_front running (normal_from last rows) → drop k (normal_from last rows) ≡ normal_from last (drop k rows)
normal_drop rows last running zero few = refl
normal_drop [] last running (suc k) few = refl
normal_drop (row ∷ rows) last running (suc k) few =
    drop_step last row rows running k (normal_drop rows last running k) (is_bare_rest running (normal_row last row)) refl
    few

-- ---- the text of normal rows, entry by entry

instrument_short : (instrument : ℕ) (z : Bool) → length (cond z [] (instrument ∷ [])) ≤ 1
instrument_short instrument true = omega arith
instrument_short instrument false = omega arith

kind_short : (kind : EntryKind) → length (kind_bytes kind) ≤ 3
kind_short (NamedNote command note) = omega arith
kind_short (NamedRest command) = omega arith
kind_short (Note note) = omega arith
kind_short (Rests more) = omega arith

pub entry_short : (entry : Entry) → length (entry_bytes entry) ≤ 4
entry_short entry =
    omega (
      arith,
      length-append (instrument_bytes entry.instrument) (kind_bytes entry.kind),
      instrument_short entry.instrument (eqb entry.instrument 0),
      kind_short entry.kind,
    )

text_on : (last : ℕ) (running : Command) (row : Row) (others : List Row) →
    entry_bytes (first_entry running (normal_row last row) (normal_from (last_instrument last row) others))
    ++ flat_map entry_bytes (entries_from (command_of (normal_row last row)) 0 (normal_from (last_instrument last row)
    (drop (more_rests (first_kind running (normal_row last row) (normal_from (last_instrument last row) others))) others)))
    ≡ flat_map entry_bytes (entries_from running 0 (normal_from last (row ∷ others)))
text_on last running row others =
    let normal = normal_row last row in
    let next = last_instrument last row in
    let rest = normal_from next others in
    let more = more_rests (first_kind running normal rest) in
    let first = first_is running normal rest in
    ap (λ (t : List Entry). entry_bytes (first_entry running normal rest) ++ flat_map entry_bytes t)
    (sym (gathered_rows rest (command_of normal) more
    ∙ ap (entries_from (command_of normal) 0) (normal_drop others next (command_of normal) more first.more)))

pub pack_step : (whole text text' : List ℕ) (last last' : ℕ) (running running' : Command) (row : Row)
    (others left left' : List Row) (entry : Entry) (more : ℕ)
    → text ++ flat_map entry_bytes (entries_from running 0 (normal_from last left)) ≡ whole → left ≡ row ∷ others →
    text' ≡ text ++ entry_bytes entry → left' ≡ drop more others → more ≡ more_rests entry.kind →
    entry ≡ first_entry running (normal_row last row) (normal_from last' others) →
    running' ≡ command_of (normal_row last row) → last' ≡ last_instrument last row →
    text' ++ flat_map entry_bytes (entries_from running' 0 (normal_from last' left')) ≡ whole
pack_step whole text text' last last' running running' row others left left' entry more h el et ed em ee er ei =
    rw (et, ed, em, ee, er, ei) (
    append_assoc text _ _
    ∙ ap (λ (t : List ℕ). text ++ t) (text_on last running row others)
    ∙ ap (λ (l : List Row). text ++ flat_map entry_bytes (entries_from running 0 (normal_from last l))) (sym el)
    ∙ h
    )

pub entry_in_range : (last last' : ℕ) (running : Command) (row : Row) (others left : List Row) (entry : Entry) →
    All IsRow left → left ≡ row ∷ others →
    entry ≡ first_entry running (normal_row last row) (normal_from last' others) → IsEntry entry
entry_in_range last last' running row others left entry are el ee =
    subst IsEntry (sym ee)
    (entry_is running (normal_row last row) (normal_from last' others)
    (normal_is_plain last row (All-head IsRow row others (subst (All IsRow) el are))))

pub entry_fits : (last last' : ℕ) (running : Command) (row : Row) (others : List Row) (entry : Entry) (more : ℕ) →
    entry ≡ first_entry running (normal_row last row) (normal_from last' others) → more ≡ more_rests entry.kind →
    more ≤ length others
entry_fits last last' running row others entry more ee em =
    rw (em, ee) (subst (λ (n : ℕ). more_rests (first_kind running (normal_row last row) (normal_from last' others)) ≤ n)
    (normal_length others last') (more_fits running (normal_row last row) (normal_from last' others)))

pub each_left : (row : Row) (others left left' : List Row) (more : ℕ) → All IsRow left → left ≡ row ∷ others →
    left' ≡ drop more others → All IsRow left'
each_left row others left left' more are el ed =
    subst (All IsRow) (sym ed) (All-drop IsRow more others (All-tail IsRow row others (subst (All IsRow) el are)))
