-- The entries that the bytes spell are read.
use Rattle.std.proofs.Common.{◌≡◌, ℕ, ◌+◌, ◌-◌, Bool, true, false, cond, eqb, ltb, leb, not, ◌||◌}
use Rattle.std.proofs.Common.{List, [], ◌∷◌, ◌++◌, Some, Ok, refl, ap, sym, ◌∙◌, append_assoc, arith}
use Rattle.std.specs.List.{All, flat_map}
use Rattle.std.proofs.lemmas.Bool.{eqb-true, eq-eqb, ne_eqb, lt-ltb, le-ltb, le-leb, and_from}
use Rattle.std.proofs.lemmas.List.Elements.{All-head, All-tail}
use Rattle.packed_form.specs.declared.entries.Command.{Command}
use Rattle.packed_form.specs.declared.entries.EntryKind.{EntryKind}
use Rattle.packed_form.specs.declared.entries.EntryKind.TheVariants.{NamedNote, NamedRest, Note, Rests}
use Rattle.packed_form.specs.declared.entries.Entry.{Entry}
use Rattle.packed_form.specs.declared.places.Place.TheVariants.{AtEntry, AtNoteParam, AtRestParam, AtNote}
use Rattle.packed_form.specs.declared.places.Taken.TheVariants.{On, Made}
use Rattle.packed_form.specs.Entries.{IsCommand, IsKind, IsEntry, instrument_bytes, kind_bytes, entry_bytes}
use Rattle.packed_form.specs.PackedSpells.{text_of}
use Rattle.packed_form.specs.Faults.{has_param, taken, entries_at}

by_zero : (number param : ℕ) → (number ≡ 0 → param ≡ 0) → (z : Bool) → eqb number 0 ≡ z → (not z || eqb param 0) ≡ true
by_zero number param bare true e = eq-eqb param 0 (bare (eqb-true number 0 e))
by_zero number param bare false e = refl

has_param_true : (command : Command) → IsCommand command → has_param command.number command.param ≡ true
has_param_true command is = by_zero command.number command.param is.bare (eqb command.number 0) refl

-- what the bytes behind an instrument do, where the bytes after them are read
kind_read : (offset i : ℕ) (kind : EntryKind) (others : List ℕ) (rest : List Entry) → IsKind kind
    → ((from : ℕ) → entries_at from (AtEntry 0) others ≡ Ok rest)
    → entries_at offset (AtEntry i) (kind_bytes kind ++ others) ≡ Ok (record { instrument = i; kind = kind } ∷ rest)
kind_read offset i (NamedNote command note) others rest is read =
    let c = is.0.number in
    let from = is.1.from in
    let to = is.1.to in
    let back : (64 + command.number) - 64 ≡ command.number = omega arith in
    let first : taken (AtEntry i) (64 + command.number) ≡ Some (On (AtNoteParam i command.number)) =
    rw (
      ne_eqb (64 + command.number) 0 (λ e. absurd (omega arith)),
      le-ltb (64 + command.number) 64 (omega arith),
      lt-ltb (64 + command.number) 80 (omega arith),
      back,
    ) refl in
    let second : taken (AtNoteParam i command.number) command.param ≡ Some (On (AtNote i command)) =
    rw (has_param_true command is.0) refl in
    let third : taken (AtNote i command) note ≡ Some (Made (record { instrument = i; kind = NamedNote command note })) =
    rw (and_from (leb 96 note) (ltb note 192) (le-leb 96 note from) (lt-ltb note 192 (omega arith))) refl in
    rw (first, second, third, read) refl
kind_read offset i (NamedRest command) others rest is read =
    let c = is.number in
    let back : (80 + command.number) - 80 ≡ command.number = omega arith in
    let first : taken (AtEntry i) (80 + command.number) ≡ Some (On (AtRestParam i command.number)) =
    rw (
      ne_eqb (80 + command.number) 0 (λ e. absurd (omega arith)),
      le-ltb (80 + command.number) 64 (omega arith),
      le-ltb (80 + command.number) 80 (omega arith),
      lt-ltb (80 + command.number) 96 (omega arith),
      back,
    ) refl in
    let second : taken (AtRestParam i command.number) command.param
    ≡ Some (Made (record { instrument = i; kind = NamedRest command })) =
    rw (has_param_true command is) refl in
    rw (first, second, read) refl
kind_read offset i (Note note) others rest is read =
    let from = is.from in
    let to = is.to in
    let first : taken (AtEntry i) note ≡ Some (Made (record { instrument = i; kind = Note note })) =
    rw (
      ne_eqb note 0 (λ e. absurd (omega arith)),
      le-ltb note 64 (omega arith),
      le-ltb note 80 (omega arith),
      le-ltb note 96 (omega arith),
      lt-ltb note 192 (omega arith),
    ) refl in
    rw (first, read) refl
kind_read offset i (Rests more) others rest is read =
    let back : (192 + more) - 192 ≡ more = omega arith in
    let first : taken (AtEntry i) (192 + more) ≡ Some (Made (record { instrument = i; kind = Rests more })) =
    rw (
      ne_eqb (192 + more) 0 (λ e. absurd (omega arith)),
      le-ltb (192 + more) 64 (omega arith),
      le-ltb (192 + more) 80 (omega arith),
      le-ltb (192 + more) 96 (omega arith),
      le-ltb (192 + more) 192 (omega arith),
      back,
    ) refl in
    rw (first, read) refl

-- what the bytes of an entry do
entry_read : (offset : ℕ) (entry : Entry) (others : List ℕ) (rest : List Entry) → IsEntry entry
    → ((from : ℕ) → entries_at from (AtEntry 0) others ≡ Ok rest)
    → (z : Bool) → eqb entry.instrument 0 ≡ z →
    entries_at offset (AtEntry 0) (cond z [] (entry.instrument ∷ []) ++ (kind_bytes entry.kind ++ others))
    ≡ Ok (entry ∷ rest)
entry_read offset entry others rest is read true e =
    let none : entry.instrument ≡ 0 = eqb-true entry.instrument 0 e in
    kind_read offset 0 entry.kind others rest is.kind read
    ∙ ap (λ (i : ℕ). Ok (record { instrument = i; kind = entry.kind } ∷ rest)) (sym none)
entry_read offset entry others rest is read false e =
    let small = is.instrument in
    let first : taken (AtEntry 0) entry.instrument ≡ Some (On (AtEntry entry.instrument)) =
    rw (e, lt-ltb entry.instrument 64 (omega arith)) refl in
    rw first (kind_read (offset + 1) entry.instrument entry.kind others rest is.kind read)

-- a text of entries is read as these
pub complete : (entries : List Entry) (offset : ℕ) → All IsEntry entries →
    entries_at offset (AtEntry 0) (text_of entries) ≡ Ok entries
complete [] offset are = refl
complete (entry ∷ entries) offset are =
    let parts : text_of (entry ∷ entries)
    ≡ instrument_bytes entry.instrument ++ (kind_bytes entry.kind ++ text_of entries) =
    append_assoc (entry_bytes entry) (flat_map entry_bytes entries) (0 ∷ [])
    ∙ append_assoc (instrument_bytes entry.instrument) (kind_bytes entry.kind) (text_of entries) in
    ap (entries_at offset (AtEntry 0)) parts
    ∙ entry_read offset entry (text_of entries) entries (All-head IsEntry entry entries are)
    (λ from. complete entries from (All-tail IsEntry entry entries are)) (eqb entry.instrument 0) refl
