-- The entries that are read are those that the bytes spell.
use Rattle.std.proofs.Common.{◌≡◌, ℕ, ◌+◌, ◌-◌, ◌<◌, ◌≤◌, Bool, true, false, cond, eqb, ltb}
use Rattle.std.proofs.Common.{leb, ◌&&◌, List, [], ◌∷◌, ◌++◌, Option, Some, None, Result, Ok, Err, refl}
use Rattle.std.proofs.Common.{ap, sym, subst, ◌∙◌, append_assoc, arith}
use Rattle.std.specs.List.{All, flat_map}
use Rattle.std.proofs.lemmas.Bool.{eqb-true, ltb-true, ltb-false, leb-true, and_parts}
use Rattle.std.proofs.lemmas.List.Elements.{All-nil, All-cons, All-head, All-tail}
use Rattle.song_model.specs.Basics.{IsByte}
use Rattle.packed_form.specs.declared.entries.Command.{Command}
use Rattle.packed_form.specs.declared.entries.EntryKind.TheVariants.{NamedNote, NamedRest, Note, Rests}
use Rattle.packed_form.specs.declared.entries.Entry.{Entry}
use Rattle.packed_form.specs.declared.faults.PackedFault.{PackedFault}
use Rattle.packed_form.specs.declared.places.Place.{Place}
use Rattle.packed_form.specs.declared.places.Place.TheVariants.{AtEntry, AtNoteParam, AtRestParam, AtNote}
use Rattle.packed_form.specs.declared.places.Taken.{Taken}
use Rattle.packed_form.specs.declared.places.Taken.TheVariants.{On, Made, End}
use Rattle.packed_form.specs.Entries.{IsCommand, IsEntry, instrument_bytes, entry_bytes}
use Rattle.packed_form.specs.PackedSpells.{text_of}
use Rattle.packed_form.specs.Faults.{has_param, taken, with_entry, goes_on, entries_at}

-- ---- where a byte is taken

abbrev pub IsPlace : Place → Type 0
IsPlace (AtEntry instrument) = instrument ≤ 63
IsPlace (AtNoteParam instrument number) = (instrument ≤ 63) × (number ≤ 15)
IsPlace (AtRestParam instrument number) = (instrument ≤ 63) × (number ≤ 15)
IsPlace (AtNote instrument command) = (instrument ≤ 63) × IsCommand command

-- the bytes of an entry before a place in it
abbrev pub front : Place → List ℕ
front (AtEntry instrument) = instrument_bytes instrument
front (AtNoteParam instrument number) = instrument_bytes instrument ++ (0x40 + number) ∷ []
front (AtRestParam instrument number) = instrument_bytes instrument ++ (0x50 + number) ∷ []
front (AtNote instrument command) = instrument_bytes instrument ++ (0x40 + command.number) ∷ command.param ∷ []

abbrev pub TakenIs : Place → ℕ → Option Taken → Type 0
TakenIs place byte None = Unit {0}
TakenIs place byte (Some (On next)) = (front place ++ byte ∷ [] ≡ front next) × IsPlace next
TakenIs place byte (Some (Made entry)) = (front place ++ byte ∷ [] ≡ entry_bytes entry) × IsEntry entry
TakenIs place byte (Some End) = (front place ≡ []) × (byte ≡ 0)

-- one more byte behind an instrument
behind : (instrument byte other : ℕ) → byte ≡ other →
    instrument_bytes instrument ++ byte ∷ [] ≡ instrument_bytes instrument ++ other ∷ []
behind instrument byte other e = ap (λ (b : ℕ). instrument_bytes instrument ++ b ∷ []) e

no_instrument : (instrument : ℕ) → eqb instrument 0 ≡ true → instrument_bytes instrument ≡ []
no_instrument instrument e = rw e refl

an_instrument : (instrument byte : ℕ) → eqb instrument 0 ≡ true → eqb byte 0 ≡ false →
    instrument_bytes instrument ++ byte ∷ [] ≡ instrument_bytes byte
an_instrument instrument byte none one = rw (none, one) refl

first_is : (i byte : ℕ) → i ≤ 63 → byte < 256 → (z e a b c d : Bool) → eqb byte 0 ≡ z → eqb i 0 ≡ e →
    ltb byte 64 ≡ a → ltb byte 80 ≡ b → ltb byte 96 ≡ c → ltb byte 192 ≡ d
    → TakenIs (AtEntry i) byte (
    cond z (cond e (Some End) None)
    (cond a (cond e (Some (On (AtEntry byte))) None)
    (cond b (Some (On (AtNoteParam i (byte - 64))))
    (cond c (Some (On (AtRestParam i (byte - 80))))
    (cond d (Some (Made (record { instrument = i; kind = Note byte })))
    (Some (Made (record { instrument = i; kind = Rests (byte - 192) }))))))))
first_is i byte small of true true a b c d hz he ha hb hc hd = (no_instrument i he, eqb-true byte 0 hz)
first_is i byte small of true false a b c d hz he ha hb hc hd = tt
first_is i byte small of false true true b c d hz he ha hb hc hd =
    let low = ltb-true byte 64 ha in
    (an_instrument i byte he hz, omega arith)
first_is i byte small of false false true b c d hz he ha hb hc hd = tt
first_is i byte small of false e false true c d hz he ha hb hc hd =
    let from = ltb-false byte 64 ha in
    let to = ltb-true byte 80 hb in
    (behind i byte (64 + (byte - 64)) (omega arith), (small, omega arith))
first_is i byte small of false e false false true d hz he ha hb hc hd =
    let from = ltb-false byte 80 hb in
    let to = ltb-true byte 96 hc in
    (behind i byte (80 + (byte - 80)) (omega arith), (small, omega arith))
first_is i byte small of false e false false false true hz he ha hb hc hd =
    let from = ltb-false byte 96 hc in
    let to = ltb-true byte 192 hd in
    (refl, record { instrument = small; kind = record { from = omega arith; to = omega arith } })
first_is i byte small of false e false false false false hz he ha hb hc hd =
    let from = ltb-false byte 192 hd in
    (behind i byte (192 + (byte - 192)) (omega arith), record { instrument = small; kind = omega arith })

has_param_is : (number param : ℕ) → has_param number param ≡ true → number ≡ 0 → param ≡ 0
has_param_is number param e zero = eqb-true param 0 (subst (λ (n : ℕ). has_param n param ≡ true) zero e)

command_is : (number param : ℕ) → number ≤ 15 → param < 256 → has_param number param ≡ true →
    IsCommand (record { number = number; param = param })
command_is number param small of e = record { number = small; param = of; bare = has_param_is number param e }

note_param : (i number byte : ℕ) → (i ≤ 63) × (number ≤ 15) → byte < 256 → (z : Bool) → has_param number byte ≡ z →
    TakenIs (AtNoteParam i number) byte
    (cond z (Some (On (AtNote i (record { number = number; param = byte })))) None)
note_param i number byte is of true e =
    (append_assoc (instrument_bytes i) ((64 + number) ∷ []) (byte ∷ []), (is.0, command_is number byte is.1 of e))
note_param i number byte is of false e = tt

rest_param : (i number byte : ℕ) → (i ≤ 63) × (number ≤ 15) → byte < 256 → (z : Bool) → has_param number byte ≡ z →
    TakenIs (AtRestParam i number) byte (
    cond z (Some (Made (record { instrument = i; kind = NamedRest (record { number = number; param = byte }) }))) None)
rest_param i number byte is of true e = (
  append_assoc (instrument_bytes i) ((80 + number) ∷ []) (byte ∷ []),
  record { instrument = is.0; kind = command_is number byte is.1 of e },
)
rest_param i number byte is of false e = tt

named_note : (i byte : ℕ) (command : Command) → (i ≤ 63) × IsCommand command → (z : Bool) →
    (leb 96 byte && ltb byte 192) ≡ z →
    TakenIs (AtNote i command) byte (cond z (Some (Made (record { instrument = i; kind = NamedNote command byte }))) None)
named_note i byte command is true e =
    let parts = and_parts (leb 96 byte) (ltb byte 192) e in
    let from = leb-true 96 byte parts.0 in
    let to = ltb-true byte 192 parts.1 in (
      append_assoc (instrument_bytes i) ((64 + command.number) ∷ command.param ∷ []) (byte ∷ []),
      record { instrument = is.0; kind = (is.1, record { from = omega arith; to = omega arith }) },
    )
named_note i byte command is false e = tt

pub taken_is : (place : Place) (byte : ℕ) → IsPlace place → byte < 256 → TakenIs place byte (taken place byte)
taken_is (AtEntry i) byte is of = first_is i byte is of _ _ _ _ _ _ refl refl refl refl refl refl
taken_is (AtNoteParam i number) byte is of = note_param i number byte is of (has_param number byte) refl
taken_is (AtRestParam i number) byte is of = rest_param i number byte is of (has_param number byte) refl
taken_is (AtNote i command) byte is of = named_note i byte command is (leb 96 byte && ltb byte 192) refl

-- ---- the entries

-- the entries are the bytes behind the front of the entry that has been begun
pub record Fits (place : Place) (bytes : List ℕ) (entries : List Entry) : Type 0 where
  pub each : All IsEntry entries
  pub text : front place ++ bytes ≡ text_of entries

abbrev read : List Entry → Result (List Entry) PackedFault
read entries = Ok entries

ok_is : (x y : List Entry) → read x ≡ read y → x ≡ y
ok_is x y e = cc

with_entry_ok : (entry : Entry) (r : Result (List Entry) PackedFault) (entries : List Entry) →
    with_entry entry r ≡ Ok entries → (rest : List Entry) × (r ≡ Ok rest) × (entry ∷ rest ≡ entries)
with_entry_ok entry (Ok rest) entries e = (rest, refl, cc)
with_entry_ok entry (Err fault) entries e = absurd cc

pub text_of-cons : (entry : Entry) (entries : List Entry) → entry_bytes entry ++ text_of entries ≡ text_of (entry ∷ entries)
text_of-cons entry entries = sym (append_assoc (entry_bytes entry) (flat_map entry_bytes entries) (0 ∷ []))

step : (place : Place) (byte offset : ℕ) (others : List ℕ) (entries : List Entry) (t : Option Taken) →
    TakenIs place byte t
    → ((next : Place) (rest : List Entry) → IsPlace next → entries_at (offset + 1) next others ≡ Ok rest →
    Fits next others rest)
    → goes_on t offset others (λ next. entries_at (offset + 1) next others) ≡ Ok entries →
    Fits place (byte ∷ others) entries
step place byte offset others entries None is more e = absurd cc
step place byte offset others entries (Some (On next)) is more e =
    let rest = more next entries is.1 e in
    record {
      each = rest.each;
      text = sym (append_assoc (front place) (byte ∷ []) others) ∙ ap (λ (t : List ℕ). t ++ others) is.0 ∙ rest.text;
    }
step place byte offset others entries (Some (Made entry)) is more e =
    let parts = with_entry_ok entry (entries_at (offset + 1) (AtEntry 0) others) entries e in
    let rest = more (AtEntry 0) parts.0 (omega arith) parts.1 in
    subst (Fits place (byte ∷ others)) parts.2 (record {
      each = All-cons IsEntry entry parts.0 is.1 rest.each;
      text = sym (append_assoc (front place) (byte ∷ []) others)
          ∙ ap (λ (t : List ℕ). t ++ others) is.0
          ∙ ap (λ (t : List ℕ). entry_bytes entry ++ t) rest.text
          ∙ text_of-cons entry parts.0;
    })
step place byte offset [] entries (Some End) is more e =
    subst (Fits place (byte ∷ [])) (ok_is [] entries e) (record {
      each = All-nil IsEntry;
      text = rw (is.0, is.1) refl;
    })
step place byte offset (next ∷ others) entries (Some End) is more e = absurd cc

pub sound : (bytes : List ℕ) (offset : ℕ) (place : Place) (entries : List Entry) → All IsByte bytes → IsPlace place →
    entries_at offset place bytes ≡ Ok entries → Fits place bytes entries
sound [] offset place entries are is e = absurd cc
sound (byte ∷ others) offset place entries are is e =
    step place byte offset others entries (taken place byte)
    (taken_is place byte is (All-head IsByte byte others are))
    (λ next rest of. sound others (offset + 1) next rest (All-tail IsByte byte others are) of) e
