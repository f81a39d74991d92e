-- The faults of bytes are those of the grammar: the first byte with which nothing is begun, and a missing end.
use Rattle.std.proofs.Common.{◌≡◌, ◌≢◌, ◌⊎◌, ℕ, suc, ◌+◌, ◌<◌, ◌≤◌, Bool, true, false}
use Rattle.std.proofs.Common.{cond, leb, ◌&&◌, List, [], ◌∷◌, ◌++◌, length, take, drop, Option, Some}
use Rattle.std.proofs.Common.{None, Result, Ok, Err, refl, ap, sym, subst, ◌∙◌, append_assoc, inl, inr, arith}
use Rattle.std.specs.List.{All}
use Rattle.std.proofs.lemmas.Bool.{and_parts, and_from, leb-true, le-leb}
use Rattle.std.proofs.lemmas.List.{take-append-drop, take-take, append-nil}
use Rattle.std.proofs.lemmas.List.Elements.{All-nil, All-cons, All-head, All-tail}
use Rattle.song_model.specs.declared.rows.Row.{Row}
use Rattle.song_model.specs.Basics.{IsByte}
use Rattle.song_model.specs.PatternLimits.{IsPatternLength}
use Rattle.packed_form.specs.declared.entries.EntryKind.TheVariants.{NamedNote, NamedRest, Rests}
use Rattle.packed_form.specs.declared.entries.Entry.{Entry}
use Rattle.packed_form.specs.declared.faults.PackedFault.{PackedFault}
use Rattle.packed_form.specs.declared.faults.PackedFault.TheVariants.{BadByte, NoEnd, BadLength, NoMemory}
use Rattle.packed_form.specs.declared.places.Place.{Place}
use Rattle.packed_form.specs.declared.places.Place.TheVariants.{AtEntry, AtNoteParam, AtRestParam, AtNote}
use Rattle.packed_form.specs.declared.places.Taken.{Taken}
use Rattle.packed_form.specs.declared.places.Taken.TheVariants.{On, Made, End}
use Rattle.packed_form.specs.Entries.{IsCommand, IsNote, IsEntry, instrument_bytes, entry_bytes, no_command, rows_from}
use Rattle.packed_form.specs.PackedSpells.{text_of}
use Rattle.packed_form.specs.Faults.{taken, with_entry, goes_on, entries_at, within_length, rows_within, fault_in}
use Rattle.packed_form.specs.Faults.{packed_fault_of}
use Rattle.pattern_pack.specs.FaultLaws.{IsTextOf, IsBegun, BadBytesAreFirst, EndsAreMissing, LengthsAreBad}
use Rattle.pattern_pack.proofs.Readings.{IsPlace, front, TakenIs, taken_is, text_of-cons, sound}
use Rattle.pattern_pack.proofs.Spellings.{complete}
use Rattle.pattern_pack.proofs.Whole.{faults}

-- ---- what is begun

-- with some more bytes these are the entries behind the front of one that has been begun
record BegunAt (place : Place) (bytes : List ℕ) : Type 0 where
  others : List ℕ
  entries : List Entry
  each : All IsEntry entries
  text : front place ++ (bytes ++ others) ≡ text_of entries

ends_with : (place : Place) (entry : Entry) (others : List ℕ) → IsEntry entry → front place ++ others ≡ entry_bytes entry →
    BegunAt place []
ends_with place entry others is e = record {
  others = others ++ 0 ∷ [];
  entries = entry ∷ [];
  each = All-cons IsEntry entry [] is (All-nil IsEntry);
  text = sym (append_assoc (front place) others (0 ∷ [])) ∙ ap (λ (t : List ℕ). t ++ 0 ∷ []) e ∙ text_of-cons entry [];
}

bare_command : (number : ℕ) → number ≤ 15 → IsCommand (record { number = number; param = 0 })
bare_command number small = record { number = small; param = omega arith; bare = λ _. refl }

a_note : IsNote 0x60
a_note = record { from = omega arith; to = omega arith }

-- from each place an end can be reached
ends : (place : Place) → IsPlace place → BegunAt place []
ends (AtEntry i) is =
    ends_with (AtEntry i) (record { instrument = i; kind = Rests 0 }) (0xC0 ∷ [])
    (record { instrument = is; kind = omega arith }) refl
ends (AtNoteParam i number) is =
    ends_with (AtNoteParam i number)
    (record { instrument = i; kind = NamedNote (record { number = number; param = 0 }) 0x60 }) (0 ∷ 0x60 ∷ [])
    (record { instrument = is.0; kind = (bare_command number is.1, a_note) })
    (append_assoc (instrument_bytes i) ((0x40 + number) ∷ []) (0 ∷ 0x60 ∷ []))
ends (AtRestParam i number) is =
    ends_with (AtRestParam i number) (record { instrument = i; kind = NamedRest (record { number = number; param = 0 }) })
    (0 ∷ []) (record { instrument = is.0; kind = bare_command number is.1 })
    (append_assoc (instrument_bytes i) ((0x50 + number) ∷ []) (0 ∷ []))
ends (AtNote i command) is =
    ends_with (AtNote i command) (record { instrument = i; kind = NamedNote command 0x60 }) (0x60 ∷ [])
    (record { instrument = is.0; kind = (is.1, a_note) })
    (append_assoc (instrument_bytes i) ((0x40 + command.number) ∷ command.param ∷ []) (0x60 ∷ []))

-- one more byte in front, within an entry and at its end
on_begun : (place next : Place) (byte : ℕ) (bytes : List ℕ) → front place ++ byte ∷ [] ≡ front next → BegunAt next bytes →
    BegunAt place (byte ∷ bytes)
on_begun place next byte bytes e rest = record {
  others = rest.others;
  entries = rest.entries;
  each = rest.each;
  text =
      sym (append_assoc (front place) (byte ∷ []) (bytes ++ rest.others))
      ∙ ap (λ (t : List ℕ). t ++ (bytes ++ rest.others)) e ∙ rest.text;
}

made_begun : (place : Place) (entry : Entry) (byte : ℕ) (bytes : List ℕ) → front place ++ byte ∷ [] ≡ entry_bytes entry →
    IsEntry entry → BegunAt (AtEntry 0) bytes → BegunAt place (byte ∷ bytes)
made_begun place entry byte bytes e is rest = record {
  others = rest.others;
  entries = entry ∷ rest.entries;
  each = All-cons IsEntry entry rest.entries is rest.each;
  text =
      sym (append_assoc (front place) (byte ∷ []) (bytes ++ rest.others))
      ∙ ap (λ (t : List ℕ). t ++ (bytes ++ rest.others)) e
      ∙ ap (λ (t : List ℕ). entry_bytes entry ++ t) rest.text ∙ text_of-cons entry rest.entries;
}

-- ---- what a fault says of the bytes

-- the bad byte is d bytes on: the bytes before it are begun, and whatever stands behind it, it is bad
record IsBadAt (offset : ℕ) (place : Place) (bytes : List ℕ) (k : ℕ) : Type 0 where
  d : ℕ
  far : k ≡ offset + d
  inside : d < length bytes
  begun : BegunAt place (take d bytes)
  stays : (others : List ℕ) → entries_at offset place (take (suc d) bytes ++ others) ≡ Err (BadByte k)

abbrev Says : ℕ → Place → List ℕ → Result (List Entry) PackedFault → Type 0
Says offset place bytes (Ok entries) = Unit {0}
Says offset place bytes (Err NoEnd) = BegunAt place bytes
Says offset place bytes (Err (BadByte k)) = IsBadAt offset place bytes k
Says offset place bytes (Err BadLength) = ⊥
Says offset place bytes (Err NoMemory) = ⊥

-- a bad byte behind one more byte
bad_behind : (offset : ℕ) (place next : Place) (byte : ℕ) (others : List ℕ) (k : ℕ)
    (bad : IsBadAt (offset + 1) next others k) → BegunAt place (byte ∷ take bad.d others)
    → ((more : List ℕ) → entries_at offset place (byte ∷ (take (suc bad.d) others ++ more)) ≡ Err (BadByte k)) →
    IsBadAt offset place (byte ∷ others) k
bad_behind offset place next byte others k bad begun stays =
    let far = bad.far in
    let inside = bad.inside in
    record { d = suc bad.d; far = omega arith; inside = omega arith; begun = begun; stays = stays }

on_says : (offset : ℕ) (place next : Place) (byte : ℕ) (others : List ℕ) → taken place byte ≡ Some (On next) →
    front place ++ byte ∷ [] ≡ front next → (r : Result (List Entry) PackedFault) → Says (offset + 1) next others r →
    Says offset place (byte ∷ others) r
on_says offset place next byte others t e (Ok entries) says = tt
on_says offset place next byte others t e (Err NoEnd) says = on_begun place next byte others e says
on_says offset place next byte others t e (Err BadLength) says = says
on_says offset place next byte others t e (Err NoMemory) says = says
on_says offset place next byte others t e (Err (BadByte k)) says =
    bad_behind offset place next byte others k says (on_begun place next byte (take says.d others) e says.begun)
    (λ more. rw t (says.stays more))

made_says : (offset : ℕ) (place : Place) (entry : Entry) (byte : ℕ) (others : List ℕ) →
    taken place byte ≡ Some (Made entry) → front place ++ byte ∷ [] ≡ entry_bytes entry → IsEntry entry →
    (r : Result (List Entry) PackedFault) → Says (offset + 1) (AtEntry 0) others r →
    Says offset place (byte ∷ others) (with_entry entry r)
made_says offset place entry byte others t e is (Ok entries) says = tt
made_says offset place entry byte others t e is (Err NoEnd) says = made_begun place entry byte others e is says
made_says offset place entry byte others t e is (Err BadLength) says = says
made_says offset place entry byte others t e is (Err NoMemory) says = says
made_says offset place entry byte others t e is (Err (BadByte k)) says =
    bad_behind offset place (AtEntry 0) byte others k says
    (made_begun place entry byte (take says.d others) e is says.begun)
    (λ more. rw t (ap (with_entry entry) (says.stays more)))

step : (offset : ℕ) (place : Place) (byte : ℕ) (others : List ℕ) → IsPlace place → (t : Option Taken) →
    taken place byte ≡ t → TakenIs place byte t
    → ((next : Place) → IsPlace next → Says (offset + 1) next others (entries_at (offset + 1) next others))
    → Says offset place (byte ∷ others) (goes_on t offset others (λ next. entries_at (offset + 1) next others))
step offset place byte others is None t of more = record {
  d = 0;
  far = omega arith;
  inside = omega arith;
  begun = ends place is;
  stays = λ others. rw t refl;
}
step offset place byte others is (Some (On next)) t of more =
    on_says offset place next byte others t of.0 (entries_at (offset + 1) next others) (more next of.1)
step offset place byte others is (Some (Made entry)) t of more =
    made_says offset place entry byte others t of.0 of.1 (entries_at (offset + 1) (AtEntry 0) others)
    (more (AtEntry 0) (omega arith))
step offset place byte [] is (Some End) t of more = tt
step offset place byte (next ∷ others) is (Some End) t of more = record {
  d = 1;
  far = refl;
  inside = omega arith;
  begun = record { others = []; entries = []; each = All-nil IsEntry; text = rw (of.0, of.1) refl };
  stays = λ others. rw t refl;
}

says : (bytes : List ℕ) (offset : ℕ) (place : Place) → All IsByte bytes → IsPlace place →
    Says offset place bytes (entries_at offset place bytes)
says [] offset place are is = ends place is
says (byte ∷ others) offset place are is =
    step offset place byte others is (taken place byte) refl
    (taken_is place byte is (All-head IsByte byte others are))
    (λ next of. says others (offset + 1) next (All-tail IsByte byte others are) of)

-- ---- what the bytes begin

whole_begun : (bytes : List ℕ) → BegunAt (AtEntry 0) bytes → IsBegun bytes
whole_begun bytes at = record {
  others = at.others;
  entries = at.entries;
  is = record { each = at.each; text = at.text };
}

front_begun : (xs ys : List ℕ) → IsBegun (xs ++ ys) → IsBegun xs
front_begun xs ys begun = record {
  others = ys ++ begun.others;
  entries = begun.entries;
  is = record { each = begun.is.each; text = sym (append_assoc xs ys begun.others) ∙ begun.is.text };
}

all_begun : (bytes : List ℕ) (n : ℕ) → IsBegun bytes → IsBegun (take n bytes)
all_begun bytes n begun =
    front_begun (take n bytes) (drop n bytes) (subst IsBegun (sym (take-append-drop n bytes)) begun)

fewer_begun : (bytes : List ℕ) (m n : ℕ) → m ≤ n → IsBegun (take n bytes) → IsBegun (take m bytes)
fewer_begun bytes m n fewer begun = subst IsBegun (take-take m n bytes fewer) (all_begun (take n bytes) m begun)

read : List ℕ → Result (List Entry) PackedFault
read bytes = entries_at 0 (AtEntry 0) bytes

-- a text of entries has no fault before its rows are counted
text_read : (bytes : List ℕ) (entries : List Entry) → IsTextOf bytes entries → read bytes ≡ Ok entries
unfolding read
text_read bytes entries is = ap (entries_at 0 (AtEntry 0)) is.text ∙ complete entries 0 is.each

-- behind a bad byte nothing is begun
none_begun : (bytes : List ℕ) (k : ℕ) → IsBadAt 0 (AtEntry 0) bytes k → ¬ IsBegun (take (k + 1) bytes)
unfolding read
none_begun bytes k bad begun =
    let far = bad.far in
    let on : k + 1 ≡ suc bad.d = omega arith in
    let ok = text_read (take (k + 1) bytes ++ begun.others) begun.entries begun.is in
    let fault : read (take (k + 1) bytes ++ begun.others) ≡ Err (BadByte k) =
    ap (λ (n : ℕ). read (take n bytes ++ begun.others)) on ∙ bad.stays begun.others in
    absurd (let no : Ok begun.entries ≡ Err (BadByte k) = sym ok ∙ fault in cc)

-- ---- faults of bytes and of entries

abbrev these : List Row → Result (List Row) PackedFault
these rows = Ok rows

within_cases : (rows : List Row) (z : Bool) (fault : PackedFault) → (leb 1 (length rows) && leb (length rows) 128) ≡ z →
    cond z (these rows) (Err BadLength) ≡ Err fault → (fault ≡ BadLength) × (¬ IsPatternLength (length rows))
within_cases rows true fault h e = absurd cc
within_cases rows false fault h e = (
  cc,
  λ is.
      let both = and_from (leb 1 (length rows)) (leb (length rows) 128) (le-leb 1 (length rows) is.least)
      (le-leb (length rows) 128 is.most) in
      absurd cc,
)

-- a fault is one of the entries, or of the number of rows
record IsOfRows (entries : List Entry) (fault : PackedFault) : Type 0 where
  length_is : fault ≡ BadLength
  none : ¬ IsPatternLength (length (rows_from no_command entries))

of_rows : (entries : List Entry) (fault : PackedFault) → rows_within (Ok entries) ≡ Err fault → IsOfRows entries fault
of_rows entries fault e =
    let rows = rows_from no_command entries in
    let parts = within_cases rows (leb 1 (length rows) && leb (length rows) 128) fault refl e in
    record { length_is = parts.0; none = parts.1 }

fault_of_entries : (bytes : List ℕ) (fault : PackedFault) → fault ≢ BadLength → (r : Result (List Entry) PackedFault) →
    rows_within r ≡ Err fault → r ≡ Err fault
fault_of_entries bytes fault other (Ok entries) e = absurd (other (of_rows entries fault e).length_is)
fault_of_entries bytes fault other (Err one) e = cc

told : (bytes : List ℕ) (fault : PackedFault) → read bytes ≡ Err fault → packed_fault_of bytes ≡ Some fault
unfolding packed_fault_of read
told bytes fault e = ap (λ (r : Result (List Entry) PackedFault). fault_in (rows_within r)) e

found : (bytes : List ℕ) (fault : PackedFault) → fault ≢ BadLength → packed_fault_of bytes ≡ Some fault →
    read bytes ≡ Err fault
unfolding read
found bytes fault other e = fault_of_entries bytes fault other (read bytes) (faults bytes fault e)

says_read : (bytes : List ℕ) → All IsByte bytes → (r : Result (List Entry) PackedFault) → read bytes ≡ r →
    Says 0 (AtEntry 0) bytes r
unfolding read
says_read bytes are r e = subst (Says 0 (AtEntry 0) bytes) e (says bytes 0 (AtEntry 0) are (omega arith))

read_text : (bytes : List ℕ) (entries : List Entry) → All IsByte bytes → read bytes ≡ Ok entries → IsTextOf bytes entries
unfolding read
read_text bytes entries are e =
    let fits = sound bytes 0 (AtEntry 0) entries are (omega arith) e in
    record { each = fits.each; text = fits.text }

text_is_begun : (bytes : List ℕ) (entries : List Entry) → IsTextOf bytes entries → IsBegun bytes
text_is_begun bytes entries is =
    record { others = []; entries = entries; is = record { each = is.each; text = append-nil bytes ∙ is.text } }

-- ---- the laws

abbrev IsFirst : List ℕ → ℕ → Type 0
IsFirst bytes offset = (offset < length bytes) × IsBegun (take offset bytes) × (¬ IsBegun (take (offset + 1) bytes))

is_first : (bytes : List ℕ) (offset : ℕ) → IsBadAt 0 (AtEntry 0) bytes offset → IsFirst bytes offset
is_first bytes offset bad =
    let far = bad.far in
    let inside = bad.inside in
    let same : bad.d ≡ offset = omega arith in (
      omega arith,
      subst (λ (n : ℕ). IsBegun (take n bytes)) same (whole_begun (take bad.d bytes) bad.begun),
      none_begun bytes offset bad,
    )

one_first : (bytes : List ℕ) (m n : ℕ) → IsFirst bytes m → IsFirst bytes n → m ≡ n
one_first bytes m n one other = elim (order m n) [
  | inl below ↦ absurd (one.2 (fewer_begun bytes (m + 1) n below other.1))
  | inr rest ↦ elim rest [
    | inl above ↦ absurd (other.2 (fewer_begun bytes (n + 1) m above one.1))
    | inr same ↦ same
  ]
]
  where
    order : (m n : ℕ) → (m + 1 ≤ n) ⊎ ((n + 1 ≤ m) ⊎ (m ≡ n))
    order m n = grind arith

first_is_bad : (bytes : List ℕ) (offset : ℕ) → All IsByte bytes → IsFirst bytes offset →
    (r : Result (List Entry) PackedFault) → read bytes ≡ r → read bytes ≡ Err (BadByte offset)
first_is_bad bytes offset are first (Ok entries) e =
    absurd (first.2 (all_begun bytes (offset + 1) (text_is_begun bytes entries (read_text bytes entries are e))))
first_is_bad bytes offset are first (Err NoEnd) e =
    absurd (first.2 (all_begun bytes (offset + 1) (whole_begun bytes (says_read bytes are (Err NoEnd) e))))
first_is_bad bytes offset are first (Err (BadByte k)) e =
    e ∙ ap (λ (n : ℕ). Err (BadByte n))
    (one_first bytes k offset (is_first bytes k (says_read bytes are (Err (BadByte k)) e)) first)
first_is_bad bytes offset are first (Err BadLength) e = absurd (says_read bytes are (Err BadLength) e)
first_is_bad bytes offset are first (Err NoMemory) e = absurd (says_read bytes are (Err NoMemory) e)

pub bad_bytes_are_first : BadBytesAreFirst
bad_bytes_are_first bytes offset are = (
  λ e. is_first bytes offset (says_read bytes are (Err (BadByte offset)) (found bytes (BadByte offset) (λ z. cc) e)),
  λ first. told bytes (BadByte offset) (first_is_bad bytes offset are first (read bytes) refl),
)

none_is_missing : (bytes : List ℕ) → All IsByte bytes → IsBegun bytes → ((entries : List Entry) → ¬ IsTextOf bytes entries) →
    (r : Result (List Entry) PackedFault) → read bytes ≡ r → read bytes ≡ Err NoEnd
none_is_missing bytes are begun none (Ok entries) e = absurd (none entries (read_text bytes entries are e))
none_is_missing bytes are begun none (Err NoEnd) e = e
none_is_missing bytes are begun none (Err (BadByte k)) e =
    absurd (none_begun bytes k (says_read bytes are (Err (BadByte k)) e) (all_begun bytes (k + 1) begun))
none_is_missing bytes are begun none (Err BadLength) e = absurd (says_read bytes are (Err BadLength) e)
none_is_missing bytes are begun none (Err NoMemory) e = absurd (says_read bytes are (Err NoMemory) e)

pub ends_are_missing : EndsAreMissing
ends_are_missing bytes are = (
  λ e.
      let missing = found bytes NoEnd (λ z. cc) e in (
        whole_begun bytes (says_read bytes are (Err NoEnd) missing),
        λ entries is. let ok = text_read bytes entries is in absurd cc,
      ),
  λ is. told bytes NoEnd (none_is_missing bytes are is.0 is.1 (read bytes) refl),
)

abbrev IsOfLength : List ℕ → Type 0
IsOfLength bytes =
    (entries : List Entry) × IsTextOf bytes entries × (¬ IsPatternLength (length (rows_from no_command entries)))

length_is_bad : (bytes : List ℕ) → All IsByte bytes → (r : Result (List Entry) PackedFault) → read bytes ≡ r →
    rows_within r ≡ Err BadLength → IsOfLength bytes
length_is_bad bytes are (Ok entries) e bad =
    (entries, read_text bytes entries are e, (of_rows entries BadLength bad).none)
length_is_bad bytes are (Err BadLength) e bad = absurd (says_read bytes are (Err BadLength) e)
length_is_bad bytes are (Err (BadByte k)) e bad = absurd cc
length_is_bad bytes are (Err NoEnd) e bad = absurd cc
length_is_bad bytes are (Err NoMemory) e bad = absurd cc

not_within : (rows : List Row) → ¬ IsPatternLength (length rows) → (z : Bool) →
    (leb 1 (length rows) && leb (length rows) 128) ≡ z → within_length rows ≡ Err BadLength
not_within rows none true e =
    let parts = and_parts (leb 1 (length rows)) (leb (length rows) 128) e in
    absurd (none (record { least = leb-true 1 (length rows) parts.0; most = leb-true (length rows) 128 parts.1 }))
not_within rows none false e = rw e refl

bad_is_told : (bytes : List ℕ) (entries : List Entry) → IsTextOf bytes entries →
    ¬ IsPatternLength (length (rows_from no_command entries)) → packed_fault_of bytes ≡ Some BadLength
unfolding packed_fault_of read
bad_is_told bytes entries is none =
    let rows = rows_from no_command entries in
    ap (λ (r : Result (List Entry) PackedFault). fault_in (rows_within r)) (text_read bytes entries is)
    ∙ ap fault_in (not_within rows none (leb 1 (length rows) && leb (length rows) 128) refl)

pub lengths_are_bad : LengthsAreBad
unfolding read
lengths_are_bad bytes are = (
  λ e. length_is_bad bytes are (read bytes) refl (faults bytes BadLength e),
  λ is. bad_is_told bytes is.0 is.1 is.2,
)
