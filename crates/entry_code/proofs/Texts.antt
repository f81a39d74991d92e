-- The next byte of a packed pattern and the next row of a pattern, and where the text of entries begins.
use Rattle.std.proofs.Common.{◌≡◌, ◌≢◌, ℕ, ◌+◌, ◌<◌, ◌≤◌, List, [], ◌∷◌, ◌++◌}
use Rattle.std.proofs.Common.{length, drop, get_or}
use Rattle.std.proofs.Common.{nat_eq, true, false, inl, inr, refl, sym, ◌∙◌, Bool, append_assoc, arith}
use Rattle.std.proofs.Math.ListN.{drop_of_length-le}
use Rattle.std.proofs.lemmas.List.{drop_more}
use Rattle.std.proofs.lemmas.Bool.{cases_lt, eqb-false}
use Rattle.std.proofs.lemmas.List.Elements.{All-head}
use Rattle.std.specs.List.{All, flat_map}
use Rattle.packed_form.specs.declared.entries.EntryKind.{EntryKind}
use Rattle.packed_form.specs.declared.entries.EntryKind.TheVariants.{NamedNote, NamedRest, Note, Rests}
use Rattle.packed_form.specs.declared.entries.Entry.{Entry}
use Rattle.packed_form.specs.Entries.{IsEntry, IsKind, kind_bytes, entry_bytes}
use Rattle.packed_form.specs.PackedSpells.{text_of}

-- ---- what stands at a place

-- the list goes on with this item at this place
pub record Stands {X : Type 0} (xs : List X) (i : ℕ) (x other : X) (rest : List X) : Type 0 where
  pub inside : i < length xs
  pub is : get_or xs i other ≡ x
  pub rest_is : drop (i + 1) xs ≡ rest

pub first_same : {X : Type 0} (x y : X) (xs ys : List X) → x ∷ xs ≡ y ∷ ys → x ≡ y
first_same x y xs ys e = cc

pub rest_same : {X : Type 0} (x y : X) (xs ys : List X) → x ∷ xs ≡ y ∷ ys → xs ≡ ys
rest_same x y xs ys e = cc

pub joined : (x y : ℕ) (xs ys : List ℕ) → x ≡ y → xs ≡ ys → x ∷ xs ≡ y ∷ ys
joined x y xs ys first others = cc

not_none : {X : Type 0} (y : X) (ys : List X) → [] ≡ y ∷ ys → ⊥
not_none y ys e = cc

pub stands_there : {X : Type 0} (xs : List X) (i : ℕ) (x other : X) (rest : List X) → drop i xs ≡ x ∷ rest →
    Stands xs i x other rest
stands_there xs i x other rest e =
    elim (cases_lt i (length xs)) [
      | inl inside ↦
          let l = inside in
          let more : get_or xs i other ∷ drop (i + 1) xs ≡ x ∷ rest = sym (drop_more xs i other l) ∙ e in
          record { inside = l; is = first_same _ _ _ _ more; rest_is = rest_same _ _ _ _ more }
      | inr past ↦
          let h = past in
          elim (not_none x rest (sym (drop_of_length-le xs h) ∙ e)) [ ]
    ]

-- ---- texts

-- the first byte of a kind, and the others
abbrev pub kind_first : EntryKind → ℕ
kind_first (NamedNote command note) = 0x40 + command.number
kind_first (NamedRest command) = 0x50 + command.number
kind_first (Note note) = note
kind_first (Rests more) = 0xC0 + more

abbrev pub kind_others : EntryKind → List ℕ
kind_others (NamedNote command note) = command.param ∷ note ∷ []
kind_others (NamedRest command) = command.param ∷ []
kind_others (Note note) = []
kind_others (Rests more) = []

pub kind_is : (kind : EntryKind) → kind_bytes kind ≡ kind_first kind ∷ kind_others kind
kind_is (NamedNote command note) = refl
kind_is (NamedRest command) = refl
kind_is (Note note) = refl
kind_is (Rests more) = refl

pub kind_from : (kind : EntryKind) → IsKind kind → 0x40 ≤ kind_first kind
kind_from (NamedNote command note) is = omega arith
kind_from (NamedRest command) is = omega arith
kind_from (Note note) is = let from = is.from in omega arith
kind_from (Rests more) is = omega arith

pub kind_to : (kind : EntryKind) → IsKind kind → kind_first kind < 256
kind_to (NamedNote command note) is = let h = is.0.number in omega arith
kind_to (NamedRest command) is = let h = is.number in omega arith
kind_to (Note note) is = let to = is.to in omega arith
kind_to (Rests more) is = omega arith

-- an entry's bytes, and the text behind it
pub text_with : (entry : Entry) (entries : List Entry) → nat_eq entry.instrument 0 ≡ false →
    text_of (entry ∷ entries)
    ≡ entry.instrument ∷ kind_first entry.kind ∷ (kind_others entry.kind ++ text_of entries)
text_with entry entries e =
    append_assoc (entry_bytes entry) (flat_map entry_bytes entries) (0x00 ∷ [])
    ∙ rw (e, kind_is entry.kind) refl

pub text_without : (entry : Entry) (entries : List Entry) → nat_eq entry.instrument 0 ≡ true →
    text_of (entry ∷ entries) ≡ kind_first entry.kind ∷ (kind_others entry.kind ++ text_of entries)
text_without entry entries e =
    append_assoc (entry_bytes entry) (flat_map entry_bytes entries) (0x00 ∷ [])
    ∙ rw (e, kind_is entry.kind) refl

-- a text begins with some byte
pub record Begun (entries : List Entry) : Type 0 where
  pub byte : ℕ
  pub others : List ℕ
  pub is : text_of entries ≡ byte ∷ others

-- with an instrument or without, that of an entry isn't 0
with_or_without : (entry : Entry) (entries : List Entry) → IsEntry entry → (z : Bool) →
    nat_eq entry.instrument 0 ≡ z → (text : Begun (entry ∷ entries)) × (text.byte ≢ 0)
with_or_without entry entries is true e =
    let from = kind_from entry.kind is.kind in (
      record {
        byte = kind_first entry.kind;
        others = kind_others entry.kind ++ text_of entries;
        is = text_without entry entries e;
      },
      λ none. absurd (omega (arith, none, from)),
    )
with_or_without entry entries is false e = (
  record {
    byte = entry.instrument;
    others = kind_first entry.kind ∷ (kind_others entry.kind ++ text_of entries);
    is = text_with entry entries e;
  },
  eqb-false entry.instrument 0 e,
)

pub text_begins : (entries : List Entry) → All IsEntry entries → Begun entries
text_begins [] each = record { byte = 0; others = []; is = refl }
text_begins (entry ∷ entries) each =
    (with_or_without entry entries (All-head IsEntry entry entries each) (nat_eq entry.instrument 0) refl).0

-- so no entry begins with the byte that ends a pattern
pub text_goes_on : (entry : Entry) (entries : List Entry) (byte : ℕ) (others : List ℕ) → IsEntry entry →
    byte ∷ others ≡ text_of (entry ∷ entries) → byte ≢ 0
text_goes_on entry entries byte others is e none =
    let begun = with_or_without entry entries is (nat_eq entry.instrument 0) refl in
    begun.1 (sym (first_same byte begun.0.byte others begun.0.others (e ∙ begun.0.is)) ∙ none)
