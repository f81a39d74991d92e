-- What is unpacked is what the bytes spell, and the clauses that say so.
use Rattle.std.proofs.Common.{◌≡◌, ◌≢◌, ◌⊎◌, ℕ, Bool, true, false, cond, leb, ◌&&◌, List}
use Rattle.std.proofs.Common.{length, get_or, Fits, w8, Some, Result, Ok, Err, IfOk, IfErr, refl, ap, sym, subst}
use Rattle.std.proofs.Common.{◌∙◌, inl, inr, arith}
use Rattle.std.specs.List.{All}
use Rattle.std.proofs.lemmas.Bool.{and_parts, and_from, leb-true, le-leb}
use Rattle.std.proofs.lemmas.List.Elements.{All-from_get_or}
use Rattle.song_model.specs.declared.rows.Row.{Row}
use Rattle.song_model.specs.Basics.{IsByte}
use Rattle.song_model.specs.PatternLimits.{IsPatternLength}
use Rattle.packed_form.specs.declared.entries.Entry.{Entry}
use Rattle.packed_form.specs.declared.faults.PackedFault.{PackedFault}
use Rattle.packed_form.specs.declared.faults.PackedFault.TheVariants.{BadByte, NoEnd, BadLength, NoMemory}
use Rattle.packed_form.specs.declared.places.Place.TheVariants.{AtEntry}
use Rattle.packed_form.specs.Entries.{no_command, rows_from}
use Rattle.packed_form.specs.PackedSpells.{PackedSpells}
use Rattle.packed_form.specs.Faults.{entries_at, within_length, rows_within, unpacked, fault_in, packed_fault_of}
use Rattle.pattern_pack.specs.Answers.{IsAnswer, Gives}
use Rattle.pattern_pack.proofs.Readings.{sound}
use Rattle.pattern_pack.proofs.Spellings.{complete}

-- the items of a slice of bytes
pub bytes_are : (xs : List ℕ) → ((i : ℕ) → Fits w8 (get_or xs i 0)) → All IsByte xs
bytes_are xs fits = All-from_get_or IsByte xs 0 (λ i inside. omega (arith, fits i))

abbrev these : List Row → Result (List Row) PackedFault
these rows = Ok rows

these_are : (rows others : List Row) → these rows ≡ these others → rows ≡ others
these_are rows others e = cc

pub record Within (rows others : List Row) : Type 0 where
  pub same : rows ≡ others
  pub count : IsPatternLength (length rows)

within_cases : (rows others : List Row) (z : Bool) → (leb 1 (length rows) && leb (length rows) 128) ≡ z →
    cond z (Ok rows) (Err BadLength) ≡ these others → Within rows others
within_cases rows others true h e =
    let parts = and_parts (leb 1 (length rows)) (leb (length rows) 128) h in
    record {
      same = these_are rows others e;
      count = record { least = leb-true 1 (length rows) parts.0; most = leb-true (length rows) 128 parts.1 };
    }
within_cases rows others false h e = absurd cc

within_is : (rows others : List Row) → within_length rows ≡ these others → Within rows others
within_is rows others = within_cases rows others (leb 1 (length rows) && leb (length rows) 128) refl

is_within : (rows : List Row) → IsPatternLength (length rows) → within_length rows ≡ these rows
is_within rows count =
    rw (and_from (leb 1 (length rows)) (leb (length rows) 128) (le-leb 1 (length rows) count.least)
    (le-leb (length rows) 128 count.most)) refl

found_in : (bytes : List ℕ) (rows : List Row) → All IsByte bytes → (r : Result (List Entry) PackedFault) →
    entries_at 0 (AtEntry 0) bytes ≡ r → rows_within r ≡ these rows → PackedSpells bytes rows
found_in bytes rows are (Ok entries) read e =
    let fits = sound bytes 0 (AtEntry 0) entries are (omega arith) read in
    let within = within_is (rows_from no_command entries) rows e in
    record {
      entries = entries;
      each = fits.each;
      text = fits.text;
      are = sym within.same;
      count = subst (λ (t : List Row). IsPatternLength (length t)) within.same within.count;
    }
found_in bytes rows are (Err fault) read e = absurd cc

-- the rows that are unpacked are spelled
pub unpacked_is_spelled : (bytes : List ℕ) (rows : List Row) → All IsByte bytes → unpacked bytes ≡ Ok rows →
    PackedSpells bytes rows
unpacked_is_spelled bytes rows are e = found_in bytes rows are (entries_at 0 (AtEntry 0) bytes) refl e

-- the rows that are spelled are unpacked
pub spelled_is_unpacked : (bytes : List ℕ) (rows : List Row) → PackedSpells bytes rows → unpacked bytes ≡ Ok rows
spelled_is_unpacked bytes rows spelled =
    ap (λ (b : List ℕ). rows_within (entries_at 0 (AtEntry 0) b)) spelled.text
    ∙ ap rows_within (complete spelled.entries 0 spelled.each)
    ∙ ap within_length (sym spelled.are)
    ∙ is_within rows spelled.count

-- ---- the clauses

memory_or_not : (fault : PackedFault) → (fault ≡ NoMemory) ⊎ (fault ≢ NoMemory)
memory_or_not NoMemory = inl refl
memory_or_not (BadByte n) = inr (λ e. cc)
memory_or_not NoEnd = inr (λ e. cc)
memory_or_not BadLength = inr (λ e. cc)

abbrev GivesRows : Result (List Row) PackedFault → List ℕ → Type 0
GivesRows r bytes = Gives r (unpacked bytes)

pub is_found : (bytes : List ℕ) (r : Result (List Row) PackedFault) → All IsByte bytes → GivesRows r bytes →
    IfOk r (PackedSpells bytes)
is_found bytes (Ok rows) are given = unpacked_is_spelled bytes rows are given
is_found bytes (Err fault) are given = tt

pub is_answer : (bytes : List ℕ) (r wanted : Result (List Row) PackedFault) → GivesRows r bytes →
    unpacked bytes ≡ wanted → IsAnswer r wanted
is_answer bytes (Ok rows) wanted given e = inl (sym given ∙ e)
is_answer bytes (Err fault) wanted given e =
    elim (memory_or_not fault) [
      | inl memory ↦ inr (ap Err memory)
      | inr other ↦ inl (sym (given other) ∙ e)
    ]

pub is_fault : (bytes : List ℕ) (r : Result (List Row) PackedFault) → GivesRows r bytes →
    IfErr r (λ fault. (fault ≡ NoMemory) ⊎ (packed_fault_of bytes ≡ Some fault))
unfolding packed_fault_of
is_fault bytes (Ok rows) given = tt
is_fault bytes (Err fault) given =
    elim (memory_or_not fault) [
      | inl memory ↦ inl memory
      | inr other ↦ inr (ap fault_in (given other))
    ]

fault_is : (r : Result (List Row) PackedFault) (fault : PackedFault) → fault_in r ≡ Some fault → r ≡ Err fault
fault_is (Ok rows) fault e = absurd cc
fault_is (Err other) fault e = cc

pub faults : (bytes : List ℕ) (fault : PackedFault) → packed_fault_of bytes ≡ Some fault → unpacked bytes ≡ Err fault
unfolding packed_fault_of
faults bytes fault e = fault_is (unpacked bytes) fault e
