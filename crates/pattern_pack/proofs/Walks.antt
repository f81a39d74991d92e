-- The walk of the reader over the bytes, entry by entry.
use Rattle.std.proofs.Common.{◌≡◌, ℕ, ◌+◌, ◌*◌, ◌<◌, ◌≤◌, List, [], ◌∷◌, ◌++◌, drop}
use Rattle.std.proofs.Common.{Option, Some, None, Result, Ok, Err, refl, ap, sym, subst, ◌∙◌, append_assoc, arith}
use Rattle.std.specs.List.{All}
use Rattle.std.proofs.lemmas.List.{append-nil}
use Rattle.std.proofs.lemmas.List.Elements.{All-nil, All-cons, All-append}
use Rattle.packed_form.specs.declared.entries.Entry.{Entry}
use Rattle.packed_form.specs.declared.faults.PackedFault.{PackedFault}
use Rattle.packed_form.specs.declared.faults.PackedFault.TheVariants.{BadByte, NoEnd}
use Rattle.packed_form.specs.declared.places.Place.{Place}
use Rattle.packed_form.specs.declared.places.Place.TheVariants.{AtEntry}
use Rattle.packed_form.specs.declared.places.Taken.{Taken}
use Rattle.packed_form.specs.declared.places.Taken.TheVariants.{On, Made, End}
use Rattle.pattern_pack.specs.declared.rows.Rows.{Rows}
use Rattle.packed_form.specs.Entries.{IsEntry, no_command, rows_from}
use Rattle.packed_form.specs.Faults.{taken, with_entry, goes_on, entries_at, within_length, rows_within, unpacked}
use Rattle.pattern_pack.specs.Answers.{RowsOf, GoesOn}
use Rattle.pattern_pack.proofs.Readings.{IsPlace, TakenIs, taken_is}

-- entries before those that are read
abbrev pub with_entries : List Entry → Result (List Entry) PackedFault → Result (List Entry) PackedFault
with_entries done (Ok entries) = Ok (done ++ entries)
with_entries done (Err fault) = Err fault

with_none : (r : Result (List Entry) PackedFault) → with_entries [] r ≡ r
with_none (Ok entries) = refl
with_none (Err fault) = refl

with_more : (done : List Entry) (entry : Entry) (r : Result (List Entry) PackedFault) →
    with_entries (done ++ entry ∷ []) r ≡ with_entries done (with_entry entry r)
with_more done entry (Ok entries) = ap (λ (t : List Entry). Ok t) (append_assoc done (entry ∷ []) entries)
with_more done entry (Err fault) = refl

-- these entries have been read, and this is where the next byte stands
pub record Walked (bytes : List ℕ) (rows : Rows) (place : Place) (offset : ℕ) : Type 0 where
  pub done : List Entry
  pub read : with_entries done (entries_at offset place (drop offset bytes)) ≡ entries_at 0 (AtEntry 0) bytes
  pub of : RowsOf rows done
  pub each : All IsEntry done
  pub is : IsPlace place
  pub short : rows.count ≤ 256 * offset

pub walk_starts : (bytes : List ℕ) (rows : Rows) → RowsOf rows [] → Walked bytes rows (AtEntry 0) 0
walk_starts bytes rows is =
    let counted = is.are.count in
    record {
      done = [];
      read = with_none (entries_at 0 (AtEntry 0) bytes);
      of = is;
      each = All-nil IsEntry;
      is = omega arith;
      short = omega arith;
    }

-- what the byte does that stands next
pub walk_at : (bytes : List ℕ) (rows : Rows) (place : Place) (offset byte : ℕ) (others : List ℕ) (t : Option Taken)
    (walk : Walked bytes rows place offset) → drop offset bytes ≡ byte ∷ others → taken place byte ≡ t →
    with_entries walk.done (goes_on t offset others (λ next. entries_at (offset + 1) next others))
    ≡ entries_at 0 (AtEntry 0) bytes
walk_at bytes rows place offset byte others t walk here e =
    sym (
    ap (λ (left : List ℕ). with_entries walk.done (entries_at offset place left)) here
    ∙ ap (λ (u : Option Taken).
    with_entries walk.done (goes_on u offset others (λ next. entries_at (offset + 1) next others))) e
    )
    ∙ walk.read

pub walk_on : (bytes : List ℕ) (rows : Rows) (place next : Place) (offset byte : ℕ) →
    Walked bytes rows place offset → drop offset bytes ≡ byte ∷ drop (offset + 1) bytes → byte < 256 →
    taken place byte ≡ Some (On next) → Walked bytes rows next (offset + 1)
walk_on bytes rows place next offset byte walk here small e =
    let is = subst (TakenIs place byte) e (taken_is place byte walk.is small) in
    let short = walk.short in
    record {
      done = walk.done;
      read = walk_at bytes rows place offset byte (drop (offset + 1) bytes) (Some (On next)) walk here e;
      of = walk.of;
      each = walk.each;
      is = is.1;
      short = omega arith;
    }

pub walk_made : (bytes : List ℕ) (rows after : Rows) (place : Place) (entry : Entry) (offset byte : ℕ) →
    Walked bytes rows place offset → drop offset bytes ≡ byte ∷ drop (offset + 1) bytes → byte < 256 →
    taken place byte ≡ Some (Made entry)
    → ((done : List Entry) → RowsOf rows done → RowsOf after (done ++ entry ∷ []))
    → after.count ≤ rows.count + 256 → Walked bytes after (AtEntry 0) (offset + 1)
walk_made bytes rows after place entry offset byte walk here small e added more =
    let is = subst (TakenIs place byte) e (taken_is place byte walk.is small) in
    let short = walk.short in
    let rest = drop (offset + 1) bytes in
    record {
      done = walk.done ++ entry ∷ [];
      read = with_more walk.done entry (entries_at (offset + 1) (AtEntry 0) rest)
          ∙ walk_at bytes rows place offset byte rest (Some (Made entry)) walk here e;
      of = added walk.done walk.of;
      each = All-append IsEntry walk.done (entry ∷ []) walk.each (All-cons IsEntry entry [] is.1 (All-nil IsEntry));
      is = omega arith;
      short = omega arith;
    }

pub walk_step : (bytes : List ℕ) (rows after : Rows) (place next : Place) (offset byte : ℕ) (t : Taken) →
    Walked bytes rows place offset → drop offset bytes ≡ byte ∷ drop (offset + 1) bytes → byte < 256 →
    taken place byte ≡ Some t → GoesOn rows t after (Some next) → Walked bytes after next (offset + 1)
walk_step bytes rows after place next offset byte (On to) walk here small e is =
    let same : to ≡ next = cc is.0 in
    subst (λ (p : Place). Walked bytes after p (offset + 1)) same
    (subst (λ (r : Rows). Walked bytes r to (offset + 1)) (sym is.1)
    (walk_on bytes rows place to offset byte walk here small e))
walk_step bytes rows after place next offset byte (Made entry) walk here small e is =
    let same : AtEntry 0 ≡ next = cc is.0 in
    subst (λ (p : Place). Walked bytes after p (offset + 1)) same
    (walk_made bytes rows after place entry offset byte walk here small e is.1 is.2)
walk_step bytes rows after place next offset byte End walk here small e is = absurd (cc is.0)

pub walk_stops : (rows after : Rows) (t : Taken) → GoesOn rows t after None → (t ≡ End) × (after ≡ rows)
walk_stops rows after (On to) is = absurd (cc is.0)
walk_stops rows after (Made entry) is = absurd (cc is.0)
walk_stops rows after End is = (refl, is.1)

-- ---- the ends of the walk

pub walk_bad : (bytes : List ℕ) (rows : Rows) (place : Place) (offset byte : ℕ) (others : List ℕ) →
    Walked bytes rows place offset → drop offset bytes ≡ byte ∷ others → taken place byte ≡ None →
    unpacked bytes ≡ Err (BadByte offset)
walk_bad bytes rows place offset byte others walk here e =
    ap rows_within (sym (walk_at bytes rows place offset byte others None walk here e))

pub walk_past : (bytes : List ℕ) (rows : Rows) (place : Place) (offset byte next : ℕ) (others : List ℕ) →
    Walked bytes rows place offset → drop offset bytes ≡ byte ∷ next ∷ others → taken place byte ≡ Some End →
    unpacked bytes ≡ Err (BadByte (offset + 1))
walk_past bytes rows place offset byte next others walk here e =
    ap rows_within (sym (walk_at bytes rows place offset byte (next ∷ others) (Some End) walk here e))

pub walk_ends : (bytes : List ℕ) (rows : Rows) (place : Place) (offset byte : ℕ)
    (walk : Walked bytes rows place offset) → drop offset bytes ≡ byte ∷ [] → taken place byte ≡ Some End →
    unpacked bytes ≡ within_length (rows_from no_command walk.done)
walk_ends bytes rows place offset byte walk here e =
    ap rows_within (sym (walk_at bytes rows place offset byte [] (Some End) walk here e))
    ∙ ap (λ (t : List Entry). within_length (rows_from no_command t)) (append-nil walk.done)

pub walk_out : (bytes : List ℕ) (rows : Rows) (place : Place) (offset : ℕ) → Walked bytes rows place offset →
    drop offset bytes ≡ [] → unpacked bytes ≡ Err NoEnd
walk_out bytes rows place offset walk here =
    ap rows_within (sym walk.read ∙ ap (λ (left : List ℕ). with_entries walk.done (entries_at offset place left)) here)
