-- No entries with the same rows have fewer bytes than those of the packer's rule.
use Rattle.std.proofs.Common.{◌≡◌, ◌⊎◌, ℕ, zero, suc, ◌+◌, ◌≤◌, min, Bool, true, false, cond}
use Rattle.std.proofs.Common.{eqb, ltb, List, [], ◌∷◌, ◌++◌, length, drop, replicate, refl, ap, sym}
use Rattle.std.proofs.Common.{◌∙◌, inl, inr, arith, length-append}
use Rattle.std.specs.List.{All, flat_map}
use Rattle.std.proofs.Math.Nat.{min-le_left, min-le_right}
use Rattle.std.proofs.lemmas.Bool.{eq-eqb, and_from, ltb-true, ltb-false}
use Rattle.std.proofs.lemmas.List.Elements.{All-head, All-tail}
use Rattle.song_model.specs.declared.rows.Row.{Row}
use Rattle.packed_form.specs.declared.entries.Command.{Command}
use Rattle.packed_form.specs.declared.entries.EntryKind.{EntryKind}
use Rattle.packed_form.specs.declared.entries.EntryKind.TheVariants.{NamedNote, NamedRest, Note, Rests}
use Rattle.packed_form.specs.declared.entries.Entry.{Entry}
use Rattle.packed_form.specs.Entries.{IsKind, IsEntry, instrument_bytes, kind_bytes, entry_bytes, command_behind}
use Rattle.packed_form.specs.Entries.{entry_note, more_rests, row_with, rows_from, command_of}
use Rattle.packed_form.specs.PackedText.{keeps, is_bare_rest, rests_in_front, first_kind, first_entry, entries_from}
use Rattle.pattern_pack.proofs.Packings.{keeps_command, bare_is, gathered_rows}

-- how many bytes the packer's entries have
abbrev cost : Command → ℕ → List Row → ℕ
cost running k rows = length (flat_map entry_bytes (entries_from running k rows))

cost_first : (running : Command) (row : Row) (rows : List Row) →
    cost running 0 (row ∷ rows)
    ≡ length (entry_bytes (first_entry running row rows))
    + cost (command_of row) (more_rests (first_kind running row rows)) rows
cost_first running row rows =
    length-append (entry_bytes (first_entry running row rows))
    (flat_map entry_bytes (entries_from (command_of row) (more_rests (first_kind running row rows)) rows))

-- ---- a rest that names nothing

first_bare : (running : Command) (row : Row) (rows : List Row) → keeps running row ≡ true → row.note ≡ 189 →
    row.instrument ≡ 0 →
    first_entry running row rows
    ≡ record { instrument = 0; kind = Rests (min 63 (rests_in_front (command_of row) rows)) }
first_bare running row rows k n i = rw (k, eq-eqb row.note 189 n, i) refl

keeps_true : (running : Command) (row : Row) → row.command ≡ running.number → row.param ≡ running.param →
    keeps running row ≡ true
keeps_true running row number param =
    and_from (eqb row.command running.number) (eqb row.param running.param) (eq-eqb _ _ number) (eq-eqb _ _ param)

cost_bare : (running : Command) (row : Row) (rows : List Row) → is_bare_rest running row ≡ true →
    cost running 0 (row ∷ rows) ≡ 1 + cost running (min 63 (rests_in_front running rows)) rows
cost_bare running row rows e =
    let is = bare_is running row e in
    let same = keeps_command running row is.keeps in
    let first = first_bare running row rows (keeps_true running row is.keeps.number is.keeps.param) is.note is.instrument in
    cost_first running row rows
    ∙ ap (λ (f : Entry). length (entry_bytes f) + cost (command_of row) (more_rests f.kind) rows) first
    ∙ ap (λ (r : Command). 1 + cost r (min 63 (rests_in_front r rows)) rows) (sym same)

front_drop_step : (running : Command) (row : Row) (rows : List Row) (k : ℕ) (z : Bool)
    → (k ≤ rests_in_front running rows → k + rests_in_front running (drop k rows) ≡ rests_in_front running rows)
    → suc k ≤ cond z (suc (rests_in_front running rows)) 0
    → suc k + rests_in_front running (drop k rows) ≡ cond z (suc (rests_in_front running rows)) 0
front_drop_step running row rows k true more few =
    let h = more (omega arith) in
    omega arith
front_drop_step running row rows k false more few = absurd (omega arith)

-- how many are left where some are passed over
front_drop : (rows : List Row) (running : Command) (k : ℕ) → k ≤ rests_in_front running rows →
    k + rests_in_front running (drop k rows) ≡ rests_in_front running rows
front_drop rows running zero few = omega arith
front_drop [] running (suc k) few = absurd (omega arith)
front_drop (row ∷ rows) running (suc k) few =
    front_drop_step running row rows k (is_bare_rest running row) (front_drop rows running k) few

-- ---- to pass over more rests never costs more, and to pass over fewer costs one byte more at most

pub record Passes (rows : List Row) : Type 0 where
  pub fewer : (running : Command) (k most : ℕ) → k ≤ most → most ≤ k + rests_in_front running (drop k rows) →
      cost running most rows ≤ cost running k rows
  pub one_more : (running : Command) (k most : ℕ) → k ≤ most → most ≤ k + rests_in_front running (drop k rows) →
      most ≤ k + 64 → cost running k rows ≤ 1 + cost running most rows

between : (rows : List Row) (running : Command) (k most : ℕ) → k ≤ most → most ≤ rests_in_front running rows →
    most ≤ k + rests_in_front running (drop k rows)
between rows running k most le few = omega (arith, front_drop rows running k (omega arith))

fewer_by : (rows : List Row) → Passes rows → (running : Command) (most : ℕ) → most ≤ rests_in_front running rows
    → (z : Bool) → ltb most (min 63 (rests_in_front running rows)) ≡ z →
    cost running most rows ≤ 1 + cost running (min 63 (rests_in_front running rows)) rows
fewer_by rows passes running most few true e =
    let lt = ltb-true most (min 63 (rests_in_front running rows)) e in
    passes.one_more running most (min 63 (rests_in_front running rows)) (omega arith)
    (between rows running most (min 63 (rests_in_front running rows)) (omega arith)
    (min-le_right 63 (rests_in_front running rows)))
    (omega (arith, min-le_left 63 (rests_in_front running rows)))
fewer_by rows passes running most few false e =
    let ge = ltb-false most (min 63 (rests_in_front running rows)) e in
    let h = passes.fewer running (min 63 (rests_in_front running rows)) most (omega arith)
    (between rows running (min 63 (rests_in_front running rows)) most (omega arith) few) in
    omega arith

fewer_zero : (row : Row) (rows : List Row) → Passes rows → (running : Command) (most : ℕ) (z : Bool) →
    is_bare_rest running row ≡ z → suc most ≤ cond z (suc (rests_in_front running rows)) 0 →
    cost running most rows ≤ cost running 0 (row ∷ rows)
fewer_zero row rows passes running most true e few =
    omega (
      arith,
      cost_bare running row rows e,
      fewer_by rows passes running most (omega arith) (ltb most (min 63 (rests_in_front running rows))) refl,
    )
fewer_zero row rows passes running most false e few = absurd (omega arith)

fewer_step : (row : Row) (rows : List Row) → Passes rows → (running : Command) (k most : ℕ) → k ≤ most →
    most ≤ k + rests_in_front running (drop k (row ∷ rows)) → cost running most (row ∷ rows) ≤ cost running k (row ∷ rows)
fewer_step row rows passes running zero zero le few = omega arith
fewer_step row rows passes running zero (suc most) le few =
    fewer_zero row rows passes running most (is_bare_rest running row) refl (omega arith)
fewer_step row rows passes running (suc k) zero le few = absurd (omega arith)
fewer_step row rows passes running (suc k) (suc most) le few = passes.fewer running k most (omega arith) (omega arith)

one_zero : (row : Row) (rows : List Row) → Passes rows → (running : Command) (most : ℕ) (z : Bool) →
    is_bare_rest running row ≡ z → suc most ≤ cond z (suc (rests_in_front running rows)) 0 → most ≤ 63 →
    cost running 0 (row ∷ rows) ≤ 1 + cost running most rows
one_zero row rows passes running most true e few short =
    let all = min 63 (rests_in_front running rows) in
    omega (
      arith,
      cost_bare running row rows e,
      passes.fewer running most all (omega arith)
          (between rows running most all (omega arith) (min-le_right 63 (rests_in_front running rows))),
    )
one_zero row rows passes running most false e few short = absurd (omega arith)

one_step : (row : Row) (rows : List Row) → Passes rows → (running : Command) (k most : ℕ) → k ≤ most →
    most ≤ k + rests_in_front running (drop k (row ∷ rows)) → most ≤ k + 64 →
    cost running k (row ∷ rows) ≤ 1 + cost running most (row ∷ rows)
one_step row rows passes running zero zero le few short = omega arith
one_step row rows passes running zero (suc most) le few short =
    one_zero row rows passes running most (is_bare_rest running row) refl (omega arith) (omega arith)
one_step row rows passes running (suc k) zero le few short = absurd (omega arith)
one_step row rows passes running (suc k) (suc most) le few short =
    passes.one_more running k most (omega arith) (omega arith) (omega arith)

passes : (rows : List Row) → Passes rows
passes [] = record {
  fewer = λ running k most le few. omega arith;
  one_more = λ running k most le few short. omega arith;
}
passes (row ∷ rows) = record {
  fewer = fewer_step row rows (passes rows);
  one_more = one_step row rows (passes rows);
}

-- ---- the first entry

pub record Cheap (kind first : EntryKind) (front : ℕ) : Type 0 where
  pub bytes : length (kind_bytes first) ≤ length (kind_bytes kind)
  pub more : (more_rests first ≡ more_rests kind) ⊎ (more_rests first ≡ min 63 front)

not_false : true ≡ false → ⊥
not_false e = cc

one_at_least : (kind : EntryKind) → 1 ≤ length (kind_bytes kind)
one_at_least (NamedNote command note) = omega arith
one_at_least (NamedRest command) = omega arith
one_at_least (Note note) = omega arith
one_at_least (Rests more) = omega arith

keeps_own : (running : Command) (note instrument : ℕ) → keeps running (row_with note instrument running) ≡ true
keeps_own running note instrument = keeps_true running (row_with note instrument running) refl refl

cheap : (kind : EntryKind) (running : Command) (instrument front : ℕ) (z b : Bool)
    → keeps running (row_with (entry_note kind) instrument (command_behind running kind)) ≡ z →
    eqb (entry_note kind) 189 ≡ b
    → Cheap kind (
    cond z (cond b (Rests (min 63 front)) (Note (entry_note kind)))
    (cond b (NamedRest (command_behind running kind)) (NamedNote (command_behind running kind) (entry_note kind)))) front
cheap kind running instrument front true true hz hb =
    record { bytes = one_at_least kind; more = inr refl }
cheap (NamedNote command note) running instrument front true false hz hb =
    record { bytes = omega arith; more = inl refl }
cheap (NamedRest command) running instrument front true false hz hb = absurd (not_false hb)
cheap (Note note) running instrument front true false hz hb = record { bytes = omega arith; more = inl refl }
cheap (Rests more) running instrument front true false hz hb = absurd (not_false hb)
cheap (NamedNote command note) running instrument front false true hz hb =
    record { bytes = omega arith; more = inl refl }
cheap (NamedNote command note) running instrument front false false hz hb =
    record { bytes = omega arith; more = inl refl }
cheap (NamedRest command) running instrument front false true hz hb =
    record { bytes = omega arith; more = inl refl }
cheap (NamedRest command) running instrument front false false hz hb = absurd (not_false hb)
cheap (Note note) running instrument front false b hz hb =
    absurd (not_false (sym (keeps_own running note instrument) ∙ hz))
cheap (Rests more) running instrument front false b hz hb =
    absurd (not_false (sym (keeps_own running 189 instrument) ∙ hz))

-- ---- all entries

own_rest : (running : Command) → is_bare_rest running (row_with 0xBD 0 running) ≡ true
own_rest running = keeps_own running 0xBD 0

front_rests : (k : ℕ) (running : Command) (others : List Row) →
    k ≤ rests_in_front running (replicate k (row_with 0xBD 0 running) ++ others)
front_rests zero running others = omega arith
front_rests (suc k) running others =
    let h = front_rests k running others in
    rw (own_rest running) (omega arith)

drop_rests : (k : ℕ) (rest : Row) (others : List Row) → drop k (replicate k rest ++ others) ≡ others
drop_rests zero rest others = refl
drop_rests (suc k) rest others = drop_rests k rest others

small : (kind : EntryKind) → IsKind kind → more_rests kind ≤ 63
small (NamedNote command note) is = omega arith
small (NamedRest command) is = omega arith
small (Note note) is = omega arith
small (Rests more) is = is

kind_of : (entry : Entry) → IsEntry entry → more_rests entry.kind ≤ 63
kind_of entry is = small entry.kind is.kind

-- what the first entry gathers is what another one has, or all that it may
gathers : (rows : List Row) (running : Command) (more first : ℕ) → more ≤ min 63 (rests_in_front running rows)
    → (first ≡ more) ⊎ (first ≡ min 63 (rests_in_front running rows)) → cost running first rows ≤ cost running more rows
gathers rows running more first few e =
    let all = min 63 (rests_in_front running rows) in
    elim e [
      | inl same ↦ rw same (omega arith)
      | inr most ↦ rw most (
          (passes rows).fewer running more all few
          (between rows running more all few (min-le_right 63 (rests_in_front running rows)))
          )
    ]

pub shortest_from : (entries : List Entry) (running : Command) → All IsEntry entries →
    cost running 0 (rows_from running entries) ≤ length (flat_map entry_bytes entries)
shortest_from [] running are = omega arith
shortest_from (entry ∷ entries) running are =
    let behind = command_behind running entry.kind in
    let rest = row_with 0xBD 0 behind in
    let more = more_rests entry.kind in
    let others = rows_from behind entries in
    let rows = replicate more rest ++ others in
    let row = row_with (entry_note entry.kind) entry.instrument behind in
    let front = rests_in_front behind rows in
    let first = cheap entry.kind running entry.instrument front (keeps running row) (eqb (entry_note entry.kind) 189)
    refl refl in
    let few : more ≤ min 63 front =
    omega (arith, kind_of entry (All-head IsEntry entry entries are), front_rests more behind others) in
    let passed : cost behind more rows ≡ cost behind 0 others =
    ap (λ (t : List Entry). length (flat_map entry_bytes t))
    (gathered_rows rows behind more ∙ ap (entries_from behind 0) (drop_rests more rest others)) in
    omega (
      arith,
      cost_first running row rows,
      length-append (instrument_bytes entry.instrument) (kind_bytes (first_kind running row rows)),
      length-append (instrument_bytes entry.instrument) (kind_bytes entry.kind),
      length-append (entry_bytes entry) (flat_map entry_bytes entries),
      first.bytes,
      gathers rows behind more (more_rests (first_kind running row rows)) few first.more,
      passed,
      shortest_from entries behind (All-tail IsEntry entry entries are),
    )
