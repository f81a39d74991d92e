-- What a voice fetches of normal rows.
use Rattle.std.proofs.Common.{◌≡◌, ◌≢◌, ℕ, zero, suc, ◌+◌, ◌<◌, ℤ, Bool, true, false, not}
use Rattle.std.proofs.Common.{◌||◌, ◌==◌, if◌then◌else◌, List, [], ◌∷◌, length, take, refl, sym}
use Rattle.std.proofs.Common.{◌∙◌, ap, subst, arith}
use Rattle.std.specs.Prelude.{bit_and}
use Rattle.std.proofs.lemmas.Bool.{eqb-true, eqb-false}
use Rattle.song_model.specs.declared.rows.Row.{Row}
use Rattle.song_model.specs.LookUp.{pattern_row}
use Rattle.play_model.specs.LookUps.{LookUps}
use Rattle.play_model.specs.State.{Voice}
use Rattle.play_model.specs.FetchRow.{row_taken, gate_keyed, is_note, transposed, gate_shut, note_waits, row_moved, row_done}
use Rattle.play_model.specs.Wrap.{byte_plus}
use Rattle.packed_form.specs.Normal.{last_instrument, normal_row, normal_from, normal_rows}
use Rattle.pattern_pack.specs.NormalLaws.{instrument_behind, HasNamed, bare_param, NormalRowsAreFetched}
use Rattle.pattern_pack.proofs.Packings.{normal_length}

-- ---- the parameter of command 0

bare_if : (b : Bool) (v w : Voice) → (if b then bare_param v else bare_param w) ≡ bare_param (if b then v else w)
bare_if true v w = refl
bare_if false v w = refl

bare_keyed : (note : ℕ) (v : Voice) → gate_keyed note (bare_param v) ≡ bare_param (gate_keyed note v)
bare_keyed note v =
    ap (λ (w : Voice). if note == 0xBE then bare_param (record v { gate = 0xFE }) else w)
    (bare_if (note == 0xBF) (record v { gate = 0xFF }) v)
    ∙ bare_if (note == 0xBE) (record v { gate = 0xFE }) (if note == 0xBF then record v { gate = 0xFF } else v)

bare_shut : (timer : ℕ) (v : Voice) → gate_shut timer (bare_param v) ≡ bare_param (gate_shut timer v)
bare_shut timer v =
    ap (λ (w : Voice). if (v.new_command == 3) || not (bit_and timer 0x40 == 0) then bare_param v else w)
    (bare_if (bit_and timer 0x80 == 0) (record v { gate = 0xFE; ad = 0x0F; sr = 0 }) (record v { gate = 0xFE }))
    ∙ bare_if ((v.new_command == 3) || not (bit_and timer 0x40 == 0)) v
    (if bit_and timer 0x80 == 0 then record v { gate = 0xFE; ad = 0x0F; sr = 0 } else record v { gate = 0xFE })

bare_waits : (look : LookUps) (note : ℕ) (transpose : ℤ) (v : Voice) →
    note_waits look note transpose (bare_param v) ≡ bare_param (note_waits look note transpose v)
bare_waits look note transpose v =
    ap (λ (w : Voice). if is_note note then w else bare_param v)
    (bare_shut (look.instrument v.instrument).gate_timer (record v { new_note = transposed note transpose }))
    ∙ bare_if (is_note note)
    (gate_shut (look.instrument v.instrument).gate_timer (record v { new_note = transposed note transpose })) v

bare_moved : (rows : ℕ) (v : Voice) → row_moved rows (bare_param v) ≡ bare_param (row_moved rows v)
bare_moved rows v =
    bare_if (byte_plus v.row 1 == rows) (record v { row = 0; plays = v.plays + 1 }) (record v { row = byte_plus v.row 1 })

-- ---- one row

abbrev named : Row → ℕ → ℕ
named row instrument = if row.instrument == 0 then instrument else row.instrument

same_named : (last instrument : ℕ) (row : Row) → (last ≢ 0 → instrument ≡ last) →
    named (normal_row last row) instrument ≡ named row instrument
same_named last instrument row has = by_last (row.instrument == last) refl
  where
    by_zero : (b : Bool) → row.instrument ≡ last → (row.instrument == 0) ≡ b → instrument ≡ named row instrument
    by_zero true is e = rw e refl
    by_zero false is e =
        let some : last ≢ 0 = λ (z : last ≡ 0). eqb-false row.instrument 0 e (is ∙ z) in
        rw e (has some ∙ sym is)

    by_last : (b : Bool) → (row.instrument == last) ≡ b → named (normal_row last row) instrument ≡ named row instrument
    by_last true e = rw e (by_zero (row.instrument == 0) (eqb-true row.instrument last e) refl)
    by_last false e = rw e refl

taken : (last : ℕ) (row : Row) (v : Voice) → HasNamed last v →
    row_taken (normal_row last row) v ≡ bare_param (row_taken row v)
taken last row v has =
    let with_instrument : ℕ → Voice = λ i. record v {
      instrument = i;
      new_command = row.command;
      new_param = if row.command == 0 then 0 else row.param;
    } in
    ap with_instrument (same_named last v.instrument row has)

done : (look : LookUps) (last : ℕ) (row : Row) (transpose : ℤ) (v : Voice) → HasNamed last v →
    row_done look (normal_row last row) transpose v ≡ bare_param (row_done look row transpose v)
done look last row transpose v has =
    ap (λ (w : Voice). note_waits look row.note transpose (gate_keyed row.note w)) (taken last row v has)
    ∙ ap (note_waits look row.note transpose) (bare_keyed row.note (row_taken row v))
    ∙ bare_waits look row.note transpose (gate_keyed row.note (row_taken row v))

-- ---- the instrument

instrument_if : (b : Bool) (v w : Voice) (i : ℕ) → v.instrument ≡ i → w.instrument ≡ i → (if b then v else w).instrument ≡ i
instrument_if true v w i p q = p
instrument_if false v w i p q = q

keyed_instrument : (note : ℕ) (v : Voice) → (gate_keyed note v).instrument ≡ v.instrument
keyed_instrument note v =
    instrument_if (note == 0xBE) (record v { gate = 0xFE }) (if note == 0xBF then record v { gate = 0xFF } else v) v.instrument
    refl (instrument_if (note == 0xBF) (record v { gate = 0xFF }) v v.instrument refl refl)

shut_instrument : (timer : ℕ) (v : Voice) → (gate_shut timer v).instrument ≡ v.instrument
shut_instrument timer v =
    instrument_if ((v.new_command == 3) || not (bit_and timer 0x40 == 0)) v
    (if bit_and timer 0x80 == 0 then record v { gate = 0xFE; ad = 0x0F; sr = 0 } else record v { gate = 0xFE })
    v.instrument refl
    (instrument_if (bit_and timer 0x80 == 0) (record v { gate = 0xFE; ad = 0x0F; sr = 0 }) (record v { gate = 0xFE })
    v.instrument refl refl)

waits_instrument : (look : LookUps) (note : ℕ) (transpose : ℤ) (v : Voice) →
    (note_waits look note transpose v).instrument ≡ v.instrument
waits_instrument look note transpose v =
    instrument_if (is_note note)
    (gate_shut (look.instrument v.instrument).gate_timer (record v { new_note = transposed note transpose })) v v.instrument
    (shut_instrument (look.instrument v.instrument).gate_timer (record v { new_note = transposed note transpose })) refl

moved_instrument : (rows : ℕ) (v : Voice) → (row_moved rows v).instrument ≡ v.instrument
moved_instrument rows v =
    instrument_if (byte_plus v.row 1 == rows) (record v { row = 0; plays = v.plays + 1 })
    (record v { row = byte_plus v.row 1 }) v.instrument refl refl

fetched_instrument : (look : LookUps) (rows : ℕ) (row : Row) (transpose : ℤ) (v : Voice) →
    (row_moved rows (row_done look row transpose v)).instrument ≡ named row v.instrument
fetched_instrument look rows row transpose v =
    moved_instrument rows (row_done look row transpose v)
    ∙ waits_instrument look row.note transpose (gate_keyed row.note (row_taken row v))
    ∙ keyed_instrument row.note (row_taken row v)

named_behind : (last instrument : ℕ) (row : Row) → (last ≢ 0 → instrument ≡ last) →
    last_instrument last row ≢ 0 → named row instrument ≡ last_instrument last row
named_behind last instrument row has = by_zero (row.instrument == 0) refl
  where
    by_zero : (b : Bool) → (row.instrument == 0) ≡ b → last_instrument last row ≢ 0 →
        named row instrument ≡ last_instrument last row
    by_zero true e some = let h : last ≢ 0 = rw e at some in rw e (has h)
    by_zero false e some = rw e refl

-- ---- rows of a pattern

normal_at : (last : ℕ) (rows : List Row) (i : ℕ) → i < length rows →
    pattern_row (normal_from last rows) i ≡ normal_row (instrument_behind last (take i rows)) (pattern_row rows i)
normal_at last [] i small = absurd (omega arith)
normal_at last (row ∷ rows) zero small = refl
normal_at last (row ∷ rows) (suc i) small = normal_at (last_instrument last row) rows i (omega arith)

behind_next : (last : ℕ) (rows : List Row) (i : ℕ) → i < length rows →
    instrument_behind last (take (suc i) rows) ≡ last_instrument (instrument_behind last (take i rows)) (pattern_row rows i)
behind_next last [] i small = absurd (omega arith)
behind_next last (row ∷ rows) zero small = refl
behind_next last (row ∷ rows) (suc i) small = behind_next (last_instrument last row) rows i (omega arith)

pub normal_rows_are_fetched : NormalRowsAreFetched
normal_rows_are_fetched look rows transpose v small has =
    let last = instrument_behind 0 (take v.row rows) in
    let row = pattern_row rows v.row in (
      ap (λ (r : Row). row_moved (length (normal_rows rows)) (row_done look r transpose v)) (normal_at 0 rows v.row small)
          ∙ ap (λ (n : ℕ). row_moved n (row_done look (normal_row last row) transpose v)) (normal_length rows 0)
          ∙ ap (row_moved (length rows)) (done look last row transpose v has)
          ∙ bare_moved (length rows) (row_done look row transpose v),
      subst (λ (k : ℕ). HasNamed k (row_moved (length rows) (row_done look row transpose v)))
          (sym (behind_next 0 rows v.row small))
          (λ some. fetched_instrument look (length rows) row transpose v ∙ named_behind last v.instrument row has some),
    )
