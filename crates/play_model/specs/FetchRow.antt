-- Fetching a row: what it says waits for tick 0, but keyoff, keyon and a note's gate are seen at once.
use Rattle.std.specs.Prelude.{ℕ, ◌+◌, ℤ, pos, ◌+ℤ◌, unsigned_abs, Bool, not, ◌&&◌, ◌||◌, ◌==◌}
use Rattle.std.specs.Prelude.{List, length, if◌then◌else◌, nat_le, bit_and}
use Rattle.std.specs.Int.{int_rem_euclid}
use Rattle.song_model.specs.declared.rows.Row.{Row}
use Rattle.song_model.specs.declared.orders.Order.{Order}
use Rattle.song_model.specs.declared.orders.Step.{Step}
use Rattle.song_model.specs.Walk.{played}
use Rattle.song_model.specs.LookUp.{pattern_row}
use Rattle.play_model.specs.LookUps.{LookUps}
use Rattle.play_model.specs.Wrap.{byte_plus}
use Rattle.play_model.specs.State.{Voice}

-- instrument 0 keeps the one that the voice has
abbrev pub row_taken : Row → Voice → Voice
row_taken row v = record v {
  instrument = if row.instrument == 0 then v.instrument else row.instrument;
  new_command = row.command;
  new_param = row.param;
}

-- $BE is keyoff, $BF keyon
abbrev pub gate_keyed : ℕ → Voice → Voice
gate_keyed note v =
    if note == 0xBE then record v { gate = 0xFE }
    else if note == 0xBF then record v { gate = 0xFF }
    else v

abbrev pub is_note : ℕ → Bool
is_note note = nat_le 0x60 note && nat_le note 0xBC

-- the note with the transpose added, as a byte: from $50 to $CA
abbrev pub transposed : ℕ → ℤ → ℕ
transposed note transpose = unsigned_abs (int_rem_euclid (pos note +ℤ transpose) (pos 256))

-- Bit $40 of the gateoff timer keeps the gate before a note, and so does command 3. Where the gate
-- goes off, bit $80 keeps the envelope, which else is shut.
abbrev pub gate_shut : ℕ → Voice → Voice
gate_shut timer v =
    if (v.new_command == 3) || not (bit_and timer 0x40 == 0) then v
    else if bit_and timer 0x80 == 0 then record v { gate = 0xFE; ad = 0x0F; sr = 0 }
    else record v { gate = 0xFE }

abbrev pub note_waits : LookUps → ℕ → ℤ → Voice → Voice
note_waits look note transpose v =
    if is_note note
    then
    gate_shut (look.instrument v.instrument).gate_timer
    (record v { new_note = transposed note transpose })
    else v

-- after the last row of the pattern the orderlist goes to its next play
abbrev pub row_moved : ℕ → Voice → Voice
row_moved rows v =
    if byte_plus v.row 1 == rows then record v { row = 0; plays = v.plays + 1 } else record v { row = byte_plus v.row 1 }

abbrev pub row_done : LookUps → Row → ℤ → Voice → Voice
row_done look row transpose v =
    note_waits look row.note transpose (gate_keyed row.note (row_taken row v))

abbrev pub fetched_from : LookUps → List Row → ℤ → Voice → Voice
fetched_from look rows transpose v =
    row_moved (length rows) (row_done look (pattern_row rows v.row) transpose v)

abbrev pub fetched : LookUps → Step → Voice → Voice
fetched look play v = fetched_from look (look.rows play.pattern) play.transpose v

unfoldable pub fetch_row : LookUps → Order → Voice → Voice
fetch_row look order v = fetched look (played order v.plays) v
