-- Each step of a voice, and the filter's, keeps the ranges.
use Rattle.std.specs.Prelude.{◌==◌, nat_lt, bit_and}
use Rattle.std.proofs.Common.{ℕ, ℤ, ◌+◌, ◌-◌, ◌*◌, ◌%◌, ◌<◌, length, lit<, arith}
use Rattle.base.specs.Bytes.{IsByte}
use Rattle.base.proofs.Laws.{and_small}
use Rattle.song_model.specs.declared.rows.Row.{Row}
use Rattle.song_model.specs.declared.orders.Order.{Order}
use Rattle.song_model.specs.declared.tables.TableRow.{TableRow}
use Rattle.song_model.specs.declared.tables.TableName.TheVariants.{Pulse, Filter}
use Rattle.song_model.specs.Limits.{IsTableRow}
use Rattle.song_model.specs.LookUp.{pattern_row}
use Rattle.song_model.specs.Walk.{played}
use Rattle.play_model.specs.LookUps.{LookUps}
use Rattle.play_model.specs.State.{Voice, Common}
use Rattle.play_model.specs.Ranges.{IsBytesRow, AreLookUps, IsVoice, IsCommon}
use Rattle.play_model.specs.Wrap.{byte_plus, byte_minus, pulse_plus, pulse_minus}
use Rattle.play_model.specs.Helpers.{next_row, vibrato}
use Rattle.play_model.specs.FilterStep.{filter_set, filter_cutoff, filter_slide, filter_row, filter_step}
use Rattle.play_model.specs.EffectStep.{instrument_vibrato, effect_step}
use Rattle.play_model.specs.PulseStep.{pulse_set, pulse_moved, pulse_row, pulse_step}
use Rattle.play_model.specs.FetchRow.{row_taken, gate_keyed, is_note, transposed, gate_shut, note_waits, row_moved}
use Rattle.play_model.specs.FetchRow.{row_done, fetch_row}
use Rattle.play_model.proofs.Choices.{chosen}
use Rattle.play_model.proofs.RangesOfRules.{zero_small, wraps, smaller, transposed_small, next_small, up_keeps}
use Rattle.play_model.proofs.RangesOfRules.{down_keeps, tone_keeps, vibrato_keeps}

gate_off_small : IsByte 0xFE
gate_off_small = lit< tt

gate_on_small : IsByte 0xFF
gate_on_small = lit< tt

-- the filter step
filter_fields : (c : Common) (kind control cutoff time ptr : ℕ) → IsByte kind → IsByte control → IsByte cutoff →
    IsByte time → IsByte ptr →
    IsCommon c →
    IsCommon
    (record c { filter_type = kind; filter_control = control; cutoff = cutoff; filter_time = time; filter_ptr = ptr })
filter_fields c kind control cutoff time ptr a b d e f q = assumption (a, b, d, e, f, q)

filter_set_keeps : (look : LookUps) (row following : TableRow) (c : Common) → AreLookUps look → IsTableRow row →
    IsTableRow following →
    IsCommon c → IsCommon (filter_set look row following c)
filter_set_keeps look row following c a r f q =
    chosen IsCommon (following.left == 0) _ _
    (filter_fields c (bit_and row.left 0x70) row.right following.right c.filter_time
    (next_row look Filter (c.filter_ptr + 1))
    (and_small row.left 0x70 r.left) r.right f.right q.filter_time (next_small look Filter _ a) q)
    (filter_fields c (bit_and row.left 0x70) row.right c.cutoff c.filter_time (next_row look Filter c.filter_ptr)
    (and_small row.left 0x70 r.left) r.right q.cutoff q.filter_time (next_small look Filter _ a) q)

filter_cutoff_keeps : (look : LookUps) (row : TableRow) (c : Common) → AreLookUps look → IsTableRow row → IsCommon c →
    IsCommon (filter_cutoff look row c)
filter_cutoff_keeps look row c a r q =
    filter_fields c c.filter_type c.filter_control row.right c.filter_time (next_row look Filter c.filter_ptr)
    q.filter_type q.filter_control r.right q.filter_time (next_small look Filter _ a) q

filter_slide_keeps : (look : LookUps) (row : TableRow) (time : ℕ) (c : Common) → AreLookUps look → IsCommon c →
    IsCommon (filter_slide look row time c)
filter_slide_keeps look row time c a q =
    filter_fields c c.filter_type c.filter_control (byte_plus c.cutoff row.right) (byte_minus time 1) _
    q.filter_type q.filter_control (wraps _) (wraps _)
    (chosen IsByte (byte_minus time 1 == 0) (next_row look Filter c.filter_ptr) c.filter_ptr
    (next_small look Filter _ a) q.filter_ptr) q

pub filter_keeps : (look : LookUps) (c : Common) → AreLookUps look → IsCommon c → IsCommon (filter_step look c)
unfolding filter_step
filter_keeps look c a q =
    let row = look.row Filter c.filter_ptr in
    let r = a.row Filter c.filter_ptr in
    chosen IsCommon (c.filter_ptr == 0) c (filter_row look row c) q
    (chosen IsCommon _ (filter_set look row (look.row Filter (c.filter_ptr + 1)) c) _
    (filter_set_keeps look row _ c a r (a.row Filter (c.filter_ptr + 1)) q)
    (chosen IsCommon _ (filter_cutoff look row c) _ (filter_cutoff_keeps look row c a r q)
    (filter_slide_keeps look row _ c a q)))

-- the pulse step
pulse_fields : (v : Voice) (width time ptr : ℕ) → width < 4096 → IsByte time → IsByte ptr → IsVoice v →
    IsVoice (record v { pulse = width; pulse_time = time; pulse_ptr = ptr })
pulse_fields v width time ptr a b d q = assumption (a, b, d, q)

width_small : (left right : ℕ) → IsByte right → 256 * (left % 16) + right < 4096
width_small left right h = omega arith

moved_small : (width right : ℕ) → pulse_moved width right < 4096
moved_small width right =
    chosen (λ n. n < 4096) (nat_lt right 0x80) (pulse_plus width right) (pulse_minus width (256 - right)) (omega arith)
    (omega arith)

pulse_row_keeps : (look : LookUps) (row : TableRow) (v : Voice) → AreLookUps look → IsTableRow row → IsVoice v →
    IsVoice (pulse_row look row v)
pulse_row_keeps look row v a r q =
    chosen IsVoice _ (pulse_set look row v) _
    (pulse_fields v _ v.pulse_time _ (width_small row.left row.right r.right) q.pulse_time
    (next_small look Pulse _ a) q)
    (chosen IsVoice _ v _ q
    (pulse_fields v _ _ _ (moved_small v.pulse row.right) (wraps _)
    (chosen IsByte _ (next_row look Pulse v.pulse_ptr) v.pulse_ptr (next_small look Pulse _ a) q.pulse_ptr) q))

pub pulse_keeps : (look : LookUps) (v : Voice) → AreLookUps look → IsVoice v → IsVoice (pulse_step look v)
unfolding pulse_step
pulse_keeps look v a q =
    chosen IsVoice (v.pulse_ptr == 0) v (pulse_row look (look.row Pulse v.pulse_ptr) v) q
    (pulse_row_keeps look (look.row Pulse v.pulse_ptr) v a (a.row Pulse v.pulse_ptr) q)

-- the effect step
delay_keeps : (v : Voice) (n : ℕ) → IsByte n → IsVoice v → IsVoice (record v { vib_delay = n })
delay_keeps v n h q = assumption (h, q)

instrument_vibrato_keeps : (look : LookUps) (v : Voice) → IsVoice v → IsVoice (instrument_vibrato look v)
instrument_vibrato_keeps look v q =
    chosen IsVoice _ v _ q
    (chosen IsVoice _ (record v { vib_delay = v.vib_delay - 1 }) (vibrato look v.param v)
    (delay_keeps v (v.vib_delay - 1) (smaller v.vib_delay 1 q.vib_delay) q) (vibrato_keeps look v.param v q))

pub effect_keeps : (look : LookUps) (v : Voice) → IsVoice v → IsVoice (effect_step look v)
unfolding effect_step
effect_keeps look v q =
    chosen IsVoice (v.command == 0) _ _ (instrument_vibrato_keeps look v q)
    (chosen IsVoice (v.command == 1) _ _ (up_keeps look v.param v q)
    (chosen IsVoice (v.command == 2) _ _ (down_keeps look v.param v q)
    (chosen IsVoice (v.command == 3) _ _ (tone_keeps look v.param v q)
    (chosen IsVoice (v.command == 4) _ _ (vibrato_keeps look v.param v q) q))))

-- fetching a row
taken_keeps : (row : Row) (v : Voice) → IsBytesRow row → IsVoice v → IsVoice (row_taken row v)
taken_keeps row v r q =
    let i = chosen IsByte (row.instrument == 0) v.instrument row.instrument q.instrument r.instrument in
    assumption (i, r.command, r.param, q)

gate_keeps : (v : Voice) (n : ℕ) → IsByte n → IsVoice v → IsVoice (record v { gate = n })
gate_keeps v n h q = assumption (h, q)

keyed_keeps : (note : ℕ) (v : Voice) → IsVoice v → IsVoice (gate_keyed note v)
keyed_keeps note v q =
    chosen IsVoice _ _ _ (gate_keeps v 0xFE gate_off_small q)
    (chosen IsVoice _ _ v (gate_keeps v 0xFF gate_on_small q) q)

shut_fields : (v : Voice) → IsVoice v → IsVoice (record v { gate = 0xFE; ad = 0x0F; sr = 0 })
shut_fields v q = let d : IsByte 0x0F = lit< tt in assumption (gate_off_small, d, zero_small, q)

shut_keeps : (timer : ℕ) (v : Voice) → IsVoice v → IsVoice (gate_shut timer v)
shut_keeps timer v q =
    chosen IsVoice _ v _ q (chosen IsVoice _ _ _ (shut_fields v q) (gate_keeps v 0xFE gate_off_small q))

new_note_keeps : (v : Voice) (n : ℕ) → IsByte n → IsVoice v → IsVoice (record v { new_note = n })
new_note_keeps v n h q = assumption (h, q)

note_keeps : (look : LookUps) (note : ℕ) (transpose : ℤ) (v : Voice) → IsVoice v →
    IsVoice (note_waits look note transpose v)
note_keeps look note transpose v q =
    chosen IsVoice (is_note note) _ v
    (shut_keeps (look.instrument v.instrument).gate_timer (record v { new_note = transposed note transpose })
    (new_note_keeps v (transposed note transpose) (transposed_small note transpose) q)) q

row_field : (v : Voice) (row plays : ℕ) → IsByte row → IsVoice v → IsVoice (record v { row = row; plays = plays })
row_field v row plays h q = assumption (h, q)

moved_keeps : (rows : ℕ) (v : Voice) → IsVoice v → IsVoice (row_moved rows v)
moved_keeps rows v q =
    chosen IsVoice (byte_plus v.row 1 == rows) _ _ (row_field v 0 (v.plays + 1) zero_small q)
    (row_field v (byte_plus v.row 1) v.plays (wraps _) q)

row_done_keeps : (look : LookUps) (row : Row) (transpose : ℤ) (v : Voice) → IsBytesRow row → IsVoice v →
    IsVoice (row_done look row transpose v)
row_done_keeps look row transpose v r q =
    note_keeps look row.note transpose (gate_keyed row.note (row_taken row v))
    (keyed_keeps row.note (row_taken row v) (taken_keeps row v r q))

pub fetch_keeps : (look : LookUps) (order : Order) (v : Voice) → AreLookUps look → IsVoice v →
    IsVoice (fetch_row look order v)
unfolding fetch_row
fetch_keeps look order v a q =
    let play = played order v.plays in
    let rows = look.rows play.pattern in
    moved_keeps (length rows) (row_done look (pattern_row rows v.row) play.transpose v)
    (row_done_keeps look (pattern_row rows v.row) play.transpose v (a.rows play.pattern v.row) q)
