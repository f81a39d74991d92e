-- Fetching a row keeps a voice's notes: the note that waits is played. So does the pulse step, which leaves them alone.
use Rattle.std.specs.Prelude.{ℤ, bit_and, nat_le, not, ◌==◌, ◌&&◌, ◌||◌}
use Rattle.std.proofs.Common.{◌≡◌, ℕ, ◌+◌, ◌<◌, true, length, refl}
use Rattle.std.proofs.lemmas.Bool.{cond_both}
use Rattle.std.proofs.lemmas.List.Elements.{Contains-get_or}
use Rattle.song_model.specs.declared.rows.Row.{Row}
use Rattle.song_model.specs.declared.orders.Order.{Order}
use Rattle.song_model.specs.declared.tables.TableRow.{TableRow}
use Rattle.song_model.specs.declared.tables.TableName.TheVariants.{Pulse}
use Rattle.song_model.specs.declared.songs.Song.{Song}
use Rattle.song_model.specs.LookUp.{zero_row, pattern_row, pattern_at}
use Rattle.song_model.specs.Walk.{played}
use Rattle.song_model.proofs.Laws.{plays_are_patterns_lem}
use Rattle.play_model.specs.LookUps.{LookUps, look_ups_of}
use Rattle.play_model.specs.Wrap.{byte_plus, byte_minus}
use Rattle.play_model.specs.State.{Voice}
use Rattle.play_model.specs.PulseStep.{pulse_set, pulse_row, pulse_step}
use Rattle.play_model.specs.FetchRow.{row_taken, gate_keyed, is_note, transposed, gate_shut, note_waits, row_moved}
use Rattle.play_model.specs.FetchRow.{row_done, fetch_row}
use Rattle.play_model.specs.Used.{IsPlayedOrder}
use Rattle.play_model.proofs.Laws.{whole_lem}
use Rattle.safe_states.proofs.Laws.{CanBePlayed}
use Rattle.asked_numbers.specs.Numbers.{IsPlayedNote}
use Rattle.kept_notes.specs.Voices.{KeepsNotes}
use Rattle.kept_notes.proofs.Transposes.{play_transpose}
use Rattle.kept_notes.proofs.Keeping.{kept_of_notes}

-- ---- the pulse step

pub pulse_keeps : (song : Song) (look : LookUps) (v : Voice) → KeepsNotes song v → KeepsNotes song (pulse_step look v)
unfolding pulse_step
pulse_keeps song look v q =
    cond_both (v.pulse_ptr == 0) v (pulse_row look row v) (KeepsNotes song) (λ h. q)
    (λ h. cond_both ((v.pulse_time == 0) && nat_le 0x80 row.left) (pulse_set look row v) _ (KeepsNotes song)
    (λ h. (kept_of_notes song).pulse v _ v.pulse_time _ q)
    (λ h. cond_both ((v.pulse_time == 0) && (row.left == 0)) v _ (KeepsNotes song) (λ h. q)
    (λ h. (kept_of_notes song).pulse v _ _ _ q)))
  where
    row : TableRow
    row = look.row Pulse v.pulse_ptr

-- ---- the note of a play's row

note_played : (song : Song) (order : Order) (v : Voice) → CanBePlayed song → IsPlayedOrder song order →
    v.row < length (pattern_at song (played order v.plays).pattern) →
    is_note (pattern_row (pattern_at song (played order v.plays).pattern) v.row).note ≡ true →
    IsPlayedNote song
    (byte_minus (transposed (pattern_row (pattern_at song (played order v.plays).pattern) v.row).note
    (played order v.plays).transpose) 0x60)
note_played song order v play is inside plays =
    let names = plays_are_patterns_lem order v.plays ((whole_lem song play.playable).order order is) in
    record {
      order = order;
      played = is;
      pattern = (played order v.plays).pattern;
      entry = names.entry;
      is_pattern = names.pattern;
      row = pattern_row (pattern_at song (played order v.plays).pattern) v.row;
      has = Contains-get_or (pattern_at song (played order v.plays).pattern) v.row zero_row inside;
      plays = plays;
      transpose = (played order v.plays).transpose;
      by = play_transpose order v.plays;
      note_is = refl;
    }

-- ---- fetching

taken_keeps : (song : Song) (row : Row) (v : Voice) → KeepsNotes song v → KeepsNotes song (row_taken row v)
taken_keeps song row v q = assumption q

keyed_keeps : (song : Song) (note : ℕ) (v : Voice) → KeepsNotes song v → KeepsNotes song (gate_keyed note v)
keyed_keeps song note v q =
    cond_both (note == 0xBE) _ _ (KeepsNotes song) (λ h. (kept_of_notes song).sound v v.ad v.sr v.wave 0xFE q)
    (λ h. cond_both (note == 0xBF) _ v (KeepsNotes song)
    (λ h. (kept_of_notes song).sound v v.ad v.sr v.wave 0xFF q) (λ h. q))

shut_keeps : (song : Song) (timer : ℕ) (v : Voice) → KeepsNotes song v → KeepsNotes song (gate_shut timer v)
shut_keeps song timer v q =
    cond_both ((v.new_command == 3) || not (bit_and timer 0x40 == 0)) v _ (KeepsNotes song) (λ h. q)
    (λ h. cond_both (bit_and timer 0x80 == 0) _ _ (KeepsNotes song)
    (λ h. (kept_of_notes song).sound v 0x0F 0 v.wave 0xFE q)
    (λ h. (kept_of_notes song).sound v v.ad v.sr v.wave 0xFE q))

new_note_keeps : (song : Song) (v : Voice) (note : ℕ) → IsPlayedNote song (byte_minus note 0x60) →
    KeepsNotes song v → KeepsNotes song (record v { new_note = note })
new_note_keeps song v note h q = record { note = q.note; new_note = λ some. h; last = q.last; timer = q.timer }

waits_keeps : (song : Song) (look : LookUps) (note : ℕ) (transpose : ℤ) (v : Voice) →
    (is_note note ≡ true → IsPlayedNote song (byte_minus (transposed note transpose) 0x60)) → KeepsNotes song v →
    KeepsNotes song (note_waits look note transpose v)
waits_keeps song look note transpose v h q =
    cond_both (is_note note) _ v (KeepsNotes song)
    (λ z. shut_keeps song (look.instrument v.instrument).gate_timer (record v { new_note = transposed note transpose })
    (new_note_keeps song v (transposed note transpose) (h z) q))
    (λ z. q)

place_keeps : (song : Song) (v : Voice) (row plays : ℕ) → KeepsNotes song v →
    KeepsNotes song (record v { row = row; plays = plays })
place_keeps song v row plays q = assumption q

moved_keeps : (song : Song) (rows : ℕ) (v : Voice) → KeepsNotes song v → KeepsNotes song (row_moved rows v)
moved_keeps song rows v q =
    cond_both (byte_plus v.row 1 == rows) _ _ (KeepsNotes song) (λ h. place_keeps song v 0 (v.plays + 1) q)
    (λ h. place_keeps song v (byte_plus v.row 1) v.plays q)

pub fetch_keeps : (song : Song) (order : Order) (v : Voice) → CanBePlayed song → IsPlayedOrder song order →
    v.row < length (pattern_at song (played order v.plays).pattern) → KeepsNotes song v →
    KeepsNotes song (fetch_row (look_ups_of song) order v)
unfolding fetch_row
fetch_keeps song order v play is inside q =
    let rows = pattern_at song (played order v.plays).pattern in
    let row = pattern_row rows v.row in
    moved_keeps song (length rows) (row_done (look_ups_of song) row (played order v.plays).transpose v)
    (waits_keeps song (look_ups_of song) row.note (played order v.plays).transpose
    (gate_keyed row.note (row_taken row v)) (λ plays. note_played song order v play is inside plays)
    (keyed_keeps song row.note (row_taken row v) (taken_keeps song row v q)))
