-- The pulse step may stand behind the fetch of a row, since each changes what the other doesn't look at.
use Rattle.std.proofs.Common.{◌≡◌, ℕ, ℤ, ◌&&◌, ◌||◌, Bool, true, false, not, nat_eq, nat_le}
use Rattle.std.proofs.Common.{if◌then◌else◌}
use Rattle.std.proofs.Common.{bit_and, length, refl, sym, ap, ◌∙◌}
use Rattle.song_model.specs.declared.orders.Order.{Order}
use Rattle.song_model.specs.declared.rows.Row.{Row}
use Rattle.song_model.specs.declared.tables.TableName.TheVariants.{Pulse}
use Rattle.song_model.specs.Walk.{played}
use Rattle.song_model.specs.LookUp.{pattern_row}
use Rattle.play_model.specs.declared.options.Options.{Options}
use Rattle.play_model.specs.LookUps.{LookUps}
use Rattle.play_model.specs.Wrap.{byte_plus}
use Rattle.play_model.specs.State.{Voice, Playing, start_voice}
use Rattle.play_model.specs.PulseStep.{pulse_step}
use Rattle.play_model.specs.FetchRow.{row_taken, gate_keyed, is_note, transposed, gate_shut, note_waits, row_done}
use Rattle.play_model.specs.FetchRow.{row_moved, fetch_row}
use Rattle.play_model.specs.Frame.{is_at_fetch, pulse_left_out, pulse_done, row_fetched}
use Rattle.player_memory.specs.Playing.{with_voice}
use Rattle.voice_code.proofs.SongFields.{in_song}

-- a voice with the pulse program and the width of another
abbrev pub pulse_from : Voice → Voice → Voice
pulse_from q v = record v { pulse_ptr = q.pulse_ptr; pulse_time = q.pulse_time; pulse = q.pulse }

-- ---- the fetch of a row

-- one of two
on_both : (f : Voice → Voice) (b : Bool) (x y one two : Voice) → one ≡ f x → two ≡ f y →
    (if b then one else two) ≡ f (if b then x else y)
on_both f true x y one two here there = here
on_both f false x y one two here there = there

keyed_on : (q : Voice) (note : ℕ) (v : Voice) → gate_keyed note (pulse_from q v) ≡ pulse_from q (gate_keyed note v)
keyed_on q note v =
    on_both (pulse_from q) (nat_eq note 0xBE) _ _ _ _ refl (on_both (pulse_from q) (nat_eq note 0xBF) _ v _ _ refl refl)

shut_on : (q : Voice) (timer : ℕ) (v : Voice) → gate_shut timer (pulse_from q v) ≡ pulse_from q (gate_shut timer v)
shut_on q timer v =
    on_both (pulse_from q) (nat_eq v.new_command 3 || not (nat_eq (bit_and timer 0x40) 0)) v _ _ _ refl
    (on_both (pulse_from q) (nat_eq (bit_and timer 0x80) 0) _ _ _ _ refl refl)

waits_on : (look : LookUps) (q : Voice) (note : ℕ) (transpose : ℤ) (v : Voice) →
    note_waits look note transpose (pulse_from q v) ≡ pulse_from q (note_waits look note transpose v)
waits_on look q note transpose v =
    on_both (pulse_from q) (is_note note) _ v _ _
    (shut_on q (look.instrument v.instrument).gate_timer (record v { new_note = transposed note transpose })) refl

done_on : (look : LookUps) (q : Voice) (row : Row) (transpose : ℤ) (v : Voice) →
    row_done look row transpose (pulse_from q v) ≡ pulse_from q (row_done look row transpose v)
done_on look q row transpose v =
    ap (note_waits look row.note transpose) (keyed_on q row.note (row_taken row v))
    ∙ waits_on look q row.note transpose (gate_keyed row.note (row_taken row v))

moved_on : (q : Voice) (rows : ℕ) (v : Voice) → row_moved rows (pulse_from q v) ≡ pulse_from q (row_moved rows v)
moved_on q rows v = on_both (pulse_from q) (nat_eq (byte_plus v.row 1) rows) _ _ _ _ refl refl

fetch_on : (look : LookUps) (order : Order) (q v : Voice) →
    fetch_row look order (pulse_from q v) ≡ pulse_from q (fetch_row look order v)
unfolding fetch_row
fetch_on look order q v =
    let play = played order v.plays in
    let rows = look.rows play.pattern in
    ap (row_moved (length rows)) (done_on look q (pattern_row rows v.row) play.transpose v)
    ∙ moved_on q (length rows) (row_done look (pattern_row rows v.row) play.transpose v)

-- it leaves the pulse
pulse_kept : (look : LookUps) (order : Order) (v : Voice) →
    fetch_row look order v ≡ pulse_from v (fetch_row look order v)
pulse_kept look order v = fetch_on look order v v

-- ---- the pulse step

-- it looks at the pulse alone, and changes that alone
abbrev pulse_of : LookUps → Voice → Voice
pulse_of look v = pulse_step look (pulse_from v start_voice)

by_pulse : (v : Voice) (b : Bool) (x y one two : Voice) → x ≡ pulse_from one v → y ≡ pulse_from two v →
    (if b then x else y) ≡ pulse_from (if b then one else two) v
by_pulse v true x y one two here there = here
by_pulse v false x y one two here there = there

pulse_alone : (look : LookUps) (v : Voice) → pulse_step look v ≡ pulse_from (pulse_of look v) v
unfolding pulse_step
pulse_alone look v =
    let row = look.row Pulse v.pulse_ptr in
    by_pulse v (nat_eq v.pulse_ptr 0) _ _ _ _ refl
    (by_pulse v (nat_eq v.pulse_time 0 && nat_le 0x80 row.left) _ _ _ _ refl
    (by_pulse v (nat_eq v.pulse_time 0 && nat_eq row.left 0) _ _ _ _ refl refl))

same_pulse : (look : LookUps) (v w : Voice) → w ≡ pulse_from v w → pulse_of look w ≡ pulse_of look v
same_pulse look v w e = ap (pulse_of look) e

-- ---- both

either_way : (look : LookUps) (order : Order) (v : Voice) →
    fetch_row look order (pulse_step look v) ≡ pulse_step look (fetch_row look order v)
either_way look order v =
    ap (fetch_row look order) (pulse_alone look v) ∙ (fetch_on look order (pulse_of look v) v
    ∙ (ap (λ q. pulse_from q (fetch_row look order v))
    (sym (same_pulse look v (fetch_row look order v) (pulse_kept look order v)))
    ∙ sym (pulse_alone look (fetch_row look order v))))

-- a row is due in the same frames
due_on : (look : LookUps) (v : Voice) → is_at_fetch (pulse_step look v) ≡ is_at_fetch v
due_on look v = ap is_at_fetch (pulse_alone look v)

behind : (look : LookUps) (order : Order) (s : Playing) (due : Bool) → is_at_fetch s.voice ≡ due →
    row_fetched look order (with_voice (pulse_step look s.voice) s)
    ≡ with_voice (pulse_step look (row_fetched look order s).voice) (row_fetched look order s)
behind look order s true e =
    let there = due_on look s.voice ∙ e in
    rw (there, e) (ap (λ v. with_voice v s) (either_way look order s.voice))
behind look order s false e = (let there = due_on look s.voice ∙ e in rw (there, e) refl)

-- so the fetch may stand before the pulse step, which is left out by what was before
abbrev pub pulse_behind : Options → LookUps → Playing → Playing → Playing
pulse_behind o look before s = if pulse_left_out o before.voice then s else with_voice (pulse_step look s.voice) s

pub fetch_first : (o : Options) (look : LookUps) (order : Order) (s : Playing) →
    row_fetched look order (pulse_done o look s) ≡ pulse_behind o look s (row_fetched look order s)
fetch_first o look order s = by_option (pulse_left_out o s.voice) refl
  where
    by_option : (out : Bool) → pulse_left_out o s.voice ≡ out →
        row_fetched look order (pulse_done o look s) ≡ pulse_behind o look s (row_fetched look order s)
    by_option true e = rw e refl
    by_option false e = rw e (behind look order s (is_at_fetch s.voice) refl)

-- ---- what each leaves of the other's

-- the pulse step leaves where the voice is in its song
pub pulse_in_song : (look : LookUps) (v : Voice) → in_song (pulse_step look v) ≡ in_song v
pulse_in_song look v = ap in_song (pulse_alone look v)

-- the fetch leaves the pulse
pub row_fetched_pulse : (look : LookUps) (order : Order) (s : Playing) →
    (row_fetched look order s).voice ≡ pulse_from s.voice (row_fetched look order s).voice
row_fetched_pulse look order s = by_due (is_at_fetch s.voice) refl
  where
    by_due : (due : Bool) → is_at_fetch s.voice ≡ due →
        (row_fetched look order s).voice ≡ pulse_from s.voice (row_fetched look order s).voice
    by_due true e = rw e (pulse_kept look order s.voice)
    by_due false e = rw e refl
