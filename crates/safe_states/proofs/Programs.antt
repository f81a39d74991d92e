-- The filter step and the pulse step keep their programs at reached rows, and within the frames of a row.
use Rattle.std.specs.Prelude.{nat_le, ◌==◌, ◌&&◌, if◌then◌else◌}
use Rattle.std.proofs.Common.{◌≡◌, ◌≢◌, ℕ, ◌+◌, ◌<◌, true, false, refl, inr, arith}
use Rattle.std.proofs.lemmas.Bool.{cond_both, and_parts, eqb-true, eqb-false, leb-true, ne_eqb}
use Rattle.std.proofs.lemmas.Bool.Decides.{nat_tests}
use Rattle.song_model.specs.declared.orders.Order.{Order}
use Rattle.song_model.specs.declared.tables.TableRow.{TableRow}
use Rattle.song_model.specs.declared.tables.TableName.{TableName}
use Rattle.song_model.specs.declared.tables.TableName.TheVariants.{Pulse, Filter}
use Rattle.song_model.specs.declared.songs.Song.{Song}
use Rattle.song_model.specs.LookUp.{table_row}
use Rattle.play_model.specs.LookUps.{look_ups_of}
use Rattle.play_model.specs.Wrap.{byte_plus, byte_minus}
use Rattle.play_model.specs.State.{Voice, Common}
use Rattle.play_model.specs.Helpers.{next_row}
use Rattle.play_model.specs.FilterStep.{filter_set, filter_row, filter_step}
use Rattle.play_model.specs.PulseStep.{pulse_slide, pulse_row, pulse_step}
use Rattle.play_model.specs.Reached.{is_last, IsStep}
use Rattle.play_model.specs.Playable.{HasPrograms}
use Rattle.play_model.specs.Safe.{IsSafePointer, IsWithinRow, IsSafeTime, IsSafeVoice, IsSafeCommon}
use Rattle.safe_states.proofs.Pointers.{CanBePlayed, goes_on, is_step, following_step}

-- ---- a row that lasts

-- a program at a row, with this time within it
pub record Stays (song : Song) (name : TableName) (p time : ℕ) : Type 0 where
  pub ptr : IsSafePointer song name p
  pub passes : IsSafeTime song name p time

-- the frames of a row that are left: as its left side says where it has just begun
abbrev left_over : ℕ → ℕ → ℕ
left_over left time = if time == 0 then left else time

record Lasts (left time : ℕ) : Type 0 where
  within : IsWithinRow left time
  some : time ≢ 0

low_left : (left time : ℕ) → ((time == 0) && nat_le 0x80 left) ≡ false → time ≡ 0 → left < 0x80
low_left left time h z = grind (arith, nat_tests)

some_left : (left time : ℕ) → ((time == 0) && (left == 0)) ≡ false → time ≡ 0 → left ≢ 0
some_left left time h z = grind (arith, nat_tests)

-- a row that is neither done at once nor $00
row_lasts : (song : Song) (name : TableName) (p time : ℕ) → IsSafeTime song name p time → p ≢ 0 →
    ((time == 0) && nat_le 0x80 (table_row song name p).left) ≡ false →
    ((time == 0) && ((table_row song name p).left == 0)) ≡ false →
    Lasts (table_row song name p).left (left_over (table_row song name p).left time)
row_lasts song name p time t some low left =
    cond_both (time == 0) row time (Lasts row)
    (λ h. begins (low_left row time low (eqb-true time 0 h)) (some_left row time left (eqb-true time 0 h)))
    (λ h. record { within = t some (eqb-false time 0 h); some = eqb-false time 0 h })
  where
    row : ℕ
    row = (table_row song name p).left

    begins : row < 0x80 → row ≢ 0 → Lasts row row
    begins below is =
        record { within = record { least = omega arith; most = omega arith; within = omega arith }; some = is }

one_less : (left time : ℕ) → Lasts left time → IsWithinRow left (byte_minus time 1)
one_less left time l =
    let most = l.within.most in
    let within = l.within.within in
    let some = l.some in
    record { least = l.within.least; most = most; within = omega arith }

-- a frame later the row is one frame nearer to its end, and at the end the program goes on
slid : (song : Song) (name : TableName) (p time : ℕ) → CanBePlayed song → HasPrograms name → IsStep song name p →
    is_last name (table_row song name p) ≡ false → Lasts (table_row song name p).left time →
    Stays song name (if byte_minus time 1 == 0 then next_row (look_ups_of song) name p else p) (byte_minus time 1)
slid song name p time play programs s more l =
    cond_both (byte_minus time 1 == 0) (next_row (look_ups_of song) name p) p
    (λ ptr. Stays song name ptr (byte_minus time 1))
    (λ h. record {
      ptr = goes_on song name p play programs s more;
      passes = λ some passes. absurd (passes (eqb-true (byte_minus time 1) 0 h));
    })
    (λ h. record { ptr = inr s; passes = λ some passes. one_less (table_row song name p).left time l })

-- it went on at once
moved : (song : Song) (name : TableName) (p time : ℕ) → CanBePlayed song → HasPrograms name → IsStep song name p →
    is_last name (table_row song name p) ≡ false → time ≡ 0 →
    Stays song name (next_row (look_ups_of song) name p) time
moved song name p time play programs s more e = record {
  ptr = goes_on song name p play programs s more;
  passes = λ some passes. absurd (passes e);
}

-- ---- the filter step

is_filter : HasPrograms Filter
is_filter e = cc

with_filter : (song : Song) (c : Common) (kind control cutoff time ptr : ℕ) → Stays song Filter ptr time →
    IsSafeCommon song c →
    IsSafeCommon song
    (record c { filter_type = kind; filter_control = control; cutoff = cutoff; filter_time = time; filter_ptr = ptr })
with_filter song c kind control cutoff time ptr s q = assumption (s.ptr, s.passes, q)

filter_set_keeps : (song : Song) (row following : TableRow) (c : Common) → CanBePlayed song → IsSafeCommon song c →
    IsStep song Filter c.filter_ptr → c.filter_time ≡ 0 →
    table_row song Filter (c.filter_ptr + 1) ≡ following →
    IsSafeCommon song (filter_set (look_ups_of song) row following c)
filter_set_keeps song row following c play q s e is =
    cond_both (following.left == 0) _ _ (IsSafeCommon song)
    (λ h. with_filter song c _ row.right following.right c.filter_time _
    (moved song Filter (c.filter_ptr + 1) c.filter_time play is_filter (belongs (eqb-true following.left 0 h)) refl
    e) q)
    (λ h. with_filter song c _ row.right c.cutoff c.filter_time _
    (moved song Filter c.filter_ptr c.filter_time play is_filter s refl e) q)
  where
    belongs : following.left ≡ 0 → IsStep song Filter (c.filter_ptr + 1)
    belongs left = following_step song c.filter_ptr play s (rw is left)

filter_row_keeps : (song : Song) (c : Common) → CanBePlayed song → IsSafeCommon song c →
    IsStep song Filter c.filter_ptr → c.filter_ptr ≢ 0 →
    IsSafeCommon song (filter_row (look_ups_of song) (table_row song Filter c.filter_ptr) c)
filter_row_keeps song c play q s some =
    cond_both ((c.filter_time == 0) && nat_le 0x80 row.left) _ _ (IsSafeCommon song)
    (λ h. filter_set_keeps song row _ c play q s (eqb-true c.filter_time 0 (and_parts _ _ h).0) refl)
    (λ low. cond_both ((c.filter_time == 0) && (row.left == 0)) _ _ (IsSafeCommon song)
    (λ h. with_filter song c c.filter_type c.filter_control row.right c.filter_time _
    (moved song Filter c.filter_ptr c.filter_time play is_filter s refl
    (eqb-true c.filter_time 0 (and_parts _ _ h).0)) q)
    (λ left. with_filter song c c.filter_type c.filter_control (byte_plus c.cutoff row.right) _ _
    (slid song Filter c.filter_ptr (left_over row.left c.filter_time) play is_filter s refl
    (row_lasts song Filter c.filter_ptr c.filter_time q.filter_time some low left)) q))
  where
    row : TableRow
    row = table_row song Filter c.filter_ptr

pub filter_keeps : (song : Song) (c : Common) → CanBePlayed song → IsSafeCommon song c →
    IsSafeCommon song (filter_step (look_ups_of song) c)
unfolding filter_step
filter_keeps song c play q =
    cond_both (c.filter_ptr == 0) _ _ (IsSafeCommon song) (λ h. q)
    (λ h. filter_row_keeps song c play q
    (is_step song Filter c.filter_ptr q.filter (eqb-false c.filter_ptr 0 h)) (eqb-false c.filter_ptr 0 h))

-- ---- the pulse step

is_pulse : HasPrograms Pulse
is_pulse e = cc

with_pulse : (song : Song) (order : Order) (v : Voice) (width time ptr : ℕ) → Stays song Pulse ptr time →
    IsSafeVoice song order v →
    IsSafeVoice song order (record v { pulse = width; pulse_time = time; pulse_ptr = ptr })
with_pulse song order v width time ptr s q = assumption (s.ptr, s.passes, q)

-- a row with a left side isn't the last
goes_past : (row : TableRow) → row.left ≢ 0 → is_last Pulse row ≡ false
goes_past row some = ne_eqb row.left 0 some

set_left : (left : ℕ) → nat_le 0x80 left ≡ true → left ≢ 0
set_left left h z = (let low = leb-true 0x80 left h in omega arith)

lasting_left : (left time : ℕ) → Lasts left time → left ≢ 0
lasting_left left time l = (let least = l.within.least in λ z. omega arith)

pulse_row_keeps : (song : Song) (order : Order) (v : Voice) → CanBePlayed song → IsSafeVoice song order v →
    IsStep song Pulse v.pulse_ptr → v.pulse_ptr ≢ 0 →
    IsSafeVoice song order (pulse_row (look_ups_of song) (table_row song Pulse v.pulse_ptr) v)
pulse_row_keeps song order v play q s some =
    cond_both ((v.pulse_time == 0) && nat_le 0x80 row.left) _ _ (IsSafeVoice song order)
    (λ h. with_pulse song order v _ v.pulse_time _
    (moved song Pulse v.pulse_ptr v.pulse_time play is_pulse s (goes_past row (set_left row.left (and_parts _ _ h).1))
    (eqb-true v.pulse_time 0 (and_parts _ _ h).0)) q)
    (λ low. cond_both ((v.pulse_time == 0) && (row.left == 0)) _ _ (IsSafeVoice song order) (λ h. q)
    (λ left. lasts (row_lasts song Pulse v.pulse_ptr v.pulse_time q.pulse_time some low left)))
  where
    row : TableRow
    row = table_row song Pulse v.pulse_ptr

    lasts : Lasts row.left (left_over row.left v.pulse_time) →
        IsSafeVoice song order (pulse_slide (look_ups_of song) row (left_over row.left v.pulse_time) v)
    lasts l =
        with_pulse song order v _ _ _
        (slid song Pulse v.pulse_ptr (left_over row.left v.pulse_time) play is_pulse s
        (goes_past row (lasting_left row.left (left_over row.left v.pulse_time) l)) l) q

pub pulse_keeps : (song : Song) (order : Order) (v : Voice) → CanBePlayed song → IsSafeVoice song order v →
    IsSafeVoice song order (pulse_step (look_ups_of song) v)
unfolding pulse_step
pulse_keeps song order v play q =
    cond_both (v.pulse_ptr == 0) _ _ (IsSafeVoice song order) (λ h. q)
    (λ h. pulse_row_keeps song order v play q
    (is_step song Pulse v.pulse_ptr q.pulse (eqb-false v.pulse_ptr 0 h)) (eqb-false v.pulse_ptr 0 h))
