-- What the programs of a playable song come to is what the other look-ups' programs come to.
use Rattle.std.specs.Prelude.{◌==◌, ◌&&◌}
use Rattle.std.proofs.Common.{◌≡◌, ◌≢◌, ℕ, ◌+◌, ◌%◌, ◌<◌, ◌≤◌, true, false, Some, None}
use Rattle.std.proofs.Common.{refl, sym, ap, ◌∙◌, inl, inr, arith}
use Rattle.std.proofs.lemmas.Bool.{cases_eq, ne_eqb}
use Rattle.std.proofs.lemmas.Bool.Decides.{nat_tests}
use Rattle.song_model.specs.declared.tables.TableRow.{TableRow}
use Rattle.song_model.specs.declared.tables.TableName.{TableName}
use Rattle.song_model.specs.declared.tables.TableName.TheVariants.{Wave, Pulse, Filter, Speed}
use Rattle.song_model.specs.declared.songs.Song.{Song}
use Rattle.song_model.specs.LookUp.{table_row}
use Rattle.song_model.specs.Pointers.{wave_row_table}
use Rattle.play_model.specs.LookUps.{LookUps, look_ups_of}
use Rattle.play_model.specs.Helpers.{next_row}
use Rattle.play_model.specs.Reached.{is_jump, is_last, row_led_to, IsReached, led, IsStep}
use Rattle.play_model.specs.Playable.{HasPrograms}
use Rattle.play_model.specs.Safe.{IsWithinRow, IsSafeTime}
use Rattle.play_model.proofs.Laws.{whole_lem, reached_byte_lem, led_by}
use Rattle.safe_states.proofs.Laws.{CanBePlayed}
use Rattle.same_frames.specs.Maps.{Maps, moved_pointer, right_table, foreign_table, moved_row}
use Rattle.same_frames.specs.Agreement.{Agrees}
use Rattle.same_frames.proofs.Choices.{same_choice}
use Rattle.same_frames.proofs.Programs.{GoesOnFor, IsPulseFor, IsFilterFor}
use Rattle.same_frames.proofs.Waves.{IsWaveFor}
use Rattle.same_frames.proofs.Agreed.{from_wave_row, speed_alike}

-- ---- rows that are moved

-- of programs a left side of $FF is a jump
jump_test : (name : TableName) (row : TableRow) → HasPrograms name → is_jump name row ≡ (row.left == 0xFF)
jump_test Wave row programs = refl
jump_test Pulse row programs = refl
jump_test Filter row programs = refl
jump_test Speed row programs = absurd (programs refl)

-- a row that points nowhere stays
row_stays : (maps : Maps) (name : TableName) (row : TableRow) → is_jump name row ≡ false →
    foreign_table name row ≡ None → moved_row maps name row ≡ row
row_stays maps name row no_jump none = rw no_jump (rw none refl)

jump_right : (maps : Maps) (name : TableName) (row : TableRow) → is_jump name row ≡ true →
    moved_pointer maps (right_table name row) row.right ≡ maps.row name row.right
jump_right maps name row jump = rw jump refl

foreign_right : (maps : Maps) (row : TableRow) → is_jump Wave row ≡ false →
    (moved_row maps Wave row).right ≡ moved_pointer maps (wave_row_table row.left) row.right
foreign_right maps row no_jump = rw no_jump refl

-- ---- where programs go on

leads : (name : TableName) (row : TableRow) (p : ℕ) → is_jump name row ≡ false → is_last name row ≡ false →
    row_led_to name row p ≡ Some (p + 1)
leads name row p no_jump more = rw no_jump (rw more refl)

-- the row after one that the program goes on from
pub after_reached : (song : Song) (name : TableName) (p : ℕ) → CanBePlayed song → HasPrograms name →
    IsStep song name p → is_last name (table_row song name p) ≡ false → IsReached song name (p + 1)
after_reached song name p play programs s more =
    let here = (whole_lem song play.playable).row name p programs s.reached in
    led p s.reached
    (led_by song name p here.first here.last ∙ leads name (table_row song name p) p s.no_jump more)

fits : (n : ℕ) → n < 256 → n % 256 ≡ n
fits n h = omega arith

pub goes_on_alike : (maps : Maps) (song : Song) (other : LookUps) (name : TableName) (p : ℕ) → CanBePlayed song →
    Agrees maps song other → HasPrograms name → IsStep song name p → is_last name (table_row song name p) ≡ false →
    GoesOnFor maps (look_ups_of song) other name p
unfolding next_row
goes_on_alike maps song other name p play a programs s more =
    let after = after_reached song name p play programs s more in
    let following = table_row song name (p + 1) in
    let here = fits (p + 1) (reached_byte_lem song name (p + 1) play.limits play.playable programs after) in
    let there = fits (maps.row name (p + 1)) ((a.programs name programs).small (p + 1) after) in
    rw (← (a.programs name programs).next p s.reached s.no_jump more)
    (rw ((a.rows name).row (p + 1) after)
    (same_choice (maps.row name) (following.left == 0xFF) following.right ((p + 1) % 256)
    (moved_pointer maps (right_table name following) following.right) (maps.row name (p + 1) % 256)
    (λ z. jump_right maps name following (jump_test name following programs ∙ z))
    (λ z. there ∙ sym (ap (maps.row name) here))))

-- ---- the pulse program

not_last : (left time : ℕ) → (time ≢ 0 → IsWithinRow left time) → ((time == 0) && (left == 0)) ≡ false →
    (left == 0) ≡ false
not_last left time within goes = elim (cases_eq time 0) [
  | inl z ↦ rw z at goes
  | inr n ↦ (let least = (within n).least in ne_eqb left 0 (λ z. omega arith))
]

pub pulse_alike : (maps : Maps) (song : Song) (other : LookUps) (p time : ℕ) → CanBePlayed song →
    Agrees maps song other → IsStep song Pulse p → p ≢ 0 → IsSafeTime song Pulse p time →
    IsPulseFor maps (look_ups_of song) other p time
pulse_alike maps song other p time play a s some safe = record {
  row = (a.rows Pulse).row p s.reached ∙ row_stays maps Pulse (table_row song Pulse p) s.no_jump refl;
  next = λ goes. goes_on_alike maps song other Pulse p play a (λ e. cc) s
      (not_last (table_row song Pulse p).left time (safe some) goes);
}

-- ---- the filter program

no_left_no_jump : (row : TableRow) → row.left ≡ 0 → is_jump Filter row ≡ false
no_left_no_jump row e = rw e refl

pub filter_alike : (maps : Maps) (song : Song) (other : LookUps) (p : ℕ) → CanBePlayed song →
    Agrees maps song other → IsStep song Filter p → IsFilterFor maps (look_ups_of song) other p
filter_alike maps song other p play a s =
    let is_filter : HasPrograms Filter = λ e. cc in
    let following = table_row song Filter (p + 1) in
    let after = after_reached song Filter p play is_filter s refl in
    let next = (a.programs Filter is_filter).next p s.reached s.no_jump refl in
    let there : other.row Filter (maps.row Filter p + 1) ≡ moved_row maps Filter following =
    rw (← next) ((a.rows Filter).row (p + 1) after) in
    record {
      row = (a.rows Filter).row p s.reached ∙ row_stays maps Filter (table_row song Filter p) s.no_jump refl;
      next = goes_on_alike maps song other Filter p play a is_filter s refl;
      left = ap (λ (row : TableRow). row.left) there;
      right = λ e. ap (λ (row : TableRow). row.right)
          (there ∙ row_stays maps Filter following (no_left_no_jump following e) refl);
      past = λ e. rw (← next) (goes_on_alike maps song other Filter (p + 1) play a is_filter
          (record { reached = after; no_jump = no_left_no_jump following e }) refl);
    }

-- ---- the wave program

speed_command : (left : ℕ) → 0xF1 ≤ left → left ≤ 0xF4 → wave_row_table left ≡ Some Speed
speed_command left low high = grind (arith, nat_tests)

pub wave_alike : (maps : Maps) (song : Song) (other : LookUps) (p : ℕ) → CanBePlayed song →
    Agrees maps song other → IsStep song Wave p → IsWaveFor maps (look_ups_of song) other p
wave_alike maps song other p play a s =
    let row = table_row song Wave p in
    let there = (a.rows Wave).row p s.reached in
    let right : (other.row Wave (maps.row Wave p)).right ≡ moved_pointer maps (wave_row_table row.left) row.right =
    ap (λ (r : TableRow). r.right) there ∙ foreign_right maps row s.no_jump in
    record {
      left = ap (λ (r : TableRow). r.left) there;
      right = right;
      next = goes_on_alike maps song other Wave p play a (λ e. cc) s refl;
      speed = λ low high.
          rw (right ∙ ap (λ table. moved_pointer maps table row.right) (speed_command row.left low high))
          (speed_alike maps song other a row.right
          (from_wave_row song Speed p s.reached (speed_command row.left low high)));
    }
