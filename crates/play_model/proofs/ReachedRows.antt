-- Rows of tables that a song comes to: those that aren't stored are zero, and so are no jumps; the reached rows are
-- closed under what they lead to.
use Rattle.std.proofs.Common.{◌≡◌, ◌≢◌, ℕ, ◌-◌, ◌≤◌, true, List, length, Some, refl, sym}
use Rattle.std.proofs.Common.{◌∙◌, ap, inl, inr, arith}
use Rattle.std.proofs.lemmas.Bool.{cases_lt}
use Rattle.std.proofs.lemmas.Bool.Decides.{nat_tests}
use Rattle.std.proofs.lemmas.List.{get_or_past}
use Rattle.song_model.specs.declared.tables.TableRow.{TableRow}
use Rattle.song_model.specs.declared.tables.TableName.{TableName}
use Rattle.song_model.specs.declared.tables.TableName.TheVariants.{Wave, Pulse, Filter, Speed}
use Rattle.song_model.specs.declared.songs.Song.{Song}
use Rattle.song_model.specs.LookUp.{IsNumbered, zero_table_row, table_of, table_row}
use Rattle.song_model.specs.Pointers.{wave_row_table}
use Rattle.play_model.specs.Reached.{is_jump, row_led_to, is_stored, led_to, IsPlayedPointer, of_instrument, of_row}
use Rattle.play_model.specs.Reached.{IsReached, played, pointed, led, IsPointer, of_played, of_wave_row}
use Rattle.play_model.specs.Playable.{HasPrograms, IsJumpTarget}
use Rattle.play_model.specs.UseLaws.{RowsAreClosed}

-- ---- rows that aren't stored

pub row_absent : (song : Song) (name : TableName) (p : ℕ) → ¬ IsNumbered (table_of song name) p →
    table_row song name p ≡ zero_table_row
unfolding table_row
row_absent song name p absent = elim (cases_lt p 1) [
  | inl zero_row ↦ (let e : p ≡ 0 = omega arith in rw e refl)
  | inr some ↦ elim (cases_lt (length (table_of song name)) p) [
    | inl past ↦ (
        let e = get_or_past (table_of song name) (p - 1) zero_table_row (omega arith) in
        grind (arith, nat_tests))
    | inr stored ↦ absurd (absent (record { first = some; last = stored }))
  ]
]

-- a row with a left side is stored
pub stored_if : (song : Song) (name : TableName) (p : ℕ) → (table_row song name p).left ≢ 0 →
    p ≤ length (table_of song name)
stored_if song name p some = elim (cases_lt (length (table_of song name)) p) [
  | inl past ↦ (
      let e = row_absent song name p (λ n. let last = n.last in omega arith) in
      absurd (some (rw e refl)))
  | inr stored ↦ stored
]

pub jump_left : (name : TableName) (left right : ℕ) → is_jump name (record { left = left; right = right }) ≡ true →
    left ≡ 0xFF
jump_left Wave left right h = grind (arith, nat_tests)
jump_left Pulse left right h = grind (arith, nat_tests)
jump_left Filter left right h = grind (arith, nat_tests)
jump_left Speed left right h = absurd (cc)

pub jump_is_stored : (song : Song) (name : TableName) (p : ℕ) → is_jump name (table_row song name p) ≡ true →
    p ≤ length (table_of song name)
jump_is_stored song name p h =
    let e = jump_left name (table_row song name p).left (table_row song name p).right h in
    stored_if song name p (λ z. omega arith)

-- the speed table has no jumps
pub jumps_are_programs : (name : TableName) (row : TableRow) → is_jump name row ≡ true → HasPrograms name
jumps_are_programs Wave row h = λ e. cc
jumps_are_programs Pulse row h = λ e. cc
jumps_are_programs Filter row h = λ e. cc
jumps_are_programs Speed row h = absurd (cc)

-- no row of the wave table points into it
pub no_wave_pointer : (left : ℕ) → wave_row_table left ≡ Some Wave → ⊥
no_wave_pointer left h = grind (arith, nat_tests)

-- ---- where a program goes

stored_test : (rows : List TableRow) (p : ℕ) → 1 ≤ p → p ≤ length rows → is_stored rows p ≡ true
stored_test rows p low high = grind (arith, nat_tests)

-- from a stored row it goes where the row leads
pub led_by : (song : Song) (name : TableName) (p : ℕ) → 1 ≤ p → p ≤ length (table_of song name) →
    led_to name (table_of song name) p ≡ row_led_to name (table_row song name p) p
unfolding table_row
led_by song name p low high = rw (stored_test (table_of song name) p low high) refl

pub none_from : (name : TableName) (rows : List TableRow) (p q : ℕ) → led_to name rows p ≡ Some q → q ≢ 0
none_from name rows p q h z = grind (arith, nat_tests)

-- a row of the speed table leads nowhere
pub no_speed_led : (rows : List TableRow) (p q : ℕ) → led_to Speed rows p ≡ Some q → ⊥
no_speed_led rows p q h = grind (arith, nat_tests)

-- ---- reached rows

pub pointer_some : (song : Song) (name : TableName) (p : ℕ) → IsPlayedPointer song name p → p ≢ 0
pointer_some song name p (of_instrument i used is some) = some
pointer_some song name p (of_row row used command is some) = some

pub reached_some : (song : Song) (name : TableName) (p : ℕ) → IsReached song name p → p ≢ 0
reached_some song name p (played x) = pointer_some song name p x
reached_some song name p (pointed r h w) = w.some
reached_some song name p (led r h e) = none_from name (table_of song name) r p e

pub pointer_reached : (song : Song) (name : TableName) (p : ℕ) → IsPointer song name p → IsReached song name p
pointer_reached song name p (of_played x) = played x
pointer_reached song name p (of_wave_row r h w) = pointed r h w

jump_leads : (name : TableName) (row : TableRow) (p : ℕ) → is_jump name row ≡ true → row.right ≢ 0 →
    row_led_to name row p ≡ Some row.right
jump_leads name row p jump some = grind (arith, nat_tests)

pub target_reached : (song : Song) (name : TableName) (p : ℕ) → IsJumpTarget song name p → IsReached song name p
target_reached song name p t =
    let some = reached_some song name t.p t.reached in
    let is = t.target in
    let right : (table_row song name t.p).right ≢ 0 = (λ z. t.some (sym is ∙ z)) in
    let leads = jump_leads name (table_row song name t.p) t.p t.jump right in
    let from = led_by song name t.p (omega arith) (jump_is_stored song name t.p t.jump) in
    led t.p t.reached (from ∙ leads ∙ ap (λ (q : ℕ). Some q) is)

speed_pointer : (song : Song) (p : ℕ) → IsReached song Speed p → IsPointer song Speed p
speed_pointer song p (played x) = of_played x
speed_pointer song p (pointed r h w) = of_wave_row r h w
speed_pointer song p (led r h e) = absurd (no_speed_led song.speed r p e)

pub closed_lem : (song : Song) → RowsAreClosed song
closed_lem song = record {
  some = reached_some song;
  pointer = pointer_reached song;
  led = λ name p q h e. led p h e;
  target = target_reached song;
  speed = λ p. (speed_pointer song p, pointer_reached song Speed p);
  wave = λ r p w. no_wave_pointer (table_row song Wave r).left w.table;
}
