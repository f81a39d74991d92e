-- The cases of the pulse step, each by what the row's sides and the time are.
use Rattle.std.proofs.Common.{◌≡◌, ◌≢◌, ℕ, ◌<◌, ◌≤◌, ◌&&◌, true, false, nat_eq, nat_le}
use Rattle.std.proofs.Common.{if◌then◌else◌}
use Rattle.std.proofs.Common.{refl, eq-eqb}
use Rattle.std.proofs.lemmas.Bool.{le-leb, lt-leb, ne_eqb, cond_both}
use Rattle.song_model.specs.declared.tables.TableRow.{TableRow}
use Rattle.song_model.specs.declared.tables.TableName.TheVariants.{Pulse}
use Rattle.play_model.specs.LookUps.{LookUps}
use Rattle.play_model.specs.Wrap.{byte_minus}
use Rattle.play_model.specs.State.{Voice}
use Rattle.play_model.specs.Helpers.{next_row}
use Rattle.play_model.specs.PulseStep.{pulse_step, pulse_row, pulse_set, pulse_slide, pulse_moved}

pub step_none : (look : LookUps) (v : Voice) → v.pulse_ptr ≡ 0 → pulse_step look v ≡ v
unfolding pulse_step
step_none look v e = rw e refl

pub step_some : (look : LookUps) (v : Voice) → v.pulse_ptr ≢ 0 →
    pulse_step look v ≡ pulse_row look (look.row Pulse v.pulse_ptr) v
unfolding pulse_step
step_some look v some =
    let e : nat_eq v.pulse_ptr 0 ≡ false = ne_eqb v.pulse_ptr 0 some in
    rw e refl

pub row_sets : (look : LookUps) (row : TableRow) (v : Voice) → v.pulse_time ≡ 0 → 0x80 ≤ row.left →
    pulse_row look row v ≡ pulse_set look row v
row_sets look row v none high =
    let a : nat_eq v.pulse_time 0 ≡ true = eq-eqb v.pulse_time 0 none in
    let b : nat_le 0x80 row.left ≡ true = le-leb 0x80 row.left high in
    rw (a, b) refl

pub row_stops : (look : LookUps) (row : TableRow) (v : Voice) → v.pulse_time ≡ 0 → row.left ≡ 0 →
    pulse_row look row v ≡ v
row_stops look row v none zero =
    let a : nat_eq v.pulse_time 0 ≡ true = eq-eqb v.pulse_time 0 none in
    rw (zero, a) refl

pub row_begins : (look : LookUps) (row : TableRow) (v : Voice) → v.pulse_time ≡ 0 → row.left ≢ 0 → row.left < 0x80 →
    pulse_row look row v ≡ pulse_slide look row row.left v
row_begins look row v none some low =
    let a : nat_eq v.pulse_time 0 ≡ true = eq-eqb v.pulse_time 0 none in
    let b : nat_le 0x80 row.left ≡ false = lt-leb 0x80 row.left low in
    let c : nat_eq row.left 0 ≡ false = ne_eqb row.left 0 some in
    rw (a, b, c) refl

pub row_runs : (look : LookUps) (row : TableRow) (v : Voice) → v.pulse_time ≢ 0 →
    pulse_row look row v ≡ pulse_slide look row v.pulse_time v
row_runs look row v some =
    let a : nat_eq v.pulse_time 0 ≡ false = ne_eqb v.pulse_time 0 some in
    rw a refl

-- the width is moved, and one frame of the time is over
abbrev pub slid : ℕ → ℕ → Voice → Voice
slid width time v = record v { pulse = width; pulse_time = byte_minus time 1 }

pub slide_ends : (look : LookUps) (row : TableRow) (time : ℕ) (v : Voice) → nat_eq (byte_minus time 1) 0 ≡ true →
    pulse_slide look row time v
    ≡ record (slid (pulse_moved v.pulse row.right) time v) { pulse_ptr = next_row look Pulse v.pulse_ptr }
slide_ends look row time v e = rw e refl

pub slide_stays : (look : LookUps) (row : TableRow) (time : ℕ) (v : Voice) → nat_eq (byte_minus time 1) 0 ≡ false →
    pulse_slide look row time v ≡ slid (pulse_moved v.pulse row.right) time v
slide_stays look row time v e = rw e refl

-- the step leaves tick and gate timer
pub record IsSameClock (v w : Voice) : Type 0 where
  pub tick : w.tick ≡ v.tick
  pub gate_timer : w.gate_timer ≡ v.gate_timer

row_clock : (look : LookUps) (row : TableRow) (v : Voice) → IsSameClock v (pulse_row look row v)
row_clock look row v =
    cond_both (nat_eq v.pulse_time 0 && nat_le 0x80 row.left) (pulse_set look row v)
    (if nat_eq v.pulse_time 0 && nat_eq row.left 0 then v
    else pulse_slide look row (if nat_eq v.pulse_time 0 then row.left else v.pulse_time) v)
    (IsSameClock v) (λ z. record { tick = refl; gate_timer = refl })
    (λ z.
    cond_both (nat_eq v.pulse_time 0 && nat_eq row.left 0) v
    (pulse_slide look row (if nat_eq v.pulse_time 0 then row.left else v.pulse_time) v) (IsSameClock v)
    (λ y. record { tick = refl; gate_timer = refl }) (λ y. record { tick = refl; gate_timer = refl }))

pub step_clock : (look : LookUps) (v : Voice) → IsSameClock v (pulse_step look v)
unfolding pulse_step
step_clock look v =
    cond_both (nat_eq v.pulse_ptr 0) v (pulse_row look (look.row Pulse v.pulse_ptr) v) (IsSameClock v)
    (λ z. record { tick = refl; gate_timer = refl }) (λ z. row_clock look (look.row Pulse v.pulse_ptr) v)
