-- The cases of the filter step, each by what the row's sides and the time are.
use Rattle.std.proofs.Common.{◌≡◌, ◌≢◌, ℕ, ◌+◌, ◌%◌, ◌<◌, ◌≤◌, true, false, nat_eq}
use Rattle.std.proofs.Common.{nat_le, bit_and, refl, eq-eqb}
use Rattle.std.proofs.lemmas.Bool.{le-leb, lt-leb, ne_eqb}
use Rattle.song_model.specs.declared.tables.TableRow.{TableRow}
use Rattle.song_model.specs.declared.tables.TableName.TheVariants.{Filter}
use Rattle.play_model.specs.LookUps.{LookUps}
use Rattle.play_model.specs.Wrap.{byte_plus, byte_minus}
use Rattle.play_model.specs.State.{Common}
use Rattle.play_model.specs.Helpers.{next_row}
use Rattle.play_model.specs.FilterStep.{filter_step, filter_row, filter_slide}

pub step_none : (look : LookUps) (c : Common) → c.filter_ptr ≡ 0 → filter_step look c ≡ c
unfolding filter_step
step_none look c e = rw e refl

pub step_some : (look : LookUps) (c : Common) → c.filter_ptr ≢ 0 →
    filter_step look c ≡ filter_row look (look.row Filter c.filter_ptr) c
unfolding filter_step
step_some look c some =
    let e : nat_eq c.filter_ptr 0 ≡ false = ne_eqb c.filter_ptr 0 some in
    rw e refl

-- a row that sets the kind and the control, with the row $00 that belongs to it, and without one
pub row_pairs : (look : LookUps) (row : TableRow) (c : Common) → c.filter_time ≡ 0 → 0x80 ≤ row.left →
    (look.row Filter (c.filter_ptr + 1)).left ≡ 0 →
    filter_row look row c
    ≡ record c {
      filter_type = bit_and row.left 0x70;
      filter_control = row.right;
      cutoff = (look.row Filter (c.filter_ptr + 1)).right;
      filter_ptr = next_row look Filter (c.filter_ptr + 1);
    }
row_pairs look row c none high zero =
    let a : nat_eq c.filter_time 0 ≡ true = eq-eqb c.filter_time 0 none in
    let b : nat_le 0x80 row.left ≡ true = le-leb 0x80 row.left high in
    let e : nat_eq (look.row Filter (c.filter_ptr + 1)).left 0 ≡ true =
    eq-eqb (look.row Filter (c.filter_ptr + 1)).left 0 zero in
    rw (a, b, e) refl

pub row_sets : (look : LookUps) (row : TableRow) (c : Common) → c.filter_time ≡ 0 → 0x80 ≤ row.left →
    (look.row Filter (c.filter_ptr + 1)).left ≢ 0 →
    filter_row look row c
    ≡ record c {
      filter_type = bit_and row.left 0x70;
      filter_control = row.right;
      filter_ptr = next_row look Filter c.filter_ptr;
    }
row_sets look row c none high some =
    let a : nat_eq c.filter_time 0 ≡ true = eq-eqb c.filter_time 0 none in
    let b : nat_le 0x80 row.left ≡ true = le-leb 0x80 row.left high in
    let e : nat_eq (look.row Filter (c.filter_ptr + 1)).left 0 ≡ false =
    ne_eqb (look.row Filter (c.filter_ptr + 1)).left 0 some in
    rw (a, b, e) refl

pub row_cuts : (look : LookUps) (row : TableRow) (c : Common) → c.filter_time ≡ 0 → row.left ≡ 0 →
    filter_row look row c ≡ record c { cutoff = row.right; filter_ptr = next_row look Filter c.filter_ptr }
row_cuts look row c none zero =
    let a : nat_eq c.filter_time 0 ≡ true = eq-eqb c.filter_time 0 none in
    rw (zero, a) refl

-- a slide begins, and goes on
pub row_begins : (look : LookUps) (row : TableRow) (c : Common) → c.filter_time ≡ 0 → row.left ≢ 0 → row.left < 0x80 →
    filter_row look row c ≡ filter_slide look row row.left c
row_begins look row c none some low =
    let a : nat_eq c.filter_time 0 ≡ true = eq-eqb c.filter_time 0 none in
    let b : nat_le 0x80 row.left ≡ false = lt-leb 0x80 row.left low in
    let e : nat_eq row.left 0 ≡ false = ne_eqb row.left 0 some in
    rw (a, b, e) refl

pub row_runs : (look : LookUps) (row : TableRow) (c : Common) → c.filter_time ≢ 0 →
    filter_row look row c ≡ filter_slide look row c.filter_time c
row_runs look row c some =
    let a : nat_eq c.filter_time 0 ≡ false = ne_eqb c.filter_time 0 some in
    rw a refl

-- the cutoff is moved, and one frame of the time is over
abbrev pub slid : TableRow → ℕ → Common → Common
slid row time c = record c { cutoff = byte_plus c.cutoff row.right; filter_time = byte_minus time 1 }

pub slide_ends : (look : LookUps) (row : TableRow) (time : ℕ) (c : Common) → nat_eq (byte_minus time 1) 0 ≡ true →
    filter_slide look row time c ≡ record (slid row time c) { filter_ptr = next_row look Filter c.filter_ptr }
slide_ends look row time c e = rw e refl

pub slide_stays : (look : LookUps) (row : TableRow) (time : ℕ) (c : Common) → nat_eq (byte_minus time 1) 0 ≡ false →
    filter_slide look row time c ≡ slid row time c
slide_stays look row time c e = rw e refl

-- the row to which a program goes on
pub jumps_to : (look : LookUps) (p : ℕ) → (look.row Filter (p + 1)).left ≡ 0xFF →
    next_row look Filter p ≡ (look.row Filter (p + 1)).right
unfolding next_row
jumps_to look p e = rw e refl

pub steps_to : (look : LookUps) (p : ℕ) → (look.row Filter (p + 1)).left ≢ 0xFF → next_row look Filter p ≡ (p + 1) % 256
unfolding next_row
steps_to look p other = (let z = ne_eqb (look.row Filter (p + 1)).left 0xFF other in rw z refl)
