-- The cases of the wave step, each by what the row's sides are.
use Rattle.std.proofs.Common.{◌≡◌, ◌≢◌, ℕ, ◌+◌, ◌-◌, ◌%◌, ◌<◌, ◌≤◌, true, false}
use Rattle.std.proofs.Common.{nat_eq, nat_le, nat_lt}
use Rattle.std.proofs.Common.{inl, inr, refl, ap, arith, eq-eqb}
use Rattle.std.proofs.lemmas.Bool.{le-leb, lt-leb, lt-ltb, le-ltb, ne_eqb, cases_lt}
use Rattle.song_model.specs.declared.tables.TableRow.{TableRow}
use Rattle.song_model.specs.declared.tables.TableName.TheVariants.{Wave}
use Rattle.play_model.specs.LookUps.{LookUps}
use Rattle.play_model.specs.Wrap.{byte_plus}
use Rattle.play_model.specs.State.{Playing}
use Rattle.play_model.specs.Helpers.{next_row}
use Rattle.play_model.specs.WaveStep.{wave_step, wave_row, right_done, program_moved, wave_command, with_note}
use Rattle.play_model.specs.WaveStep.{wave_note, is_wave_command}
use Rattle.wave_code.specs.WaveBlock.{its_row, begun}

-- ---- left sides

pub step_none : (look : LookUps) (s : Playing) → s.voice.wave_ptr ≡ 0 →
    wave_step look s ≡ record { playing = s; effect = true }
unfolding wave_step
step_none look s e = rw e refl

pub step_some : (look : LookUps) (s : Playing) → s.voice.wave_ptr ≢ 0 →
    wave_step look s ≡ wave_row look (look.row Wave s.voice.wave_ptr) s
unfolding wave_step
step_some look s some =
    let e : nat_eq s.voice.wave_ptr 0 ≡ false = ne_eqb s.voice.wave_ptr 0 some in
    rw e refl

pub row_waits : (look : LookUps) (row : TableRow) (s : Playing) → row.left < 0x10 → s.voice.wave_time ≢ row.left →
    wave_row look row s
    ≡ record {
      playing = record s { voice = record s.voice { wave_time = byte_plus s.voice.wave_time 1 } };
      effect =
          true;
    }
row_waits look row s low other =
    let a : nat_lt row.left 0x10 ≡ true = lt-ltb row.left 0x10 low in
    let b : nat_eq s.voice.wave_time row.left ≡ false = ne_eqb s.voice.wave_time row.left other in
    rw (a, b) refl

pub row_over : (look : LookUps) (row : TableRow) (s : Playing) → row.left < 0x10 → s.voice.wave_time ≡ row.left →
    wave_row look row s ≡ right_done row (program_moved look s.voice.wave_ptr s)
row_over look row s low same =
    let a : nat_lt row.left 0x10 ≡ true = lt-ltb row.left 0x10 low in
    let b : nat_eq s.voice.wave_time row.left ≡ true = eq-eqb s.voice.wave_time row.left same in
    let c : nat_le 0x10 row.left ≡ false = lt-leb 0x10 row.left low in
    let e : nat_le 0xE0 row.left ≡ false = lt-leb 0xE0 row.left (omega (arith, low)) in
    let f : nat_le 0xF0 row.left ≡ false = lt-leb 0xF0 row.left (omega (arith, low)) in
    rw (a, b, c, e, f) refl

-- the waveform is set
abbrev pub with_wave : ℕ → Playing → Playing
with_wave wave s = record s { voice = record s.voice { wave = wave } }

pub row_wave : (look : LookUps) (row : TableRow) (s : Playing) → 0x10 ≤ row.left → row.left < 0xE0 →
    wave_row look row s ≡ right_done row (program_moved look s.voice.wave_ptr (with_wave row.left s))
row_wave look row s from to =
    let a : nat_lt row.left 0x10 ≡ false = le-ltb row.left 0x10 from in
    let b : nat_le 0x10 row.left ≡ true = le-leb 0x10 row.left from in
    let c : nat_le row.left 0xDF ≡ true = le-leb row.left 0xDF (omega (arith, to)) in
    rw (a, b, c) refl

pub row_low : (look : LookUps) (row : TableRow) (s : Playing) → 0xE0 ≤ row.left → row.left < 0xF0 →
    wave_row look row s ≡ right_done row (program_moved look s.voice.wave_ptr (with_wave (row.left - 0xE0) s))
row_low look row s from to =
    let a : nat_lt row.left 0x10 ≡ false = le-ltb row.left 0x10 (omega (arith, from)) in
    let b : nat_le row.left 0xDF ≡ false = lt-leb row.left 0xDF (omega (arith, from)) in
    let c : nat_le 0xE0 row.left ≡ true = le-leb 0xE0 row.left from in
    let e : nat_le row.left 0xEF ≡ true = le-leb row.left 0xEF (omega (arith, to)) in
    let f : nat_le 0x10 row.left ≡ true = le-leb 0x10 row.left (omega (arith, from)) in
    rw (a, b, c, e, f) refl

pub row_command : (look : LookUps) (row : TableRow) (s : Playing) → 0xF0 ≤ row.left → row.left < 0xFF →
    wave_row look row s ≡ record {
      playing = program_moved look s.voice.wave_ptr (wave_command look (row.left - 0xF0) row.right s);
      effect = false;
    }
row_command look row s from to =
    let a : nat_lt row.left 0x10 ≡ false = le-ltb row.left 0x10 (omega (arith, from)) in
    let b : nat_le row.left 0xDF ≡ false = lt-leb row.left 0xDF (omega (arith, from)) in
    let c : nat_le row.left 0xEF ≡ false = lt-leb row.left 0xEF (omega (arith, from)) in
    let e : nat_le 0xF0 row.left ≡ true = le-leb 0xF0 row.left from in
    let f : nat_le row.left 0xFE ≡ true = le-leb row.left 0xFE (omega (arith, to)) in
    let g : nat_le 0x10 row.left ≡ true = le-leb 0x10 row.left (omega (arith, from)) in
    let h : nat_le 0xE0 row.left ≡ true = le-leb 0xE0 row.left (omega (arith, from)) in
    rw (a, b, c, e, f, g, h) refl

-- ---- right sides

pub right_kept : (row : TableRow) (s : Playing) → row.left < 0xF0 → row.right ≡ 0x80 →
    right_done row s ≡ record { playing = s; effect = true }
right_kept row s low same =
    let a : nat_le 0xF0 row.left ≡ false = lt-leb 0xF0 row.left low in
    let b : nat_eq row.right 0x80 ≡ true = eq-eqb row.right 0x80 same in
    rw (a, b) refl

pub right_note : (row : TableRow) (s : Playing) → row.left < 0xF0 → row.right ≢ 0x80 →
    right_done row s ≡ record {
      playing = record s { voice = with_note (wave_note row.right s.voice.note) s.voice };
      effect = false;
    }
right_note row s low other =
    let a : nat_le 0xF0 row.left ≡ false = lt-leb 0xF0 row.left low in
    let b : nat_eq row.right 0x80 ≡ false = ne_eqb row.right 0x80 other in
    rw (a, b) refl

pub note_relative : (right note : ℕ) → right < 0x80 → wave_note right note ≡ (right + note) % 128
note_relative right note low = let a : nat_lt right 0x80 ≡ true = lt-ltb right 0x80 low in rw a refl

pub note_own : (right note : ℕ) → 0x80 ≤ right → wave_note right note ≡ right % 128
note_own right note high = let a : nat_lt right 0x80 ≡ false = le-ltb right 0x80 high in rw a refl

-- ---- which rows are commands

pub is_no_command : (row : TableRow) → row.left < 0xF0 → is_wave_command row ≡ false
is_no_command row low = let a : nat_le 0xF0 row.left ≡ false = lt-leb 0xF0 row.left low in rw a refl

pub is_a_command : (row : TableRow) → 0xF0 ≤ row.left → row.left < 0xFF → is_wave_command row ≡ true
is_a_command row from to =
    let a : nat_le 0xF0 row.left ≡ true = le-leb 0xF0 row.left from in
    let b : nat_le row.left 0xFE ≡ true = le-leb row.left 0xFE (omega (arith, to)) in
    rw (a, b) refl

-- ---- the next row

pub jumps_to : (look : LookUps) (p : ℕ) → (look.row Wave (p + 1)).left ≡ 0xFF →
    next_row look Wave p ≡ (look.row Wave (p + 1)).right
unfolding next_row
jumps_to look p e = rw e refl

pub steps_to : (look : LookUps) (p : ℕ) → (look.row Wave (p + 1)).left ≢ 0xFF → next_row look Wave p ≡ (p + 1) % 256
unfolding next_row
steps_to look p other = (let z = ne_eqb (look.row Wave (p + 1)).left 0xFF other in rw z refl)

-- ---- what has been done where the program has gone on

-- the waveform is set, and no time has passed; and the program has gone on besides
abbrev pub held : ℕ → Playing → Playing
held wave s = record s { voice = record s.voice { wave = wave; wave_time = 0 } }

abbrev pub moved : LookUps → ℕ → Playing → Playing
moved look wave s =
    record s { voice = record s.voice { wave = wave; wave_time = 0; wave_ptr = next_row look Wave s.voice.wave_ptr } }

pub begun_delay : (look : LookUps) (s : Playing) → (its_row look s.voice).left < 0x10 →
    begun look s ≡ moved look s.voice.wave s
begun_delay look s low =
    let left = (its_row look s.voice).left in
    let no = is_no_command (its_row look s.voice) (omega (arith, low)) in
    let c : nat_le 0x10 left ≡ false = lt-leb 0x10 left low in
    let e : nat_le 0xE0 left ≡ false = lt-leb 0xE0 left (omega (arith, low)) in
    rw (no, c, e) refl

pub begun_wave : (look : LookUps) (s : Playing) → 0x10 ≤ (its_row look s.voice).left →
    (its_row look s.voice).left < 0xE0 → begun look s ≡ moved look (its_row look s.voice).left s
begun_wave look s from to =
    let left = (its_row look s.voice).left in
    let no = is_no_command (its_row look s.voice) (omega (arith, to)) in
    let b : nat_le 0x10 left ≡ true = le-leb 0x10 left from in
    let c : nat_le left 0xDF ≡ true = le-leb left 0xDF (omega (arith, to)) in
    rw (no, b, c) refl

pub begun_low : (look : LookUps) (s : Playing) → 0xE0 ≤ (its_row look s.voice).left →
    (its_row look s.voice).left < 0xF0 → begun look s ≡ moved look ((its_row look s.voice).left - 0xE0) s
begun_low look s from to =
    let left = (its_row look s.voice).left in
    let no = is_no_command (its_row look s.voice) to in
    let b : nat_le 0x10 left ≡ true = le-leb 0x10 left (omega (arith, from)) in
    let c : nat_le left 0xDF ≡ false = lt-leb left 0xDF (omega (arith, from)) in
    let e : nat_le 0xE0 left ≡ true = le-leb 0xE0 left from in
    let f : nat_le left 0xEF ≡ true = le-leb left 0xEF (omega (arith, to)) in
    rw (no, b, c, e, f) refl

pub begun_command : (look : LookUps) (s : Playing) → is_wave_command (its_row look s.voice) ≡ true →
    begun look s ≡ moved look s.voice.wave s
begun_command look s is = rw is refl

-- the note stays, of a row that is no command
pub begun_note : (look : LookUps) (s : Playing) → (its_row look s.voice).left < 0xF0 →
    (begun look s).voice.note ≡ s.voice.note
begun_note look s low =
    elim (cases_lt (its_row look s.voice).left 0x10) [
      | inl delay ↦ ap note_of (begun_delay look s delay)
      | inr from ↦ elim (cases_lt (its_row look s.voice).left 0xE0) [
        | inl wave ↦ ap note_of (begun_wave look s from wave)
        | inr high ↦ ap note_of (begun_low look s high low)
      ]
    ]
  where
    note_of : Playing → ℕ
    note_of t = t.voice.note
