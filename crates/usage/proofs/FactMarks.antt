-- What marks say of the facts of a song's rows.
use Rattle.std.proofs.Common.{◌≡◌, ℕ, ◌<◌, ◌≤◌, ◌⊎◌, ◌↔◌, Bool, List, length, refl, inl, inr, arith}
use Rattle.std.proofs.lemmas.Bool.{cases_lt}
use Rattle.song_model.specs.declared.rows.Row.{Row}
use Rattle.song_model.specs.declared.songs.Song.{Song}
use Rattle.play_model.specs.Used.{IsUsedRow}
use Rattle.play_model.specs.Features.{HasRow, IsAny}
use Rattle.song_facts.specs.Facts.{IsTone, IsSlide, IsOnce, IsGateNote, IsFunkChoice, HasSuchRow}
use Rattle.usage.specs.Marks.{AreMarks}
use Rattle.usage.specs.Building.{AreMarksAt, marks_of}
use Rattle.usage.specs.Rows.{IsUsedCommand, IsUsedNote}
use Rattle.usage.specs.FeatureParts.{HasMark}
use Rattle.usage.proofs.AddedMarks.{command_inside}
use Rattle.usage.proofs.FeatureMarks.{IsRange, row_marks}

-- ---- commands of rows

-- the row's command is one of these
abbrev pub IsBetween : ℕ → ℕ → Row → Type 0
IsBetween from to row = (from ≤ row.command) × (row.command < to)

-- the same rows in other words
such_rows : (song : Song) {A B : Row → Type 0} → ((row : Row) → IsUsedRow song row → A row → B row) →
    ((row : Row) → IsUsedRow song row → B row → A row) → HasSuchRow song A ↔ HasSuchRow song B
such_rows song {A} {B} to from = (
  λ (h : HasSuchRow song A). record { row = h.row; used = h.used; is_such = to h.row h.used h.is_such },
  λ (h : HasSuchRow song B). record { row = h.row; used = h.used; is_such = from h.row h.used h.is_such },
)

-- there is none where no such command is had
pub none_between : (song : Song) (from to : ℕ) →
    ((c : ℕ) → from ≤ c → c < to → ¬ HasRow song c IsAny) → ¬ HasSuchRow song (IsBetween from to)
none_between song from to none h =
    none h.row.command h.is_such.0 h.is_such.1
    (record { row = h.row; used = h.used; command_is = refl; is_meant = tt })

-- a used row's command is one of the 16
command_small : (song : Song) (commands : List (List Bool)) (row : Row) → AreMarksAt (IsUsedCommand song) commands →
    length commands ≡ 16 → IsUsedRow song row → row.command < 16
command_small song commands row m count used =
    let marked = ((m.each row.command).each row.param).1 (record { row = row; used = used; has = (refl, refl) }) in
    command_inside commands 16 row.command row.param (omega arith) marked

pub tone_rows : (song : Song) → HasSuchRow song (IsBetween 3 4) ↔ HasSuchRow song IsTone
tone_rows song =
    such_rows song (λ row used b. let low = b.0 in let high = b.1 in omega arith)
    (λ row used e. (omega arith, omega arith))

pub slide_rows : (song : Song) → HasSuchRow song (IsBetween 1 5) ↔ HasSuchRow song IsSlide
slide_rows song =
    such_rows song (λ row used b. let high = b.1 in (b.0, omega arith))
    (λ row used s. let high = s.1 in (s.0, omega arith))

pub once_rows : (song : Song) (commands : List (List Bool)) → AreMarksAt (IsUsedCommand song) commands →
    length commands ≡ 16 → HasSuchRow song (IsBetween 5 16) ↔ HasSuchRow song IsOnce
once_rows song commands m count =
    such_rows song (λ row used b. b.0) (λ row used low. (low, command_small song commands row m count used))

-- ---- commands with parameters

-- rows have the command with such a parameter where one in the range is marked
pub such_marks : (song : Song) (commands : List (List Bool)) (c from to : ℕ) (IsMeant : ℕ → Type 0) →
    AreMarksAt (IsUsedCommand song) commands → IsRange from to IsMeant →
    HasMark (marks_of commands c) from to ↔ HasSuchRow song (λ row. (row.command ≡ c) × IsMeant row.param)
such_marks song commands c from to IsMeant m range = (
  λ (h : HasMark (marks_of commands c) from to).
      (let r = (row_marks song commands c from to IsMeant m range).0 h in
      record { row = r.row; used = r.used; is_such = (r.command_is, r.is_meant) }),
  λ (h : HasSuchRow song (λ row. (row.command ≡ c) × IsMeant row.param)).
      (row_marks song commands c from to IsMeant m range).1
      (record { row = h.row; used = h.used; command_is = h.is_such.0; is_meant = h.is_such.1 }),
)

pub voice_range : IsRange 0x80 256 (λ d. 0x80 ≤ d)
voice_range = record { meant = λ d low high. low; inside = λ d byte e. (e, byte) }

pub common_range : IsRange 3 0x80 (λ d. (3 ≤ d) × (d < 0x80))
common_range = record { meant = λ d low high. (low, high); inside = λ d byte e. e }

pub turns_range : IsRange 0 2 (λ d. d < 2)
turns_range = record { meant = λ d low high. high; inside = λ d byte e. (omega arith, e) }

pub choice_rows : (song : Song) → HasRow song 0xE IsAny ↔ HasSuchRow song IsFunkChoice
choice_rows song = (
  λ (h : HasRow song 0xE IsAny). record { row = h.row; used = h.used; is_such = h.command_is },
  λ (h : HasSuchRow song IsFunkChoice). record { row = h.row; used = h.used; command_is = h.is_such; is_meant = tt },
)

-- ---- notes of rows

gate_note : (n : ℕ) → 0xBE ≤ n → n < 0xC0 → (n ≡ 0xBE) ⊎ (n ≡ 0xBF)
gate_note n low high = elim (cases_lt n 0xBF) [ inl off ↦ inl (omega arith) | inr on ↦ inr (omega arith) ]

low_gate_note : (n : ℕ) → (n ≡ 0xBE) ⊎ (n ≡ 0xBF) → (0xBE ≤ n) × (n < 0xC0)
low_gate_note n (inl off) = (omega arith, omega arith)
low_gate_note n (inr on) = (omega arith, omega arith)

pub gate_note_marks : (song : Song) (notes : List Bool) → AreMarks (IsUsedNote song) notes →
    HasMark notes 0xBE 0xC0 ↔ HasSuchRow song IsGateNote
gate_note_marks song notes m = (
  λ (h : HasMark notes 0xBE 0xC0).
      (let u = (m.each h.n).0 h.marked in
      record { row = u.row; used = u.used; is_such = rw u.has (gate_note h.n h.low h.high) }),
  λ (h : HasSuchRow song IsGateNote).
      (let inside = low_gate_note h.row.note h.is_such in
      let marked = (m.each h.row.note).1 (record { row = h.row; used = h.used; has = refl }) in
      record { n = h.row.note; low = inside.0; high = inside.1; marked = marked }),
)
