-- What the marks in a range say of a song.
use Rattle.std.proofs.Common.{◌≡◌, ◌≢◌, ℕ, ◌-◌, ◌%◌, ◌<◌, ◌≤◌, ◌⊎◌, ◌↔◌}
use Rattle.std.proofs.Common.{Bool, List, [], length, refl, inl, inr, arith}
use Rattle.std.proofs.lemmas.Bool.{cases_lt}
use Rattle.std.proofs.lemmas.List.{get_or_past}
use Rattle.song_model.specs.declared.tables.TableName.{TableName}
use Rattle.song_model.specs.declared.tables.TableName.TheVariants.{Wave}
use Rattle.song_model.specs.declared.songs.Song.{Song}
use Rattle.song_model.specs.LookUp.{table_row}
use Rattle.play_model.specs.Used.{IsPlayedByte}
use Rattle.play_model.specs.Reached.{IsPointer}
use Rattle.play_model.specs.Features.{HasByte, HasRow, HasWaveRow, UsesCommand, IsAny, HasPointer, HasWaveCommand}
use Rattle.usage.specs.Marks.{IsMarked, AreMarks}
use Rattle.usage.specs.Building.{AreWhole, AreMarksAt, marks_of}
use Rattle.usage.specs.Rows.{IsUsedCommand}
use Rattle.usage.specs.Waves.{IsWaveCommand}
use Rattle.usage.specs.FeatureParts.{HasMark, HasCommandMark}
use Rattle.usage.proofs.AddedMarks.{marked_inside}

-- a marked parameter is a byte
byte_marked : (commands : List (List Bool)) (c d : ℕ) → AreWhole commands → IsMarked (marks_of commands c) d → d < 256
byte_marked commands c d whole m = elim (cases_lt c (length commands)) [
  | inl inside ↦ marked_inside (marks_of commands c) 256 d (let n = whole c [] inside in omega arith) m
  | inr past ↦ (let e = get_or_past commands c [] past in let none : IsMarked [] d = rw e at m in absurd (cc))
]

-- the parameters in a range are those that are meant
pub record IsRange (from to : ℕ) (IsMeant : ℕ → Type 0) : Type 0 where
  pub meant : (d : ℕ) → from ≤ d → d < to → IsMeant d
  pub inside : (d : ℕ) → d < 256 → IsMeant d → (from ≤ d) × (d < to)

-- ---- commands in rows

row_of_mark : (song : Song) (commands : List (List Bool)) (c from to : ℕ) (IsMeant : ℕ → Type 0) →
    AreMarksAt (IsUsedCommand song) commands → IsRange from to IsMeant →
    HasMark (marks_of commands c) from to → HasRow song c IsMeant
row_of_mark song commands c from to IsMeant m range h =
    let u = ((m.each c).each h.n).0 h.marked in
    record { row = u.row; used = u.used; command_is = u.has.0; is_meant = rw u.has.1 (range.meant h.n h.low h.high) }

mark_of_row : (song : Song) (commands : List (List Bool)) (c from to : ℕ) (IsMeant : ℕ → Type 0) →
    AreMarksAt (IsUsedCommand song) commands → IsRange from to IsMeant →
    HasRow song c IsMeant → HasMark (marks_of commands c) from to
mark_of_row song commands c from to IsMeant m range h =
    let marked = ((m.each c).each h.row.param).1 (record { row = h.row; used = h.used; has = (h.command_is, refl) }) in
    let i = range.inside h.row.param (byte_marked commands c h.row.param m.whole marked) h.is_meant in
    record { n = h.row.param; low = i.0; high = i.1; marked = marked }

pub row_marks : (song : Song) (commands : List (List Bool)) (c from to : ℕ) (IsMeant : ℕ → Type 0) →
    AreMarksAt (IsUsedCommand song) commands → IsRange from to IsMeant →
    HasMark (marks_of commands c) from to ↔ HasRow song c IsMeant
row_marks song commands c from to IsMeant m range =
    (row_of_mark song commands c from to IsMeant m range, mark_of_row song commands c from to IsMeant m range)

-- ---- and in the wave table

wave_of_mark : (song : Song) (waves : List (List Bool)) (c from to : ℕ) (IsMeant : ℕ → Type 0) →
    AreMarksAt (IsWaveCommand song) waves → IsRange from to IsMeant →
    HasMark (marks_of waves c) from to → HasWaveRow song c IsMeant
wave_of_mark song waves c from to IsMeant m range h =
    let w = ((m.each c).each h.n).0 h.marked in
    record {
      p = w.p;
      reached = w.has.reached;
      command_is = w.has.left;
      is_meant =
          rw w.has.right (range.meant h.n h.low h.high);
    }

mark_of_wave : (song : Song) (waves : List (List Bool)) (c from to : ℕ) (IsMeant : ℕ → Type 0) → c < 15 →
    AreMarksAt (IsWaveCommand song) waves → IsRange from to IsMeant →
    HasWaveRow song c IsMeant → HasMark (marks_of waves c) from to
mark_of_wave song waves c from to IsMeant small m range h =
    let d : ℕ = (table_row song Wave h.p).right in
    let marked : IsMarked (marks_of waves c) d =
    ((m.each c).each d).1 (record {
      p = h.p;
      has =
          record { reached = h.reached; command = small; left = h.command_is; right = refl };
    }) in
    let i = range.inside d (byte_marked waves c d m.whole marked) h.is_meant in
    record { n = d; low = i.0; high = i.1; marked = marked }

pub use_marks : (song : Song) (commands waves : List (List Bool)) (c from to : ℕ) (IsMeant : ℕ → Type 0) → c < 15 →
    AreMarksAt (IsUsedCommand song) commands →
    AreMarksAt (IsWaveCommand song) waves → IsRange from to IsMeant →
    (HasMark (marks_of commands c) from to ⊎ HasMark (marks_of waves c) from to) ↔ UsesCommand song c IsMeant
use_marks song commands waves c from to IsMeant small m w range = (
  λ (h : HasMark (marks_of commands c) from to ⊎ HasMark (marks_of waves c) from to). elim h [
    | inl a ↦ inl (row_of_mark song commands c from to IsMeant m range a)
    | inr b ↦ inr (wave_of_mark song waves c from to IsMeant w range b)
  ],
  λ (u : UsesCommand song c IsMeant). elim u [
    | inl a ↦ inl (mark_of_row song commands c from to IsMeant m range a)
    | inr b ↦ inr (mark_of_wave song waves c from to IsMeant small w range b)
  ],
)

-- ---- ranges

pub any_range : IsRange 0 256 IsAny
any_range = record { meant = λ d low high. tt; inside = λ d byte any. (omega arith, byte) }

pub other_range : IsRange 1 256 (λ d. d ≢ 0)
other_range = record { meant = λ d low high e. omega arith; inside = λ d byte some. (omega arith, byte) }

pub zero_range : IsRange 0 1 (λ d. d ≡ 0)
zero_range = record { meant = λ d low high. omega arith; inside = λ d byte e. (omega arith, omega arith) }

pub funk_range : IsRange 0 2 (λ d. d ≤ 1)
funk_range = record { meant = λ d low high. omega arith; inside = λ d byte e. (omega arith, omega arith) }

-- ---- tempos, which are two ranges

tempo_of : (d : ℕ) → ((3 ≤ d) × (d < 128)) ⊎ ((131 ≤ d) × (d < 256)) → 3 ≤ d % 128
tempo_of d (inl h) = let a = h.0 in let b = h.1 in omega arith
tempo_of d (inr h) = let a = h.0 in let b = h.1 in omega arith

range_of_tempo : (d : ℕ) → d < 256 → 3 ≤ d % 128 → ((3 ≤ d) × (d < 128)) ⊎ ((131 ≤ d) × (d < 256))
range_of_tempo d byte h = elim (cases_lt d 128) [
  | inl low ↦ inl (omega arith, low)
  | inr high ↦ inr (omega arith, byte)
]

pub tempo_marks : (song : Song) (commands : List (List Bool)) → AreMarksAt (IsUsedCommand song) commands →
    (HasMark (marks_of commands 15) 3 128 ⊎ HasMark (marks_of commands 15) 131 256) ↔ HasRow song 15 (λ d. 3 ≤ d % 128)
tempo_marks song commands m = (
  λ (h : HasMark (marks_of commands 15) 3 128 ⊎ HasMark (marks_of commands 15) 131 256). elim h [
    | inl a ↦ row_with a.n a.marked (tempo_of a.n (inl (a.low, a.high)))
    | inr b ↦ row_with b.n b.marked (tempo_of b.n (inr (b.low, b.high)))
  ],
  λ (r : HasRow song 15 (λ d. 3 ≤ d % 128)).
      (let marked = ((m.each 15).each r.row.param).1 (record { row = r.row; used = r.used; has = (r.command_is, refl) })
      in
      let w = range_of_tempo r.row.param (byte_marked commands 15 r.row.param m.whole marked) r.is_meant in
      elim w [
        | inl a ↦ inl (record { n = r.row.param; low = a.0; high = a.1; marked = marked })
        | inr b ↦ inr (record { n = r.row.param; low = b.0; high = b.1; marked = marked })
      ]),
)
  where
    row_with : (n : ℕ) → IsMarked (marks_of commands 15) n → 3 ≤ n % 128 → HasRow song 15 (λ d. 3 ≤ d % 128)
    row_with n marked tempo = (
        let u = ((m.each 15).each n).0 marked in
        record { row = u.row; used = u.used; command_is = u.has.0; is_meant = rw u.has.1 tempo })

-- ---- bytes, pointers, and commands of the wave table

pub byte_marks : (song : Song) (bytes : List Bool) (from to : ℕ) → AreMarks (IsPlayedByte song) bytes → 0 < to →
    HasMark bytes from to ↔ HasByte song from (to - 1)
byte_marks song bytes from to m some = (
  λ (h : HasMark bytes from to). record {
    byte = h.n;
    played = (m.each h.n).0 h.marked;
    low = h.low;
    high =
        (let a = h.high in omega arith);
  },
  λ (b : HasByte song from (to - 1)). record {
    n = b.byte;
    low = b.low;
    high = (let a = b.high in omega arith);
    marked =
        (m.each b.byte).1 b.played;
  },
)

pub pointer_marks : (song : Song) (name : TableName) (pointers : List Bool) → AreMarks (IsPointer song name) pointers →
    length pointers ≡ 256 →
    HasMark pointers 0 256 ↔ HasPointer song name
pointer_marks song name pointers m count = (
  λ (h : HasMark pointers 0 256). record { p = h.n; pointer = (m.each h.n).0 h.marked },
  λ (h : HasPointer song name).
      (let marked = (m.each h.p).1 h.pointer in
      record {
        n = h.p;
        low = omega arith;
        high = marked_inside pointers 256 h.p (omega arith) marked;
        marked =
            marked;
      }),
)

pub command_marks : (song : Song) (waves : List (List Bool)) → AreMarksAt (IsWaveCommand song) waves →
    HasCommandMark waves ↔ HasWaveCommand song
command_marks song waves m = (
  λ (h : HasCommandMark waves).
      (let w = ((m.each h.command).each h.parameter).0 h.marked in
      let left = w.has.left in
      let small = w.has.command in
      record { p = w.p; reached = w.has.reached; from = omega arith; to = omega arith }),
  λ (h : HasWaveCommand song).
      (let low = h.from in
      let high = h.to in
      let c : ℕ = (table_row song Wave h.p).left - 0xF0 in
      let d : ℕ = (table_row song Wave h.p).right in
      record {
        command = c;
        parameter = d;
        marked = ((m.each c).each d).1 (record {
          p = h.p;
          has =
              record { reached = h.reached; command = omega arith; left = omega arith; right = refl };
        });
      }),
)

-- one after the other
pub iff_then : {A B C : Type 0} → A ↔ B → B ↔ C → A ↔ C
iff_then {A} {B} {C} f g = (λ (a : A). g.0 (f.0 a), λ (c : C). f.1 (g.1 c))
