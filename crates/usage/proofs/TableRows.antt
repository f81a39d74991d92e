-- Rows of tables: the rows that jumps name, and the commands of the wave table. Those that aren't stored are neither.
use Rattle.std.proofs.Common.{◌≡◌, ℕ, ◌<◌, ◌≤◌, ◌⊎◌, Bool, true, false, List, length, replicate}
use Rattle.std.proofs.Common.{refl, inl, inr, arith}
use Rattle.std.proofs.lemmas.Bool.{cases_lt}
use Rattle.song_model.specs.declared.tables.TableName.{TableName}
use Rattle.song_model.specs.declared.tables.TableName.TheVariants.{Wave}
use Rattle.song_model.specs.declared.songs.Song.{Song}
use Rattle.song_model.specs.LookUp.{table_of, table_row}
use Rattle.play_model.specs.declared.unplayable.Unplayable.{Unplayable}
use Rattle.play_model.specs.declared.unplayable.Unplayable.TheVariants.{NoSubtune, MissingPattern, BadRestart}
use Rattle.play_model.specs.declared.unplayable.Unplayable.TheVariants.{TableOverflow, PointerToJump}
use Rattle.play_model.specs.Reached.{is_jump, IsPointer}
use Rattle.play_model.specs.Playable.{table_number, IsNotAfter, IsFirst}
use Rattle.play_model.proofs.Laws.{stored_if, jump_is_stored}
use Rattle.usage.specs.Marks.{IsMarked, AreMarks}
use Rattle.usage.specs.Building.{Adds, SomeBelow, AddsAt, SomeBelowAt, AreMarksAt}
use Rattle.usage.specs.Search.{IsNowhere, PointsIn}
use Rattle.usage.specs.Checks.{IsTargetOf, IsNamed}
use Rattle.usage.specs.Waves.{RowCommands, IsWaveCommand}
use Rattle.usage.proofs.Ranks.{same, at_most, nothing_left}
use Rattle.usage.proofs.AddedMarks.{adds_at_same, marks_at_from_none}

-- ---- the rows that jumps name

pub marks_with : {P Q : ℕ → Type 0} (R : ℕ → Type 0) {old new : List Bool} → AreMarks P old → Adds Q old new →
    ((n : ℕ) → P n ⊎ Q n → R n) → ((n : ℕ) → R n → P n ⊎ Q n) →
    AreMarks R new
marks_with {P} {Q} R {old} {new} m a to from = record {
  each = λ n. (
    λ (h : IsMarked new n). (let w = (a.each n).0 h in
        elim w [ inl o ↦ to n (inl ((m.each n).0 o)) | inr q ↦ to n (inr q) ]),
    λ (r : R n). (let w = from n r in elim w [
      | inl p ↦ (a.each n).1 (inl ((m.each n).1 p))
      | inr q ↦ (a.each n).1
          (inr q)
    ]),
  );
}

pub named_of : (song : Song) (name : TableName) (i : ℕ) {pointers new : List Bool} → length (table_of song name) < i →
    AreMarks (IsPointer song name) pointers →
    Adds (SomeBelow (IsTargetOf song name) i) pointers new → AreMarks (IsNamed song name) new
named_of song name i few m a =
    marks_with (IsNamed song name) m a
    (λ n w. elim w [
      | inl p ↦ inl p
      | inr s ↦ inr (record {
        p = s.k;
        reached = s.stands.reached;
        jump = s.stands.jump;
        target =
            s.stands.target;
        some = s.stands.some;
      })
    ])
    (λ n w. elim w [
      | inl p ↦ inl p
      | inr t ↦ inr (record {
        k = t.p;
        below = (let s = jump_is_stored song name t.p t.jump in omega arith);
        stands = record { reached = t.reached; jump = t.jump; target = t.target; some = t.some };
      })
    ])

-- ---- no jump row is named

points_first : (song : Song) (name : TableName) (p : ℕ) (named : List Bool) → AreMarks (IsNamed song name) named →
    ((q : ℕ) → q < p → IsMarked named q → ¬ (is_jump name (table_row song name q) ≡ true)) →
    (other : Unplayable) → PointsIn song name other → IsNotAfter (PointerToJump name p) other
points_first song name p named m none NoSubtune h = absurd h
points_first song name p named m none (MissingPattern s c l r) h = absurd h
points_first song name p named m none (BadRestart s c) h = absurd h
points_first song name p named m none (TableOverflow t r) h = absurd h
points_first song name p named m none (PointerToJump t r) (tn, h) =
    let low : p ≤ r = elim (cases_lt r p) [
      | inl before ↦ absurd (none r before ((m.each r).1 h.named) h.jump)
      | inr on ↦
          on
    ] in
    rw tn (same {x = 5} refl (same {x = table_number name} refl (at_most low nothing_left))).is

pub jump_is_first : (song : Song) (name : TableName) (p : ℕ) (named : List Bool) → AreMarks (IsNamed song name) named →
    ((q : ℕ) → q < p → IsMarked named q → ¬ (is_jump name (table_row song name q) ≡ true)) → IsMarked named p →
    is_jump name (table_row song name p) ≡ true → IsFirst (PointsIn song name) (PointerToJump name p)
jump_is_first song name p named m none here jump = record {
  is_such = (refl, record { named = (m.each p).0 here; jump = jump });
  first = points_first song name p named m none;
}

pub no_jump : (song : Song) (name : TableName) (p : ℕ) (named : List Bool) → AreMarks (IsNamed song name) named →
    length (table_of song name) < p →
    ((q : ℕ) → q < p → IsMarked named q → ¬ (is_jump name (table_row song name q) ≡ true)) →
    IsNowhere (PointsIn song name)
no_jump song name p named m end none NoSubtune h = h
no_jump song name p named m end none (MissingPattern s c l r) h = h
no_jump song name p named m end none (BadRestart s c) h = h
no_jump song name p named m end none (TableOverflow t r) h = h
no_jump song name p named m end none (PointerToJump t r) (tn, h) =
    let low = jump_is_stored song name r h.jump in
    none r (omega arith) ((m.each r).1 h.named) h.jump

-- ---- the commands of the wave table

pub waves_of : (song : Song) (i : ℕ) {new : List (List Bool)} → length song.wave < i →
    AddsAt (SomeBelowAt (RowCommands song) i) (replicate 16 (replicate 256 false)) new →
    AreMarksAt (IsWaveCommand song) new
waves_of song i few a =
    marks_at_from_none 16 256 (adds_at_same (IsWaveCommand song) (λ c d s. record { p = s.k; has = s.stands })
    (λ c d w. record {
      k = w.p;
      below = (let e = w.has.left in let s = stored_if song Wave w.p (λ z. omega arith) in omega arith);
      stands = w.has;
    }) a)
