-- What is found of a song's pointers and programs, and the first place where one of them breaks a rule.
use Rattle.std.proofs.Common.{◌≡◌, ℕ, ◌+◌, ◌-◌, ◌<◌, ◌≤◌, ◌⊎◌, Bool, List, []}
use Rattle.std.proofs.Common.{◌∷◌, Some, Result, Ok, Err, OnOk, refl, subst, inl, inr, arith}
use Rattle.std.proofs.lemmas.Bool.{cases_lt}
use Rattle.std.proofs.lemmas.Bool.Decides.{nat_tests}
use Rattle.song_model.specs.declared.tables.TableRow.{TableRow}
use Rattle.song_model.specs.declared.tables.TableName.{TableName}
use Rattle.song_model.specs.declared.tables.TableName.TheVariants.{Wave, Pulse, Filter, Speed}
use Rattle.song_model.specs.declared.songs.Song.{Song}
use Rattle.song_model.specs.LookUp.{table_of, table_row}
use Rattle.song_model.specs.Pointers.{wave_row_table}
use Rattle.play_model.specs.declared.unplayable.Unplayable.{Unplayable}
use Rattle.play_model.specs.declared.unplayable.Unplayable.TheVariants.{NoSubtune, MissingPattern, BadRestart}
use Rattle.play_model.specs.declared.unplayable.Unplayable.TheVariants.{TableOverflow, PointerToJump}
use Rattle.play_model.specs.Reached.{IsPlayedPointer, IsReached, played, pointed, led, IsPointer, of_played, of_wave_row}
use Rattle.play_model.specs.Playable.{table_number, HasPrograms, RunsOff, PointsAtJump, IsNotAfter, IsFirst}
use Rattle.play_model.proofs.Laws.{jumps_are_programs, no_wave_pointer, same_table}
use Rattle.usage.specs.Marks.{IsMarked, AreMarks}
use Rattle.usage.specs.Building.{Adds, AreMarksAt}
use Rattle.usage.specs.Programs.{IsReachedFrom, first, next}
use Rattle.usage.specs.Pointers.{IsCommandPointer}
use Rattle.usage.specs.Waves.{IsWaveCommand}
use Rattle.usage.specs.Search.{IsNowhere, RunsOffIn, PointsIn}
use Rattle.usage.specs.Checks.{ArePrograms}
use Rattle.usage.specs.Found.{ProgramFails}
use Rattle.usage.specs.declared.pointers.CommandPlace.TheVariants.{WaveTable}
use Rattle.usage.specs.declared.checks.Programs.{Programs}
use Rattle.usage.proofs.Ranks.{lower, same, first_of}
use Rattle.usage.proofs.TableRows.{marks_with}

-- ---- pointers of the wave table

-- a left side that points is a command
command_left : (left : ℕ) (name : TableName) → wave_row_table left ≡ Some name → (0xF0 ≤ left) × (left < 0xFF)
command_left left name h = (grind (arith, nat_tests), grind (arith, nat_tests))

pointer_to : (song : Song) (name : TableName) (waves : List (List Bool)) (p : ℕ) →
    AreMarksAt (IsWaveCommand song) waves →
    IsPlayedPointer song name p ⊎ IsCommandPointer WaveTable name waves p → IsPointer song name p
pointer_to song name waves p m (inl x) = of_played x
pointer_to song name waves p m (inr h) =
    let w = ((m.each h.command).each p).0 h.points.parameter.marked in
    of_wave_row w.p w.has.reached (record {
      table = rw w.has.left h.points.points;
      right = w.has.right;
      some =
          h.points.parameter.some;
    })

pointer_from : (song : Song) (name : TableName) (waves : List (List Bool)) (p : ℕ) →
    AreMarksAt (IsWaveCommand song) waves →
    IsPointer song name p → IsPlayedPointer song name p ⊎ IsCommandPointer WaveTable name waves p
pointer_from song name waves p m (of_played x) = inl x
pointer_from song name waves p m (of_wave_row r h w) =
    let range = command_left (table_row song Wave r).left name w.table in
    let low = range.0 in
    let high = range.1 in
    let c : ℕ = (table_row song Wave r).left - 0xF0 in
    let left : (table_row song Wave r).left ≡ 0xF0 + c = omega arith in
    inr (record {
      command = c;
      points = record {
        points = rw left at w.table;
        parameter = record {
          marked = ((m.each c).each p).1 (record {
            p = r;
            has =
                record { reached = h; command = omega arith; left = left; right = w.right };
          });
          some = w.some;
        };
      };
    })

pub pointers_of : (song : Song) (name : TableName) (waves : List (List Bool)) {old new : List Bool} →
    AreMarksAt (IsWaveCommand song) waves →
    AreMarks (IsPlayedPointer song name) old → Adds (IsCommandPointer WaveTable name waves) old new →
    AreMarks (IsPointer song name) new
pointers_of song name waves m a b =
    marks_with (IsPointer song name) a b (λ p w. pointer_to song name waves p m w)
    (λ p x. pointer_from song name waves p m x)

-- ---- the rows that programs come to

reached_to : (song : Song) (name : TableName) (pointers : List Bool) → AreMarks (IsPointer song name) pointers →
    (p : ℕ) →
    IsReachedFrom name (table_of song name) (IsMarked pointers) p → IsReached song name p
reached_to song name pointers m p (first mark) = begins ((m.each p).0 mark)
  where
    begins : IsPointer song name p → IsReached song name p
    begins (of_played x) = played x
    begins (of_wave_row r h w) = pointed r h w
reached_to song name pointers m q (next p r e) = led p (reached_to song name pointers m p r) e

reached_from : (song : Song) (name : TableName) (pointers : List Bool) → AreMarks (IsPointer song name) pointers →
    (p : ℕ) →
    IsReached song name p → IsReachedFrom name (table_of song name) (IsMarked pointers) p
reached_from song name pointers m p (played x) = first ((m.each p).1 (of_played x))
reached_from song name pointers m p (pointed r h w) = first ((m.each p).1 (of_wave_row r h w))
reached_from song name pointers m q (led p h e) = next p (reached_from song name pointers m p h) e

pub programs_of : (song : Song) (name : TableName) (rows : List TableRow) (programs : Programs) →
    rows ≡ table_of song name →
    AreMarks (IsPointer song name) programs.pointers →
    AreMarks (IsReachedFrom name rows (IsMarked programs.pointers)) programs.reached →
    ArePrograms song name programs
programs_of song name rows programs same_rows m r = record {
  pointers = m;
  reached = record {
    each = λ p. (
      λ (h : IsMarked programs.reached p). reached_to song name programs.pointers m p
          (rw same_rows at ((r.each p).0 h)),
      λ (h : IsReached song name p). (r.each p).1 (rw same_rows (reached_from song name programs.pointers m p h)),
    );
  };
}

only_played : (song : Song) (p : ℕ) → IsPointer song Wave p → IsPlayedPointer song Wave p
only_played song p (of_played x) = x
only_played song p (of_wave_row r h w) = absurd (no_wave_pointer (table_row song Wave r).left w.table)

pub wave_programs_of : (song : Song) (rows : List TableRow) (programs : Programs) → rows ≡ song.wave →
    AreMarks (IsPlayedPointer song Wave) programs.pointers →
    AreMarks (IsReachedFrom Wave rows (IsMarked programs.pointers)) programs.reached →
    ArePrograms song Wave programs
wave_programs_of song rows programs same_rows m r =
    programs_of song Wave rows programs same_rows
    (record {
      each = λ p. (
        λ (h : IsMarked programs.pointers p). of_played ((m.each p).0 h),
        λ (x : IsPointer song Wave p). (m.each p).1 (only_played song p x),
      );
    }) r

-- ---- the first place that breaks a rule

-- none of the tables before this one is such
abbrev pub NoneBefore : (Song → TableName → Unplayable → Type 0) → Song → TableName → Type 0
NoneBefore IsSuch song name = (other : TableName) → HasPrograms other → table_number other < table_number name →
    IsNowhere (IsSuch song other)

runs_others : (song : Song) (name : TableName) (row : ℕ) → NoneBefore RunsOffIn song name → (other : Unplayable) →
    ProgramFails song other →
    RunsOffIn song name other ⊎ IsNotAfter (TableOverflow name row) other
runs_others song name row none NoSubtune h = absurd h
runs_others song name row none (MissingPattern s c l r) h = absurd h
runs_others song name row none (BadRestart s c) h = absurd h
runs_others song name row none (TableOverflow t r) h = elim (cases_lt (table_number t) (table_number name)) [
  | inl before ↦ absurd (none t h.programs before (TableOverflow t r) (refl, h))
  | inr on ↦ elim (cases_lt (table_number name) (table_number t)) [
    | inl after ↦ inr (same {x = 4} refl (lower {xs = row ∷ []} {ys = r ∷ []} after)).is
    | inr here ↦ (let e = same_table name t (omega arith) in inl (e, subst (λ (n : TableName). RunsOff song n r) e h))
  ]
]
runs_others song name row none (PointerToJump t r) h =
    inr (lower {x = 4} {y = 5} {xs = table_number name ∷ row ∷ []} {ys = table_number t ∷ r ∷ []} (omega arith)).is

runs_into : (song : Song) (name : TableName) (refusal : Unplayable) → RunsOffIn song name refusal →
    ProgramFails song refusal
runs_into song name NoSubtune h = absurd h
runs_into song name (MissingPattern s c l r) h = absurd h
runs_into song name (BadRestart s c) h = absurd h
runs_into song name (TableOverflow t r) (tn, h) = rw tn h
runs_into song name (PointerToJump t r) h = absurd h

pub runs_first : (song : Song) (name : TableName) (refusal : Unplayable) → NoneBefore RunsOffIn song name →
    IsFirst (RunsOffIn song name) refusal →
    IsFirst (ProgramFails song) refusal
runs_first song name refusal none f = first_of (ProgramFails song) refusal f (runs_into song name refusal f.is_such)
    (others refusal f.is_such)
  where
    others : (refusal : Unplayable) → RunsOffIn song name refusal → (other : Unplayable) → ProgramFails song other →
        RunsOffIn song name other ⊎ IsNotAfter refusal other
    others NoSubtune h = absurd h
    others (MissingPattern s c l r) h = absurd h
    others (BadRestart s c) h = absurd h
    others (TableOverflow t r) (tn, h) = λ other g. rw tn (runs_others song name r none other g)
    others (PointerToJump t r) h = absurd h

-- no program of any table runs off it
abbrev pub NoneRunsOff : Song → Type 0
NoneRunsOff song = (name : TableName) → HasPrograms name → IsNowhere (RunsOffIn song name)

points_others : (song : Song) (name : TableName) (row : ℕ) → NoneRunsOff song → NoneBefore PointsIn song name →
    (other : Unplayable) → ProgramFails song other →
    PointsIn song name other ⊎ IsNotAfter (PointerToJump name row) other
points_others song name row stay none NoSubtune h = absurd h
points_others song name row stay none (MissingPattern s c l r) h = absurd h
points_others song name row stay none (BadRestart s c) h = absurd h
points_others song name row stay none (TableOverflow t r) h = absurd (stay t h.programs (TableOverflow t r) (refl, h))
points_others song name row stay none (PointerToJump t r) h = elim (cases_lt (table_number t) (table_number name)) [
  | inl before ↦ absurd (none t (jumps_are_programs t (table_row song t r) h.jump) before (PointerToJump t r) (refl, h))
  | inr on ↦ elim (cases_lt (table_number name) (table_number t)) [
    | inl after ↦ inr (same {x = 5} refl (lower {xs = row ∷ []} {ys = r ∷ []} after)).is
    | inr here ↦ (let e = same_table name t (omega arith) in
        inl (e, subst (λ (n : TableName). PointsAtJump song n r) e h))
  ]
]

points_into : (song : Song) (name : TableName) (refusal : Unplayable) → PointsIn song name refusal →
    ProgramFails song refusal
points_into song name NoSubtune h = absurd h
points_into song name (MissingPattern s c l r) h = absurd h
points_into song name (BadRestart s c) h = absurd h
points_into song name (TableOverflow t r) h = absurd h
points_into song name (PointerToJump t r) (tn, h) = rw tn h

pub points_first : (song : Song) (name : TableName) (refusal : Unplayable) → NoneRunsOff song →
    NoneBefore PointsIn song name →
    IsFirst (PointsIn song name) refusal → IsFirst (ProgramFails song) refusal
points_first song name refusal stay none f = first_of (ProgramFails song) refusal f
    (points_into song name refusal f.is_such) (others refusal f.is_such)
  where
    others : (refusal : Unplayable) → PointsIn song name refusal → (other : Unplayable) → ProgramFails song other →
        PointsIn song name other ⊎ IsNotAfter refusal other
    others NoSubtune h = absurd h
    others (MissingPattern s c l r) h = absurd h
    others (BadRestart s c) h = absurd h
    others (TableOverflow t r) h = absurd h
    others (PointerToJump t r) (tn, h) = λ other g. rw tn (points_others song name r stay none other g)

-- the tables before each
pub before_wave : (IsSuch : Song → TableName → Unplayable → Type 0) (song : Song) → NoneBefore IsSuch song Wave
before_wave IsSuch song Wave p lt = absurd (omega arith)
before_wave IsSuch song Pulse p lt = absurd (omega arith)
before_wave IsSuch song Filter p lt = absurd (omega arith)
before_wave IsSuch song Speed p lt = absurd (omega arith)

pub before_pulse : (IsSuch : Song → TableName → Unplayable → Type 0) (song : Song) → IsNowhere (IsSuch song Wave) →
    NoneBefore IsSuch song Pulse
before_pulse IsSuch song wave Wave p lt = wave
before_pulse IsSuch song wave Pulse p lt = absurd (omega arith)
before_pulse IsSuch song wave Filter p lt = absurd (omega arith)
before_pulse IsSuch song wave Speed p lt = absurd (omega arith)

pub before_filter : (IsSuch : Song → TableName → Unplayable → Type 0) (song : Song) → IsNowhere (IsSuch song Wave) →
    IsNowhere (IsSuch song Pulse) → NoneBefore IsSuch song Filter
before_filter IsSuch song wave pulse Wave p lt = wave
before_filter IsSuch song wave pulse Pulse p lt = pulse
before_filter IsSuch song wave pulse Filter p lt = absurd (omega arith)
before_filter IsSuch song wave pulse Speed p lt = absurd (omega arith)

pub in_each : (IsSuch : Song → TableName → Unplayable → Type 0) (song : Song) → IsNowhere (IsSuch song Wave) →
    IsNowhere (IsSuch song Pulse) → IsNowhere (IsSuch song Filter) →
    (name : TableName) → HasPrograms name → IsNowhere (IsSuch song name)
in_each IsSuch song wave pulse filter Wave p = wave
in_each IsSuch song wave pulse filter Pulse p = pulse
in_each IsSuch song wave pulse filter Filter p = filter
in_each IsSuch song wave pulse filter Speed p = absurd (p refl)

pub none_fails : (song : Song) → NoneRunsOff song →
    ((name : TableName) → HasPrograms name → IsNowhere (PointsIn song name)) → IsNowhere (ProgramFails song)
none_fails song stay none NoSubtune h = h
none_fails song stay none (MissingPattern s c l r) h = h
none_fails song stay none (BadRestart s c) h = h
none_fails song stay none (TableOverflow t r) h = stay t h.programs (TableOverflow t r) (refl, h)
none_fails song stay none (PointerToJump t r) h =
    none t (jumps_are_programs t (table_row song t r) h.jump) (PointerToJump t r) (refl, h)

-- ---- table after table

pub wave_runs : (song : Song) (refusal : Unplayable) → IsFirst (RunsOffIn song Wave) refusal →
    IsFirst (ProgramFails song) refusal
wave_runs song refusal f = runs_first song Wave refusal (before_wave RunsOffIn song) f

pub pulse_runs : (song : Song) (refusal : Unplayable) → IsNowhere (RunsOffIn song Wave) →
    IsFirst (RunsOffIn song Pulse) refusal → IsFirst (ProgramFails song) refusal
pulse_runs song refusal wave f = runs_first song Pulse refusal (before_pulse RunsOffIn song wave) f

pub filter_runs : (song : Song) (refusal : Unplayable) → IsNowhere (RunsOffIn song Wave) →
    IsNowhere (RunsOffIn song Pulse) → IsFirst (RunsOffIn song Filter) refusal →
    IsFirst (ProgramFails song) refusal
filter_runs song refusal wave pulse f = runs_first song Filter refusal (before_filter RunsOffIn song wave pulse) f

-- none runs off in any of the three
pub record StayOnRows (song : Song) : Type 0 where
  pub wave : IsNowhere (RunsOffIn song Wave)
  pub pulse : IsNowhere (RunsOffIn song Pulse)
  pub filter : IsNowhere (RunsOffIn song Filter)

none_off : (song : Song) → StayOnRows song → NoneRunsOff song
none_off song s = in_each RunsOffIn song s.wave s.pulse s.filter

pub wave_points : (song : Song) (refusal : Unplayable) → IsNowhere (RunsOffIn song Wave) →
    IsNowhere (RunsOffIn song Pulse) → IsNowhere (RunsOffIn song Filter) →
    IsFirst (PointsIn song Wave) refusal → IsFirst (ProgramFails song) refusal
wave_points song refusal w p q f =
    points_first song Wave refusal (none_off song (record { wave = w; pulse = p; filter = q }))
    (before_wave PointsIn song) f

pub pulse_points : (song : Song) (refusal : Unplayable) → IsNowhere (RunsOffIn song Wave) →
    IsNowhere (RunsOffIn song Pulse) → IsNowhere (RunsOffIn song Filter) →
    IsNowhere (PointsIn song Wave) → IsFirst (PointsIn song Pulse) refusal → IsFirst (ProgramFails song) refusal
pulse_points song refusal w p q wave f =
    points_first song Pulse refusal (none_off song (record { wave = w; pulse = p; filter = q }))
    (before_pulse PointsIn song wave) f

pub filter_points : (song : Song) (refusal : Unplayable) → IsNowhere (RunsOffIn song Wave) →
    IsNowhere (RunsOffIn song Pulse) → IsNowhere (RunsOffIn song Filter) →
    IsNowhere (PointsIn song Wave) → IsNowhere (PointsIn song Pulse) → IsFirst (PointsIn song Filter) refusal →
    IsFirst (ProgramFails song) refusal
filter_points song refusal w p q wave pulse f =
    points_first song Filter refusal (none_off song (record { wave = w; pulse = p; filter = q }))
    (before_filter PointsIn song wave pulse) f

none_in_three : (song : Song) → IsNowhere (RunsOffIn song Wave) → IsNowhere (RunsOffIn song Pulse) →
    IsNowhere (RunsOffIn song Filter) →
    IsNowhere (PointsIn song Wave) → IsNowhere (PointsIn song Pulse) → IsNowhere (PointsIn song Filter) →
    IsNowhere (ProgramFails song)
none_in_three song w p q wave pulse filter =
    none_fails song (in_each RunsOffIn song w p q) (in_each PointsIn song wave pulse filter)

-- after the last look
pub none_at_end : {T E : Type 0} (song : Song) (last : Result T E) → IsNowhere (RunsOffIn song Wave) →
    IsNowhere (RunsOffIn song Pulse) → IsNowhere (RunsOffIn song Filter) →
    IsNowhere (PointsIn song Wave) → IsNowhere (PointsIn song Pulse) → OnOk last (IsNowhere (PointsIn song Filter)) →
    OnOk last (IsNowhere (ProgramFails song))
none_at_end song (Ok x) w p q wave pulse filter = none_in_three song w p q wave pulse filter
none_at_end song (Err e) w p q wave pulse filter = filter
