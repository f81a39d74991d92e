-- Two songs are refused for one reason.
use Rattle.std.proofs.Common.{◌≡◌, ℕ, ◌<◌, sym, ap, ◌∙◌, subst, inl, inr, arith}
use Rattle.std.proofs.lemmas.Bool.{cases_lt}
use Rattle.song_model.specs.declared.songs.Song.{Song}
use Rattle.song_join.specs.declared.faults.JoinPart.{JoinPart}
use Rattle.song_join.specs.declared.faults.JoinFault.{JoinFault}
use Rattle.song_join.specs.declared.faults.JoinFault.TheVariants.{OverLimit, LooseInstrument, LooseSpeed, GateTimer}
use Rattle.song_join.specs.declared.faults.JoinFault.TheVariants.{NoteBeforeInstrument, NoMemory}
use Rattle.song_join.specs.Limits.{sum_of, part_number, IsFirstOver, AreWithin}
use Rattle.song_join.specs.Loose.{IsLooseInstrument, IsLooseSpeed, IsFirstPlace, IsLooseIn, NothingIsLoose}
use Rattle.song_join.specs.Openings.{IsUnnamedAt, NamesFirst}
use Rattle.song_join.specs.Refusals.{first_timer, TimersDiffer, IsTimerFault, CanBeJoined, IsRefusedFor}
use Rattle.song_join.specs.Parts.{IsFirstUnnamed}
use Rattle.song_join.proofs.FirstOver.{same_part}
use Rattle.song_join.proofs.NotStored.{none_is_first}

-- ---- each reason against the condition that none of its kind stands

over_within : (first second : Song) (part : JoinPart) (sum : ℕ) → IsFirstOver first second part sum →
    AreWithin first second → ⊥
over_within first second part sum over within =
    let few = within.part part in
    let more = over.over in
    let is = over.sum_is in
    omega arith

unnamed_named : (song : Song) (s channel : ℕ) → IsFirstPlace (IsUnnamedAt song) s channel → NamesFirst song → ⊥
unnamed_named song s channel place named = named s channel place.is_such

timers_same : (first second : Song) (one two : ℕ) → TimersDiffer first second one two →
    first_timer first ≡ first_timer second → ⊥
timers_same first second one two differ same = differ.differ (differ.one_is ∙ same ∙ sym differ.two_is)

-- ---- one place of each kind

earlier_number : (IsSuch : ℕ → ℕ → Type 0) (a b c d : ℕ) → IsFirstPlace IsSuch a b → IsFirstPlace IsSuch c d → ¬ (a < c)
earlier_number IsSuch a b c d x y less = y.before a b less x.is_such

same_first : (IsSuch : ℕ → ℕ → Type 0) (a b c d : ℕ) → IsFirstPlace IsSuch a b → IsFirstPlace IsSuch c d → a ≡ c
same_first IsSuch a b c d x y =
    let one = earlier_number IsSuch a b c d x y in
    let two = earlier_number IsSuch c d a b y x in
    elim (cases_lt a c) [
      | inl less ↦ absurd (one less)
      | inr on ↦ elim (cases_lt c a) [ inl more ↦ absurd (two more) | inr same ↦ omega arith ]
    ]

same_second : (IsSuch : ℕ → ℕ → Type 0) (a b c d : ℕ) → IsFirstPlace IsSuch a b → IsFirstPlace IsSuch c d → b ≡ d
same_second IsSuch a b c d x y =
    let e = same_first IsSuch a b c d x y in
    elim (cases_lt b d) [
      | inl less ↦ absurd (y.below b less (subst (λ (k : ℕ). IsSuch k b) e x.is_such))
      | inr on ↦ elim (cases_lt d b) [
        | inl more ↦ absurd (x.below d more (subst (λ (k : ℕ). IsSuch k d) (sym e) y.is_such))
        | inr same ↦ omega arith
      ]
    ]

same_over : (first second : Song) (p q : JoinPart) (a b : ℕ) → IsFirstOver first second p a →
    IsFirstOver first second q b → p ≡ q
same_over first second p q a b x y =
    let more = x.over in
    let is = x.sum_is in
    let more_too = y.over in
    let is_too = y.sum_is in
    elim (cases_lt (part_number p) (part_number q)) [
      | inl less ↦ absurd (let few = y.earlier p less in omega arith)
      | inr on ↦ elim (cases_lt (part_number q) (part_number p)) [
        | inl less ↦ absurd (let few = x.earlier q less in omega arith)
        | inr same ↦ (let e : part_number p ≡ part_number q = omega arith in same_part p q e)
      ]
    ]

same_sum : (first second : Song) (p q : JoinPart) (a b : ℕ) → IsFirstOver first second p a →
    IsFirstOver first second q b → a ≡ b
same_sum first second p q a b x y =
    x.sum_is ∙ ap (sum_of first second) (same_over first second p q a b x y) ∙ sym y.sum_is

-- ---- one reason

over_same : (first second : Song) (p q : JoinPart) (a b : ℕ) → IsFirstOver first second p a →
    IsFirstOver first second q b → OverLimit p a ≡ OverLimit q b
over_same first second p q a b x y =
    let part = same_over first second p q a b x y in
    let sum = same_sum first second p q a b x y in
    cc

pub one_reason : (first second : Song) (a b : JoinFault) → IsRefusedFor first second a →
    IsRefusedFor first second b → a ≡ b
one_reason first second NoMemory b x y = absurd x
one_reason first second a NoMemory x y = absurd y
one_reason first second (OverLimit p a) (OverLimit q b) x y = over_same first second p q a b x y
one_reason first second (OverLimit p a) (LooseInstrument c d) x y = absurd (over_within first second p a x y.0)
one_reason first second (OverLimit p a) (LooseSpeed c d) x y = absurd (over_within first second p a x y.0)
one_reason first second (OverLimit p a) (GateTimer c d) x y = absurd (over_within first second p a x y.0)
one_reason first second (OverLimit p a) (NoteBeforeInstrument c d) x y = absurd (over_within first second p a x y.0)
one_reason first second (LooseInstrument a b) (OverLimit q c) x y = absurd (over_within first second q c y x.0)
one_reason first second (LooseInstrument a b) (LooseInstrument c d) x y =
    let P = IsLooseIn IsLooseInstrument first second in
    let one = same_first P a b c d x.1 y.1 in
    let two = same_second P a b c d x.1 y.1 in
    cc
one_reason first second (LooseInstrument a b) (LooseSpeed c d) x y =
    absurd (none_is_first IsLooseInstrument first second a b y.1 x.1)
one_reason first second (LooseInstrument a b) (GateTimer c d) x y =
    absurd (none_is_first IsLooseInstrument first second a b y.1 x.1)
one_reason first second (LooseInstrument a b) (NoteBeforeInstrument c d) x y =
    absurd (none_is_first IsLooseInstrument first second a b y.1 x.1)
one_reason first second (LooseSpeed a b) (OverLimit q c) x y = absurd (over_within first second q c y x.0)
one_reason first second (LooseSpeed a b) (LooseInstrument c d) x y =
    absurd (none_is_first IsLooseInstrument first second c d x.1 y.1)
one_reason first second (LooseSpeed a b) (LooseSpeed c d) x y =
    let P = IsLooseIn IsLooseSpeed first second in
    let one = same_first P a b c d x.2 y.2 in
    let two = same_second P a b c d x.2 y.2 in
    cc
one_reason first second (LooseSpeed a b) (GateTimer c d) x y =
    absurd (none_is_first IsLooseSpeed first second a b y.2 x.2)
one_reason first second (LooseSpeed a b) (NoteBeforeInstrument c d) x y =
    absurd (none_is_first IsLooseSpeed first second a b y.2 x.2)
one_reason first second (GateTimer a b) (OverLimit q c) x y = absurd (over_within first second q c y x.0)
one_reason first second (GateTimer a b) (LooseInstrument c d) x y =
    absurd (none_is_first IsLooseInstrument first second c d x.1 y.1)
one_reason first second (GateTimer a b) (LooseSpeed c d) x y =
    absurd (none_is_first IsLooseSpeed first second c d x.2 y.2)
one_reason first second (GateTimer a b) (GateTimer c d) x y =
    let one : a ≡ c = x.3.one_is ∙ sym y.3.one_is in
    let two : b ≡ d = x.3.two_is ∙ sym y.3.two_is in
    cc
one_reason first second (GateTimer a b) (NoteBeforeInstrument c d) x y =
    absurd (timers_same first second a b x.3 y.3)
one_reason first second (NoteBeforeInstrument a b) (OverLimit q c) x y = absurd (over_within first second q c y x.0)
one_reason first second (NoteBeforeInstrument a b) (LooseInstrument c d) x y =
    absurd (none_is_first IsLooseInstrument first second c d x.1 y.1)
one_reason first second (NoteBeforeInstrument a b) (LooseSpeed c d) x y =
    absurd (none_is_first IsLooseSpeed first second c d x.2 y.2)
one_reason first second (NoteBeforeInstrument a b) (GateTimer c d) x y =
    absurd (timers_same first second c d y.3 x.3)
one_reason first second (NoteBeforeInstrument a b) (NoteBeforeInstrument c d) x y =
    let one = same_first (IsUnnamedAt second) a b c d x.4 y.4 in
    let two = same_second (IsUnnamedAt second) a b c d x.4 y.4 in
    cc

-- songs that can be joined aren't refused
pub none_refused : (first second : Song) (a : JoinFault) → CanBeJoined first second → ¬ IsRefusedFor first second a
none_refused first second (OverLimit p a) can x = over_within first second p a x can.within
none_refused first second (LooseInstrument a b) can x =
    none_is_first IsLooseInstrument first second a b can.instruments x.1
none_refused first second (LooseSpeed a b) can x = none_is_first IsLooseSpeed first second a b can.speeds x.2
none_refused first second (GateTimer a b) can x = timers_same first second a b x.3 can.timers
none_refused first second (NoteBeforeInstrument a b) can x = unnamed_named second a b x.4 can.named
none_refused first second NoMemory can x = x

-- ---- the reasons as the code finds them

pub timer_refused : (first second : Song) (fault : JoinFault) → AreWithin first second →
    NothingIsLoose IsLooseInstrument first second → NothingIsLoose IsLooseSpeed first second →
    IsTimerFault first second fault → IsRefusedFor first second fault
timer_refused first second fault within instruments speeds timer =
    subst (IsRefusedFor first second) (sym timer.fault_is) (within, instruments, speeds, timer.differ)

pub unnamed_refused : (first second : Song) (fault : JoinFault) → AreWithin first second →
    NothingIsLoose IsLooseInstrument first second → NothingIsLoose IsLooseSpeed first second →
    first_timer first ≡ first_timer second → IsFirstUnnamed second fault → IsRefusedFor first second fault
unnamed_refused first second fault within instruments speeds timers unnamed =
    subst (IsRefusedFor first second) (sym unnamed.fault_is) (within, instruments, speeds, timers, unnamed.first)
