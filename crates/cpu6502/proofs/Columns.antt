-- The column of cycles is the manual's, and an instruction takes cycles where it has an effect.
use Rattle.std.proofs.Common.{◌≡◌, ◌≢◌, ℕ, ◌+◌, ◌<◌, ◌≤◌, ◌⊎◌, Bool, true, false, not, ◌%◌, ◌&&◌, nat_eq, nat_le, length}
use Rattle.std.proofs.Common.{Option, Some, None, Result, Ok, Err, IfSome, if◌then◌else◌, refl, sym, ap, ◌∙◌, subst, arith, inl, inr}
use Rattle.std.proofs.lemmas.Bool.{eqb-true, leb-true, and_parts, cases_lt}
use Rattle.std.proofs.lemmas.List.{get_or_past}
use Rattle.std.specs.Option.{option_map}
use Rattle.base.proofs.Laws.{same_some}
use Rattle.cpu6502.specs.declared.cpu.Cpu.{Cpu}
use Rattle.cpu6502.specs.declared.effect.Effect.{Effect}
use Rattle.cpu6502.specs.declared.mnemonic.Mnemonic.{Mnemonic}
use Rattle.cpu6502.specs.declared.mnemonic.Mnemonic.TheVariants.{Adc, Bcc, Bcs, Beq, Bmi, Bne, Bpl, Brk, Bvc, Bvs, Sbc}
use Rattle.cpu6502.specs.declared.memory.TheConstants.{MEMORY_SIZE}
use Rattle.cpu6502.specs.declared.mnemonic.Mode.{Mode}
use Rattle.cpu6502.specs.declared.mnemonic.Mode.TheVariants.{Implied}
use Rattle.cpu6502.specs.declared.stop.Stop.{Stop}
use Rattle.cpu6502.specs.declared.stop.Stop.TheVariants.{Illegal, Break, Decimal}
use Rattle.cpu6502.specs.declared.table.Row.{Row}
use Rattle.cpu6502.specs.declared.table.TheConstants.{TABLE}
use Rattle.cpu6502.specs.Opcodes.{Meaning, row_of, meaning_in, meaning_of}
use Rattle.cpu6502.specs.Registers.{one_if}
use Rattle.cpu6502.specs.Branches.{is_taken}
use Rattle.cpu6502.specs.Effects.{address_of, done_by, effect, stop_of}
use Rattle.cpu6502.specs.Cycles.{crosses, is_read, is_paged, branch_cycles, unless_stopped, row_cycles, cycles_by, cycles}
use Rattle.cpu6502.specs.Manual.{cycles_of, RowsHaveTheseCycles, HasEffect, EffectsTakeCycles, CyclesAreInRange}
use Rattle.cpu6502.specs.Stops.{IsCause}
use Rattle.cpu6502.proofs.EachRow.{all_below, each_below}
use Rattle.cpu6502.proofs.Causes.{Stopped, plain_cause, stops_have_causes}

-- ---- the column

abbrev is_manuals : Option Row → Bool
is_manuals None = true
is_manuals (Some row) = nat_eq row.cycles (cycles_of row.mnemonic row.mode)

all_manuals : all_below (λ byte. is_manuals (row_of byte)) 256 ≡ true
all_manuals = refl

-- only a byte has a row
pub has_row : (opcode : ℕ) (row : Row) → row_of opcode ≡ Some row → opcode < 256
has_row opcode row e = elim (cases_lt opcode 255) [
  | inl below ↦ omega arith
  | inr above ↦ by_test above (cases_lt 255 opcode)
]
  where
    by_test : 255 ≤ opcode → (255 < opcode) ⊎ (opcode ≤ 255) → opcode < 256
    by_test above (inl beyond) =
        let past : length TABLE ≤ opcode = omega arith in
        let none : None ≡ Some row = sym (get_or_past TABLE opcode None past) ∙ e in
        absurd (cc)
    by_test above (inr at) = omega arith

pub rows_have_these_cycles : RowsHaveTheseCycles
rows_have_these_cycles opcode row e =
    let there : is_manuals (Some row) ≡ true =
    subst (λ r. is_manuals r ≡ true) e
    (each_below (λ byte. is_manuals (row_of byte)) 256 opcode all_manuals (has_row opcode row e)) in
    eqb-true row.cycles (cycles_of row.mnemonic row.mode) there

-- ---- from 2 to 7

-- the most that is added to a row's cycles
abbrev taken_most : Mnemonic → ℕ
taken_most Bcc = 2
taken_most Bcs = 2
taken_most Beq = 2
taken_most Bmi = 2
taken_most Bne = 2
taken_most Bpl = 2
taken_most Bvc = 2
taken_most Bvs = 2
taken_most _ = 0

abbrev most_of : Row → ℕ
most_of row = row.cycles + one_if (is_paged row.mode && is_read row.mnemonic) + taken_most row.mnemonic

one_few : (z : Bool) → one_if z ≤ 1
one_few true = omega arith
one_few false = omega arith

branch_few : (next place : ℕ) (z : Bool) → branch_cycles (Some z) next place ≤ 2
branch_few next place true = (let one = one_few (crosses next place) in omega (arith, one))
branch_few next place false = omega arith

taken_few : (mnemonic : Mnemonic) (cpu : Cpu) (next place : ℕ) →
    branch_cycles (is_taken mnemonic cpu) next place ≤ taken_most mnemonic
taken_few Bcc cpu next place = branch_few next place (not cpu.c)
taken_few Bcs cpu next place = branch_few next place cpu.c
taken_few Beq cpu next place = branch_few next place cpu.z
taken_few Bmi cpu next place = branch_few next place cpu.n
taken_few Bne cpu next place = branch_few next place (not cpu.z)
taken_few Bpl cpu next place = branch_few next place (not cpu.n)
taken_few Bvc cpu next place = branch_few next place (not cpu.v)
taken_few Bvs cpu next place = branch_few next place cpu.v
taken_few _ cpu next place = omega arith

one_at_most : (p r x : Bool) → one_if (p && r && x) ≤ one_if (p && r)
one_at_most true true x = one_few x
one_at_most true false x = omega arith
one_at_most false r x = omega arith

record IsQuick (row : Row) : Type 0 where
  some : 2 ≤ row.cycles
  few : most_of row ≤ 7

abbrev is_quick : Option Row → Bool
is_quick None = true
is_quick (Some row) = nat_le 2 row.cycles && nat_le (most_of row) 7

all_quick : all_below (λ byte. is_quick (row_of byte)) 256 ≡ true
all_quick = refl

rows_are_quick : (opcode : ℕ) (row : Row) → row_of opcode ≡ Some row → IsQuick row
rows_are_quick opcode row e =
    let there : is_quick (Some row) ≡ true =
    subst (λ r. is_quick r ≡ true) e
    (each_below (λ byte. is_quick (row_of byte)) 256 opcode all_quick (has_row opcode row e)) in
    let parts = and_parts (nat_le 2 row.cycles) (nat_le (most_of row) 7) there in
    record { some = leb-true 2 row.cycles parts.0; few = leb-true (most_of row) 7 parts.1 }

pub rows_are_few : (opcode : ℕ) → IfSome (row_of opcode) (λ row. row.cycles ≤ 7)
rows_are_few opcode = by_row (row_of opcode) refl
  where
    by_row : (r : Option Row) → row_of opcode ≡ r → IfSome r (λ row. row.cycles ≤ 7)
    by_row None e = tt
    by_row (Some row) e = (let few = (rows_are_quick opcode row e).few in omega (arith, few))

in_range : (at : ℕ → ℕ) (cpu : Cpu) → cycles at cpu ≢ 0 → (2 ≤ cycles at cpu) × (cycles at cpu ≤ 7)
in_range at cpu some = by_row (row_of (at cpu.pc)) refl some
  where
    by_stop : (row : Row) (s : Option Stop) → IsQuick row → unless_stopped s (row_cycles row at cpu) ≢ 0 →
        (2 ≤ unless_stopped s (row_cycles row at cpu)) × (unless_stopped s (row_cycles row at cpu) ≤ 7)
    by_stop row None quick takes =
        let few = quick.few in
        let least = quick.some in
        let index =
        one_at_most (is_paged row.mode) (is_read row.mnemonic)
        (crosses (address_of row.mode at cpu.pc 0 0) (address_of row.mode at cpu.pc cpu.x cpu.y)) in
        let taken =
        taken_few row.mnemonic cpu ((cpu.pc + 2) % MEMORY_SIZE) (address_of row.mode at cpu.pc cpu.x cpu.y) in
        (omega (arith, least), omega (arith, few, index, taken))
    by_stop row (Some stop) quick takes = absurd (takes refl)

    by_row : (r : Option Row) → row_of (at cpu.pc) ≡ r → cycles_by r at cpu ≢ 0 →
        (2 ≤ cycles_by r at cpu) × (cycles_by r at cpu ≤ 7)
    by_row None is takes = absurd (takes refl)
    by_row (Some row) is takes =
        by_stop row (stop_of row.mnemonic cpu.pc cpu) (rows_are_quick (at cpu.pc) row is) takes

pub cycles_are_in_range : CyclesAreInRange
cycles_are_in_range at cpu below some = in_range at cpu some

-- those of a step, and 0 where it stops
pub cycles_are_few : (at : ℕ → ℕ) (cpu : Cpu) → cycles at cpu ≤ 7
cycles_are_few at cpu = elim (cases_lt 0 (cycles at cpu)) [
  | inl some ↦ (in_range at cpu (λ zero. omega (arith, some, zero))).1
  | inr none ↦ omega (arith, none)
]

-- ---- where an effect is

-- none where the instruction stops
stopped_takes_none : (at : ℕ → ℕ) (cpu : Cpu) (row : Row) (stop : Stop) → row_of (at cpu.pc) ≡ Some row →
    IsCause at cpu stop → cycles_by (Some row) at cpu ≡ 0
stopped_takes_none at cpu row stop e cause = by_stop stop cause
  where
    Stops : Mnemonic → Type 0
    Stops mnemonic = unless_stopped (stop_of mnemonic cpu.pc cpu) (row_cycles row at cpu) ≡ 0

    named : (mnemonic : Mnemonic) (mode : Mode) → meaning_of (at cpu.pc) ≡ Some (mnemonic, mode) →
        row.mnemonic ≡ mnemonic
    named mnemonic mode is =
        let same : Some (row.mnemonic, row.mode) ≡ Some (mnemonic, mode) = sym (ap (option_map meaning_in) e) ∙ is in
        ap (λ (m : Meaning). m.0) (same_some (row.mnemonic, row.mode) (mnemonic, mode) same)

    sums : (mnemonic : Mnemonic) → (mnemonic ≡ Adc) ⊎ (mnemonic ≡ Sbc) → cpu.d ≡ true → Stops mnemonic
    sums mnemonic (inl is) d = subst Stops (sym is) (rw d refl)
    sums mnemonic (inr is) d = subst Stops (sym is) (rw d refl)

    by_stop : (stop : Stop) → IsCause at cpu stop → Stops row.mnemonic
    by_stop (Illegal place) (none, same) =
        let no : None ≡ Some (row.mnemonic, row.mode) = sym none ∙ ap (option_map meaning_in) e in absurd (cc)
    by_stop (Break place) (is, same) = subst Stops (sym (named Brk Implied is)) refl
    by_stop (Decimal place) (inl (mode, is), d, same) = sums row.mnemonic (inl (named Adc mode is)) d
    by_stop (Decimal place) (inr (mode, is), d, same) = sums row.mnemonic (inr (named Sbc mode is)) d

-- an instruction that stops has one of the causes
by_flag : (own : ℕ) (d : Bool) (stop : Stop) → (if d then Some (Decimal own) else None) ≡ Some stop →
    (d ≡ true) × (stop ≡ Decimal own)
by_flag own true stop e = (refl, cc)
by_flag own false stop e = absurd (cc)

stop_is_cause : (mnemonic : Mnemonic) (own : ℕ) (cpu : Cpu) (stop : Stop) → stop_of mnemonic own cpu ≡ Some stop →
    Stopped mnemonic own cpu.d stop
stop_is_cause Brk own cpu stop e = inl (refl, cc)
stop_is_cause Adc own cpu stop e = let is = by_flag own cpu.d stop e in inr (inl refl, is.0, is.1)
stop_is_cause Sbc own cpu stop e = let is = by_flag own cpu.d stop e in inr (inr refl, is.0, is.1)
stop_is_cause _ own cpu stop e = absurd (cc)

pub effects_take : (at : ℕ → ℕ) (cpu : Cpu) (done : Effect) → at cpu.pc < 256 → effect at cpu ≡ Ok done → cycles at cpu ≢ 0
effects_take at cpu done below e = by_row (row_of (at cpu.pc)) refl
  where
    positive : (row : Row) → row_of (at cpu.pc) ≡ Some row → row_cycles row at cpu ≢ 0
    positive row is none = (let some = (rows_are_quick (at cpu.pc) row is).some in omega (arith, some, none))

    by_stop : (row : Row) (s : Option Stop) → row_of (at cpu.pc) ≡ Some row → stop_of row.mnemonic cpu.pc cpu ≡ s →
        unless_stopped s (row_cycles row at cpu) ≢ 0
    by_stop row None is free = positive row is
    by_stop row (Some stop) is stops =
        let cause = plain_cause row.mnemonic row.mode at cpu stop (ap (option_map meaning_in) is) below
        (stop_is_cause row.mnemonic cpu.pc cpu stop stops) in
        let no : Ok done ≡ Err stop = sym e ∙ (stops_have_causes at cpu stop below).1 cause in
        absurd (cc)

    by_row : (r : Option Row) → row_of (at cpu.pc) ≡ r → cycles_by r at cpu ≢ 0
    by_row None is =
        let no : Err (Illegal cpu.pc) ≡ Ok done = sym (ap (λ r. done_by (option_map meaning_in r) at cpu) is) ∙ e in
        absurd (cc)
    by_row (Some row) is = by_stop row (stop_of row.mnemonic cpu.pc cpu) is refl

takes_for_effect : (at : ℕ → ℕ) (cpu : Cpu) → at cpu.pc < 256 → cycles at cpu ≢ 0 → HasEffect at cpu
takes_for_effect at cpu below some = by_effect (effect at cpu) refl
  where
    by_row : (stop : Stop) (r : Option Row) → IsCause at cpu stop → row_of (at cpu.pc) ≡ r → cycles_by r at cpu ≡ 0
    by_row stop None cause is = refl
    by_row stop (Some row) cause is = stopped_takes_none at cpu row stop is cause

    by_effect : (r : Result Effect Stop) → effect at cpu ≡ r → HasEffect at cpu
    by_effect (Ok done) e = (done, e)
    by_effect (Err stop) e =
        absurd (some (by_row stop (row_of (at cpu.pc)) ((stops_have_causes at cpu stop below).0 e) refl))

pub effects_take_cycles : EffectsTakeCycles
effects_take_cycles at cpu below = (takes_for_effect at cpu below, λ has. effects_take at cpu has.0 below has.1)
