-- Each stop has its cause: the instructions with a row have an effect, but for BRK, and for ADC and SBC with the
-- decimal flag set.
use Rattle.std.specs.Prelude.{◌≡◌, ℕ, ◌<◌, Bool, true, false, ◌⊎◌, Option, Some, None, Ok, Err}
use Rattle.std.specs.Prelude.{if◌then◌else◌}
use Rattle.std.proofs.Common.{refl, subst, inl, inr}
use Rattle.std.proofs.lemmas.Bool.{false≢true}
use Rattle.cpu6502.specs.declared.mnemonic.Mnemonic.{Mnemonic}
use Rattle.cpu6502.specs.declared.mnemonic.Mnemonic.TheVariants.{Adc, Asl, Brk, Lsr, Rol, Ror, Sbc}
use Rattle.cpu6502.specs.declared.mnemonic.Mode.{Mode}
use Rattle.cpu6502.specs.declared.mnemonic.Mode.TheVariants.{Implied, Accumulator}
use Rattle.cpu6502.specs.declared.cpu.Cpu.{Cpu}
use Rattle.cpu6502.specs.declared.effect.Effect.{Effect}
use Rattle.cpu6502.specs.declared.stop.Stop.{Stop}
use Rattle.cpu6502.specs.declared.stop.Stop.TheVariants.{Illegal, Break, Decimal}
use Rattle.cpu6502.specs.Opcodes.{Meaning, meaning_of, length_of}
use Rattle.cpu6502.specs.Shifts.{accumulator_effect}
use Rattle.cpu6502.specs.Effects.{effect, effect_of, done_by, address_of, moved, unless_stopped}
use Rattle.cpu6502.specs.Stops.{IsCause, StopsHaveCauses}
use Rattle.cpu6502.proofs.EachRow.{shifts, accumulator_shifts, break_is_implied}

ok_no_err : (done : Effect) (stop : Stop) → Ok done ≡ Err stop → ⊥
ok_no_err done stop h = cc

-- an instruction's name and the registers' decimal flag, where it stops
abbrev pub Stopped : Mnemonic → ℕ → Bool → Stop → Type 0
Stopped mn own d stop =
    ((mn ≡ Brk) × (stop ≡ Break own)) ⊎ (((mn ≡ Adc) ⊎ (mn ≡ Sbc)) × (d ≡ true) × (stop ≡ Decimal own))

sum_stopped : (d : Bool) (own : ℕ) (done : Effect) (stop : Stop) →
    unless_stopped (if d then Some (Decimal own) else None) own (Some done) ≡ Err stop → (d ≡ true)
    × (stop ≡ Decimal own)
sum_stopped true own done stop h = (refl, cc)
sum_stopped false own done stop h = absurd (ok_no_err done stop h)

stopped_by : (mn : Mnemonic) (own place : ℕ) (at : ℕ → ℕ) (cpu : Cpu) (stop : Stop) →
    effect_of mn own place at cpu ≡ Err stop → Stopped mn own cpu.d stop
stopped_by Adc own place at cpu stop h =
    let parts = sum_stopped cpu.d own _ stop h in
    inr (inl refl, parts.0, parts.1)
stopped_by Sbc own place at cpu stop h =
    let parts = sum_stopped cpu.d own _ stop h in
    inr (inr refl, parts.0, parts.1)
stopped_by Brk own place at cpu stop h = inl (refl, cc)
stopped_by _ own place at cpu stop h = absurd (ok_no_err _ stop h)

-- a shift of the accumulator has an effect
accumulator_goes : (mn : Mnemonic) (own : ℕ) (cpu : Cpu) (stop : Stop) → shifts mn ≡ true →
    accumulator_effect mn own cpu ≡ Err stop → ⊥
accumulator_goes Asl own cpu stop e h = ok_no_err _ stop h
accumulator_goes Lsr own cpu stop e h = ok_no_err _ stop h
accumulator_goes Rol own cpu stop e h = ok_no_err _ stop h
accumulator_goes Ror own cpu stop e h = ok_no_err _ stop h
accumulator_goes _ own cpu stop e h = absurd (false≢true e)

-- a row that is not of the accumulator, with the stop that its instruction meets
pub plain_cause : (mn : Mnemonic) (mode : Mode) (at : ℕ → ℕ) (cpu : Cpu) (stop : Stop) →
    meaning_of (at cpu.pc) ≡ Some (mn, mode) → at cpu.pc < 256 → Stopped mn cpu.pc cpu.d stop → IsCause at cpu stop
plain_cause mn mode at cpu (Illegal place) row below (inl (is, e)) = absurd cc
plain_cause mn mode at cpu (Decimal place) row below (inl (is, e)) = absurd cc
plain_cause mn mode at cpu (Break place) row below (inl (is, e)) =
    let implied : mode ≡ Implied =
    break_is_implied (at cpu.pc) mode below (subst (λ n. meaning_of (at cpu.pc) ≡ Some (n, mode)) is row) in
    (cc, cc)
plain_cause mn mode at cpu (Illegal place) row below (inr (is, d, e)) = absurd cc
plain_cause mn mode at cpu (Break place) row below (inr (is, d, e)) = absurd cc
plain_cause mn mode at cpu (Decimal place) row below (inr (inl is, d, e)) = (inl (mode, cc), d, cc)
plain_cause mn mode at cpu (Decimal place) row below (inr (inr is, d, e)) = (inr (mode, cc), d, cc)

-- the instruction of a row, with the stop that it meets
row_cause : (mn : Mnemonic) (mode : Mode) (at : ℕ → ℕ) (cpu : Cpu) (stop : Stop) →
    meaning_of (at cpu.pc) ≡ Some (mn, mode) → at cpu.pc < 256 → done_by (Some (mn, mode)) at cpu ≡ Err stop →
    IsCause at cpu stop
row_cause mn Accumulator at cpu stop row below h =
    absurd (accumulator_goes mn cpu.pc (moved cpu 1) stop (accumulator_shifts (at cpu.pc) mn Accumulator below row refl) h)
row_cause mn mode at cpu stop row below h =
    plain_cause mn mode at cpu stop row below (stopped_by mn cpu.pc (address_of mode at cpu.pc cpu.x cpu.y) at
    (moved cpu (length_of mode)) stop h)

cause : (r : Option Meaning) (at : ℕ → ℕ) (cpu : Cpu) (stop : Stop) → at cpu.pc < 256 → meaning_of (at cpu.pc) ≡ r →
    done_by r at cpu ≡ Err stop → IsCause at cpu stop
cause None at cpu (Illegal place) below row h = (row, cc)
cause None at cpu (Break place) below row h = absurd cc
cause None at cpu (Decimal place) below row h = absurd cc
cause (Some meaning) at cpu stop below row h =
    row_cause meaning.0 meaning.1 at cpu stop row below h

-- a sum or difference stops where the decimal flag is set: its row is not of the accumulator
sum_stops : (mn : Mnemonic) (mode : Mode) (at : ℕ → ℕ) (cpu : Cpu) → (mn ≡ Adc) ⊎ (mn ≡ Sbc) →
    at cpu.pc < 256 → meaning_of (at cpu.pc) ≡ Some (mn, mode) → cpu.d ≡ true →
    done_by (Some (mn, mode)) at cpu ≡ Err (Decimal cpu.pc)
sum_stops Adc Accumulator at cpu is below row d =
    absurd (false≢true (accumulator_shifts (at cpu.pc) Adc Accumulator below row refl))
sum_stops Sbc Accumulator at cpu is below row d =
    absurd (false≢true (accumulator_shifts (at cpu.pc) Sbc Accumulator below row refl))
sum_stops Adc mode at cpu is below row d = rw d refl
sum_stops Sbc mode at cpu is below row d = rw d refl
sum_stops _ mode at cpu (inl is) below row d = absurd cc
sum_stops _ mode at cpu (inr is) below row d = absurd cc

sum_row_stops : (mn : Mnemonic) (mode : Mode) (at : ℕ → ℕ) (cpu : Cpu) (place : ℕ) → (mn ≡ Adc) ⊎ (mn ≡ Sbc) →
    at cpu.pc < 256 → meaning_of (at cpu.pc) ≡ Some (mn, mode) → cpu.d ≡ true → place ≡ cpu.pc →
    effect at cpu ≡ Err (Decimal place)
sum_row_stops mn mode at cpu place is below row d e =
    rw (row, e) (sum_stops mn mode at cpu is below row d)

stops : (at : ℕ → ℕ) (cpu : Cpu) (stop : Stop) → at cpu.pc < 256 → IsCause at cpu stop → effect at cpu ≡ Err stop
stops at cpu (Illegal place) below (row, e) = rw (row, e) refl
stops at cpu (Break place) below (row, e) = rw (row, e) refl
stops at cpu (Decimal place) below (inl (mode, row), d, e) =
    sum_row_stops Adc mode at cpu place (inl refl) below row d e
stops at cpu (Decimal place) below (inr (mode, row), d, e) =
    sum_row_stops Sbc mode at cpu place (inr refl) below row d e

pub stops_have_causes : StopsHaveCauses
stops_have_causes at cpu stop below = (cause (meaning_of (at cpu.pc)) at cpu stop below refl, stops at cpu stop below)
