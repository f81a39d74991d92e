-- A step of a branch, taken and not taken: for any branch by what it takes, and for each name by its flag.
use Rattle.std.proofs.Common.{◌≡◌, ℕ, Bool, true, false, not, Some, Ok, refl, ap, ◌∙◌}
use Rattle.cpu6502.specs.declared.cpu.Cpu.{Cpu}
use Rattle.cpu6502.specs.declared.mnemonic.Mnemonic.{Mnemonic}
use Rattle.cpu6502.specs.declared.mnemonic.Mnemonic.TheVariants.{Bcc, Bcs, Beq, Bmi, Bne, Bpl, Bvc, Bvs}
use Rattle.cpu6502.specs.Registers.{quiet}
use Rattle.cpu6502.specs.Branches.{branched, is_taken}
use Rattle.cpu6502.specs.Effects.{effect_of}
use Rattle.code_runs.specs.Runs.{State, Goes}
use Rattle.code_runs.specs.Steps.{jumped, Works, BranchSteps}

-- a branch goes to its place where it is taken, else to the next instruction
branch_goes : (mn : Mnemonic) (own place : ℕ) (at : ℕ → ℕ) (cpu : Cpu) (taken : Bool) → is_taken mn cpu ≡ Some taken →
    effect_of mn own place at cpu ≡ Ok (quiet (branched cpu taken place))
branch_goes Bcc own place at cpu taken e =
    let same : (not cpu.c) ≡ taken = cc in ap (λ z. Ok (quiet (branched cpu z place))) same
branch_goes Bcs own place at cpu taken e =
    let same : cpu.c ≡ taken = cc in ap (λ z. Ok (quiet (branched cpu z place))) same
branch_goes Bne own place at cpu taken e =
    let same : (not cpu.z) ≡ taken = cc in ap (λ z. Ok (quiet (branched cpu z place))) same
branch_goes Beq own place at cpu taken e =
    let same : cpu.z ≡ taken = cc in ap (λ z. Ok (quiet (branched cpu z place))) same
branch_goes Bpl own place at cpu taken e =
    let same : (not cpu.n) ≡ taken = cc in ap (λ z. Ok (quiet (branched cpu z place))) same
branch_goes Bmi own place at cpu taken e =
    let same : cpu.n ≡ taken = cc in ap (λ z. Ok (quiet (branched cpu z place))) same
branch_goes Bvc own place at cpu taken e =
    let same : (not cpu.v) ≡ taken = cc in ap (λ z. Ok (quiet (branched cpu z place))) same
branch_goes Bvs own place at cpu taken e =
    let same : cpu.v ≡ taken = cc in ap (λ z. Ok (quiet (branched cpu z place))) same
branch_goes _ own place at cpu taken e = absurd (cc)

-- the program counter is no matter
same_flags : (mn : Mnemonic) (cpu : Cpu) (next : ℕ) → is_taken mn (jumped cpu next) ≡ is_taken mn cpu
same_flags Bcc cpu next = refl
same_flags Bcs cpu next = refl
same_flags Bne cpu next = refl
same_flags Beq cpu next = refl
same_flags Bpl cpu next = refl
same_flags Bmi cpu next = refl
same_flags Bvc cpu next = refl
same_flags Bvs cpu next = refl
same_flags _ cpu next = refl

pub branch_steps : BranchSteps
branch_steps = record {
  taken = λ w e. step w true e;
  passed = λ w e. step w false e;
} where
  step : {state : State} {mn : Mnemonic} {place next : ℕ} → Works state mn place next → (taken : Bool) →
      is_taken mn state.cpu ≡ Some taken → Goes state (branched (jumped state.cpu next) taken place)
  step {state = state} {mn = mn} {place = place} {next = next} w taken e =
      record {
        is = w.is ∙ branch_goes mn state.cpu.pc place state.at (jumped state.cpu next) taken
            (same_flags mn state.cpu next ∙ e);
        away = w.away;
      }

pub bcc_taken : {state : State} {place next : ℕ} → Works state Bcc place next → state.cpu.c ≡ false →
    Goes state (jumped state.cpu place)
bcc_taken w e = branch_steps.taken w (rw e refl)

pub bcc_passed : {state : State} {place next : ℕ} → Works state Bcc place next → state.cpu.c ≡ true →
    Goes state (jumped state.cpu next)
bcc_passed w e = branch_steps.passed w (rw e refl)

pub bcs_taken : {state : State} {place next : ℕ} → Works state Bcs place next → state.cpu.c ≡ true →
    Goes state (jumped state.cpu place)
bcs_taken w e = branch_steps.taken w (rw e refl)

pub bcs_passed : {state : State} {place next : ℕ} → Works state Bcs place next → state.cpu.c ≡ false →
    Goes state (jumped state.cpu next)
bcs_passed w e = branch_steps.passed w (rw e refl)

pub bne_taken : {state : State} {place next : ℕ} → Works state Bne place next → state.cpu.z ≡ false →
    Goes state (jumped state.cpu place)
bne_taken w e = branch_steps.taken w (rw e refl)

pub bne_passed : {state : State} {place next : ℕ} → Works state Bne place next → state.cpu.z ≡ true →
    Goes state (jumped state.cpu next)
bne_passed w e = branch_steps.passed w (rw e refl)

pub beq_taken : {state : State} {place next : ℕ} → Works state Beq place next → state.cpu.z ≡ true →
    Goes state (jumped state.cpu place)
beq_taken w e = branch_steps.taken w (rw e refl)

pub beq_passed : {state : State} {place next : ℕ} → Works state Beq place next → state.cpu.z ≡ false →
    Goes state (jumped state.cpu next)
beq_passed w e = branch_steps.passed w (rw e refl)

pub bpl_taken : {state : State} {place next : ℕ} → Works state Bpl place next → state.cpu.n ≡ false →
    Goes state (jumped state.cpu place)
bpl_taken w e = branch_steps.taken w (rw e refl)

pub bpl_passed : {state : State} {place next : ℕ} → Works state Bpl place next → state.cpu.n ≡ true →
    Goes state (jumped state.cpu next)
bpl_passed w e = branch_steps.passed w (rw e refl)

pub bmi_taken : {state : State} {place next : ℕ} → Works state Bmi place next → state.cpu.n ≡ true →
    Goes state (jumped state.cpu place)
bmi_taken w e = branch_steps.taken w (rw e refl)

pub bmi_passed : {state : State} {place next : ℕ} → Works state Bmi place next → state.cpu.n ≡ false →
    Goes state (jumped state.cpu next)
bmi_passed w e = branch_steps.passed w (rw e refl)

pub bvc_taken : {state : State} {place next : ℕ} → Works state Bvc place next → state.cpu.v ≡ false →
    Goes state (jumped state.cpu place)
bvc_taken w e = branch_steps.taken w (rw e refl)

pub bvc_passed : {state : State} {place next : ℕ} → Works state Bvc place next → state.cpu.v ≡ true →
    Goes state (jumped state.cpu next)
bvc_passed w e = branch_steps.passed w (rw e refl)

pub bvs_taken : {state : State} {place next : ℕ} → Works state Bvs place next → state.cpu.v ≡ true →
    Goes state (jumped state.cpu place)
bvs_taken w e = branch_steps.taken w (rw e refl)

pub bvs_passed : {state : State} {place next : ℕ} → Works state Bvs place next → state.cpu.v ≡ false →
    Goes state (jumped state.cpu next)
bvs_passed w e = branch_steps.passed w (rw e refl)
