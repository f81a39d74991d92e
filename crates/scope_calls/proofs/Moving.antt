-- The instructions of an entrance around its blocks, each where it stands.
use Rattle.std.proofs.Common.{◌≡◌, ℕ, ◌+◌, ◌*◌, ◌/◌, ◌%◌, ◌<◌, ◌≤◌, ◌⊎◌, true}
use Rattle.std.proofs.Common.{inl, inr, refl, ap, ◌∙◌, arith}
use Rattle.cpu6502.specs.declared.mnemonic.Mnemonic.{Mnemonic}
use Rattle.cpu6502.specs.declared.mnemonic.Mnemonic.TheVariants.{Cld, Jsr, Ldx, Rts}
use Rattle.cpu6502.specs.declared.mnemonic.Mode.{Mode}
use Rattle.cpu6502.specs.declared.mnemonic.Mode.TheVariants.{Implied, Immediate, Absolute}
use Rattle.cpu6502.specs.Registers.{stack_place}
use Rattle.cpu6502.specs.Opcodes.{length_of}
use Rattle.cpu6502.specs.Manual.{cycles_of}
use Rattle.code_runs.specs.Runs.{State, put, Leads}
use Rattle.code_runs.specs.Code.{Stands}
use Rattle.code_runs.specs.Calls.{Pulls}
use Rattle.code_runs.proofs.Laws.{stay, does, goes_once, leads_stay, put_same, put_other, works}
use Rattle.code_runs.proofs.Laws.{Lasts, lasts_once, reads_immediate, flag_steps, load_steps, jump_steps, stands_stay}
use Rattle.scopes.specs.Desk.{Desk}
use Rattle.scope_lines.specs.Lowered.{writes_at, spot}
use Rattle.scope_lines.proofs.Laws.{Ground, HasCode as HasLines}
use Rattle.scope_calls.specs.Meaning.{cleared, at_voice, called_from, returned}

-- where a call writes: where the blocks do, and not in the code
pub record Inside (g : Ground) (W : ℕ → Type 0) : Type 0 where
  pub blocks : (place : ℕ) → writes_at g.layout place ≡ true → W place
  pub apart : (place : ℕ) → W place → (place < g.low) ⊎ (g.high ≤ place)

-- so the code stays
pub lines_stay : {g : Ground} {W : ℕ → Type 0} {n : ℕ} {state after : State} → Inside g W → HasLines g state.at →
    Leads W n state after → HasLines g after.at
lines_stay {g = g} {W = W} inside has l = record {
  same = λ q low high. leads_stay l q (λ w. out q low high (inside.apart q w)) ∙ has.same q low high;
} where
  out : (q : ℕ) → g.low ≤ q → q < g.high → (q < g.low) ⊎ (g.high ≤ q) → ⊥
  out q low high (inl before) = omega (arith, low, before)
  out q low high (inr behind) = omega (arith, high, behind)

-- an instruction of the code stands in a memory that has the code
stands_here : (g : Ground) (at : ℕ → ℕ) (pc operand : ℕ) (mnemonic : Mnemonic) (mode : Mode) → HasLines g at →
    g.low ≤ pc → pc + length_of mode ≤ g.high → Stands g.code pc mnemonic mode operand →
    Stands at pc mnemonic mode operand
stands_here g at pc operand mnemonic mode has low high s =
    let ends = g.ends in
    stands_stay g.code at pc g.high operand mnemonic mode high (omega (arith, ends))
    (record { same = λ q l h. has.same q (omega (arith, low, l)) h }) s

-- where it is, what follows it is
next_is : (pc bytes : ℕ) {next high : ℕ} → pc + bytes ≡ next → pc + bytes ≤ high → high < 65536 →
    (pc + bytes) % 65536 ≡ next
next_is pc bytes e h ends = omega (arith, e, h, ends)

from_low : {pc low : ℕ} → 0 < low → low ≤ pc → 0 < pc
from_low away low = omega (arith, away, low)

pub clear_lasts : {W : ℕ → Type 0} (g : Ground) (pc next : ℕ) (desk : Desk) → HasLines g desk.at → g.low ≤ pc →
    pc + 1 ≤ g.high → pc + 1 ≡ next → Stands g.code pc Cld Implied 0 →
    Lasts W 1 (cycles_of Cld Implied) (spot pc desk) (spot next (cleared desk))
clear_lasts g pc next desk has low high is s =
    let here = stands_here g desk.at pc 0 Cld Implied has low high s in
    lasts_once here
    (goes_once (flag_steps.cld (works 0 next here refl refl (next_is pc 1 is high g.ends) (from_low g.away low))))

pub voice_lasts : {W : ℕ → Type 0} (g : Ground) (pc next voice : ℕ) (desk : Desk) → HasLines g desk.at → g.low ≤ pc →
    pc + 2 ≤ g.high → pc + 2 ≡ next → Stands g.code pc Ldx Immediate (7 * voice) →
    Lasts W 1 (cycles_of Ldx Immediate) (spot pc desk) (spot next (at_voice voice desk))
voice_lasts g pc next voice desk has low high is s =
    let here = stands_here g desk.at pc (7 * voice) Ldx Immediate has low high s in
    lasts_once here
    (goes_once (load_steps.ldx (reads_immediate next here (next_is pc 2 is high g.ends) (from_low g.away low))))

pub call_lasts : {W : ℕ → Type 0} (g : Ground) (pc last place : ℕ) (desk : Desk) → HasLines g desk.at → g.low ≤ pc →
    pc + 3 ≤ g.high → pc + 2 ≡ last → Stands g.code pc Jsr Absolute place → W (stack_place desk.cpu.sp) →
    W (stack_place (desk.cpu.sp + 255)) →
    Lasts W 1 (cycles_of Jsr Absolute) (spot pc desk) (spot place (called_from last desk))
call_lasts g pc last place desk has low high is s upper lower =
    let here = stands_here g desk.at pc place Jsr Absolute has low high s in
    lasts_once here
    (does
    (jump_steps.jsr
    (works place (last + 1) here refl refl (next_is pc 3 (three pc is) high g.ends) (from_low g.away low))
    (two pc is high g.ends) refl refl refl refl refl) (upper, (lower, tt)) (stay _))
  where
    three : (n : ℕ) {m : ℕ} → n + 2 ≡ m → n + 3 ≡ m + 1
    three n e = omega (arith, e)

    two : (n : ℕ) {m high : ℕ} → n + 2 ≡ m → n + 3 ≤ high → high < 65536 → (n + 2) % 65536 ≡ m
    two n e h ends = omega (arith, e, h, ends)

pub return_lasts : {W : ℕ → Type 0} (g : Ground) (pc low high to : ℕ) (desk : Desk) → HasLines g desk.at → g.low ≤ pc →
    pc + 1 ≤ g.high → Stands g.code pc Rts Implied 0 → Pulls desk.at desk.cpu.sp low high →
    (low + 256 * high + 1) % 65536 ≡ to →
    Lasts W 1 (cycles_of Rts Implied) (spot pc desk) (spot to (returned desk))
return_lasts g pc low high to desk has from to_high s pulls is =
    let here = stands_here g desk.at pc 0 Rts Implied has from to_high s in
    lasts_once here
    (goes_once
    (jump_steps.rts (works 0 (pc + 1) here refl refl (next_is pc 1 refl to_high g.ends) (from_low g.away from)) pulls is
    refl))

-- what a call has pushed, the return pulls
pub called_pulls : (last : ℕ) (desk : Desk) →
    Pulls (called_from last desk).at ((desk.cpu.sp + 254) % 256) (last % 256) (last / 256)
called_pulls last desk =
    let sp = desk.cpu.sp in
    let first : stack_place ((sp + 254) % 256 + 1) ≡ stack_place (sp + 255) = omega arith in
    let second : stack_place ((sp + 254) % 256 + 2) ≡ stack_place sp = omega arith in
    let at = (called_from last desk).at in
    record {
      low_is = ap at first ∙ put_same (put desk.at (stack_place sp) (last / 256)) (stack_place (sp + 255)) (last % 256);
      high_is = ap at second
          ∙ (put_other (put desk.at (stack_place sp) (last / 256)) (stack_place (sp + 255)) (last % 256)
          (stack_place sp)
          (differ sp)
          ∙ put_same desk.at (stack_place sp) (last / 256));
    }
  where
    differ : (sp : ℕ) → stack_place sp ≡ stack_place (sp + 255) → ⊥
    differ sp e = omega (arith, e)
