-- An instruction that stands at the program counter, by its addressing mode: at which place it works, which byte it
-- reads, and where the next instruction is. The instruction's own lemma goes on from there. Each number that a result
-- computes is a parameter with an equation.
use Rattle.std.proofs.Common.{◌≡◌, ℕ, ◌+◌, ◌%◌, ◌<◌, false, Some, if◌then◌else◌, refl, ap, ◌∙◌}
use Rattle.cpu6502.specs.declared.cpu.Cpu.{Cpu}
use Rattle.cpu6502.specs.declared.memory.TheConstants.{MEMORY_SIZE}
use Rattle.cpu6502.specs.declared.mnemonic.Mnemonic.{Mnemonic}
use Rattle.cpu6502.specs.declared.mnemonic.Mode.{Mode}
use Rattle.cpu6502.specs.declared.mnemonic.Mode.TheVariants.{Implied, Accumulator, Immediate, ZeroPage, ZeroPageX}
use Rattle.cpu6502.specs.declared.mnemonic.Mode.TheVariants.{ZeroPageY, Absolute, AbsoluteX, AbsoluteY, IndirectX}
use Rattle.cpu6502.specs.declared.mnemonic.Mode.TheVariants.{IndirectY, Indirect, Relative}
use Rattle.cpu6502.specs.Opcodes.{meaning_of, length_of, is_accumulator}
use Rattle.cpu6502.specs.Shifts.{accumulator_effect}
use Rattle.cpu6502.specs.Effects.{address_of, zero_page_word, same_page_word, effect_of, moved, done_by, effect}
use Rattle.code_runs.specs.Code.{operand_at, place_of, Stands}
use Rattle.code_runs.specs.Runs.{State}
use Rattle.code_runs.specs.Steps.{jumped, Works, Reads, WorksOnA}

-- an instruction that is decoded, and does not work on the accumulator in the place of memory, has its effect
pub fetched : (at : ℕ → ℕ) (cpu : Cpu) (mn : Mnemonic) (mode : Mode) → is_accumulator mode ≡ false →
    meaning_of (at cpu.pc) ≡ Some (mn, mode) →
    effect at cpu ≡ effect_of mn cpu.pc (address_of mode at cpu.pc cpu.x cpu.y) at (moved cpu (length_of mode))
fetched at cpu mn mode memory e = ap (λ meaning. done_by meaning at cpu) e ∙ rw memory refl

-- the place at which it works is the one that its operand gives
pub address_is : (at : ℕ → ℕ) (cpu : Cpu) (mode : Mode) (operand : ℕ) → operand_at mode at cpu.pc ≡ operand →
    address_of mode at cpu.pc cpu.x cpu.y ≡ place_of mode operand at cpu
address_is at cpu Implied operand e = refl
address_is at cpu Accumulator operand e = refl
address_is at cpu Immediate operand e = refl
address_is at cpu ZeroPage operand e = e
address_is at cpu ZeroPageX operand e = ap (λ n. (n + cpu.x) % 256) e
address_is at cpu ZeroPageY operand e = ap (λ n. (n + cpu.y) % 256) e
address_is at cpu Absolute operand e = e
address_is at cpu AbsoluteX operand e = ap (λ n. (n + cpu.x) % MEMORY_SIZE) e
address_is at cpu AbsoluteY operand e = ap (λ n. (n + cpu.y) % MEMORY_SIZE) e
address_is at cpu IndirectX operand e = ap (λ n. zero_page_word at ((n + cpu.x) % 256)) e
address_is at cpu IndirectY operand e = ap (λ n. (zero_page_word at n + cpu.y) % MEMORY_SIZE) e
address_is at cpu Indirect operand e = ap (same_page_word at) e
address_is at cpu Relative operand e = e

pub standing_has_effect : (at : ℕ → ℕ) (cpu : Cpu) (mn : Mnemonic) (mode : Mode) (operand : ℕ) →
    Stands at cpu.pc mn mode operand → effect at cpu ≡ (if is_accumulator mode then accumulator_effect mn cpu.pc
    (moved cpu (length_of mode)) else effect_of mn cpu.pc (place_of mode operand at cpu) at
    (moved cpu (length_of mode)))
standing_has_effect at cpu mn mode operand s =
    ap (λ meaning. done_by meaning at cpu) s.decoded
    ∙ ap (λ place. if is_accumulator mode then accumulator_effect mn cpu.pc
    (moved cpu (length_of mode)) else effect_of mn cpu.pc place at (moved cpu (length_of mode)))
    (address_is at cpu mode operand s.operand_is)

-- in any mode but the accumulator's
pub works : {at : ℕ → ℕ} {cpu : Cpu} {mn : Mnemonic} {mode : Mode} {operand : ℕ} (place next : ℕ) →
    Stands at cpu.pc mn mode operand → is_accumulator mode ≡ false → place_of mode operand at cpu ≡ place →
    (cpu.pc + length_of mode) % MEMORY_SIZE ≡ next → 0 < cpu.pc → Works (record { cpu = cpu; at = at }) mn place next
works {at = at} {cpu = cpu} {mn = mn} {mode = mode} {operand = operand} place next s memory p e away = record {
  is = fetched at cpu mn mode memory s.decoded
      ∙ ap (λ q. effect_of mn cpu.pc q at (moved cpu (length_of mode)))
      (address_is at cpu mode operand s.operand_is ∙ p)
      ∙ ap (λ pc. effect_of mn cpu.pc place at (jumped cpu pc)) e;
  away = away;
}

pub works_on_a : {at : ℕ → ℕ} {cpu : Cpu} {mn : Mnemonic} {operand : ℕ} (next : ℕ) →
    Stands at cpu.pc mn Accumulator operand → (cpu.pc + 1) % MEMORY_SIZE ≡ next → 0 < cpu.pc →
    WorksOnA (record { cpu = cpu; at = at }) mn next
works_on_a {at = at} {cpu = cpu} {mn = mn} next s e away = record {
  is = ap (λ meaning. done_by meaning at cpu) s.decoded ∙ ap (λ pc. accumulator_effect mn cpu.pc (jumped cpu pc)) e;
  away = away;
}

-- the byte that it reads: in mode Immediate its operand, else what is at the place
pub reads : {state : State} {mn : Mnemonic} {place byte next : ℕ} → Works state mn place next →
    state.at place ≡ byte → Reads state mn byte next
reads {place = place} w b = record { place = place; works = w; byte_is = b }

pub reads_immediate : {at : ℕ → ℕ} {cpu : Cpu} {mn : Mnemonic} {operand : ℕ} (next : ℕ) →
    Stands at cpu.pc mn Immediate operand → (cpu.pc + 2) % MEMORY_SIZE ≡ next → 0 < cpu.pc →
    Reads (record { cpu = cpu; at = at }) mn operand next
reads_immediate {at = at} {cpu = cpu} next s e away =
    reads (works ((cpu.pc + 1) % MEMORY_SIZE) next s refl refl e away) s.operand_is
