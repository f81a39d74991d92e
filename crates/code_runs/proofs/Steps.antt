-- The steps of instructions by their names: each is the effect of the name at the numbers that are given.
use Rattle.std.proofs.Common.{◌≡◌, ℕ, ◌+◌, ◌*◌, ◌%◌, refl, ◌∙◌}
use Rattle.cpu6502.specs.declared.memory.TheConstants.{MEMORY_SIZE}
use Rattle.cpu6502.specs.declared.mnemonic.Mnemonic.TheVariants.{Dex, Jmp, Lda, Ldx, Rts, Sta}
use Rattle.cpu6502.specs.Registers.{with_a, with_x}
use Rattle.code_runs.specs.Runs.{State, Goes, Puts}
use Rattle.code_runs.specs.Calls.{Pulls}
use Rattle.code_runs.specs.Steps.{jumped, Works, Reads, LoadSteps, TransferSteps, LogicSteps, SumSteps, CompareSteps}
use Rattle.code_runs.specs.Steps.{ShiftSteps, CountSteps, FlagSteps, JumpSteps, StackSteps}

pub load_steps : LoadSteps
load_steps = record {
  lda = λ r. record { is = r.works.is ∙ rw r.byte_is refl; away = r.works.away };
  ldx = λ r. record { is = r.works.is ∙ rw r.byte_is refl; away = r.works.away };
  ldy = λ r. record { is = r.works.is ∙ rw r.byte_is refl; away = r.works.away };
  sta = λ w. record { is = w.is; away = w.away };
  stx = λ w. record { is = w.is; away = w.away };
  sty = λ w. record { is = w.is; away = w.away };
}

pub transfer_steps : TransferSteps
transfer_steps = record {
  tax = λ w. record { is = w.is; away = w.away };
  tay = λ w. record { is = w.is; away = w.away };
  tsx = λ w. record { is = w.is; away = w.away };
  txa = λ w. record { is = w.is; away = w.away };
  tya = λ w. record { is = w.is; away = w.away };
  txs = λ w. record { is = w.is; away = w.away };
}

pub logic_steps : LogicSteps
logic_steps = record {
  and = λ r e. record { is = r.works.is ∙ rw (r.byte_is, e) refl; away = r.works.away };
  ora = λ r e. record { is = r.works.is ∙ rw (r.byte_is, e) refl; away = r.works.away };
  eor = λ r e. record { is = r.works.is ∙ rw (r.byte_is, e) refl; away = r.works.away };
  bit = λ r. record { is = r.works.is ∙ rw r.byte_is refl; away = r.works.away };
}

pub sum_steps : SumSteps
sum_steps = record {
  adc = λ r d s l. record { is = r.works.is ∙ rw (d, r.byte_is, s, l) refl; away = r.works.away };
  sbc = λ r d c s l. record { is = r.works.is ∙ rw (d, r.byte_is, c, s, l) refl; away = r.works.away };
}

pub compare_steps : CompareSteps
compare_steps = record {
  cmp = λ r e f. record { is = r.works.is ∙ rw (r.byte_is, e, f) refl; away = r.works.away };
  cpx = λ r e f. record { is = r.works.is ∙ rw (r.byte_is, e, f) refl; away = r.works.away };
  cpy = λ r e f. record { is = r.works.is ∙ rw (r.byte_is, e, f) refl; away = r.works.away };
}

pub shift_steps : ShiftSteps
shift_steps = record {
  asl = λ w b e c. record { is = w.is ∙ rw (b, e, c) refl; away = w.away };
  asl_a = λ w e c. record { is = w.is ∙ rw (e, c) refl; away = w.away };
  lsr = λ w b e c. record { is = w.is ∙ rw (b, e, c) refl; away = w.away };
  lsr_a = λ w e c. record { is = w.is ∙ rw (e, c) refl; away = w.away };
  rol = λ w b e c. record { is = w.is ∙ rw (b, e, c) refl; away = w.away };
  rol_a = λ w e c. record { is = w.is ∙ rw (e, c) refl; away = w.away };
  ror = λ w b e c. record { is = w.is ∙ rw (b, e, c) refl; away = w.away };
  ror_a = λ w e c. record { is = w.is ∙ rw (e, c) refl; away = w.away };
}

pub count_steps : CountSteps
count_steps = record {
  inc = λ w b e. record { is = w.is ∙ rw (b, e) refl; away = w.away };
  dec = λ w b e. record { is = w.is ∙ rw (b, e) refl; away = w.away };
  inx = λ w e. record { is = w.is ∙ rw e refl; away = w.away };
  dex = λ w e. record { is = w.is ∙ rw e refl; away = w.away };
  iny = λ w e. record { is = w.is ∙ rw e refl; away = w.away };
  dey = λ w e. record { is = w.is ∙ rw e refl; away = w.away };
}

pub flag_steps : FlagSteps
flag_steps = record {
  clc = λ w. record { is = w.is; away = w.away };
  cld = λ w. record { is = w.is; away = w.away };
  cli = λ w. record { is = w.is; away = w.away };
  clv = λ w. record { is = w.is; away = w.away };
  sec = λ w. record { is = w.is; away = w.away };
  sed = λ w. record { is = w.is; away = w.away };
  sei = λ w. record { is = w.is; away = w.away };
  nop = λ w. record { is = w.is; away = w.away };
}

pub jump_steps : JumpSteps
jump_steps = record {
  jmp = λ w. record { is = w.is; away = w.away };
  jsr = λ w e h l p q s. record { is = w.is ∙ rw (e, h, l, p, q, s) refl; away = w.away };
  rts = λ w pulls e s. record { is = w.is ∙ rw (pulls.low_is, pulls.high_is, e, s) refl; away = w.away };
  rti = λ w f e s. record { is = w.is ∙ rw (f, e, s) refl; away = w.away };
}

pub stack_steps : StackSteps
stack_steps = record {
  pha = λ w p s. record { is = w.is ∙ rw (p, s) refl; away = w.away };
  php = λ w p s e. record { is = w.is ∙ rw (p, s, e) refl; away = w.away };
  pla = λ w b s. record { is = w.is ∙ rw (b, s) refl; away = w.away };
  plp = λ w b s. record { is = w.is ∙ rw (b, s) refl; away = w.away };
}

-- ---- some of them by their names alone

pub lda : {state : State} {byte next : ℕ} → Reads state Lda byte next →
    Goes state (with_a (jumped state.cpu next) byte)
lda = load_steps.lda

pub ldx : {state : State} {byte next : ℕ} → Reads state Ldx byte next →
    Goes state (with_x (jumped state.cpu next) byte)
ldx = load_steps.ldx

pub sta : {state : State} {place next : ℕ} → Works state Sta place next →
    Puts state (jumped state.cpu next) place state.cpu.a
sta = load_steps.sta

pub dex : {state : State} {place result next : ℕ} → Works state Dex place next → (state.cpu.x + 255) % 256 ≡ result →
    Goes state (with_x (jumped state.cpu next) result)
dex = count_steps.dex

pub jmp : {state : State} {place next : ℕ} → Works state Jmp place next → Goes state (jumped state.cpu place)
jmp = jump_steps.jmp

pub rts : {state : State} {place low high back sp next : ℕ} → Works state Rts place next →
    Pulls state.at state.cpu.sp low high → (low + 256 * high + 1) % MEMORY_SIZE ≡ back → (state.cpu.sp + 2) % 256 ≡ sp →
    Goes state (record state.cpu { pc = back; sp = sp })
rts = jump_steps.rts
