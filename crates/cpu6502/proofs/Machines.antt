-- Machines stay machines: the effect of each instruction is within the ranges, and what is written leaves memory a
-- memory.
use Rattle.std.proofs.Common.{◌≡◌, ℕ, zero, suc, ◌+◌, ◌%◌, ◌<◌, Bool, true, false, not, List, []}
use Rattle.std.proofs.Common.{◌∷◌, Option, Some, None, Result, Ok, Err, length, slice_index, slice_set}
use Rattle.std.proofs.Common.{if◌then◌else◌, All, refl, ◌∙◌, subst, arith, length-set, inl, inr}
use Rattle.std.proofs.lemmas.Bool.{cases_lt}
use Rattle.std.proofs.lemmas.List.{get_or_past}
use Rattle.std.proofs.lemmas.List.Elements.{All-set}
use Rattle.std.proofs.lemmas.Nat.{or_of_8, xor_of_8}
use Rattle.base.proofs.Laws.{and_small, one_if_small, word_small}
use Rattle.cpu6502.specs.declared.mnemonic.Mnemonic.{Mnemonic}
use Rattle.cpu6502.specs.declared.mnemonic.Mnemonic.TheVariants.{Adc, And, Asl, Bcc, Bcs, Beq, Bit, Bmi, Bne, Bpl, Bvc}
use Rattle.cpu6502.specs.declared.mnemonic.Mnemonic.TheVariants.{Bvs, Clc, Cld, Cli, Clv, Cmp, Cpx, Cpy, Dec, Dex, Dey}
use Rattle.cpu6502.specs.declared.mnemonic.Mnemonic.TheVariants.{Eor, Inc, Inx, Iny, Jmp, Jsr, Lda, Ldx, Ldy, Lsr, Nop}
use Rattle.cpu6502.specs.declared.mnemonic.Mnemonic.TheVariants.{Ora, Pha, Php, Pla, Plp, Rol, Ror, Rti, Rts, Sbc, Sec}
use Rattle.cpu6502.specs.declared.mnemonic.Mnemonic.TheVariants.{Sed, Sei, Sta, Stx, Sty, Tax, Tay, Tsx, Txa, Txs, Tya}
use Rattle.cpu6502.specs.declared.mnemonic.Mode.{Mode}
use Rattle.cpu6502.specs.declared.mnemonic.Mode.TheVariants.{Implied, Accumulator, Immediate, ZeroPage, ZeroPageX}
use Rattle.cpu6502.specs.declared.mnemonic.Mode.TheVariants.{ZeroPageY, Absolute, AbsoluteX, AbsoluteY, IndirectX}
use Rattle.cpu6502.specs.declared.mnemonic.Mode.TheVariants.{IndirectY, Indirect, Relative}
use Rattle.cpu6502.specs.declared.cpu.Cpu.{Cpu}
use Rattle.cpu6502.specs.declared.effect.Write.{Write}
use Rattle.cpu6502.specs.declared.effect.Effect.{Effect}
use Rattle.cpu6502.specs.declared.machine.Machine.{Machine}
use Rattle.cpu6502.specs.declared.memory.TheConstants.{MEMORY_SIZE}
use Rattle.cpu6502.specs.declared.stop.Stop.{Stop}
use Rattle.cpu6502.specs.Opcodes.{Meaning, meaning_of, length_of, is_accumulator}
use Rattle.cpu6502.specs.Registers.{stack_place, with_a, with_x, with_y, quiet, storing}
use Rattle.cpu6502.specs.Loads.{load_effect}
use Rattle.cpu6502.specs.Arithmetic.{arithmetic_effect}
use Rattle.cpu6502.specs.Compares.{compare_effect}
use Rattle.cpu6502.specs.Logic.{logic_effect}
use Rattle.cpu6502.specs.Shifts.{shifted, shifted_in_memory, accumulator_effect}
use Rattle.cpu6502.specs.Counts.{count_effect}
use Rattle.cpu6502.specs.Branches.{branched, branch_effect}
use Rattle.cpu6502.specs.Stack.{status_of, stack_effect}
use Rattle.cpu6502.specs.Jumps.{jump_effect}
use Rattle.cpu6502.specs.Flags.{flag_effect}
use Rattle.cpu6502.specs.Transfers.{transfer_effect}
use Rattle.cpu6502.specs.Effects.{address_of, or_effect, data_effect, other_effect, stop_of, unless_stopped, effect_of}
use Rattle.cpu6502.specs.Effects.{moved, done_by}
use Rattle.cpu6502.specs.Step.{written, stepped, next_effect, step}
use Rattle.cpu6502.specs.Call.{after_step, run, return_address, entered}
use Rattle.cpu6502.specs.Code.{IsMachine}
use Rattle.cpu6502.specs.Machines.{StepsKeepMachines, CallsKeepMachines}

-- ---- registers, writes and effects in their ranges

pub record FitsCpu (cpu : Cpu) : Type 0 where
  pub a : cpu.a < 256
  pub x : cpu.x < 256
  pub y : cpu.y < 256
  pub sp : cpu.sp < 256
  pub pc : cpu.pc < MEMORY_SIZE

pub record FitsWrite (write : Write) : Type 0 where
  pub place : write.place < MEMORY_SIZE
  pub value : write.value < 256

abbrev pub FitWrites : List Write → Type 0
FitWrites [] = Unit {0}
FitWrites (write ∷ writes) = FitsWrite write × FitWrites writes

pub record Fits (done : Effect) : Type 0 where
  pub cpu : FitsCpu done.cpu
  pub writes : FitWrites done.writes

abbrev MayFit : Option Effect → Type 0
MayFit None = Unit {0}
MayFit (Some done) = Fits done

is_quiet : (cpu : Cpu) → FitsCpu cpu → Fits (quiet cpu)
is_quiet cpu f = record { cpu = f; writes = tt }

is_storing : (cpu : Cpu) (place byte : ℕ) → FitsCpu cpu → place < MEMORY_SIZE → byte < 256 →
    Fits (storing cpu place byte)
is_storing cpu place byte f p b = record { cpu = f; writes = (record { place = p; value = b }, tt) }

in_a : (cpu : Cpu) (byte : ℕ) → FitsCpu cpu → byte < 256 → FitsCpu (with_a cpu byte)
in_a cpu byte f b = record { a = b; x = f.x; y = f.y; sp = f.sp; pc = f.pc }

in_x : (cpu : Cpu) (byte : ℕ) → FitsCpu cpu → byte < 256 → FitsCpu (with_x cpu byte)
in_x cpu byte f b = record { a = f.a; x = b; y = f.y; sp = f.sp; pc = f.pc }

in_y : (cpu : Cpu) (byte : ℕ) → FitsCpu cpu → byte < 256 → FitsCpu (with_y cpu byte)
in_y cpu byte f b = record { a = f.a; x = f.x; y = b; sp = f.sp; pc = f.pc }

at_pc : (cpu : Cpu) (place : ℕ) → FitsCpu cpu → place < MEMORY_SIZE → FitsCpu (record cpu { pc = place })
at_pc cpu place f p = record { a = f.a; x = f.x; y = f.y; sp = f.sp; pc = p }

at_sp : (cpu : Cpu) (sp : ℕ) → FitsCpu cpu → sp < 256 → FitsCpu (record cpu { sp = sp })
at_sp cpu sp f s = record { a = f.a; x = f.x; y = f.y; sp = s; pc = f.pc }

on_stack : (sp : ℕ) → stack_place sp < MEMORY_SIZE
on_stack sp = omega arith

same_fits : (one other : Effect) → one ≡ other → Fits one → Fits other
same_fits one other e fits = subst Fits e fits

went : (cpu : Cpu) (outcome : Result Effect Stop) (done : Effect) → outcome ≡ Ok done → outcome ≡ Ok (quiet cpu) →
    FitsCpu cpu → Fits done
went cpu outcome done e is f = same_fits (quiet cpu) done (cc (e, is)) (is_quiet cpu f)

-- ---- group by group, over bytes

module _ (at : ℕ → ℕ) (bytes : (place : ℕ) → at place < 256) (cpu : Cpu) (f : FitsCpu cpu) where
  loads : (mn : Mnemonic) (place : ℕ) → place < MEMORY_SIZE → MayFit (load_effect mn place at cpu)
  loads Lda place p = is_quiet _ (in_a cpu (at place) f (bytes place))
  loads Ldx place p = is_quiet _ (in_x cpu (at place) f (bytes place))
  loads Ldy place p = is_quiet _ (in_y cpu (at place) f (bytes place))
  loads Sta place p = is_storing cpu place cpu.a f p f.a
  loads Stx place p = is_storing cpu place cpu.x f p f.x
  loads Sty place p = is_storing cpu place cpu.y f p f.y
  loads _ place p = tt

  sums : (mn : Mnemonic) (place : ℕ) → MayFit (arithmetic_effect mn place at cpu)
  sums Adc place = is_quiet _ (record { a = omega arith; x = f.x; y = f.y; sp = f.sp; pc = f.pc })
  sums Sbc place = is_quiet _ (record { a = omega arith; x = f.x; y = f.y; sp = f.sp; pc = f.pc })
  sums _ place = tt

  compares : (mn : Mnemonic) (place : ℕ) → MayFit (compare_effect mn place at cpu)
  compares Cmp place = is_quiet _ (record { a = f.a; x = f.x; y = f.y; sp = f.sp; pc = f.pc })
  compares Cpx place = is_quiet _ (record { a = f.a; x = f.x; y = f.y; sp = f.sp; pc = f.pc })
  compares Cpy place = is_quiet _ (record { a = f.a; x = f.x; y = f.y; sp = f.sp; pc = f.pc })
  compares _ place = tt

  logic : (mn : Mnemonic) (place : ℕ) → MayFit (logic_effect mn place at cpu)
  logic And place = is_quiet _ (in_a cpu _ f (and_small cpu.a (at place) f.a))
  logic Ora place = is_quiet _ (in_a cpu _ f (or_of_8 cpu.a (at place) f.a (bytes place)))
  logic Eor place = is_quiet _ (in_a cpu _ f (xor_of_8 cpu.a (at place) f.a (bytes place)))
  logic Bit place = is_quiet _ (record { a = f.a; x = f.x; y = f.y; sp = f.sp; pc = f.pc })
  logic _ place = tt

  counts : (mn : Mnemonic) (place : ℕ) → place < MEMORY_SIZE → MayFit (count_effect mn place at cpu)
  counts Inc place p = is_storing _ place _ (record { a = f.a; x = f.x; y = f.y; sp = f.sp; pc = f.pc }) p
      (omega arith)
  counts Dec place p = is_storing _ place _ (record { a = f.a; x = f.x; y = f.y; sp = f.sp; pc = f.pc }) p
      (omega arith)
  counts Inx place p = is_quiet _ (in_x cpu _ f (omega arith))
  counts Dex place p = is_quiet _ (in_x cpu _ f (omega arith))
  counts Iny place p = is_quiet _ (in_y cpu _ f (omega arith))
  counts Dey place p = is_quiet _ (in_y cpu _ f (omega arith))
  counts _ place p = tt

  taken_or_not : (taken : Bool) (place : ℕ) → place < MEMORY_SIZE → Fits (quiet (branched cpu taken place))
  taken_or_not true place p = is_quiet _ (at_pc cpu place f p)
  taken_or_not false place p = is_quiet cpu f

  branches : (mn : Mnemonic) (place : ℕ) → place < MEMORY_SIZE → MayFit (branch_effect mn place cpu)
  branches Bcc place p = taken_or_not (not cpu.c) place p
  branches Bcs place p = taken_or_not cpu.c place p
  branches Bne place p = taken_or_not (not cpu.z) place p
  branches Beq place p = taken_or_not cpu.z place p
  branches Bpl place p = taken_or_not (not cpu.n) place p
  branches Bmi place p = taken_or_not cpu.n place p
  branches Bvc place p = taken_or_not (not cpu.v) place p
  branches Bvs place p = taken_or_not cpu.v place p
  branches _ place p = tt

  status_small : status_of cpu < 256
  status_small = omega (
    arith,
    one_if_small cpu.n,
    one_if_small cpu.v,
    one_if_small cpu.d,
    one_if_small cpu.i,
    one_if_small cpu.z,
    one_if_small cpu.c,
  )

  stacks : (mn : Mnemonic) → MayFit (stack_effect mn at cpu)
  stacks Pha = is_storing _ (stack_place cpu.sp) cpu.a (at_sp cpu _ f (omega arith)) (on_stack cpu.sp) f.a
  stacks Php = is_storing _ (stack_place cpu.sp) (status_of cpu) (at_sp cpu _ f (omega arith)) (on_stack cpu.sp)
      status_small
  stacks Pla = is_quiet _ (in_a _ _ (at_sp cpu ((cpu.sp + 1) % 256) f (omega arith))
      (bytes (stack_place (cpu.sp + 1))))
  stacks Plp = is_quiet _ (record { a = f.a; x = f.x; y = f.y; sp = omega arith; pc = f.pc })
  stacks _ = tt

  jumps : (mn : Mnemonic) (own place : ℕ) → place < MEMORY_SIZE → MayFit (jump_effect mn own place at cpu)
  jumps Jmp own place p = is_quiet _ (at_pc cpu place f p)
  jumps Jsr own place p = record {
    cpu = record { a = f.a; x = f.x; y = f.y; sp = omega arith; pc = p };
    writes = (
      record { place = on_stack cpu.sp; value = omega arith },
      (record { place = on_stack (cpu.sp + 255); value = omega arith }, tt),
    );
  }
  jumps Rts own place p = is_quiet _ (record { a = f.a; x = f.x; y = f.y; sp = omega arith; pc = omega arith })
  jumps Rti own place p =
      is_quiet _ (record {
        a = f.a;
        x = f.x;
        y = f.y;
        sp = omega arith;
        pc = word_small (bytes (stack_place (cpu.sp + 2))) (bytes (stack_place (cpu.sp + 3)));
      })
  jumps _ own place p = tt

  flags : (mn : Mnemonic) → MayFit (flag_effect mn cpu)
  flags Clc = is_quiet _ (record { a = f.a; x = f.x; y = f.y; sp = f.sp; pc = f.pc })
  flags Cld = is_quiet _ (record { a = f.a; x = f.x; y = f.y; sp = f.sp; pc = f.pc })
  flags Cli = is_quiet _ (record { a = f.a; x = f.x; y = f.y; sp = f.sp; pc = f.pc })
  flags Clv = is_quiet _ (record { a = f.a; x = f.x; y = f.y; sp = f.sp; pc = f.pc })
  flags Sec = is_quiet _ (record { a = f.a; x = f.x; y = f.y; sp = f.sp; pc = f.pc })
  flags Sed = is_quiet _ (record { a = f.a; x = f.x; y = f.y; sp = f.sp; pc = f.pc })
  flags Sei = is_quiet _ (record { a = f.a; x = f.x; y = f.y; sp = f.sp; pc = f.pc })
  flags Nop = is_quiet cpu f
  flags _ = tt

  transfers : (mn : Mnemonic) → MayFit (transfer_effect mn cpu)
  transfers Tax = is_quiet _ (in_x cpu cpu.a f f.a)
  transfers Tay = is_quiet _ (in_y cpu cpu.a f f.a)
  transfers Tsx = is_quiet _ (in_x cpu cpu.sp f f.sp)
  transfers Txa = is_quiet _ (in_a cpu cpu.x f f.x)
  transfers Tya = is_quiet _ (in_a cpu cpu.y f f.y)
  transfers Txs = is_quiet _ (at_sp cpu cpu.x f f.x)
  transfers _ = tt

  -- a shift leaves a byte
  shifts : (mn : Mnemonic) (byte place : ℕ) → byte < 256 → place < MEMORY_SIZE →
      MayFit (shifted_in_memory (shifted mn byte cpu.c) place cpu)
  shifts Asl byte place b p =
      is_storing _ place _ (record { a = f.a; x = f.x; y = f.y; sp = f.sp; pc = f.pc }) p (omega arith)
  shifts Lsr byte place b p =
      is_storing _ place _ (record { a = f.a; x = f.x; y = f.y; sp = f.sp; pc = f.pc }) p (omega arith)
  shifts Rol byte place b p =
      is_storing _ place _ (record { a = f.a; x = f.x; y = f.y; sp = f.sp; pc = f.pc }) p (omega arith)
  shifts Ror byte place b p =
      is_storing _ place _ (record { a = f.a; x = f.x; y = f.y; sp = f.sp; pc = f.pc }) p
      (omega (arith, one_if_small cpu.c))
  shifts _ byte place b p = tt

  shifts_a : (mn : Mnemonic) (own : ℕ) (done : Effect) → accumulator_effect mn own cpu ≡ Ok done → Fits done
  shifts_a Asl own done e =
      went _ (accumulator_effect Asl own cpu) done e
      refl (record { a = omega arith; x = f.x; y = f.y; sp = f.sp; pc = f.pc })
  shifts_a Lsr own done e =
      went _ (accumulator_effect Lsr own cpu) done e
      refl (record { a = omega arith; x = f.x; y = f.y; sp = f.sp; pc = f.pc })
  shifts_a Rol own done e =
      went _ (accumulator_effect Rol own cpu) done e
      refl (record { a = omega arith; x = f.x; y = f.y; sp = f.sp; pc = f.pc })
  shifts_a Ror own done e =
      went _ (accumulator_effect Ror own cpu) done e
      refl (record { a = omega (arith, one_if_small cpu.c); x = f.x; y = f.y; sp = f.sp; pc = f.pc })
  shifts_a _ own done e = absurd (cc (e))

  -- ---- all of them

  either : (one other : Option Effect) → MayFit one → MayFit other → MayFit (or_effect one other)
  either (Some done) other p q = p
  either None other p q = q

  all_fit : (mn : Mnemonic) (own place : ℕ) → place < MEMORY_SIZE →
      MayFit (or_effect (data_effect mn place at cpu) (other_effect mn own place at cpu))
  all_fit mn own place p =
      either (data_effect mn place at cpu) (other_effect mn own place at cpu)
      (either _ _ (loads mn place p)
      (either _ _ (sums mn place) (either _ _ (compares mn place)
      (either _ _ (logic mn place) (either _ _ (shifts mn (at place) place (bytes place) p)
      (counts mn place p))))))
      (either _ _ (branches mn place p) (either _ _ (jumps mn own place p)
      (either _ _ (stacks mn) (either _ _ (flags mn) (transfers mn)))))

  unless : (stop : Option Stop) (own : ℕ) (o : Option Effect) (done : Effect) → MayFit o →
      unless_stopped stop own o ≡ Ok done → Fits done
  unless (Some stop) own o done fits e = absurd (cc (e))
  unless None own (Some other) done fits e = same_fits other done (cc (e)) fits
  unless None own None done fits e = absurd (cc (e))

  effects_fit : (mn : Mnemonic) (own place : ℕ) (done : Effect) → place < MEMORY_SIZE →
      effect_of mn own place at cpu ≡ Ok done → Fits done
  effects_fit mn own place done p e = unless (stop_of mn own cpu) own _ done (all_fit mn own place p) e

module _ (at : ℕ → ℕ) (bytes : (place : ℕ) → at place < 256) where
  -- each operand stands at an address
  operand_place_small : (mode : Mode) (pc x y : ℕ) → address_of mode at pc x y < MEMORY_SIZE
  operand_place_small Implied pc x y = omega arith
  operand_place_small Accumulator pc x y = omega arith
  operand_place_small Immediate pc x y = omega arith
  operand_place_small ZeroPage pc x y = let b = bytes ((pc + 1) % MEMORY_SIZE) in omega arith
  operand_place_small ZeroPageX pc x y = omega arith
  operand_place_small ZeroPageY pc x y = omega arith
  operand_place_small Absolute pc x y =
      word_small (bytes ((pc + 1) % MEMORY_SIZE)) (bytes (((pc + 1) % MEMORY_SIZE + 1) % MEMORY_SIZE))
  operand_place_small AbsoluteX pc x y = omega arith
  operand_place_small AbsoluteY pc x y = omega arith
  operand_place_small IndirectX pc x y =
      word_small (bytes ((at ((pc + 1) % MEMORY_SIZE) + x) % 256))
      (bytes (((at ((pc + 1) % MEMORY_SIZE) + x) % 256 + 1) % 256))
  operand_place_small IndirectY pc x y = omega arith
  operand_place_small Indirect pc x y = word_small (bytes _) (bytes _)
  operand_place_small Relative pc x y = omega arith

  moved_fits : (cpu : Cpu) (count : ℕ) → FitsCpu cpu → FitsCpu (moved cpu count)
  moved_fits cpu count f = record { a = f.a; x = f.x; y = f.y; sp = f.sp; pc = omega arith }

  decoded_fits : (z : Bool) (mn : Mnemonic) (mode : Mode) (cpu : Cpu) (done : Effect) → FitsCpu cpu →
      (if z then accumulator_effect mn cpu.pc (moved cpu (length_of mode)) else effect_of mn cpu.pc
      (address_of mode at cpu.pc cpu.x cpu.y) at (moved cpu (length_of mode))) ≡ Ok done → Fits done
  decoded_fits true mn mode cpu done f e =
      shifts_a at bytes (moved cpu (length_of mode)) (moved_fits cpu (length_of mode) f) mn cpu.pc done e
  decoded_fits false mn mode cpu done f e =
      effects_fit at bytes (moved cpu (length_of mode)) (moved_fits cpu (length_of mode) f) mn cpu.pc
      (address_of mode at cpu.pc cpu.x cpu.y) done (operand_place_small mode cpu.pc cpu.x cpu.y) e

  row_fits : (row : Option Meaning) (cpu : Cpu) (done : Effect) → FitsCpu cpu → done_by row at cpu ≡ Ok done →
      Fits done
  row_fits None cpu done f e = absurd (cc (e))
  row_fits (Some (mn, mode)) cpu done f e = decoded_fits (is_accumulator mode) mn mode cpu done f e

-- ---- machines

bytes_of : (memory : List ℕ) → All (λ byte. byte < 256) memory → (place : ℕ) → slice_index memory place < 256
bytes_of memory all place = elim (cases_lt place (length memory)) [
  | inl within ↦ all place 0 within
  | inr past ↦ let zero_there = get_or_past memory place 0 past in omega (arith, zero_there)
]

record IsMemory (memory : List ℕ) : Type 0 where
  size : length memory ≡ MEMORY_SIZE
  bytes : All (λ byte. byte < 256) memory

written_is : (memory : List ℕ) (writes : List Write) → IsMemory memory → FitWrites writes →
    IsMemory (written memory writes)
written_is memory [] is fit = is
written_is memory (write ∷ writes) is fit =
    written_is (slice_set memory write.place write.value) writes
    (record {
      size = length-set memory write.place write.value ∙ is.size;
      bytes = All-set (λ byte. byte < 256) memory write.place write.value fit.0.value is.bytes;
    }) fit.1

cpu_of : (machine : Machine) → IsMachine machine → FitsCpu machine.cpu
cpu_of machine is = record { a = is.a; x = is.x; y = is.y; sp = is.sp; pc = is.pc }

machine_of : (cpu : Cpu) (memory : List ℕ) → FitsCpu cpu → IsMemory memory →
    IsMachine (record { cpu = cpu; memory = memory })
machine_of cpu memory f is =
    record { size = is.size; bytes = is.bytes; a = f.a; x = f.x; y = f.y; sp = f.sp; pc = f.pc }

after_effect : (machine after : Machine) (outcome : Result Effect Stop) →
    ((done : Effect) → outcome ≡ Ok done → Fits done) → IsMemory machine.memory → stepped machine outcome ≡ Ok after →
    IsMachine after
after_effect machine after (Ok done) fits is e =
    let fit = fits done refl in
    subst IsMachine (cc (e)) (machine_of done.cpu (written machine.memory done.writes) fit.cpu
    (written_is machine.memory done.writes is fit.writes))
after_effect machine after (Err stop) fits is e = absurd (cc (e))

pub step_keeps : StepsKeepMachines
step_keeps machine after is e =
    after_effect machine after (next_effect machine)
    (λ done went. row_fits (slice_index machine.memory) (bytes_of machine.memory is.bytes)
    (meaning_of (slice_index machine.memory machine.cpu.pc)) machine.cpu done (cpu_of machine is) went)
    (record { size = is.size; bytes = is.bytes }) e

after_first : (first : Result Machine Stop) (n : ℕ) (after : Machine) →
    ((between : Machine) → first ≡ Ok between → IsMachine between) →
    ((between : Machine) → IsMachine between → run n between ≡ Ok after → IsMachine after) →
    after_step first (run n) ≡ Ok after → IsMachine after
after_first (Ok between) n after is rest e = rest between (is between refl) e
after_first (Err stop) n after is rest e = absurd (cc (e))

run_keeps : (n : ℕ) (machine after : Machine) → IsMachine machine → run n machine ≡ Ok after → IsMachine after
run_keeps zero machine after is e = subst IsMachine (cc (e)) is
run_keeps (suc n) machine after is e =
    after_first (step machine) n after (λ between one. step_keeps machine between is one)
    (λ between there rest. run_keeps n between after there rest) e

entry_is : (machine : Machine) (address a : ℕ) → IsMachine machine → address < MEMORY_SIZE → a < 256 →
    IsMachine (entered machine address a)
entry_is machine address a is small byte =
    machine_of _ _
    (record { a = byte; x = is.x; y = is.y; sp = omega arith; pc = small })
    (written_is machine.memory (return_address machine.cpu.sp) (record { size = is.size; bytes = is.bytes }) (
      record { place = on_stack machine.cpu.sp; value = omega arith },
      (record { place = on_stack (machine.cpu.sp + 255); value = omega arith }, tt),
    ))

pub call_keeps : CallsKeepMachines
call_keeps machine after address a steps is small byte called =
    run_keeps steps (entered machine address a) after (entry_is machine address a is small byte) called.runs
