-- A small image that keeps within its bounds exactly: its routines load bytes, and store nowhere.
use Rattle.std.proofs.Common.{◌≡◌, ℕ, ◌+◌, ◌*◌, ◌%◌, ◌<◌, ◌≤◌, List, [], ◌∷◌, length, slice_index, Ok, Some, None, lit<, refl, sym, ap}
use Rattle.std.proofs.Common.{◌∙◌, subst, arith}
use Rattle.song_model.specs.Silence.{silence}
use Rattle.cpu6502.specs.declared.cpu.Cpu.{Cpu}
use Rattle.cpu6502.specs.declared.machine.Machine.{Machine}
use Rattle.cpu6502.specs.declared.mnemonic.Mnemonic.TheVariants.{Jmp, Lda, Ldx, Rts}
use Rattle.cpu6502.specs.Registers.{with_a, with_x}
use Rattle.cpu6502.specs.Call.{run, entered, Called, call_cycles}
use Rattle.cpu6502.specs.Code.{IsMachine, Holds}
use Rattle.cpu6502.proofs.Laws.{called_once}
use Rattle.code_runs.specs.Runs.{State, view, Lasts}
use Rattle.code_runs.specs.Calls.{CallsTo, Pulls}
use Rattle.code_runs.proofs.Laws.{jumped, goes_once, works, reads_immediate, stands_implied, stands_immediate}
use Rattle.code_runs.proofs.Laws.{stands_absolute, lda, ldx, jmp, rts, lasts_on, lasts_once, call_returns, entry_pulls}
use Rattle.code_runs.proofs.Laws.{entry_kept}
use Rattle.cycle_bound.specs.Rules.{bound_by}
use Rattle.cycle_bound.specs.EntranceRules.{around_cycles}
use Rattle.cycle_bound.proofs.Laws.{first_least, least_are_least}
use Rattle.faithful.specs.Faithful.{AgreesOn}
use Rattle.faithful.specs.Histories.{ImageCall, Init, Play, entry_of, LeadTo}
use Rattle.faithful.specs.Routines.{image_of}
use Rattle.player_bound.specs.Programs.{least_init, least_play}
use Rattle.player_bound.specs.BoundLaws.{AdmitsOf, bound_of}
use Rattle.worked_bounds.specs.WorkedBounds.{Keeps, two_loads, three_loads, few_blocks, KeepsFew}

abbrev image : List ℕ
image = image_of two_loads three_loads

abbrev Nowhere : ℕ → Type 0
Nowhere place = ⊥

-- ---- its instructions

abbrev in_memory : (ℕ → ℕ) → Cpu → ℕ → State
in_memory at cpu pc = record { cpu = jumped cpu pc; at = at }

jumps : (at : ℕ → ℕ) (cpu : Cpu) (pc target low : ℕ) → 0 < pc → pc < 0x2000 → at pc ≡ 0x4C → at (pc + 1) ≡ low →
    at (pc + 2) ≡ 0x10 → low + 256 * 0x10 ≡ target → Lasts Nowhere 1 3 (in_memory at cpu pc) (in_memory at cpu target)
jumps at cpu pc target low away few e first second is =
    let stands =
    stands_absolute at pc 0x4C (pc + 1) (pc + 2) low 0x10 target Jmp e refl (omega (arith, few)) (omega (arith, few)) first
    second is in
    lasts_once stands
    (goes_once (jmp (works {at = at} {cpu = jumped cpu pc} target ((pc + 3) % 65536) stands refl refl refl away)))

loads_a : (at : ℕ → ℕ) (cpu : Cpu) (pc : ℕ) → 0 < pc → pc < 0x2000 → at pc ≡ 0xA9 → at (pc + 1) ≡ 0 →
    Lasts Nowhere 1 2 (in_memory at cpu pc) (in_memory at (with_a cpu 0) (pc + 2))
loads_a at cpu pc away few e byte =
    let stands = stands_immediate at pc 0xA9 (pc + 1) 0 Lda e refl (omega (arith, few)) byte in
    lasts_once stands
    (goes_once (lda (reads_immediate {at = at} {cpu = jumped cpu pc} (pc + 2) stands (omega (arith, few)) away)))

loads_x : (at : ℕ → ℕ) (cpu : Cpu) (pc : ℕ) → 0 < pc → pc < 0x2000 → at pc ≡ 0xA2 → at (pc + 1) ≡ 0 →
    Lasts Nowhere 1 2 (in_memory at cpu pc) (in_memory at (with_x cpu 0) (pc + 2))
loads_x at cpu pc away few e byte =
    let stands = stands_immediate at pc 0xA2 (pc + 1) 0 Ldx e refl (omega (arith, few)) byte in
    lasts_once stands
    (goes_once (ldx (reads_immediate {at = at} {cpu = jumped cpu pc} (pc + 2) stands (omega (arith, few)) away)))

returns : (at : ℕ → ℕ) (cpu : Cpu) (pc sp : ℕ) → 0 < pc → at pc ≡ 0x60 → Pulls at cpu.sp 255 255 →
    (cpu.sp + 2) % 256 ≡ sp → Lasts Nowhere 1 6 (in_memory at cpu pc) (record { cpu = record cpu { pc = 0; sp = sp }; at = at })
returns at cpu pc sp away e pulls back =
    let stands = stands_implied at pc 0x60 Rts e refl in
    lasts_once stands
    (goes_once
    (rts (works {at = at} {cpu = jumped cpu pc} 0 ((pc + 1) % 65536) stands refl refl refl away) pulls refl back))

-- ---- its calls

abbrev cycles_of_call : ImageCall → ℕ
cycles_of_call (Init k) = 13
cycles_of_call Play = 15

-- a call of so many steps and cycles leaves the image
record Takes (machine : Machine) (call : ImageCall) (number : ℕ) : Type 0 where
  steps : ℕ
  after : Machine
  called : Called machine (entry_of 0x1000 call) number steps after
  takes : call_cycles machine (entry_of 0x1000 call) number steps ≡ cycles_of_call call
  leaves : Holds after.memory 0x1000 image

back_sp : (sp : ℕ) → sp < 256 → ((sp + 254) % 256 + 2) % 256 ≡ sp
back_sp sp few = omega (arith, few)

module _ (machine : Machine) (is : IsMachine machine) (held : Holds machine.memory 0x1000 image) where
  abbrev begun : ℕ → ℕ → State
  begun entry number = view (entered machine entry number)

  stands : (entry number k : ℕ) → k < length image → (begun entry number).at (0x1000 + k) ≡ slice_index image k
  stands entry number k few = entry_kept machine (0x1000 + k) is.size (omega arith) ∙ held.byte k few

  ends : (call : ImageCall) (number steps : ℕ) (end : State) → CallsTo Nowhere machine (entry_of 0x1000 call) number steps end →
      end.at ≡ (begun (entry_of 0x1000 call) number).at → end.cpu.pc ≡ 0 →
      call_cycles machine (entry_of 0x1000 call) number steps ≡ cycles_of_call call → Takes machine call number
  ends call number steps end c same back takes = record {
    steps = steps;
    after = c.after;
    called = c.called;
    takes = takes;
    leaves = record {
      byte = λ k few.
          ap (λ (s : State). s.at (0x1000 + k)) c.seen
          ∙ ap (λ (at : ℕ → ℕ). at (0x1000 + k)) same
          ∙ stands (entry_of 0x1000 call) number k few;
    };
  }

  takes_so : (call : ImageCall) (number : ℕ) → Takes machine call number
  takes_so (Init k) number =
      let s = begun 0x1000 number in
      let pulls = entry_pulls machine is.size in
      let has = stands 0x1000 number in
      let way =
      lasts_on (jumps s.at s.cpu 0x1000 0x1006 0x06 (lit< tt) (lit< tt) (has 0 (lit< tt)) (has 1 (lit< tt)) (has 2 (lit< tt)) refl)
      (lasts_on (loads_a s.at s.cpu 0x1006 (lit< tt) (lit< tt) (has 6 (lit< tt)) (has 7 (lit< tt)))
      (lasts_on (loads_x s.at (with_a s.cpu 0) 0x1008 (lit< tt) (lit< tt) (has 8 (lit< tt)) (has 9 (lit< tt)))
      (returns s.at (with_x (with_a s.cpu 0) 0) 0x100A machine.cpu.sp (lit< tt) (has 10 (lit< tt)) pulls
      (back_sp machine.cpu.sp is.sp)))) in
      let c = call_returns Nowhere (record { below = λ q no. absurd no }) machine 0x1000 number 4 _ is.size way.leads refl refl in
      ends (Init k) number 4 _ c refl refl (c.takes ∙ way.takes)
  takes_so Play number =
      let s = begun 0x1003 number in
      let pulls = entry_pulls machine is.size in
      let has = stands 0x1003 number in
      let way =
      lasts_on (jumps s.at s.cpu 0x1003 0x100B 0x0B (lit< tt) (lit< tt) (has 3 (lit< tt)) (has 4 (lit< tt)) (has 5 (lit< tt)) refl)
      (lasts_on (loads_a s.at s.cpu 0x100B (lit< tt) (lit< tt) (has 11 (lit< tt)) (has 12 (lit< tt)))
      (lasts_on (loads_a s.at (with_a s.cpu 0) 0x100D (lit< tt) (lit< tt) (has 13 (lit< tt)) (has 14 (lit< tt)))
      (lasts_on (loads_x s.at (with_a (with_a s.cpu 0) 0) 0x100F (lit< tt) (lit< tt) (has 15 (lit< tt)) (has 16 (lit< tt)))
      (returns s.at (with_x (with_a (with_a s.cpu 0) 0) 0) 0x1011 machine.cpu.sp (lit< tt) (has 17 (lit< tt)) pulls
      (back_sp machine.cpu.sp is.sp))))) in
      let c = call_returns Nowhere (record { below = λ q no. absurd no }) machine 0x1003 number 5 _ is.size way.leads refl refl in
      ends Play number 5 _ c refl refl (c.takes ∙ way.takes)

  -- so is any call of it that returns
  takes_always : (call : ImageCall) (number steps : ℕ) (after : Machine) →
      Called machine (entry_of 0x1000 call) number steps after →
      call_cycles machine (entry_of 0x1000 call) number steps ≡ cycles_of_call call
  takes_always call number steps after called =
      let t = takes_so call number in
      ap (call_cycles machine (entry_of 0x1000 call) number)
      (called_once machine (entry_of 0x1000 call) number steps t.steps after t.after called t.called)
      ∙ t.takes

  leaves_always : (call : ImageCall) (number steps : ℕ) (after : Machine) →
      Called machine (entry_of 0x1000 call) number steps after → Holds after.memory 0x1000 image
  leaves_always call number steps after called =
      let t = takes_so call number in
      subst (λ (m : Machine). Holds m.memory 0x1000 image) (sym one) t.leaves
    where
      one : after ≡ (takes_so call number).after
      one =
          let t = takes_so call number in
          let n = called_once machine (entry_of 0x1000 call) number steps t.steps after t.after called t.called in
          let r : run t.steps (entered machine (entry_of 0x1000 call) number) ≡ Ok after = rw n at called.runs in
          let r' = t.called.runs in
          cc

-- ---- after any calls

agreed : (before machine : Machine) → Holds before.memory 0x1000 image → AgreesOn image 0x1000 before machine →
    Holds machine.memory 0x1000 image
agreed before machine held agrees = record { byte = λ k few. agrees.same k few ∙ held.byte k few }

led_holds : (earlier : List ImageCall) (last : Machine) → LeadTo image 0x1000 silence earlier last →
    Holds last.memory 0x1000 image
led_holds [] last led = led.1
led_holds (call ∷ earlier) last led =
    leaves_always led.machine led.is
    (agreed led.before led.machine (led_holds earlier led.before led.stood) led.agrees) call led.number led.steps last
    led.called

within : (call : ImageCall) (taken : ℕ) → taken ≡ cycles_of_call call →
    taken ≤ bound_of (record { init = 2; play = 4 }) call + around_cycles
within (Init k) taken e = omega (arith, e)
within Play taken e = omega (arith, e)

pub kept_exactly : Keeps two_loads three_loads silence 2 4
kept_exactly earlier call before machine number steps after led is agrees made called =
    within call (call_cycles machine (entry_of 0x1000 call) number steps)
    (takes_always machine is (agreed before machine (led_holds earlier before led) agrees) call number steps after called)

-- ---- numbers that are admitted

enough : (call : ImageCall) (numbers : List ℕ) → AdmitsOf few_blocks call numbers →
    cycles_of_call call ≤ bound_by numbers + around_cycles
enough (Init k) numbers admitted =
    let least = (least_are_least few_blocks.setting few_blocks.init None).least numbers admitted in
    let first : 2 ≤ bound_by numbers = first_least (least_init few_blocks) numbers least in
    omega (arith, first)
enough Play numbers admitted =
    let least = (least_are_least few_blocks.setting few_blocks.first (Some few_blocks.voice)).least numbers admitted in
    let first : 30 ≤ bound_by numbers = first_least (least_play few_blocks) numbers least in
    omega (arith, first)

pub kept_by_blocks : KeepsFew two_loads three_loads
kept_by_blocks earlier call before machine number steps after led is agrees made called numbers admitted =
    subst (λ (taken : ℕ). taken ≤ bound_by numbers + around_cycles)
    (sym
    (takes_always machine is (agreed before machine (led_holds earlier before led) agrees) call number steps after called))
    (enough call numbers admitted)
