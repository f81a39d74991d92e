-- Small images that play the silent song where their calls come in order, and not always.
use Rattle.std.proofs.Common.{◌≡◌, ℕ, zero, suc, ◌+◌, ◌<◌, ◌≤◌, Bool, true, ◌||◌, nat_le}
use Rattle.std.proofs.Common.{List, [], ◌∷◌, length, replicate, slice_index, Ok, lit<, lit≤, refl, sym, ap}
use Rattle.std.proofs.Common.{◌∙◌, arith, length-set}
use Rattle.std.proofs.lemmas.Bool.Decides.{nat_tests}
use Rattle.std.proofs.lemmas.List.{get_or-set_other}
use Rattle.std.proofs.lemmas.List.Elements.{All-set}
use Rattle.song_model.specs.Silence.{silence}
use Rattle.play_model.specs.State.{no_options}
use Rattle.cpu6502.specs.declared.machine.Machine.{Machine}
use Rattle.cpu6502.specs.declared.stop.Stop.TheVariants.{Illegal}
use Rattle.cpu6502.specs.Code.{IsMachine, Holds}
use Rattle.cpu6502.specs.Call.{run, entered, Called, IsOutFor, HasReturned}
use Rattle.cpu6502.proofs.Laws.{called_once, no_stop}
use Rattle.code_runs.specs.Runs.{State}
use Rattle.code_runs.proofs.Laws.{entry_kept}
use Rattle.sid_run.specs.State.{loaded_memory, sid_registers}
use Rattle.faithful.specs.Histories.{Init, Play, LeadTo, PlaysAlways}
use Rattle.faithful.specs.Routines.{Op, image_with, image_of}
use Rattle.faithful.specs.WorkedMachines.{machine_with, with_byte}
use Rattle.faithful.specs.WorkedImages.{leave, slow, once, late, OrderIsTold}
use Rattle.faithful.proofs.LoadedCalls.{is_machine, holds, one_end, after_of, done_is}
use Rattle.faithful.proofs.Routines.{all_done, begun, call_steps, others_stay}
use Rattle.faithful.proofs.SmallImages.{stores_pass, each_store, play_part}
use Rattle.faithful.proofs.RightImages.{LeavesSo}
use Rattle.faithful.proofs.LoadedImages.{zeros_is, zeros_hold, ran, byte_is, unequal}
use Rattle.faithful.proofs.OrderedCalls.{is_begun, IsBegun, plays_in_order}

-- ---- in order they are right

begins : (opcode : ℕ) (init : List Op) (steps : ℕ) → 0x1000 + length (image_with opcode init (leave 15)) ≤ 0x2000 →
    steps ≤ 150000 → stores_pass is_begun init ≡ true → LeavesSo init steps (replicate 25 0) →
    ((s : State) → s.at 0x1003 ≡ opcode → (all_done init s).at 0x1003 ≡ 0x4C) →
    IsBegun opcode init (leave 15) steps 27
begins opcode init steps room few stores leaves jumps = record {
  room = room;
  few = (few, lit≤ tt);
  init_stores = stores;
  play_stores = refl;
  init_leaves = leaves;
  play_leaves = record { registers_are = λ s. refl; steps_are = λ s. refl };
  jumps = jumps;
}

slow_begins : IsBegun 0x4C slow (leave 15) 102629 27
slow_begins =
    begins 0x4C slow 102629 (lit≤ tt) (lit≤ tt) refl (record { registers_are = λ s. refl; steps_are = λ s. refl })
    (λ s e. e)

once_begins : IsBegun 0x4C once (leave 15) 29 27
once_begins =
    begins 0x4C once 29 (lit≤ tt) (lit≤ tt) refl (record { registers_are = λ s. refl; steps_are = λ s. refl }) (λ s e. e)

late_begins : IsBegun 0x02 late (leave 15) 29 27
late_begins =
    begins 0x02 late 29 (lit≤ tt) (lit≤ tt) refl (record { registers_are = λ s. refl; steps_are = λ s. refl }) (λ s e. refl)

-- ---- a call that is too long

too_many : (n : ℕ) → n ≡ 102631 → n ≤ 60000 → ⊥
too_many n e few = omega (arith, e, few)

slow_init : ¬ PlaysAlways (image_of slow (leave 15)) 0x1000 0xFC silence no_options
slow_init always =
    let machine = machine_with (image_of slow (leave 15)) in
    let is = zeros_is slow (leave 15) refl in
    let held = zeros_hold slow (leave 15) refl in
    let s =
    always.serves [] (Init 0) machine machine 0 (is, held) is (record { same = λ j lt. refl }) (lit< tt, refl) in
    let c = ran slow (leave 15) refl machine (Init 0) 0 is held refl in
    too_many s.steps
    (called_once machine 0x1000 0 s.steps (call_steps machine 0x1000 0 slow) s.after c.after s.called c.called) s.within

-- ---- calls that end with their first instruction

-- a call isn't back where it begins
at_entry : (machine : Machine) (entry number : ℕ) → 0 < entry → IsOutFor machine entry number 1
at_entry machine entry number away = record { out = λ k between few e back. not_back k between few e back }
  where
    not_back : (k : ℕ) (between : Machine) → k < 1 → run k (entered machine entry number) ≡ Ok between →
        HasReturned machine between → ⊥
    not_back zero between few e back =
        let there : entered machine entry number ≡ between = cc in
        let zero_is : entry ≡ 0 = ap (λ (m : Machine). m.cpu.pc) there ∙ back.at_zero in
        omega (arith, zero_is, away)
    not_back (suc k) between few e back = omega (arith, few)

-- ---- a second init

-- the image after the first one
abbrev spent : List ℕ
spent = 0x60 ∷ 0x06 ∷ 0x10 ∷ play_part once (leave 15)

spent_few : length spent ≤ 0x0F00
spent_few = lit≤ tt

-- a machine that holds it, with the volume 15
abbrev loud : Machine
loud = with_byte 0xD418 15 (machine_with spent)

loud_is : IsMachine loud
loud_is =
    let is = is_machine spent (lit≤ tt) refl in
    record {
      size = length-set (machine_with spent).memory 0xD418 15 ∙ is.size;
      bytes = All-set (λ byte. byte < 256) (machine_with spent).memory 0xD418 15 (lit< tt) is.bytes;
      a = is.a;
      x = is.x;
      y = is.y;
      sp = is.sp;
      pc = is.pc;
    }

loud_holds : Holds loud.memory 0x1000 spent
loud_holds = record {
  byte = λ j few.
      get_or-set_other (machine_with spent).memory 0xD418 (0x1000 + j) 15 0 (λ e. below j few e)
      ∙ (holds spent (lit≤ tt)).byte j few;
}
  where
    below : (j : ℕ) → j < length spent → 0x1000 + j ≡ 0xD418 → ⊥
    below j few e = omega (arith, few, spent_few, e)

-- where init stores: in the registers, and at $1000
abbrev at_start : ℕ → Bool
at_start place = nat_le place 0x1000 || nat_le 0x2000 place

not_start : (j : ℕ) → j < 0x0F00 → at_start (0x1000 + suc j) ≡ true → ⊥
not_start j few h = grind (arith, nat_tests)

-- the image behind it
spent_byte : (j : ℕ) → j < length spent →
    (all_done once (begun (machine_with (image_of once (leave 15))) 0x1000 0)).at (0x1000 + j) ≡ slice_index spent j
spent_byte zero few = refl
spent_byte (suc j) few =
    others_stay (λ p. at_start p ≡ true) once (begun (machine_with (image_of once (leave 15))) 0x1000 0) (0x1000 + suc j)
    (each_store (λ p. at_start p ≡ true) at_start (λ place h. h) once refl) (not_start j (omega (arith, few, spent_few)))
    ∙ entry_kept (machine_with (image_of once (leave 15))) (0x1000 + suc j) (zeros_is once (leave 15) refl).size (omega arith)
    ∙ (zeros_hold once (leave 15) refl).byte (suc j) few

-- it returns at once
back_at_once : Called loud 0x1000 0 1 (after_of loud (run 1 (entered loud 0x1000 0)))
unfolding loaded_memory
back_at_once = record {
  runs = done_is loud (run 1 (entered loud 0x1000 0)) refl;
  returned = record { at_zero = refl; same_stack = refl };
  first = at_entry loud 0x1000 0 (lit< tt);
}

loud_end : slice_index (sid_registers (after_of loud (run 1 (entered loud 0x1000 0)))) 24 ≡ 15
unfolding loaded_memory
loud_end = refl

second_init : ¬ PlaysAlways (image_of once (leave 15)) 0x1000 0xFC silence no_options
second_init always =
    let machine = machine_with (image_of once (leave 15)) in
    let is = zeros_is once (leave 15) refl in
    let held = zeros_hold once (leave 15) refl in
    let c = ran once (leave 15) refl machine (Init 0) 0 is held refl in
    let led : LeadTo (image_of once (leave 15)) 0x1000 silence (Init 0 ∷ []) c.after = record {
      before = machine;
      stood = (is, held);
      machine = machine;
      number = 0;
      steps = call_steps machine 0x1000 0 once;
      is = is;
      agrees = record { same = λ j lt. refl };
      made = (lit< tt, refl);
      called = c.called;
    } in
    let s =
    always.serves (Init 0 ∷ []) (Init 0) c.after loud 0 led loud_is
    (record {
      same = λ j lt.
          loud_holds.byte j lt
          ∙ sym (spent_byte j lt)
          ∙ sym (byte_is once (leave 15) refl machine c.after (Init 0) 0 (call_steps machine 0x1000 0 once) (0x1000 + j) is held
          refl c.called);
    }) (lit< tt, refl) in
    unequal 15 0 refl
    (sym loud_end
    ∙ ap (λ (m : Machine). slice_index (sid_registers m) 24)
    (one_end loud 0x1000 0 1 s.steps (after_of loud (run 1 (entered loud 0x1000 0))) s.after back_at_once s.called)
    ∙ ap (λ (r : List ℕ). slice_index r 24) (s.registers 0 0 refl))

-- ---- a play before the first init

first_play : ¬ PlaysAlways (image_with 0x02 late (leave 15)) 0x1000 0xFC silence no_options
unfolding loaded_memory
first_play always =
    let image = image_with 0x02 late (leave 15) in
    let machine = machine_with image in
    let is = is_machine image (lit≤ tt) refl in
    let s =
    always.serves [] Play machine machine 0 (is, holds image (lit≤ tt)) is (record { same = λ j lt. refl }) (lit< tt) in
    no_stop machine 0x1003 0 s.steps 0 (Illegal 0x1003) s.after (entered machine 0x1003 0) s.called
    (record { runs = refl; stops = refl; out = at_entry machine 0x1003 0 (lit< tt) })

pub order_is_told : OrderIsTold
order_is_told = record {
  slow_plays = plays_in_order 0x4C slow (leave 15) 102629 27 slow_begins;
  slow_init = slow_init;
  once_plays = plays_in_order 0x4C once (leave 15) 29 27 once_begins;
  second_init = second_init;
  late_plays = plays_in_order 0x02 late (leave 15) 29 27 late_begins;
  first_play = first_play;
}
