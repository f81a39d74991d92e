-- Small images that play the silent song from their first init on: init may also store in the two jumps before the
-- routines, and leaves the one to play.
use Rattle.std.proofs.Common.{◌≡◌, ℕ, zero, suc, ◌+◌, ◌%◌, ◌<◌, ◌≤◌, inl, inr, Bool, true}
use Rattle.std.proofs.Common.{◌&&◌, ◌||◌, nat_lt, nat_le, List, [], ◌∷◌, ◌++◌, length, replicate}
use Rattle.std.proofs.Common.{slice_index, refl, sym, ap, ◌∙◌, arith}
use Rattle.song_model.specs.Silence.{silence}
use Rattle.play_model.specs.State.{no_options}
use Rattle.play_model.specs.Frame.{trace_with}
use Rattle.cpu6502.specs.declared.machine.Machine.{Machine}
use Rattle.cpu6502.specs.declared.log.TheConstants.{SID_BASE}
use Rattle.cpu6502.specs.Code.{IsMachine, Holds, bytes_at}
use Rattle.code_runs.specs.Runs.{State}
use Rattle.code_runs.specs.Calls.{CallsTo}
use Rattle.code_runs.proofs.Laws.{entry_kept}
use Rattle.sid_run.specs.declared.memory.TheConstants.{REGISTERS}
use Rattle.faithful.specs.Confined.{IsOwnPlace}
use Rattle.faithful.specs.Faithful.{Leaves, AgreesOn, LeavesAndGoesOn, PlaysOn, IsFaithful}
use Rattle.faithful.specs.Timers.{SetsTimer}
use Rattle.faithful.specs.Routines.{Op, routine, image_with}
use Rattle.faithful.proofs.LoadedCalls.{and_true}
use Rattle.faithful.proofs.Routines.{all_done, step_count, EachStore, IsSafe, begun, ended, call_steps, others_stay}
use Rattle.faithful.proofs.Routines.{HasRoutine, routine_is_called}
use Rattle.faithful.proofs.RightImages.{is_port, or_true, le_is, lt_is, high_off, port_high, port_own, port_safe}
use Rattle.faithful.proofs.RightImages.{own_below, LeavesSo}
use Rattle.faithful.proofs.SilentFrames.{silent_trace}
use Rattle.faithful.proofs.SmallImages.{stores_pass, each_store, bytes_from, play_part, init_routine, play_routine}

-- ---- where init may store

-- a register, or one of the first bytes of the image
abbrev pub is_begun : ℕ → Bool
is_begun place = is_port no_options place || (nat_le 0x1000 place && nat_lt place 0x1004)

begun_own : (size sp place : ℕ) → 4 ≤ size → is_begun place ≡ true → IsOwnPlace size 0x1000 0xFC no_options sp place
begun_own size sp place room h = elim
    (or_true {a = is_port no_options place} {b = nat_le 0x1000 place && nat_lt place 0x1004} h) [
      | inl port ↦ port_own no_options size sp place port
      | inr first ↦
          let both = and_true first in
          let low = le_is 0x1000 place both.0 in
          let high = lt_is place 0x1004 both.1 in
          IsOwnPlace.in_image low (omega (arith, room, high))
    ]

begun_safe : (size sp below place : ℕ) → 4 ≤ size → is_begun place ≡ true →
    IsSafe (IsOwnPlace size 0x1000 0xFC no_options below) sp place
begun_safe size sp below place room h = elim
    (or_true {a = is_port no_options place} {b = nat_le 0x1000 place && nat_lt place 0x1004} h) [
      | inl port ↦ port_safe no_options size sp below place port
      | inr first ↦
          let both = and_true first in
          let low = le_is 0x1000 place both.0 in
          let high = lt_is place 0x1004 both.1 in
          record {
            may = begun_own size below place room h;
            apart = inl (omega (arith, high));
            first = high_off sp place low;
            second = high_off (sp + 255) place low;
          }
    ]

not_begun : (place : ℕ) → 0x1004 ≤ place → place < 0x2000 → is_begun place ≡ true → ⊥
not_begun place from below h = elim
    (or_true {a = is_port no_options place} {b = nat_le 0x1000 place && nat_lt place 0x1004} h) [
      | inl port ↦ let high = port_high no_options place port in omega (arith, high, below)
      | inr first ↦ let high = lt_is place 0x1004 (and_true first).1 in omega (arith, from, high)
    ]

no_port : (place : ℕ) → place < 0x2000 → is_port no_options place ≡ true → ⊥
no_port place below h = (let high = port_high no_options place h in omega (arith, high, below))

-- ---- what is asked of two routines, where this opcode stands in place of the second jump's

pub record IsBegun (opcode : ℕ) (init play : List Op) (steps more : ℕ) : Type 0 where
  pub room : 0x1000 + length (image_with opcode init play) ≤ 0x2000
  pub few : (steps ≤ 150000) × (more ≤ 150000)
  pub init_stores : stores_pass is_begun init ≡ true
  pub play_stores : stores_pass (is_port no_options) play ≡ true
  pub init_leaves : LeavesSo init steps (replicate 25 0)
  pub play_leaves : LeavesSo play more (replicate 24 0 ++ 15 ∷ [])
  pub jumps : (s : State) → s.at 0x1003 ≡ opcode → (all_done init s).at 0x1003 ≡ 0x4C

module _ (opcode : ℕ) (init play : List Op) (steps more : ℕ) (begins : IsBegun opcode init play steps more) where
  abbrev image : List ℕ
  image = image_with opcode init play

  abbrev part : List ℕ
  part = play_part init play

  abbrev Own : Machine → ℕ → Type 0
  Own machine = IsOwnPlace (length image) 0x1000 0xFC no_options ((machine.cpu.sp + 254) % 256)

  some_room : 4 ≤ length image
  some_room = omega arith

  inside : (j : ℕ) → j < length part → 0x1003 + j < 0x2000
  inside j few = (let room = begins.room in omega (arith, few, room))

  in_image : (j : ℕ) → j < length part → suc (suc (suc j)) < length image
  in_image j few = omega (arith, few)

  on_by_three : (j : ℕ) → 0x1003 + j ≡ 0x1000 + suc (suc (suc j))
  on_by_three j = omega arith

  -- ---- a call of a routine

  module _ (machine : Machine) (entry number target n : ℕ) (ops : List Op) (is : IsMachine machine)
      (has : HasRoutine (begun machine entry number).at entry target ops)
      (safe : EachStore (IsSafe (Own machine) machine.cpu.sp) ops) (own : EachStore (Own machine) ops) where
    calls : CallsTo (Own machine) machine entry number (call_steps machine entry number ops) (ended machine entry number ops)
    calls =
        routine_is_called (Own machine)
        (own_below no_options (length image) ((machine.cpu.sp + 254) % 256) begins.room) machine entry number target ops is.size
        is.sp has safe

    byte_is : (q : ℕ) → slice_index calls.after.memory q ≡ (all_done ops (begun machine entry number)).at q
    byte_is q = ap (λ (s : State). s.at q) calls.seen

    leaves : (registers wanted : List ℕ) → LeavesSo ops n registers → n ≤ 150000 → registers ≡ wanted →
        Leaves image 0x1000 0xFC no_options machine entry number wanted calls.after
    leaves registers wanted so few e = record {
      steps = call_steps machine entry number ops;
      within = few_steps (step_count ops (begun machine entry number)) (so.steps_are (begun machine entry number)) few;
      called = calls.called;
      confined = record {
        same = λ q within not_own.
            byte_is q
            ∙ others_stay (Own machine) ops (begun machine entry number) q own not_own;
      };
      registers_are =
          ap (λ (s : State). bytes_at s.at SID_BASE REGISTERS) calls.seen
          ∙ so.registers_are (begun machine entry number)
          ∙ e;
    }
      where
        few_steps : (k : ℕ) → k ≡ n → n ≤ 150000 → suc (k + 1) ≤ 200000
        few_steps k e few = omega (arith, e, few)

  -- ---- init

  init_calls : (machine : Machine) (number : ℕ) → IsMachine machine → Holds machine.memory 0x1000 image →
      HasRoutine (begun machine 0x1000 number).at 0x1000 0x1006 init
  init_calls machine number is held =
      init_routine opcode init play (begun machine 0x1000 number).at
      (bytes_from (begun machine 0x1000 number).at 0x1000 image begins.room
      (λ k few. entry_kept machine (0x1000 + k) is.size (omega arith) ∙ held.byte k few))

  -- it leaves the jump to play, and the routines
  play_stands : (machine : Machine) (number : ℕ) → IsMachine machine → Holds machine.memory 0x1000 image → (j : ℕ) →
      j < length part → (all_done init (begun machine 0x1000 number)).at (0x1003 + j) ≡ slice_index part j
  play_stands machine number is held zero few =
      begins.jumps (begun machine 0x1000 number) (entry_kept machine 0x1003 is.size (omega arith) ∙ held.byte 3 (omega arith))
  play_stands machine number is held (suc j) few =
      others_stay (λ p. is_begun p ≡ true) init (begun machine 0x1000 number) (0x1003 + suc j)
      (each_store (λ p. is_begun p ≡ true) is_begun (λ place h. h) init begins.init_stores)
      (not_begun (0x1003 + suc j) (omega arith) (inside (suc j) few))
      ∙ entry_kept machine (0x1003 + suc j) is.size (omega arith)
      ∙ ap (slice_index machine.memory) (on_by_three (suc j))
      ∙ held.byte (suc (suc (suc (suc j)))) (in_image (suc j) few)

  -- ---- plays after it

  play_calls : (machine : Machine) (number : ℕ) → IsMachine machine → Holds machine.memory 0x1003 part →
      HasRoutine (begun machine 0x1003 number).at 0x1003 (0x1006 + length (routine init)) play
  play_calls machine number is held =
      play_routine init play (begun machine 0x1003 number).at
      (bytes_from (begun machine 0x1003 number).at 0x1003 part part_room
      (λ k few. entry_kept machine (0x1003 + k) is.size (omega arith) ∙ held.byte k few))
    where
      part_room : 0x1003 + length part ≤ 0x2000
      part_room = (let room = begins.room in omega (arith, room))

  agreed : (before machine : Machine) → Holds before.memory 0x1003 part → AgreesOn image 0x1000 before machine →
      Holds machine.memory 0x1003 part
  agreed before machine held agrees = record {
    byte = λ j few.
        ap (slice_index machine.memory) (on_by_three j)
        ∙ agrees.same (suc (suc (suc j))) (in_image j few)
        ∙ ap (slice_index before.memory) (sym (on_by_three j))
        ∙ held.byte j few;
  }

  plays_on : (i n : ℕ) (before : Machine) → Holds before.memory 0x1003 part →
      PlaysOn image 0x1000 0xFC silence no_options 0 (suc i) n before
  plays_on i zero before held = tt
  plays_on i (suc n) before held = λ machine number is small agrees.
      let stands = agreed before machine held agrees in
      let has = play_calls machine number is stands in
      let target = 0x1006 + length (routine init) in
      let safe =
      each_store (IsSafe (Own machine) machine.cpu.sp) (is_port no_options)
      (port_safe no_options (length image) machine.cpu.sp ((machine.cpu.sp + 254) % 256)) play begins.play_stores in
      let own =
      each_store (Own machine) (is_port no_options)
      (port_own no_options (length image) ((machine.cpu.sp + 254) % 256)) play begins.play_stores in
      let c = calls machine 0x1003 number target more play is has safe own in
      let kept : Holds c.after.memory 0x1003 part = record {
        byte = λ j few.
            byte_is machine 0x1003 number target more play is has safe own (0x1003 + j)
            ∙ others_stay (λ p. is_port no_options p ≡ true) play (begun machine 0x1003 number) (0x1003 + j)
            (each_store (λ p. is_port no_options p ≡ true) (is_port no_options) (λ place h. h) play begins.play_stores)
            (no_port (0x1003 + j) (inside j few))
            ∙ entry_kept machine (0x1003 + j) is.size (omega arith)
            ∙ stands.byte j few;
      } in
      record {
        after = c.after;
        leaves = leaves machine 0x1003 number target more play is has safe own (replicate 24 0 ++ 15 ∷ [])
            (trace_with no_options silence 0 (suc i)) begins.play_leaves begins.few.1
            (sym (silent_trace _ 1 0 i (omega arith) (inl refl)));
        timer = λ fast. absurd (omega arith);
        goes_on = plays_on (suc i) n c.after kept;
      }

  plays_from : (k n : ℕ) (machine : Machine) → k < 1 → IsMachine machine → Holds machine.memory 0x1000 image →
      LeavesAndGoesOn image 0x1000 0xFC no_options machine 0x1000 k (trace_with no_options silence k 0)
      (SetsTimer no_options) (PlaysOn image 0x1000 0xFC silence no_options k 1 n)
  plays_from (suc k) n machine few is held = absurd (omega (arith, few))
  plays_from zero n machine few is held =
      let has = init_calls machine 0 is held in
      let safe =
      each_store (IsSafe (Own machine) machine.cpu.sp) is_begun
      (λ place h. begun_safe (length image) machine.cpu.sp ((machine.cpu.sp + 254) % 256) place some_room h) init
      begins.init_stores in
      let own =
      each_store (Own machine) is_begun
      (λ place h. begun_own (length image) ((machine.cpu.sp + 254) % 256) place some_room h) init begins.init_stores in
      let c = calls machine 0x1000 0 0x1006 steps init is has safe own in
      record {
        after = c.after;
        leaves = leaves machine 0x1000 0 0x1006 steps init is has safe own (replicate 25 0) (replicate 25 0)
            begins.init_leaves begins.few.0 refl;
        timer = λ fast. absurd (omega arith);
        goes_on = plays_on 0 n c.after (record {
          byte = λ j few.
              byte_is machine 0x1000 0 0x1006 steps init is has safe own (0x1003 + j)
              ∙ play_stands machine 0 is held j few;
        });
      }

  pub plays_in_order : IsFaithful image 0x1000 0xFC silence no_options
  plays_in_order = record { plays = plays_from }
