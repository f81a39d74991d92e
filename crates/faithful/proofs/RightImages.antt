-- Small images that play a silent song, whatever else is in memory.
use Rattle.std.specs.Option.{option_map}
use Rattle.std.proofs.Common.{◌≡◌, ◌≢◌, ℕ, suc, ◌+◌, ◌/◌, ◌%◌, ◌<◌, ◌≤◌, ◌⊎◌}
use Rattle.std.proofs.Common.{inl, inr, Bool, true, false, ◌&&◌, ◌||◌, nat_eq, nat_lt, nat_le, Option, Some}
use Rattle.std.proofs.Common.{None, List, [], ◌∷◌, ◌++◌, length, replicate, slice_index, lit≤, refl, sym}
use Rattle.std.proofs.Common.{ap, ◌∙◌, subst, arith}
use Rattle.std.proofs.lemmas.Bool.{eqb-true}
use Rattle.std.proofs.lemmas.Bool.Decides.{nat_tests}
use Rattle.song_model.specs.declared.songs.Song.{Song}
use Rattle.song_model.specs.LookUp.{playable_subtunes}
use Rattle.play_model.specs.declared.options.Options.{Options}
use Rattle.play_model.specs.Frame.{trace_with}
use Rattle.play_model.specs.Speeds.{timer_value}
use Rattle.cpu6502.specs.declared.machine.Machine.{Machine}
use Rattle.cpu6502.specs.declared.memory.TheConstants.{MEMORY_SIZE}
use Rattle.cpu6502.specs.declared.log.TheConstants.{SID_BASE}
use Rattle.cpu6502.specs.Registers.{stack_place}
use Rattle.cpu6502.specs.Call.{Called}
use Rattle.cpu6502.specs.Code.{IsMachine, Holds, bytes_at}
use Rattle.cpu6502.proofs.Laws.{called_once}
use Rattle.code_runs.specs.Runs.{State}
use Rattle.code_runs.specs.Calls.{IsBelow, CallsTo}
use Rattle.code_runs.proofs.Laws.{entry_kept}
use Rattle.sid_run.specs.declared.memory.TheConstants.{REGISTERS}
use Rattle.sid_run.specs.State.{sid_registers}
use Rattle.faithful.specs.Confined.{IsOwnPlace}
use Rattle.faithful.specs.Faithful.{AgreesOn}
use Rattle.faithful.specs.Histories.{ImageCall, Init, Play, entry_of, IsMade, LeadTo, since_init, MindsTimer, PlaysAlways}
use Rattle.faithful.specs.Isolation.{Duration, duration, IsIsolated}
use Rattle.faithful.specs.Timers.{timer_low, timer_high}
use Rattle.faithful.specs.Routines.{Op, image_of}
use Rattle.faithful.proofs.LoadedCalls.{and_true, one_end}
use Rattle.faithful.proofs.Always.{own_places_are_few}
use Rattle.faithful.proofs.Routines.{all_done, step_count, EachStore, IsSafe, begun, ended, call_steps, others_stay}
use Rattle.faithful.proofs.PlainRoutines.{are_plain, ops_cycles}
use Rattle.faithful.proofs.SmallImages.{Fits, ops_of, stores_pass, each_store, small_call, small_takes}

-- ---- own places

-- a register, or a byte of the timer at a speed above 1
abbrev pub is_port : Options → ℕ → Bool
is_port o place =
    (nat_le 0xD400 place && nat_le place 0xD418)
    || (nat_lt 1 o.speed && (nat_eq place 0xDC04 || nat_eq place 0xDC05))

pub or_true : {a b : Bool} → (a || b) ≡ true → (a ≡ true) ⊎ (b ≡ true)
or_true {a = true} h = inl refl
or_true {a = false} h = inr h

pub le_is : (a b : ℕ) → nat_le a b ≡ true → a ≤ b
le_is a b h = grind (arith, nat_tests)

pub lt_is : (a b : ℕ) → nat_lt a b ≡ true → a < b
lt_is a b h = grind (arith, nat_tests)

sid_is : (place : ℕ) → (nat_le 0xD400 place && nat_le place 0xD418) ≡ true → (0xD400 ≤ place) × (place ≤ 0xD418)
sid_is place h =
    let both = and_true h in
    (le_is 0xD400 place both.0, le_is place 0xD418 both.1)

byte_is : (place : ℕ) → (nat_eq place 0xDC04 || nat_eq place 0xDC05) ≡ true → (place ≡ 0xDC04) ⊎ (place ≡ 0xDC05)
byte_is place h = elim (or_true {a = nat_eq place 0xDC04} {b = nat_eq place 0xDC05} h) [
  | inl low ↦ inl (eqb-true place 0xDC04 low)
  | inr high ↦ inr (eqb-true place 0xDC05 high)
]

timer_is : (o : Options) (place : ℕ) → (nat_lt 1 o.speed && (nat_eq place 0xDC04 || nat_eq place 0xDC05)) ≡ true →
    (1 < o.speed) × ((place ≡ 0xDC04) ⊎ (place ≡ 0xDC05))
timer_is o place h =
    let both = and_true h in
    (lt_is 1 o.speed both.0, byte_is place both.1)

port_is : (o : Options) (place : ℕ) → is_port o place ≡ true →
    ((0xD400 ≤ place) × (place ≤ 0xD418)) ⊎ ((1 < o.speed) × ((place ≡ 0xDC04) ⊎ (place ≡ 0xDC05)))
port_is o place h =
    elim
    (or_true {a = nat_le 0xD400 place && nat_le place 0xD418}
    {b = nat_lt 1 o.speed && (nat_eq place 0xDC04 || nat_eq place 0xDC05)} h)
    [ inl sid ↦ inl (sid_is place sid) | inr timer ↦ inr (timer_is o place timer) ]

pub port_high : (o : Options) (place : ℕ) → is_port o place ≡ true → 0xD400 ≤ place
port_high o place h = elim (port_is o place h) [
  | inl sid ↦ sid.0
  | inr timer ↦ elim timer.1 [
    | inl e ↦ omega (arith, e)
    | inr e ↦ omega (arith, e)
  ]
]

pub port_own : (o : Options) (size sp place : ℕ) → is_port o place ≡ true → IsOwnPlace size 0x1000 0xFC o sp place
port_own o size sp place h = elim (port_is o place h) [
  | inl sid ↦ IsOwnPlace.in_sid sid.0 sid.1
  | inr timer ↦ IsOwnPlace.in_timer timer.0 timer.1
]

pub high_off : (sp place : ℕ) → 0x1000 ≤ place → place ≢ stack_place sp
high_off sp place high e = omega (arith, high, e)

pub port_safe : (o : Options) (size sp below place : ℕ) → is_port o place ≡ true →
    IsSafe (IsOwnPlace size 0x1000 0xFC o below) sp place
port_safe o size sp below place h =
    let high = port_high o place h in
    record {
      may = port_own o size below place h;
      apart = inr (omega (arith, high));
      first = high_off sp place (omega (arith, high));
      second = high_off (sp + 255) place (omega (arith, high));
    }

pub own_below : (o : Options) (size sp : ℕ) → 0x1000 + size ≤ 0x2000 → IsBelow (IsOwnPlace size 0x1000 0xFC o sp)
own_below o size sp room = record { below = λ q own. by_kind q (own_places_are_few size 0x1000 0xFC o sp q (omega arith) own) }
  where
    by_kind : (q : ℕ) → ((0x1000 ≤ q) × (q < 0x1000 + size)) ⊎ (q < 512) ⊎ ((0xD400 ≤ q) × (q ≤ 0xD418))
        ⊎ (q ≡ 0xDC04) ⊎ (q ≡ 0xDC05) → q < MEMORY_SIZE
    by_kind q (inl image) = (let a = image.1 in omega (arith, a, room))
    by_kind q (inr (inl low)) = omega (arith, low)
    by_kind q (inr (inr (inl sid))) = (let a = sid.1 in omega (arith, a))
    by_kind q (inr (inr (inr (inl e)))) = omega (arith, e)
    by_kind q (inr (inr (inr (inr e)))) = omega (arith, e)

-- ---- what is asked of two routines

-- a routine leaves these registers, in so many steps, whatever stands in memory
pub record LeavesSo (ops : List Op) (steps : ℕ) (registers : List ℕ) : Type 0 where
  pub registers_are : (s : State) → bytes_at (all_done ops s).at SID_BASE REGISTERS ≡ registers
  pub steps_are : (s : State) → step_count ops s ≡ steps

pub record IsRight (o : Options) (song : Song) (init play : List Op) (steps more : ℕ) : Type 0 where
  pub fits : Fits init play
  pub plain_init : are_plain init ≡ true
  pub plain_play : are_plain play ≡ true
  pub few : (steps ≤ 100) × (more ≤ 100)
  pub init_ports : stores_pass (is_port o) init ≡ true
  pub play_ports : stores_pass (is_port o) play ≡ true
  pub init_leaves : LeavesSo init steps (replicate 25 0)
  pub play_leaves : LeavesSo play more (replicate 24 0 ++ 15 ∷ [])
  pub timer_set : 1 < o.speed → (s : State) → ((all_done init s).at timer_low ≡ timer_value o.system o.speed % 256)
      × ((all_done init s).at timer_high ≡ timer_value o.system o.speed / 256)
  pub timer_kept : (s : State) → ((all_done play s).at timer_low ≡ s.at timer_low)
      × ((all_done play s).at timer_high ≡ s.at timer_high)
  pub frames : (k n : ℕ) → k < length (playable_subtunes song) →
      trace_with o song k (suc n) ≡ replicate 24 0 ++ 15 ∷ []

abbrev registers_of : ImageCall → List ℕ
registers_of (Init k) = replicate 25 0
registers_of Play = replicate 24 0 ++ 15 ∷ []

abbrev steps_of : ℕ → ℕ → ImageCall → ℕ
steps_of steps more (Init k) = steps
steps_of steps more Play = more

-- ---- the calls since an init

same_pair : (p q : ℕ × ℕ) → Some p ≡ Some q → p ≡ q
same_pair p q e = cc

some_first : (j m k n : ℕ) → ◌≡◌ {A = Option (ℕ × ℕ)} (Some (j, m)) (Some (k, n)) → j ≡ k
some_first j m k n e = ap (λ (p : ℕ × ℕ). p.0) (same_pair (j, m) (k, n) e)

some_second : (j m k n : ℕ) → ◌≡◌ {A = Option (ℕ × ℕ)} (Some (j, m)) (Some (k, n)) → m ≡ n
some_second j m k n e = ap (λ (p : ℕ × ℕ). p.1) (same_pair (j, m) (k, n) e)

-- one more play
abbrev one_more : Option (ℕ × ℕ) → Option (ℕ × ℕ)
one_more z = option_map (λ (last : ℕ × ℕ). (last.0, suc last.1)) z

played_few : (count : ℕ) (z : Option (ℕ × ℕ)) (k n : ℕ) → one_more z ≡ Some (k, n) →
    ((m : ℕ) → z ≡ Some (k, m) → k < count) → k < count
played_few count None k n e few = absurd (cc)
played_few count (Some (j, m)) k n e few = few m (ap (λ i. Some (i, m)) (some_first j (suc m) k n e))

played_trace : (o : Options) (song : Song) →
    ((k n : ℕ) → k < length (playable_subtunes song) → trace_with o song k (suc n) ≡ replicate 24 0 ++ 15 ∷ []) →
    (z : Option (ℕ × ℕ)) (k n : ℕ) → one_more z ≡ Some (k, n) →
    ((m : ℕ) → z ≡ Some (k, m) → k < length (playable_subtunes song)) →
    replicate 24 0 ++ 15 ∷ [] ≡ trace_with o song k n
played_trace o song frames None k n e few = absurd (cc)
played_trace o song frames (Some (j, m)) k n e few =
    sym (frames k m (few m (ap (λ i. Some (i, m)) (some_first j (suc m) k n e))))
    ∙ ap (λ i. trace_with o song k i) (some_second j (suc m) k n e)

module _ (o : Options) (song : Song) (init play : List Op) (steps more : ℕ) (right : IsRight o song init play steps more) where
  abbrev image : List ℕ
  image = image_of init play

  abbrev Own : Machine → ℕ → Type 0
  Own machine = IsOwnPlace (length image) 0x1000 0xFC o ((machine.cpu.sp + 254) % 256)

  abbrev IsPort : ℕ → Type 0
  IsPort place = is_port o place ≡ true

  leaves : (call : ImageCall) → LeavesSo (ops_of init play call) (steps_of steps more call) (registers_of call)
  leaves (Init k) = right.init_leaves
  leaves Play = right.play_leaves

  ports : (call : ImageCall) → stores_pass (is_port o) (ops_of init play call) ≡ true
  ports (Init k) = right.init_ports
  ports Play = right.play_ports

  each_port : (call : ImageCall) → EachStore IsPort (ops_of init play call)
  each_port call = each_store IsPort (is_port o) (λ place is. is) (ops_of init play call) (ports call)

  -- ---- a call

  calls : (machine : Machine) (call : ImageCall) (number : ℕ) → IsMachine machine → Holds machine.memory 0x1000 image →
      CallsTo (Own machine) machine (entry_of 0x1000 call) number
      (call_steps machine (entry_of 0x1000 call) number (ops_of init play call))
      (ended machine (entry_of 0x1000 call) number (ops_of init play call))
  calls machine call number is held =
      small_call (Own machine) (own_below o (length image) ((machine.cpu.sp + 254) % 256) right.fits.room) init play
      right.fits machine call number is held
      (each_store (IsSafe (Own machine) machine.cpu.sp) (is_port o)
      (port_safe o (length image) machine.cpu.sp ((machine.cpu.sp + 254) % 256)) (ops_of init play call) (ports call))

  -- where it ends: a byte at which it may not store is as the call found it
  ends_as : (machine after : Machine) (call : ImageCall) (number n : ℕ) → IsMachine machine →
      Holds machine.memory 0x1000 image → Called machine (entry_of 0x1000 call) number n after →
      slice_index after.memory ≡ (all_done (ops_of init play call) (begun machine (entry_of 0x1000 call) number)).at
  ends_as machine after call number n is held called =
      let c = calls machine call number is held in
      ap (λ (m : Machine). slice_index m.memory)
      (one_end machine (entry_of 0x1000 call) number n
      (call_steps machine (entry_of 0x1000 call) number (ops_of init play call)) after c.after called c.called)
      ∙ ap (λ (s : State). s.at) c.seen

  stays : (machine after : Machine) (call : ImageCall) (number n q : ℕ) → IsMachine machine →
      Holds machine.memory 0x1000 image → Called machine (entry_of 0x1000 call) number n after →
      (is_port o q ≡ true → ⊥) →
      slice_index after.memory q ≡ (begun machine (entry_of 0x1000 call) number).at q
  stays machine after call number n q is held called out =
      ap (λ (at : ℕ → ℕ). at q) (ends_as machine after call number n is held called)
      ∙ others_stay IsPort (ops_of init play call) (begun machine (entry_of 0x1000 call) number) q (each_port call) out

  low_no_port : (q : ℕ) → q < 0x2000 → is_port o q ≡ true → ⊥
  low_no_port q low h = (let high = port_high o q h in omega (arith, low, high))

  -- the image is as before
  holds_on : (machine after : Machine) (call : ImageCall) (number n : ℕ) → IsMachine machine →
      Holds machine.memory 0x1000 image → Called machine (entry_of 0x1000 call) number n after →
      Holds after.memory 0x1000 image
  holds_on machine after call number n is held called = record {
    byte = λ k few.
        stays machine after call number n (0x1000 + k) is held called
        (low_no_port (0x1000 + k) (inside k few))
        ∙ entry_kept machine (0x1000 + k) is.size (omega arith)
        ∙ held.byte k few;
  }
    where
      inside : (k : ℕ) → k < length image → 0x1000 + k < 0x2000
      inside k few = (let room = right.fits.room in omega (arith, few, room))

  registers_are : (machine after : Machine) (call : ImageCall) (number n : ℕ) → IsMachine machine →
      Holds machine.memory 0x1000 image → Called machine (entry_of 0x1000 call) number n after →
      sid_registers after ≡ registers_of call
  registers_are machine after call number n is held called =
      ap (λ (at : ℕ → ℕ). bytes_at at SID_BASE REGISTERS) (ends_as machine after call number n is held called)
      ∙ (leaves call).registers_are (begun machine (entry_of 0x1000 call) number)

  call_takes : (machine : Machine) (call : ImageCall) (number : ℕ) →
      call_steps machine (entry_of 0x1000 call) number (ops_of init play call) ≡ suc (steps_of steps more call + 1)
  call_takes machine call number =
      ap (λ n. suc (n + 1)) ((leaves call).steps_are (begun machine (entry_of 0x1000 call) number))

  -- as long as any such call
  plain : (call : ImageCall) → are_plain (ops_of init play call) ≡ true
  plain (Init k) = right.plain_init
  plain Play = right.plain_play

  took_so : (machine : Machine) (call : ImageCall) (number n : ℕ) (after : Machine) → IsMachine machine →
      Holds machine.memory 0x1000 image → Called machine (entry_of 0x1000 call) number n after →
      duration machine (entry_of 0x1000 call) number n
      ≡ record { steps = suc (steps_of steps more call + 1); cycles = 3 + (ops_cycles (ops_of init play call) + 6) }
  took_so machine call number n after is held called =
      let c = calls machine call number is held in
      let k = call_steps machine (entry_of 0x1000 call) number (ops_of init play call) in
      let same = called_once machine (entry_of 0x1000 call) number n k after c.after called c.called in
      let cycles =
      c.takes
      ∙ small_takes (Own machine) init play right.fits machine call number is held
      (each_store (IsSafe (Own machine) machine.cpu.sp) (is_port o)
      (port_safe o (length image) machine.cpu.sp ((machine.cpu.sp + 254) % 256)) (ops_of init play call) (ports call))
      (plain call) in
      ap (λ m. duration machine (entry_of 0x1000 call) number m) same
      ∙ (ap (λ m. (let d : Duration = record { steps = k; cycles = m } in d)) cycles
      ∙ ap (λ m. (let d : Duration = record { steps = m; cycles = 3 + (ops_cycles (ops_of init play call) + 6) } in d))
      (call_takes machine call number))

  few_steps : (call : ImageCall) (n : ℕ) → n ≡ suc (steps_of steps more call + 1) → n ≤ 60000
  few_steps (Init k) n e = (let few = right.few.0 in omega (arith, e, few))
  few_steps Play n e = (let few = right.few.1 in omega (arith, e, few))

  minds : (machine after : Machine) (call : ImageCall) (number n : ℕ) → IsMachine machine →
      Holds machine.memory 0x1000 image → Called machine (entry_of 0x1000 call) number n after →
      MindsTimer o call machine after
  minds machine after (Init k) number n is held called = λ fast.
      let e = ends_as machine after (Init k) number n is held called in
      let set = right.timer_set fast (begun machine 0x1000 number) in
      record {
        low = ap (λ (at : ℕ → ℕ). at timer_low) e ∙ set.0;
        high = ap (λ (at : ℕ → ℕ). at timer_high) e ∙ set.1;
      }
  minds machine after Play number n is held called = λ fast.
      let e = ends_as machine after Play number n is held called in
      let kept = right.timer_kept (begun machine 0x1003 number) in
      record {
        low = ap (λ (at : ℕ → ℕ). at timer_low) e ∙ kept.0 ∙ entry_kept machine timer_low is.size (lit≤ tt);
        high = ap (λ (at : ℕ → ℕ). at timer_high) e ∙ kept.1 ∙ entry_kept machine timer_high is.size (lit≤ tt);
      }

  -- ---- calls in any order

  agreed : (before machine : Machine) → Holds before.memory 0x1000 image → AgreesOn image 0x1000 before machine →
      Holds machine.memory 0x1000 image
  agreed before machine held agrees = record { byte = λ k few. agrees.same k few ∙ held.byte k few }

  led_holds : (earlier : List ImageCall) (last : Machine) → LeadTo image 0x1000 song earlier last →
      Holds last.memory 0x1000 image
  led_holds [] last led = led.1
  led_holds (call ∷ earlier) last led =
      holds_on led.machine last call led.number led.steps led.is
      (agreed led.before led.machine (led_holds earlier led.before led.stood) led.agrees) led.called

  -- the last init was of a playable subtune
  last_subtune : (earlier : List ImageCall) (last : Machine) (k n : ℕ) → LeadTo image 0x1000 song earlier last →
      since_init earlier ≡ Some (k, n) → k < length (playable_subtunes song)
  last_subtune [] last k n led e = absurd (cc)
  last_subtune (Init j ∷ earlier) last k n led e =
      subst (λ i. i < length (playable_subtunes song)) (some_first j 0 k n e) led.made.0
  last_subtune (Play ∷ earlier) last k n led e =
      played_few (length (playable_subtunes song)) (since_init earlier) k n e
      (λ m e'. last_subtune earlier led.before k m led.stood e')

  trace_is : (call : ImageCall) (earlier : List ImageCall) (before : Machine) (number k n : ℕ) →
      LeadTo image 0x1000 song earlier before → IsMade song call number →
      since_init (call ∷ earlier) ≡ Some (k, n) → registers_of call ≡ trace_with o song k n
  trace_is (Init j) earlier before number k n led made e = ap (λ i. trace_with o song k i) (some_second j 0 k n e)
  trace_is Play earlier before number k n led made e =
      played_trace o song right.frames (since_init earlier) k n e (λ m e'. last_subtune earlier before k m led e')

  pub plays_always : PlaysAlways image 0x1000 0xFC song o
  plays_always = record {
    serves = λ earlier call before machine number led is agrees made.
        let held = agreed before machine (led_holds earlier before led) agrees in
        let c = calls machine call number is held in
        let n = call_steps machine (entry_of 0x1000 call) number (ops_of init play call) in
        record {
          steps = n;
          within = few_steps call n (call_takes machine call number);
          after = c.after;
          called = c.called;
          confined = record {
            same = λ q within not_own.
                stays machine c.after call number n q is held c.called
                (λ port. not_own (port_own o (length image) ((machine.cpu.sp + 254) % 256) q port));
          };
          stores = c.inside;
          timer = minds machine c.after call number n is held c.called;
          registers = λ k i since.
              registers_are machine c.after call number n is held c.called
              ∙ trace_is call earlier before number k i led made since;
        };
  }

  pub stands_alone : IsIsolated image 0x1000 song
  stands_alone = record {
    alike = λ earlier call before one two number other led since is agrees made is' agrees' made' n after called n' after' called'.
        let begins = led_holds earlier before led in
        let held = agreed before one begins agrees in
        let held' = agreed before two begins agrees' in
        let c = calls one call number is held in
        let c' = calls two call other is' held' in
        record {
          same_duration =
              took_so one call number n after is held called ∙ sym (took_so two call other n' after' is' held' called');
          same_registers =
              registers_are one after call number n is held called
              ∙ sym (registers_are two after' call other n' is' held' called');
          same_image = record {
            same = λ k few.
                (holds_on two after' call other n' is' held' called').byte k few
                ∙ sym ((holds_on one after call number n is held called).byte k few);
          };
        };
  }
