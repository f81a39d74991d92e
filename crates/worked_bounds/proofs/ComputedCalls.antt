-- Calls of small images that are computed.
use Rattle.std.specs.Prelude.{◌&&◌, nat_eq, nat_lt}
use Rattle.std.proofs.Common.{◌≡◌, ℕ, zero, suc, ◌+◌, ◌<◌, ◌≤◌, Bool, true, false, List, [], ◌∷◌}
use Rattle.std.proofs.Common.{length, All, Result, Ok, Err, refl, subst, arith}
use Rattle.std.proofs.lemmas.Bool.Decides.{nat_tests}
use Rattle.std.proofs.lemmas.List.Elements.{All-nil, All-cons}
use Rattle.song_model.specs.declared.songs.Song.{Song}
use Rattle.song_model.specs.Silence.{silence}
use Rattle.cpu6502.specs.declared.machine.Machine.{Machine}
use Rattle.cpu6502.specs.declared.memory.TheConstants.{MEMORY_SIZE}
use Rattle.cpu6502.specs.declared.stop.Stop.{Stop}
use Rattle.cpu6502.specs.Step.{step}
use Rattle.cpu6502.specs.Call.{after_step, run, entered, HasReturned, Called, call_cycles}
use Rattle.cpu6502.specs.Code.{IsMachine}
use Rattle.cpu6502.proofs.Laws.{call_keeps}
use Rattle.psid.specs.declared.header.Psid.{Psid}
use Rattle.sid_run.proofs.Laws.{image_stands, loaded_is_machine}
use Rattle.faithful.specs.Faithful.{AgreesOn}
use Rattle.faithful.specs.Histories.{ImageCall, Init, Play, entry_of, IsMade, LeadTo}
use Rattle.faithful.specs.Routines.{Op, image_of}
use Rattle.faithful.specs.WorkedMachines.{machine_with}
use Rattle.cycle_bound.specs.Rules.{bound_by}
use Rattle.cycle_bound.specs.EntranceRules.{around_cycles}
use Rattle.player_bound.specs.BoundLaws.{AdmitsOf, bound_of}
use Rattle.worked_bounds.specs.WorkedBounds.{Keeps, few_blocks, KeepsFew}

and_true : {a b : Bool} → (a && b) ≡ true → (a ≡ true) × (b ≡ true)
and_true {a = true} h = (refl, h)
and_true {a = false} h = absurd (cc)

below : (a b : ℕ) → nat_lt a b ≡ true → a < b
below a b h = grind (arith, nat_tests)

same : (a b : ℕ) → nat_eq a b ≡ true → a ≡ b
same a b h = grind (arith, nat_tests)

-- ---- a call that returns

-- the machine after a run, and this one after a stop
abbrev pub after_of : Machine → Result Machine Stop → Machine
after_of start (Ok machine) = machine
after_of start (Err stop) = start

-- after n more steps it is back, with the stack pointer of the first machine, and not before
abbrev pub comes_back : Machine → ℕ → Result Machine Stop → Bool
comes_back start n (Err stop) = false
comes_back start zero (Ok machine) = nat_eq machine.cpu.pc 0 && nat_eq machine.cpu.sp start.cpu.sp
comes_back start (suc n) (Ok machine) = nat_lt 0 machine.cpu.pc && comes_back start n (step machine)

record ComesBack (start : Machine) (n : ℕ) (r : Result Machine Stop) : Type 0 where
  runs : after_step r (run n) ≡ Ok (after_of start (after_step r (run n)))
  returned : HasReturned start (after_of start (after_step r (run n)))
  away : (k : ℕ) (between : Machine) → k < n → after_step r (run k) ≡ Ok between → 0 < between.cpu.pc

back_so : (start : Machine) (n : ℕ) (r : Result Machine Stop) → comes_back start n r ≡ true → ComesBack start n r
back_so start zero (Err stop) h = absurd (cc)
back_so start (suc n) (Err stop) h = absurd (cc)
back_so start zero (Ok machine) h =
    let both = and_true h in
    record {
      runs = refl;
      returned = record {
        at_zero = same machine.cpu.pc 0 both.0;
        same_stack = same machine.cpu.sp start.cpu.sp both.1;
      };
      away = λ k between few e. absurd (omega (arith, few));
    }
back_so start (suc n) (Ok machine) h =
    let both = and_true h in
    let rest = back_so start n (step machine) both.1 in
    record { runs = rest.runs; returned = rest.returned; away = away both.0 rest }
  where
    away : nat_lt 0 machine.cpu.pc ≡ true → ComesBack start n (step machine) → (k : ℕ) (between : Machine) → k < suc n →
        after_step (Ok machine) (run k) ≡ Ok between → 0 < between.cpu.pc
    away h rest zero between few e =
        let there : machine ≡ between = cc in
        subst (λ (m : Machine). 0 < m.cpu.pc) there (below 0 machine.cpu.pc h)
    away h rest (suc k) between few e = rest.away k between (omega (arith, few)) e

abbrev pub after_call : Machine → ℕ → ℕ → ℕ → Machine
after_call machine entry number steps = after_of machine (run steps (entered machine entry number))

pub called : (machine : Machine) (entry number steps : ℕ) →
    comes_back machine steps (Ok (entered machine entry number)) ≡ true →
    Called machine entry number steps (after_call machine entry number steps)
called machine entry number steps h =
    let b = back_so machine steps (Ok (entered machine entry number)) h in
    record {
      runs = b.runs;
      returned = b.returned;
      first = record { out = λ k between few e back. not_zero between.cpu.pc (b.away k between few e) back.at_zero };
    }
  where
    not_zero : (pc : ℕ) → 0 < pc → pc ≡ 0 → ⊥
    not_zero pc away e = omega (arith, away, e)

-- ---- an image that is loaded into zeros

abbrev pub are_bytes : List ℕ → Bool
are_bytes [] = true
are_bytes (byte ∷ bytes) = nat_lt byte 256 && are_bytes bytes

bytes_lem : (bytes : List ℕ) → are_bytes bytes ≡ true → All (λ byte. byte < 256) bytes
bytes_lem [] h = All-nil (λ b. b < 256)
bytes_lem (byte ∷ bytes) h =
    let both = and_true h in
    All-cons (λ b. b < 256) byte bytes (below byte 256 both.0) (bytes_lem bytes both.1)

abbrev file : List ℕ → Psid
file image = record {
  header = record {
    init = 0;
    play = 0;
    songs = 1;
    start_song = 1;
    speed = 0;
    name = [];
    author = [];
    released = [];
    flags = 0;
  };
  load = 0x1000;
  image = image;
}

-- ---- calls, the last of them first, that lead to a machine

pub record AreLed (init play : List Op) (song : Song) (calls : List ImageCall) (last : Machine) : Type 0 where
  pub is : IsMachine last
  pub led : LeadTo (image_of init play) 0x1000 song calls last

pub none_led : (init play : List Op) (song : Song) → nat_lt (0x1000 + length (image_of init play)) 65536 ≡ true →
    are_bytes (image_of init play) ≡ true → AreLed init play song [] (machine_with (image_of init play))
none_led init play song room bytes =
    let few : 0x1000 + length (image_of init play) ≤ 65536 = omega (arith, below _ 65536 room) in
    let is = loaded_is_machine (file (image_of init play)) few (bytes_lem (image_of init play) bytes) in
    record { is = is; led = (is, image_stands (file (image_of init play)) few) }

entry_small : (call : ImageCall) → entry_of 0x1000 call < MEMORY_SIZE
entry_small (Init k) = omega arith
entry_small Play = omega arith

pub one_more : {init play : List Op} {song : Song} {calls : List ImageCall} {last : Machine} →
    AreLed init play song calls last → (call : ImageCall) (number steps : ℕ) → IsMade song call number → number < 256 →
    comes_back last steps (Ok (entered last (entry_of 0x1000 call) number)) ≡ true →
    AreLed init play song (call ∷ calls) (after_call last (entry_of 0x1000 call) number steps)
one_more {last = last} a call number steps made small back =
    let c = called last (entry_of 0x1000 call) number steps back in
    record {
      is = call_keeps last (after_call last (entry_of 0x1000 call) number steps) (entry_of 0x1000 call) number steps a.is
          (entry_small call) small c;
      led = record {
        before = last;
        stood = a.led;
        machine = last;
        number = number;
        steps = steps;
        is = a.is;
        agrees = record { same = λ k few. refl };
        made = made;
        called = c;
      };
    }

-- ---- a call that takes too long

pub too_long : (taken most : ℕ) → taken ≤ most → nat_lt most taken ≡ true → ⊥
too_long taken most within more = (let longer = below most taken more in omega (arith, within, longer))

pub denied : {init play : List Op} {song : Song} {calls : List ImageCall} {before : Machine} →
    AreLed init play song calls before → (of_init of_play : ℕ) → Keeps init play song of_init of_play →
    (machine : Machine) → IsMachine machine → AgreesOn (image_of init play) 0x1000 before machine →
    (call : ImageCall) (number steps : ℕ) → IsMade song call number →
    comes_back machine steps (Ok (entered machine (entry_of 0x1000 call) number)) ≡ true →
    nat_lt (bound_of (record { init = of_init; play = of_play }) call + around_cycles)
    (call_cycles machine (entry_of 0x1000 call) number steps)
    ≡ true →
    ⊥
denied {calls = calls} {before = before} a of_init of_play keeps machine is agrees call number steps made back more =
    too_long (call_cycles machine (entry_of 0x1000 call) number steps)
    (bound_of (record { init = of_init; play = of_play }) call + around_cycles)
    (keeps calls call before machine number steps (after_call machine (entry_of 0x1000 call) number steps) a.led is agrees
    made (called machine (entry_of 0x1000 call) number steps back)) more

-- and one that begins in the machine that the call before left
pub denied_there : {init play : List Op} {song : Song} {calls : List ImageCall} {before : Machine} →
    AreLed init play song calls before → (of_init of_play : ℕ) → Keeps init play song of_init of_play →
    (call : ImageCall) (number steps : ℕ) → IsMade song call number →
    comes_back before steps (Ok (entered before (entry_of 0x1000 call) number)) ≡ true →
    nat_lt (bound_of (record { init = of_init; play = of_play }) call + around_cycles)
    (call_cycles before (entry_of 0x1000 call) number steps)
    ≡ true →
    ⊥
denied_there {before = before} a of_init of_play keeps call number steps made back more =
    denied a of_init of_play keeps before a.is (record { same = λ k few. refl }) call number steps made back more

-- and the first call, where numbers are admitted
pub denied_first : {init play : List Op} {before : Machine} → AreLed init play silence [] before → KeepsFew init play →
    (call : ImageCall) (number steps : ℕ) → IsMade silence call number →
    comes_back before steps (Ok (entered before (entry_of 0x1000 call) number)) ≡ true →
    (numbers : List ℕ) → AdmitsOf few_blocks call numbers →
    nat_lt (bound_by numbers + around_cycles) (call_cycles before (entry_of 0x1000 call) number steps) ≡ true → ⊥
denied_first {before = before} a keeps call number steps made back numbers admitted more =
    too_long (call_cycles before (entry_of 0x1000 call) number steps) (bound_by numbers + around_cycles)
    (keeps [] call before before number steps (after_call before (entry_of 0x1000 call) number steps) a.led a.is
    (record { same = λ k few. refl }) made (called before (entry_of 0x1000 call) number steps back) numbers admitted) more
