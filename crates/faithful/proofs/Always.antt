-- An image that plays after any calls is faithful.
use Rattle.std.proofs.Common.{◌≡◌, ℕ, zero, suc, ◌+◌, ◌%◌, ◌<◌, List, [], ◌∷◌, Some, refl}
use Rattle.std.proofs.Common.{arith, inl, inr}
use Rattle.song_model.specs.declared.songs.Song.{Song}
use Rattle.play_model.specs.declared.options.Options.{Options}
use Rattle.play_model.specs.Frame.{trace_with}
use Rattle.cpu6502.specs.declared.machine.Machine.{Machine}
use Rattle.cpu6502.specs.Call.{Called}
use Rattle.cpu6502.specs.Code.{IsMachine}
use Rattle.faithful.specs.Confined.{IsOwnPlace}
use Rattle.faithful.specs.Faithful.{Leaves, AgreesOn, PlaysOn}
use Rattle.faithful.specs.Histories.{ImageCall, Init, Play, entry_of, IsMade, CallLedTo, LeadTo, since_init, Serves, PlaysAlways}
use Rattle.faithful.specs.Laws.{AlwaysIsFaithful, OwnPlacesAreFew}

-- a call that serves leaves the registers
leaves : {image : List ℕ} {address zero_page : ℕ} {song : Song} {o : Options} (earlier : List ImageCall)
    (call : ImageCall) (machine : Machine) (number k n : ℕ) →
    since_init (call ∷ earlier) ≡ Some (k, n) →
    (s : Serves image address zero_page song o earlier call machine number) →
    Leaves image address zero_page o machine (entry_of address call) number (trace_with o song k n) s.after
leaves earlier call machine number k n last s = record {
  steps = s.steps;
  within = (let w = s.within in omega (arith, w));
  called = s.called;
  confined = s.confined;
  registers_are = s.registers k n last;
}

pub led_by : {image : List ℕ} {address : ℕ} {song : Song} {call : ImageCall} {StoodBefore : Machine → Type 0}
    (before machine : Machine) (number steps : ℕ) (last : Machine) → StoodBefore before → IsMachine machine →
    AgreesOn image address before machine → IsMade song call number →
    Called machine (entry_of address call) number steps last →
    CallLedTo image address song call StoodBefore last
led_by before machine number steps last stood is agrees made called = record {
  before = before;
  stood = stood;
  machine = machine;
  number = number;
  steps = steps;
  is = is;
  agrees = agrees;
  made = made;
  called = called;
}

-- after an init and so many plays the next plays
plays_on : (image : List ℕ) (address zero_page : ℕ) (song : Song) (o : Options) (k : ℕ) (earlier : List ImageCall)
    (i : ℕ) → PlaysAlways image address zero_page song o → since_init earlier ≡ Some (k, i) → (n : ℕ)
    (before : Machine) → LeadTo image address song earlier before →
    PlaysOn image address zero_page song o k (suc i) n before
plays_on image address zero_page song o k earlier i always last zero before led = tt
plays_on image address zero_page song o k earlier i always last (suc n) before led =
    λ machine number is below agrees.
    let s = always.serves earlier Play before machine number led is agrees below in
    let next : since_init (Play ∷ earlier) ≡ Some (k, suc i) = rw last refl in
    record {
      after = s.after;
      leaves = leaves earlier Play machine number k (suc i) next s;
      timer = s.timer;
      goes_on = plays_on image address zero_page song o k (Play ∷ earlier) (suc i) always next n s.after
          (led_by before machine number s.steps s.after led is agrees below s.called);
    }

pub always_is_faithful : AlwaysIsFaithful
always_is_faithful image address zero_page song o always = record {
  plays = λ k n machine few is holds.
      let same : AgreesOn image address machine machine = record { same = λ j h. refl } in
      let s = always.serves [] (Init k) machine machine k (is, holds) is same (few, refl) in
      record {
        after = s.after;
        leaves = leaves [] (Init k) machine k k 0 refl s;
        timer = s.timer;
        goes_on = plays_on image address zero_page song o k (Init k ∷ []) 0 always refl n s.after
            (led_by machine machine k s.steps s.after (is, holds) is same (few, refl) s.called);
      };
}

-- a place of a page above another
rest_small : (n : ℕ) → 256 + n % 256 < 512
rest_small n = omega arith

pub own_places_are_few : OwnPlacesAreFew
own_places_are_few size address zero_page o sp place z (IsOwnPlace.in_image from to) = inl (from, to)
own_places_are_few size address zero_page o sp place z (IsOwnPlace.low_pointer e) = inr (inl (omega (arith, z, e)))
own_places_are_few size address zero_page o sp place z (IsOwnPlace.high_pointer e) = inr (inl (omega (arith, z, e)))
own_places_are_few size address zero_page o sp place z (IsOwnPlace.on_stack below few e) =
    inr (inl (rw e (rest_small _)))
own_places_are_few size address zero_page o sp place z (IsOwnPlace.in_sid from to) = inr (inr (inl (from, to)))
own_places_are_few size address zero_page o sp place z (IsOwnPlace.in_timer fast e) = inr (inr (inr e))
