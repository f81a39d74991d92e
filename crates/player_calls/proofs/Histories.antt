-- A player serves any call after any calls.
use Rattle.std.proofs.Common.{◌≡◌, ℕ, suc, ◌+◌, ◌-◌, ◌<◌, ◌≤◌, List, [], ◌∷◌, length}
use Rattle.std.proofs.Common.{Option, Some, None}
use Rattle.std.proofs.Common.{Result, Ok, sym, ap, ◌∙◌, subst, arith}
use Rattle.std.specs.Prelude.{slice_index}
use Rattle.std.specs.Option.{option_map}
use Rattle.song_model.specs.declared.songs.Song.{Song}
use Rattle.song_model.specs.LookUp.{playable_subtunes}
use Rattle.play_model.specs.declared.options.Options.{Options}
use Rattle.packed_form.specs.declared.packed_songs.PackedSong.{PackedSong}
use Rattle.packed_form.specs.Unpacked.{packed_state}
use Rattle.cpu6502.specs.declared.machine.Machine.{Machine}
use Rattle.cpu6502.specs.declared.stop.Stop.{Stop}
use Rattle.cpu6502.specs.Call.{run, entered, Called}
use Rattle.cpu6502.specs.Code.{IsMachine, Holds as HoldsBytes}
use Rattle.cpu6502.proofs.Laws.{called_once}
use Rattle.faithful.specs.Faithful.{AgreesOn}
use Rattle.faithful.specs.Histories.{ImageCall, Init, Play, LeadTo, since_init}
use Rattle.scope_calls.specs.EntranceLaws.{Returns, AgreeOnListing}
use Rattle.scope_calls.proofs.Laws.{code_is_shared}
use Rattle.player_memory.specs.Holds.{held}
use Rattle.player_code.specs.Plans.{Plan, plan_size, play_listed, init_listed}
use Rattle.player_code.proofs.Laws.{listed_ends}
use Rattle.player_calls.specs.Players.{IsPlayer}
use Rattle.player_calls.proofs.Places.{well_entered}
use Rattle.player_calls.proofs.Plays.{Ready, read_from, read_low, play_plays, play_returns, play_ready}
use Rattle.player_calls.proofs.Begins.{init_begins, init_returns, init_ready}
use Rattle.player_calls.proofs.Loaded.{loaded_ready, some_subtunes, plays_at}
use Rattle.player_calls.proofs.Spared.{moved}

-- ---- machines that agree

-- at each place of the image
pub agrees_at : {packed : PackedSong} {song : Song} {o : Options} {bytes : List ℕ} (plan : Plan) →
    IsPlayer plan packed song o bytes → (before machine : Machine) → AgreesOn bytes plan.origin before machine →
    (place : ℕ) → plan.origin ≤ place → place < plan.origin + plan_size plan →
    slice_index machine.memory place ≡ slice_index before.memory place
agrees_at plan p before machine agrees place from to =
    let size = p.size in
    subst (λ q. slice_index machine.memory q ≡ slice_index before.memory q) (omega (arith, from))
    (agrees.same (place - plan.origin) (omega (arith, from, to, size)))

pub play_agrees : {packed : PackedSong} {song : Song} {o : Options} {bytes : List ℕ} (plan : Plan) →
    IsPlayer plan packed song o bytes → (before machine : Machine) → AgreesOn bytes plan.origin before machine →
    AgreeOnListing (play_listed plan) before machine
play_agrees plan p before machine agrees = record {
  at = λ place is.
      let end = (listed_ends plan p.is).0 in
      sym (agrees_at plan p before machine agrees place (is.0) (omega (arith, is, end)));
}

pub init_agrees : {packed : PackedSong} {song : Song} {o : Options} {bytes : List ℕ} (plan : Plan) →
    IsPlayer plan packed song o bytes → (before machine : Machine) → AgreesOn bytes plan.origin before machine →
    AgreeOnListing (init_listed plan) before machine
init_agrees plan p before machine agrees = record {
  at = λ place is.
      let end = (listed_ends plan p.is).1 in
      sym (agrees_at plan p before machine agrees place (is.0) (omega (arith, is, end)));
}

-- a player goes on in each of them
ready_moved : {packed : PackedSong} {song : Song} {o : Options} {bytes : List ℕ} (plan : Plan) →
    IsPlayer plan packed song o bytes → (k i : ℕ) (before machine : Machine) →
    AgreesOn bytes plan.origin before machine →
    Ready plan packed k (packed_state packed k o i) (slice_index before.memory) →
    Ready plan packed k (packed_state packed k o i) (slice_index machine.memory)
ready_moved {packed = packed} {o = o} plan p k i before machine agrees ready =
    let well = well_entered plan p in record {
      play_code = code_is_shared (play_listed plan) before machine well.play (play_agrees plan p before machine agrees)
          ready.play_code;
      init_code = code_is_shared (init_listed plan) before machine well.init (init_agrees plan p before machine agrees)
          ready.init_code;
      holds = λ which.
          moved plan p k (held plan.holds (packed_state packed k o i)) (slice_index before.memory)
          (slice_index machine.memory) which
          (λ place may.
          agrees_at plan p before machine agrees place (read_from plan p place may) (read_low plan p place may))
          (ready.holds which);
    }

-- ---- where calls have led

-- the subtune and how many plays it has had: that of the last init, or the first one from the image as it is built
pub record Spot : Type 0 where
  pub subtune : ℕ
  pub plays : ℕ

unfoldable pub spot_after : List ImageCall → Spot
spot_after [] = record { subtune = 0; plays = 0 }
spot_after (Init k ∷ earlier) = record { subtune = k; plays = 0 }
spot_after (Play ∷ earlier) = record { subtune = (spot_after earlier).subtune; plays = suc (spot_after earlier).plays }

-- from the first init on it is that of the last one
pub record IsSpot (calls : List ImageCall) (k n : ℕ) : Type 0 where
  pub subtune : (spot_after calls).subtune ≡ k
  pub plays : (spot_after calls).plays ≡ n

subtune_in : Option (ℕ × ℕ) → ℕ
subtune_in None = 0
subtune_in (Some last) = last.0

plays_in : Option (ℕ × ℕ) → ℕ
plays_in None = 0
plays_in (Some last) = last.1

one_more : (z : Option (ℕ × ℕ)) (k n : ℕ) →
    option_map {U = ℕ × ℕ} (λ (last : ℕ × ℕ). (last.0, suc last.1)) z ≡ Some (k, n) →
    (m : ℕ) × (z ≡ Some (k, m)) × (suc m ≡ n)
unfolding subtune_in plays_in
one_more None k n e = absurd cc
one_more (Some (a, b)) k n e =
    let first : a ≡ k = ap subtune_in e in
    let second : suc b ≡ n = ap plays_in e in
    (b, ap (λ (c : ℕ). let last : Option (ℕ × ℕ) = Some (c, b) in last) first, second)

pub spot_is : (calls : List ImageCall) (k n : ℕ) → since_init calls ≡ Some (k, n) → IsSpot calls k n
unfolding spot_after subtune_in plays_in
spot_is [] k n e = absurd cc
spot_is (Init j ∷ earlier) k n e = record { subtune = ap subtune_in e; plays = ap plays_in e }
spot_is (Play ∷ earlier) k n e =
    let more = one_more (since_init earlier) k n e in
    let before = spot_is earlier k more.0 more.1 in
    record { subtune = before.subtune; plays = ap suc before.plays ∙ more.2 }

-- ---- one end

machine_in : Machine → Result Machine Stop → Machine
machine_in machine (Ok after) = after
machine_in machine _ = machine

-- a call that returns returns in one machine
pub same_after : (machine : Machine) (entry number n m : ℕ) (after other : Machine) →
    Called machine entry number n after → Called machine entry number m other → after ≡ other
unfolding machine_in
same_after machine entry number n m after other one two =
    let steps : n ≡ m = called_once machine entry number n m after other one two in
    ap (machine_in machine)
    (sym one.runs ∙ ap (λ (k : ℕ). run k (entered machine entry number)) steps ∙ two.runs)

-- ---- what stands after any calls

-- the subtune is there, and the memory holds its state
pub record Stand (plan : Plan) (packed : PackedSong) (o : Options) (calls : List ImageCall) (last : Machine) : Type 0
  where
    pub below : (spot_after calls).subtune < length packed.subtunes
    pub ready : Ready plan packed (spot_after calls).subtune
        (packed_state packed (spot_after calls).subtune o (spot_after calls).plays) (slice_index last.memory)

-- it does in each machine that agrees
pub stand_moved : {packed : PackedSong} {song : Song} {o : Options} {bytes : List ℕ} (plan : Plan) →
    IsPlayer plan packed song o bytes → (calls : List ImageCall) (before machine : Machine) →
    AgreesOn bytes plan.origin before machine → Stand plan packed o calls before → Stand plan packed o calls machine
stand_moved plan p calls before machine agrees stand = record {
  below = stand.below;
  ready = ready_moved plan p (spot_after calls).subtune (spot_after calls).plays before machine agrees stand.ready;
}

-- behind a play
play_stands_on : {packed : PackedSong} {song : Song} {o : Options} {bytes : List ℕ} (plan : Plan) →
    IsPlayer plan packed song o bytes → (calls : List ImageCall) (machine : Machine) (number : ℕ) → IsMachine machine →
    Stand plan packed o calls machine → (r : Returns (play_listed plan) machine number) →
    Stand plan packed o (Play ∷ calls) r.after
unfolding spot_after
play_stands_on plan p calls machine number is stand r = record {
  below = stand.below;
  ready = play_ready plan p (spot_after calls).subtune (spot_after calls).plays machine number stand.ready
      (play_plays plan p (spot_after calls).subtune (spot_after calls).plays machine number is stand.below stand.ready) r;
}

-- behind an init
init_stands_on : {packed : PackedSong} {song : Song} {o : Options} {bytes : List ℕ} (plan : Plan) →
    IsPlayer plan packed song o bytes → (calls : List ImageCall) (k : ℕ) (machine : Machine) → IsMachine machine →
    k < length packed.subtunes → Stand plan packed o calls machine → (r : Returns (init_listed plan) machine k) →
    Stand plan packed o (Init k ∷ calls) r.after
unfolding spot_after
init_stands_on plan p calls k machine is few stand r = record {
  below = few;
  ready = init_ready plan p k machine stand.ready.play_code stand.ready.init_code
      (init_begins plan p k machine is few (plays_at plan p k few) _ _ stand.below stand.ready.holds) r;
}

-- the image as it is loaded
loaded_stands : {packed : PackedSong} {song : Song} {o : Options} {bytes : List ℕ} (plan : Plan) →
    IsPlayer plan packed song o bytes → (machine : Machine) → HoldsBytes machine.memory plan.origin bytes →
    Stand plan packed o [] machine
unfolding spot_after
loaded_stands plan p machine holds = record { below = some_subtunes plan p; ready = loaded_ready plan p machine holds }

pub subtune_few : {packed : PackedSong} {song : Song} {o : Options} {bytes : List ℕ} (plan : Plan) →
    IsPlayer plan packed song o bytes → (k : ℕ) → k < length (playable_subtunes song) → k < length packed.subtunes
subtune_few plan p k h = subst (λ n. k < n) (sym p.stands.subtunes) h

pub stand_after : {packed : PackedSong} {song : Song} {o : Options} {bytes : List ℕ} (plan : Plan) →
    IsPlayer plan packed song o bytes → (calls : List ImageCall) (last : Machine) →
    LeadTo bytes plan.origin song calls last → Stand plan packed o calls last
stand_after plan p [] last led = loaded_stands plan p last led.1
stand_after {packed = packed} {o = o} plan p (Play ∷ earlier) last led =
    let stand = stand_moved plan p earlier led.before led.machine led.agrees
    (stand_after plan p earlier led.before led.stood) in
    let r = play_returns plan p (spot_after earlier).subtune (spot_after earlier).plays led.machine led.number led.is
    stand.below stand.ready in
    subst (Stand plan packed o (Play ∷ earlier))
    (same_after led.machine (plan.origin + 3) led.number _ _ r.after last r.called led.called)
    (play_stands_on plan p earlier led.machine led.number led.is stand r)
stand_after {packed = packed} {o = o} plan p (Init k ∷ earlier) last led =
    let machine : Machine = led.machine in
    let stand = stand_moved plan p earlier led.before machine led.agrees
    (stand_after plan p earlier led.before led.stood) in
    let few = subtune_few plan p k led.made.0 in
    let r = init_returns plan p k machine led.is stand.ready.init_code
    (init_begins plan p k machine led.is few (plays_at plan p k few) _ _ stand.below stand.ready.holds) in
    let here : Called machine plan.origin k led.steps last =
    subst (λ n. Called machine plan.origin n led.steps last) led.made.1 led.called in
    subst (Stand plan packed o (Init k ∷ earlier)) (same_after machine plan.origin k _ _ r.after last r.called here)
    (init_stands_on plan p earlier k machine led.is few stand r)
