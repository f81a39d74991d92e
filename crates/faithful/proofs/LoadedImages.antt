-- Small images that are loaded into zeros, and what is denied of them: an image with a wrong register, or a byte at
-- another's place, plays no song.
use Rattle.std.proofs.Common.{◌≡◌, ◌≢◌, ℕ, ◌+◌, ◌<◌, ◌≤◌, ◌⊎◌, inl, Bool, true, false}
use Rattle.std.proofs.Common.{◌&&◌, ◌||◌, nat_eq, nat_lt, nat_le, List, [], ◌∷◌, ◌++◌, length}
use Rattle.std.proofs.Common.{replicate, slice_index, lit<, refl, sym, ap, ◌∙◌, subst, arith}
use Rattle.std.proofs.lemmas.Bool.Decides.{nat_tests}
use Rattle.song_model.specs.declared.songs.Song.{Song}
use Rattle.song_model.specs.LookUp.{playable_subtunes}
use Rattle.song_model.specs.Silence.{silence}
use Rattle.play_model.specs.declared.options.Options.{Options}
use Rattle.play_model.specs.State.{no_options}
use Rattle.play_model.specs.Frame.{trace_with}
use Rattle.cpu6502.specs.declared.machine.Machine.{Machine}
use Rattle.cpu6502.specs.declared.memory.TheConstants.{MEMORY_SIZE}
use Rattle.cpu6502.specs.Code.{IsMachine, Holds}
use Rattle.cpu6502.specs.Call.{Called}
use Rattle.code_runs.specs.Runs.{State}
use Rattle.code_runs.specs.Calls.{CallsTo}
use Rattle.code_runs.proofs.Laws.{entry_kept}
use Rattle.sid_run.specs.State.{sid_registers}
use Rattle.faithful.specs.Faithful.{Leaves, AgreesOn, LeavesAndGoesOn}
use Rattle.faithful.specs.Histories.{ImageCall, Init, Play, entry_of}
use Rattle.faithful.specs.Isolation.{duration, EndAlike, IsIsolated}
use Rattle.faithful.specs.Timers.{SetsTimer, KeepsTimer}
use Rattle.faithful.specs.Routines.{Op, image_of}
use Rattle.faithful.specs.WorkedMachines.{machine_with}
use Rattle.faithful.specs.WorkedImages.{Plays}
use Rattle.faithful.proofs.FreeCalls.{first_plays_are_free, inits_end_alike, plays_end_alike}
use Rattle.faithful.proofs.LoadedCalls.{and_true, are_bytes, is_machine, holds, one_end}
use Rattle.faithful.proofs.Routines.{all_done, IsSafe, begun, ended, call_steps, others_stay}
use Rattle.faithful.proofs.RightImages.{le_is}
use Rattle.faithful.proofs.SilentFrames.{silent_trace}
use Rattle.faithful.proofs.SmallImages.{Fits, ops_of, stores_pass, each_store, small_call}
use Rattle.faithful.proofs.WorkedPlaces.{is_own, not_own}

-- its places but the return address of such a machine and the routines, and those of them that aren't the image's
abbrev pub is_free : ℕ → Bool
is_free place =
    nat_lt place 0x01FE || (nat_le 0x0200 place && nat_lt place 0x1006)
    || (nat_le 0x2000 place && nat_lt place 0x10000)

abbrev pub is_outside : ℕ → Bool
is_outside place = nat_lt place 0x1000 || nat_le 0x2000 place

abbrev pub Below : ℕ → Type 0
Below place = place < MEMORY_SIZE

free_safe : (place : ℕ) → is_free place ≡ true → IsSafe Below 0xFF place
free_safe place h = record { may = may place h; apart = apart place h; first = first place h; second = second place h }
  where
    may : (place : ℕ) → is_free place ≡ true → place < 0x10000
    may place h = grind (arith, nat_tests)

    apart : (place : ℕ) → is_free place ≡ true → (place < 0x1006) ⊎ (0x2000 ≤ place)
    apart place h = grind (arith, nat_tests)

    first : (place : ℕ) → is_free place ≡ true → place ≢ 0x01FF
    first place h e = grind (arith, nat_tests)

    second : (place : ℕ) → is_free place ≡ true → place ≢ 0x01FE
    second place h e = grind (arith, nat_tests)

outside_no : (place : ℕ) → is_outside place ≡ true → 0x1000 ≤ place → place < 0x2000 → ⊥
outside_no place h from below = grind (arith, nat_tests)

-- what is asked of an image: that it fits, and that its routines store at such places
record IsSmall (init play : List Op) : Type 0 where
  fits : Fits init play
  init_free : stores_pass is_free init ≡ true
  play_free : stores_pass is_free play ≡ true

-- and a test of it
abbrev pub passes : List Op → List Op → Bool
passes init play =
    nat_le (0x1000 + length (image_of init play)) 0x2000
    && (are_bytes (image_of init play) && (stores_pass is_free init && stores_pass is_free play))

is_small : (init play : List Op) → passes init play ≡ true → IsSmall init play
is_small init play h =
    let one = and_true {a = nat_le (0x1000 + length (image_of init play)) 0x2000} h in
    let two = and_true {a = are_bytes (image_of init play)} one.1 in
    let three = and_true {a = stores_pass is_free init} two.1 in
    record {
      fits = record { room = le_is (0x1000 + length (image_of init play)) 0x2000 one.0; bytes = two.0 };
      init_free = three.0;
      play_free = three.1;
    }

wider : (n : ℕ) → n ≤ 0x2000 → n ≤ 65536
wider n few = omega (arith, few)

-- numbers that differ
pub unequal : (a b : ℕ) → nat_eq a b ≡ false → a ≡ b → ⊥
unequal a b differs e = grind (arith, nat_tests)

-- two routines whose image passes
module _ (init play : List Op) (passed : passes init play ≡ true) where
  abbrev pub image : List ℕ
  image = image_of init play

  abbrev pub zeros : Machine
  zeros = machine_with image

  small : IsSmall init play
  small = is_small init play passed

  pub zeros_is : IsMachine zeros
  zeros_is = is_machine image (wider _ small.fits.room) small.fits.bytes

  pub zeros_hold : Holds zeros.memory 0x1000 image
  zeros_hold = holds image (wider _ small.fits.room)

  free : (call : ImageCall) → stores_pass is_free (ops_of init play call) ≡ true
  free (Init k) = small.init_free
  free Play = small.play_free

  -- a call from a machine that holds it, with the stack pointer of zeros
  pub ran : (machine : Machine) (call : ImageCall) (number : ℕ) → IsMachine machine → Holds machine.memory 0x1000 image →
      machine.cpu.sp ≡ 0xFF →
      CallsTo Below machine (entry_of 0x1000 call) number
      (call_steps machine (entry_of 0x1000 call) number (ops_of init play call))
      (ended machine (entry_of 0x1000 call) number (ops_of init play call))
  ran machine call number is held sp =
      small_call Below (record { below = λ q lt. lt }) init play small.fits machine call number is held
      (each_store (IsSafe Below machine.cpu.sp) is_free
      (λ place h. subst (λ (p : ℕ). IsSafe Below p place) (sym sp) (free_safe place h))
      (ops_of init play call) (free call))

  ends_as : (machine after : Machine) (call : ImageCall) (number n : ℕ) → IsMachine machine →
      Holds machine.memory 0x1000 image → machine.cpu.sp ≡ 0xFF →
      Called machine (entry_of 0x1000 call) number n after →
      slice_index after.memory ≡ (all_done (ops_of init play call) (begun machine (entry_of 0x1000 call) number)).at
  ends_as machine after call number n is held sp called =
      let c = ran machine call number is held sp in
      ap (λ (m : Machine). slice_index m.memory)
      (one_end machine (entry_of 0x1000 call) number n
      (call_steps machine (entry_of 0x1000 call) number (ops_of init play call)) after c.after called c.called)
      ∙ ap (λ (s : State). s.at) c.seen

  pub byte_is : (machine after : Machine) (call : ImageCall) (number n q : ℕ) → IsMachine machine →
      Holds machine.memory 0x1000 image → machine.cpu.sp ≡ 0xFF →
      Called machine (entry_of 0x1000 call) number n after →
      slice_index after.memory q ≡ (all_done (ops_of init play call) (begun machine (entry_of 0x1000 call) number)).at q
  byte_is machine after call number n q is held sp called =
      ap (λ (at : ℕ → ℕ). at q) (ends_as machine after call number n is held sp called)

  -- behind init the image is as it was loaded, where init stores outside it
  held_on : stores_pass is_outside init ≡ true → (after : Machine) (k n : ℕ) → Called zeros 0x1000 k n after → Holds after.memory 0x1000 image
  held_on outside after k n called = record {
    byte = λ j few.
        byte_is zeros after (Init k) k n (0x1000 + j) zeros_is zeros_hold refl called
        ∙ others_stay (λ p. is_outside p ≡ true) init (begun zeros 0x1000 k) (0x1000 + j)
        (each_store (λ p. is_outside p ≡ true) is_outside (λ place h. h) init outside)
        (λ h. outside_no (0x1000 + j) h (omega arith) (inside j few))
        ∙ kept j few;
  }
    where
      inside : (j : ℕ) → j < length image → 0x1000 + j < 0x2000
      inside j few = (let room = small.fits.room in omega (arith, few, room))

      kept : (j : ℕ) → j < length image → (begun zeros 0x1000 k).at (0x1000 + j) ≡ slice_index image j
      kept j few = entry_kept zeros (0x1000 + j) zeros_is.size (omega arith) ∙ zeros_hold.byte j few

  -- ---- init from there, and play from a machine that holds the image

  pub first_call : (song : Song) (o : Options) (k : ℕ) → k < length (playable_subtunes song) → Plays init play song o →
      LeavesAndGoesOn image 0x1000 0xFC o zeros 0x1000 k (trace_with o song k 0) (SetsTimer o)
      (λ last. (next : Machine) (number : ℕ) → IsMachine next → number < 256 → AgreesOn image 0x1000 last next →
      LeavesAndGoesOn image 0x1000 0xFC o next 0x1003 number (trace_with o song k 1) (KeepsTimer o next)
      (λ after. Unit {0}))
  first_call song o k few f = first_plays_are_free image 0x1000 0xFC song o f k few zeros zeros_is zeros_hold

  pub next_call : stores_pass is_outside init ≡ true → (song : Song) (o : Options) → 0 < length (playable_subtunes song) → Plays init play song o →
      (next : Machine) → IsMachine next → Holds next.memory 0x1000 image →
      LeavesAndGoesOn image 0x1000 0xFC o next 0x1003 0 (trace_with o song 0 1) (KeepsTimer o next) (λ after. Unit {0})
  next_call outside song o few f next is held =
      let first = first_call song o 0 few f in
      let last = held_on outside first.after 0 first.leaves.steps first.leaves.called in
      first.goes_on next 0 is (lit< tt) (record { same = λ j lt. held.byte j lt ∙ sym (last.byte j lt) })

  -- a register that they leave
  register_is : (o : Options) (machine after : Machine) (call : ImageCall) (number : ℕ) (registers : List ℕ) →
      IsMachine machine → Holds machine.memory 0x1000 image → machine.cpu.sp ≡ 0xFF →
      Leaves image 0x1000 0xFC o machine (entry_of 0x1000 call) number registers after → (place i : ℕ) →
      ((m : Machine) → slice_index (sid_registers m) i ≡ slice_index m.memory place) →
      (all_done (ops_of init play call) (begun machine (entry_of 0x1000 call) number)).at place
      ≡ slice_index registers i
  register_is o machine after call number registers is held sp l place i same =
      sym (byte_is machine after call number l.steps place is held sp l.called)
      ∙ sym (same after)
      ∙ ap (λ (r : List ℕ). slice_index r i) l.registers_are

  init_register : (song : Song) (o : Options) (k : ℕ) → k < length (playable_subtunes song) → Plays init play song o →
      (place i : ℕ) → ((m : Machine) → slice_index (sid_registers m) i ≡ slice_index m.memory place) →
      (all_done init (begun zeros 0x1000 k)).at place ≡ slice_index (trace_with o song k 0) i
  init_register song o k few f place i same =
      let l = first_call song o k few f in
      register_is o zeros l.after (Init k) k (trace_with o song k 0) zeros_is zeros_hold refl l.leaves place i same

  play_register : stores_pass is_outside init ≡ true → (o : Options) → Plays init play silence o → (next : Machine) → IsMachine next →
      Holds next.memory 0x1000 image → next.cpu.sp ≡ 0xFF → (place i : ℕ) →
      ((m : Machine) → slice_index (sid_registers m) i ≡ slice_index m.memory place) →
      (all_done play (begun next 0x1003 0)).at place ≡ slice_index (trace_with o silence 0 1) i
  play_register outside o f next is held sp place i same =
      let l = next_call outside silence o (lit< tt) f next is held in
      register_is o next l.after Play 0 (trace_with o silence 0 1) is held sp l.leaves place i same

  -- a place that isn't init's own
  init_place : (o : Options) → Plays init play silence o → (q : ℕ) → q < MEMORY_SIZE →
      is_own (length image) o 0xFD q ≡ false →
      (all_done init (begun zeros 0x1000 0)).at q ≡ (begun zeros 0x1000 0).at q
  init_place o f q within fails =
      let l = first_call silence o 0 (lit< tt) f in
      sym (byte_is zeros l.after (Init 0) 0 l.leaves.steps q zeros_is zeros_hold refl l.leaves.called)
      ∙ l.leaves.confined.same q within (not_own (length image) o 0xFD q fails)

  -- ---- what is denied of it

  -- a register that init leaves for another one
  pub init_denied : (song : Song) (o : Options) (k : ℕ) → k < length (playable_subtunes song) → (place i : ℕ) →
      ((m : Machine) → slice_index (sid_registers m) i ≡ slice_index m.memory place) →
      nat_eq ((all_done init (begun zeros 0x1000 k)).at place) (slice_index (trace_with o song k 0) i) ≡ false →
      ¬ Plays init play song o
  init_denied song o k few place i same differs f = unequal _ _ differs (init_register song o k few f place i same)

  -- one that play leaves
  pub play_denied : stores_pass is_outside init ≡ true → (next : Machine) → IsMachine next →
      Holds next.memory 0x1000 image → next.cpu.sp ≡ 0xFF → (place i : ℕ) →
      ((m : Machine) → slice_index (sid_registers m) i ≡ slice_index m.memory place) →
      nat_eq ((all_done play (begun next 0x1003 0)).at place) (slice_index (replicate 24 0 ++ 15 ∷ []) i) ≡ false →
      ¬ Plays init play silence no_options
  play_denied outside next is held sp place i same differs f =
      unequal _ _ differs
      (play_register outside no_options f next is held sp place i same
      ∙ ap (λ (r : List ℕ). slice_index r i) (silent_trace _ 1 0 0 (omega arith) (inl refl)))

  -- a byte at another's place
  pub place_denied : (q : ℕ) → q < MEMORY_SIZE → is_own (length image) no_options 0xFD q ≡ false →
      nat_eq ((all_done init (begun zeros 0x1000 0)).at q) ((begun zeros 0x1000 0).at q) ≡ false →
      ¬ Plays init play silence no_options
  place_denied q within fails differs f = unequal _ _ differs (init_place no_options f q within fails)

  -- ---- two calls of an image that stands alone

  pub two_inits : IsIsolated image 0x1000 silence → (other : Machine) → IsMachine other →
      Holds other.memory 0x1000 image → other.cpu.sp ≡ 0xFF → (place i : ℕ) →
      ((m : Machine) → slice_index (sid_registers m) i ≡ slice_index m.memory place) →
      (all_done init (begun zeros 0x1000 0)).at place ≡ (all_done init (begun other 0x1000 0)).at place
  two_inits isolated other is held sp place i same =
      let c = ran zeros (Init 0) 0 zeros_is zeros_hold refl in
      let d = ran other (Init 0) 0 is held sp in
      let alike =
      inits_end_alike image 0x1000 silence isolated 0 (lit< tt) zeros other zeros_is zeros_hold is held
      (call_steps zeros 0x1000 0 init) (call_steps other 0x1000 0 init) c.after d.after c.called d.called in
      sym (byte_is zeros c.after (Init 0) 0 (call_steps zeros 0x1000 0 init) place zeros_is zeros_hold refl c.called)
      ∙ sym (same c.after)
      ∙ ap (λ (r : List ℕ). slice_index r i) alike.same_registers
      ∙ same d.after
      ∙ byte_is other d.after (Init 0) 0 (call_steps other 0x1000 0 init) place is held sp d.called

  -- plays behind an init, from zeros and from another machine, with the numbers 0 and another
  module _ (outside : stores_pass is_outside init ≡ true) (isolated : IsIsolated image 0x1000 silence) (other : Machine)
      (number : ℕ) (is : IsMachine other)
      (held : Holds other.memory 0x1000 image) (sp : other.cpu.sp ≡ 0xFF) (few : number < 256) where
    pub one_play : CallsTo Below zeros 0x1003 0 (call_steps zeros 0x1003 0 play) (ended zeros 0x1003 0 play)
    one_play = ran zeros Play 0 zeros_is zeros_hold refl

    pub other_play : CallsTo Below other 0x1003 number (call_steps other 0x1003 number play)
        (ended other 0x1003 number play)
    other_play = ran other Play number is held sp

    pub plays_alike : EndAlike image 0x1000 (duration zeros 0x1003 0 (call_steps zeros 0x1003 0 play))
        (duration other 0x1003 number (call_steps other 0x1003 number play)) one_play.after other_play.after
    plays_alike =
        let c = ran zeros (Init 0) 0 zeros_is zeros_hold refl in
        let last = held_on outside c.after 0 (call_steps zeros 0x1000 0 init) c.called in
        plays_end_alike image 0x1000 silence isolated 0 (lit< tt) zeros c.after (call_steps zeros 0x1000 0 init) zeros_is
        zeros_hold c.called zeros other 0 number zeros_is
        (record { same = λ j lt. zeros_hold.byte j lt ∙ sym (last.byte j lt) }) (lit< tt) is
        (record { same = λ j lt. held.byte j lt ∙ sym (last.byte j lt) }) few (call_steps zeros 0x1003 0 play)
        (call_steps other 0x1003 number play) one_play.after other_play.after one_play.called other_play.called

    one_byte : (q : ℕ) → slice_index one_play.after.memory q ≡ (all_done play (begun zeros 0x1003 0)).at q
    one_byte q =
        byte_is zeros one_play.after Play 0 (call_steps zeros 0x1003 0 play) q zeros_is zeros_hold refl one_play.called

    other_byte : (q : ℕ) → slice_index other_play.after.memory q ≡ (all_done play (begun other 0x1003 number)).at q
    other_byte q =
        byte_is other other_play.after Play number (call_steps other 0x1003 number play) q is held sp other_play.called

    pub two_plays : (place i : ℕ) → ((m : Machine) → slice_index (sid_registers m) i ≡ slice_index m.memory place) →
        (all_done play (begun zeros 0x1003 0)).at place ≡ (all_done play (begun other 0x1003 number)).at place
    two_plays place i same =
        sym (one_byte place)
        ∙ sym (same one_play.after)
        ∙ ap (λ (r : List ℕ). slice_index r i) plays_alike.same_registers
        ∙ same other_play.after
        ∙ other_byte place

    pub two_images : (k : ℕ) → k < length image →
        (all_done play (begun zeros 0x1003 0)).at (0x1000 + k) ≡ (all_done play (begun other 0x1003 number)).at (0x1000 + k)
    two_images k lt = sym (one_byte (0x1000 + k)) ∙ sym (plays_alike.same_image.same k lt) ∙ other_byte (0x1000 + k)
