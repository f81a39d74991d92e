-- Small images that don't stand alone: what their calls do depends on a byte outside, or on the number of a play.
use Rattle.std.proofs.Common.{◌≡◌, ℕ, ◌+◌, ◌<◌, true, List, [], ◌∷◌, ◌++◌, lit<, refl}
use Rattle.std.proofs.Common.{ap, ◌∙◌, arith, length-set}
use Rattle.std.proofs.lemmas.List.{get_or-set_other}
use Rattle.std.proofs.lemmas.List.Elements.{All-set}
use Rattle.cpu6502.specs.declared.machine.Machine.{Machine}
use Rattle.cpu6502.specs.Code.{IsMachine, Holds}
use Rattle.sid_run.specs.State.{loaded_memory}
use Rattle.faithful.specs.Isolation.{Duration}
use Rattle.faithful.specs.Routines.{Op, FetchA, StoreA, SkipNop, image_of}
use Rattle.faithful.specs.WorkedMachines.{machine_with, with_byte}
use Rattle.faithful.specs.WorkedImages.{clear, leave, StandsAlone, DependencesAreTold}
use Rattle.faithful.proofs.LoadedImages.{passes, zeros_is, zeros_hold, unequal, two_inits, plays_alike, two_plays, two_images}
use Rattle.faithful.proofs.WrongRegisters.{volume}

-- the same machine with 1 at $0400
abbrev other_screen : Machine → Machine
other_screen machine = with_byte 0x0400 1 machine

other_is : (machine : Machine) → IsMachine machine → IsMachine (other_screen machine)
other_is machine is = record {
  size = length-set machine.memory 0x0400 1 ∙ is.size;
  bytes = All-set (λ byte. byte < 256) machine.memory 0x0400 1 (lit< tt) is.bytes;
  a = is.a;
  x = is.x;
  y = is.y;
  sp = is.sp;
  pc = is.pc;
}

other_holds : (image : List ℕ) (machine : Machine) → Holds machine.memory 0x1000 image →
    Holds (other_screen machine).memory 0x1000 image
other_holds image machine held = record {
  byte = λ j lt. get_or-set_other machine.memory 0x0400 (0x1000 + j) 1 0 (λ e. omega arith) ∙ held.byte j lt;
}

-- the image of two routines in that machine
module _ (init play : List Op) (passed : passes init play ≡ true) where
  abbrev pub other : Machine
  other = other_screen (machine_with (image_of init play))

  pub is : IsMachine other
  is = other_is (machine_with (image_of init play)) (zeros_is init play passed)

  pub held : Holds other.memory 0x1000 (image_of init play)
  held = other_holds (image_of init play) (machine_with (image_of init play)) (zeros_hold init play passed)

init_by_register : ¬ StandsAlone (clear ++ FetchA 0x0400 ∷ StoreA 0xD418 ∷ []) (leave 15)
unfolding loaded_memory
init_by_register isolated =
    let init = clear ++ FetchA 0x0400 ∷ StoreA 0xD418 ∷ [] in
    unequal 0 1 refl
    (two_inits init (leave 15) refl isolated (other init (leave 15) refl) (is init (leave 15) refl)
    (held init (leave 15) refl) refl 0xD418 24 volume)

play_by_register : ¬ StandsAlone (leave 0) (clear ++ FetchA 0x0400 ∷ StoreA 0xD418 ∷ [])
unfolding loaded_memory
play_by_register isolated =
    let play = clear ++ FetchA 0x0400 ∷ StoreA 0xD418 ∷ [] in
    unequal 0 1 refl
    (two_plays (leave 0) play refl refl isolated (other (leave 0) play refl) 0 (is (leave 0) play refl)
    (held (leave 0) play refl) refl (lit< tt) 0xD418 24 volume)

play_by_steps : ¬ StandsAlone (leave 0) (leave 15 ++ FetchA 0x0400 ∷ SkipNop ∷ [])
unfolding loaded_memory
play_by_steps isolated =
    let play = leave 15 ++ FetchA 0x0400 ∷ SkipNop ∷ [] in
    unequal 31 32 refl
    (ap (λ (d : Duration). d.steps)
    (plays_alike (leave 0) play refl refl isolated (other (leave 0) play refl) 0 (is (leave 0) play refl)
    (held (leave 0) play refl) refl (lit< tt)).same_duration)

play_by_image : ¬ StandsAlone (leave 0) (leave 15 ++ FetchA 0x0400 ∷ StoreA 0x1000 ∷ [])
unfolding loaded_memory
play_by_image isolated =
    let play = leave 15 ++ FetchA 0x0400 ∷ StoreA 0x1000 ∷ [] in
    unequal 0 1 refl
    (two_images (leave 0) play refl refl isolated (other (leave 0) play refl) 0 (is (leave 0) play refl)
    (held (leave 0) play refl) refl (lit< tt) 0 (lit< tt))

play_by_number : ¬ StandsAlone (leave 0) (StoreA 0xD418 ∷ clear)
play_by_number isolated =
    let play = StoreA 0xD418 ∷ clear in
    unequal 0 1 refl
    (two_plays (leave 0) play refl refl isolated (machine_with (image_of (leave 0) play)) 1 (zeros_is (leave 0) play refl)
    (zeros_hold (leave 0) play refl) refl (lit< tt) 0xD418 24 volume)

pub dependences_are_told : DependencesAreTold
dependences_are_told = record {
  init = init_by_register;
  registers = play_by_register;
  steps = play_by_steps;
  in_image = play_by_image;
  number = play_by_number;
}
