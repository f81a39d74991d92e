-- Small images that don't play the silent song: they leave a wrong register, or take too many steps.
use Rattle.std.proofs.Common.{◌≡◌, ℕ, ◌<◌, ◌≤◌, [], ◌∷◌, ◌++◌, slice_index, lit<, refl, arith}
use Rattle.song_model.specs.Silence.{silence}
use Rattle.play_model.specs.State.{no_options}
use Rattle.cpu6502.specs.declared.machine.Machine.{Machine}
use Rattle.cpu6502.specs.Code.{IsMachine}
use Rattle.cpu6502.proofs.Laws.{called_once}
use Rattle.sid_run.specs.State.{sid_registers}
use Rattle.faithful.specs.Histories.{Init}
use Rattle.faithful.specs.Routines.{LoadX, StoreA, StoreX, Wait, image_of}
use Rattle.faithful.specs.WorkedMachines.{machine_with}
use Rattle.faithful.specs.WorkedImages.{clear, store, leave, Plays, two_silences, RegistersAreTold, StepsAreTold}
use Rattle.faithful.proofs.Routines.{call_steps}
use Rattle.faithful.proofs.LoadedImages.{zeros_is, zeros_hold, ran, first_call, init_denied, play_denied}

-- ---- registers

pub volume : (m : Machine) → slice_index (sid_registers m) 24 ≡ slice_index m.memory 0xD418
volume m = refl

wrong_init : ¬ Plays (leave 1) (leave 15) silence no_options
wrong_init = init_denied (leave 1) (leave 15) refl silence no_options 0 (lit< tt) 0xD418 24 volume refl

wrong_second : ¬ Plays (StoreA 0xD418 ∷ clear) (leave 15) two_silences no_options
wrong_second =
    init_denied (StoreA 0xD418 ∷ clear) (leave 15) refl two_silences no_options 1 (lit< tt) 0xD418 24 volume refl

wrong_play : ¬ Plays (leave 0) (leave 14) silence no_options
wrong_play =
    play_denied (leave 0) (leave 14) refl refl (machine_with (image_of (leave 0) (leave 14)))
    (zeros_is (leave 0) (leave 14) refl) (zeros_hold (leave 0) (leave 14) refl) refl 0xD418 24 volume refl

wrong_first : ¬ Plays (leave 0) (leave 15 ++ store 1 0xD400) silence no_options
wrong_first =
    let play = leave 15 ++ store 1 0xD400 in
    play_denied (leave 0) play refl refl (machine_with (image_of (leave 0) play)) (zeros_is (leave 0) play refl)
    (zeros_hold (leave 0) play refl) refl 0xD400 0 (λ m. refl) refl

-- a machine with another X
abbrev with_x : ℕ → Machine → Machine
with_x x machine = record machine { cpu = record machine.cpu { x = x } }

with_x_is : (x : ℕ) (machine : Machine) → x < 256 → IsMachine machine → IsMachine (with_x x machine)
with_x_is x machine few is =
    record { size = is.size; bytes = is.bytes; a = is.a; x = few; y = is.y; sp = is.sp; pc = is.pc }

wrong_x : ¬ Plays (leave 0 ++ LoadX 15 ∷ []) (clear ++ StoreX 0xD418 ∷ []) silence no_options
wrong_x =
    let init = leave 0 ++ LoadX 15 ∷ [] in
    let play = clear ++ StoreX 0xD418 ∷ [] in
    let machine = machine_with (image_of init play) in
    play_denied init play refl refl (with_x 14 machine) (with_x_is 14 machine (lit< tt) (zeros_is init play refl))
    (zeros_hold init play refl) refl 0xD418 24 volume refl

pub registers_are_told : RegistersAreTold
registers_are_told =
    record { init = wrong_init; play = wrong_play; first = wrong_first; second = wrong_second; kept = wrong_x }

-- ---- steps

too_many : (n : ℕ) → n ≡ 262687 → n ≤ 200000 → ⊥
too_many n e few = omega (arith, e, few)

waits_long : ¬ Plays (Wait 256 ∷ leave 0) (leave 15) silence no_options
waits_long f =
    let init = Wait 256 ∷ leave 0 in
    let machine = machine_with (image_of init (leave 15)) in
    let l = first_call init (leave 15) refl silence no_options 0 (lit< tt) f in
    let c = ran init (leave 15) refl machine (Init 0) 0 (zeros_is init (leave 15) refl) (zeros_hold init (leave 15) refl) refl in
    too_many l.leaves.steps
    (called_once machine 0x1000 0 l.leaves.steps (call_steps machine 0x1000 0 init) l.after c.after l.leaves.called c.called)
    l.leaves.within

pub steps_are_told : StepsAreTold
steps_are_told = record { init = waits_long }
