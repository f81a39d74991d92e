-- Small images of which a call takes longer than bounds say.
use Rattle.std.proofs.Common.{ℕ, ◌+◌, ◌<◌, ◌∙◌, false, List, [], ◌∷◌, lit<, lit≤, refl, arith, length-set}
use Rattle.std.proofs.lemmas.List.{get_or-set_other}
use Rattle.std.proofs.lemmas.List.Elements.{All-set}
use Rattle.song_model.specs.Silence.{silence}
use Rattle.cpu6502.specs.declared.machine.Machine.{Machine}
use Rattle.cpu6502.specs.Code.{IsMachine}
use Rattle.sid_run.specs.State.{loaded_memory}
use Rattle.faithful.specs.Faithful.{AgreesOn}
use Rattle.faithful.specs.Histories.{Init, Play}
use Rattle.faithful.specs.Routines.{Op, image_of}
use Rattle.faithful.specs.WorkedImages.{two_silences}
use Rattle.faithful.specs.WorkedMachines.{machine_with, with_byte}
use Rattle.worked_bounds.specs.WorkedBounds.{Keeps, two_loads, three_loads, CyclesAreTold, KeepsFew, many_loads, BlocksAreTold}
use Rattle.worked_bounds.specs.WorkedBounds.{longer_again, longer_at_last, skips, disturbs, EarlierCallsAreTold}
use Rattle.worked_bounds.specs.WorkedBounds.{turns_outside, reads_there, makes_store, reads_or_stores, MachinesAreTold}
use Rattle.worked_bounds.specs.WorkedBounds.{told_at, NumbersAreTold}
use Rattle.worked_bounds.proofs.ComputedCalls.{after_call, none_led, one_more, denied, denied_there, denied_first}
use Rattle.worked_bounds.proofs.KeptExactly.{kept_exactly, kept_by_blocks}

-- ---- the cycles

init_too_long : ¬ Keeps two_loads three_loads silence 1 4
unfolding loaded_memory
init_too_long keeps =
    denied_there (none_led two_loads three_loads silence refl refl) 1 4 keeps (Init 0) 0 4 (lit< tt, refl) refl refl

play_too_long : ¬ Keeps two_loads three_loads silence 2 3
unfolding loaded_memory
play_too_long keeps =
    denied_there (none_led two_loads three_loads silence refl refl) 2 3 keeps Play 0 5 (lit< tt) refl refl

pub cycles_are_told : CyclesAreTold
cycles_are_told = record { kept = kept_exactly; init = init_too_long; play = play_too_long }

-- ---- blocks

init_beyond_blocks : ¬ KeepsFew three_loads three_loads
unfolding loaded_memory
init_beyond_blocks keeps =
    denied_first (none_led three_loads three_loads silence refl refl) keeps (Init 0) 0 5 (lit< tt, refl) refl (2 ∷ 2 ∷ [])
    (lit≤ tt, (lit≤ tt, tt)) refl

play_beyond_blocks : ¬ KeepsFew two_loads many_loads
unfolding loaded_memory
play_beyond_blocks keeps =
    denied_first (none_led two_loads many_loads silence refl refl) keeps Play 0 11 (lit< tt) refl (30 ∷ []) (lit≤ tt, tt)
    refl

pub blocks_are_told : BlocksAreTold
blocks_are_told = record { kept = kept_by_blocks; init = init_beyond_blocks; play = play_beyond_blocks }

-- ---- the calls before

second_too_long : ¬ Keeps longer_again [] silence 9 0
unfolding loaded_memory
second_too_long keeps =
    let a = one_more (none_led longer_again [] silence refl refl) (Init 0) 0 6 (lit< tt, refl) (lit< tt) refl in
    denied_there a 9 0 keeps (Init 0) 0 7 (lit< tt, refl) refl refl

third_too_long : ¬ Keeps longer_at_last [] silence 15 0
unfolding loaded_memory
third_too_long keeps =
    let a = one_more (none_led longer_at_last [] silence refl refl) (Init 0) 0 8 (lit< tt, refl) (lit< tt) refl in
    let b = one_more a (Init 0) 0 8 (lit< tt, refl) (lit< tt) refl in
    denied_there b 15 0 keeps (Init 0) 0 9 (lit< tt, refl) refl refl

too_long_after_play : ¬ Keeps skips disturbs silence 3 4
unfolding loaded_memory
too_long_after_play keeps =
    let a = one_more (none_led skips disturbs silence refl refl) Play 0 4 (lit< tt) (lit< tt) refl in
    denied_there a 3 4 keeps (Init 0) 0 5 (lit< tt, refl) refl refl

pub earlier_calls_are_told : EarlierCallsAreTold
earlier_calls_are_told = record { second = second_too_long; third = third_too_long; after_play = too_long_after_play }

-- ---- the machine that a call begins in

-- what the first init leaves
abbrev init_left : List Op → List Op → ℕ → Machine
init_left init play steps = after_call (machine_with (image_of init play)) 0x1000 0 steps

other_byte : (machine : Machine) → IsMachine machine → IsMachine (with_byte 0x101D 1 machine)
other_byte machine is = record {
  size = length-set machine.memory 0x101D 1 ∙ is.size;
  bytes = All-set (λ byte. byte < 256) machine.memory 0x101D 1 (lit< tt) is.bytes;
  a = is.a;
  x = is.x;
  y = is.y;
  sp = is.sp;
  pc = is.pc;
}

agrees_beside : (machine : Machine) →
    AgreesOn (image_of turns_outside reads_there) 0x1000 machine (with_byte 0x101D 1 machine)
agrees_beside machine = record {
  same = λ k few. get_or-set_other machine.memory 0x101D (0x1000 + k) 1 0 (λ e. omega (arith, few, e));
}

longer_by_memory : ¬ Keeps turns_outside reads_there silence 10 11
unfolding loaded_memory
longer_by_memory keeps =
    let a = one_more (none_led turns_outside reads_there silence refl refl) (Init 0) 0 6 (lit< tt, refl) (lit< tt) refl in
    let last = init_left turns_outside reads_there 6 in
    denied a 10 11 keeps (with_byte 0x101D 1 last) (other_byte last a.is) (agrees_beside last) Play 0 7 (lit< tt) refl refl

-- the same machine with a zero flag that isn't set
abbrev not_zero : Machine → Machine
not_zero machine = record machine { cpu = record machine.cpu { z = false } }

other_flag : (machine : Machine) → IsMachine machine → IsMachine (not_zero machine)
other_flag machine is = record {
  size = is.size;
  bytes = is.bytes;
  a = is.a;
  x = is.x;
  y = is.y;
  sp = is.sp;
  pc = is.pc;
}

longer_by_flags : ¬ Keeps makes_store reads_or_stores silence 8 7
unfolding loaded_memory
longer_by_flags keeps =
    let a = one_more (none_led makes_store reads_or_stores silence refl refl) (Init 0) 0 6 (lit< tt, refl) (lit< tt) refl in
    let last = init_left makes_store reads_or_stores 6 in
    denied a 8 7 keeps (not_zero last) (other_flag last a.is) (record { same = λ k few. refl }) Play 0 6 (lit< tt) refl refl

pub machines_are_told : MachinesAreTold
machines_are_told = record { memory = longer_by_memory; flags = longer_by_flags }

-- ---- the number in the accumulator

longer_by_number : ¬ Keeps [] (told_at 0x100B) silence 0 7
unfolding loaded_memory
longer_by_number keeps =
    denied_there (none_led [] (told_at 0x100B) silence refl refl) 0 7 keeps Play 255 6 (lit< tt) refl refl

longer_by_subtune : ¬ Keeps (told_at 0x100A) [] two_silences 7 0
unfolding loaded_memory
longer_by_subtune keeps =
    denied_there (none_led (told_at 0x100A) [] two_silences refl refl) 7 0 keeps (Init 1) 1 6 (lit< tt, refl) refl refl

pub numbers_are_told : NumbersAreTold
numbers_are_told = record { play = longer_by_number; init = longer_by_subtune }
