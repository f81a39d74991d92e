-- Small images that don't play the silent song at the speed 2: they leave a wrong timer.
use Rattle.std.proofs.Common.{◌++◌, lit<, refl, sym, ◌∙◌}
use Rattle.song_model.specs.Silence.{silence}
use Rattle.sid_run.specs.State.{loaded_memory}
use Rattle.faithful.specs.Histories.{Init, Play}
use Rattle.faithful.specs.Routines.{image_of}
use Rattle.faithful.specs.WorkedPlaces.{twice, twice_on_ntsc}
use Rattle.faithful.specs.WorkedMachines.{machine_with}
use Rattle.faithful.specs.WorkedImages.{store, leave, Plays, timed, timed_for_ntsc, TimerBytesAreTold}
use Rattle.faithful.proofs.LoadedImages.{zeros_is, zeros_hold, unequal, byte_is, first_call, next_call}

wrong_timer : ¬ Plays (leave 0 ++ store 0x63 0xDC04 ++ store 0x27 0xDC05) (leave 15) silence twice
wrong_timer f =
    let init = leave 0 ++ store 0x63 0xDC04 ++ store 0x27 0xDC05 in
    let l = first_call init (leave 15) refl silence twice 0 (lit< tt) f in
    unequal 0x27 0x26 refl
    (sym (byte_is init (leave 15) refl (machine_with (image_of init (leave 15))) l.after (Init 0) 0 l.leaves.steps 0xDC05
    (zeros_is init (leave 15) refl) (zeros_hold init (leave 15) refl) refl l.leaves.called)
    ∙ (l.timer (lit< tt)).high)

-- the timer of the other system
pal_timer : ¬ Plays timed (leave 15) silence twice_on_ntsc
pal_timer f =
    let l = first_call timed (leave 15) refl silence twice_on_ntsc 0 (lit< tt) f in
    unequal 0x26 0x21 refl
    (sym (byte_is timed (leave 15) refl (machine_with (image_of timed (leave 15))) l.after (Init 0) 0 l.leaves.steps 0xDC05
    (zeros_is timed (leave 15) refl) (zeros_hold timed (leave 15) refl) refl l.leaves.called)
    ∙ (l.timer (lit< tt)).high)

ntsc_timer : ¬ Plays timed_for_ntsc (leave 15) silence twice
ntsc_timer f =
    let init = timed_for_ntsc in
    let l = first_call init (leave 15) refl silence twice 0 (lit< tt) f in
    unequal 0x21 0x26 refl
    (sym (byte_is init (leave 15) refl (machine_with (image_of init (leave 15))) l.after (Init 0) 0 l.leaves.steps 0xDC05
    (zeros_is init (leave 15) refl) (zeros_hold init (leave 15) refl) refl l.leaves.called)
    ∙ (l.timer (lit< tt)).high)

timer_changes : ¬ Plays timed (leave 15 ++ store 0x27 0xDC05) silence twice
unfolding loaded_memory
timer_changes f =
    let play = leave 15 ++ store 0x27 0xDC05 in
    let is = zeros_is timed play refl in
    let held = zeros_hold timed play refl in
    let l = next_call timed play refl refl silence twice (lit< tt) f (machine_with (image_of timed play)) is held in
    unequal 0x27 0 refl
    (sym (byte_is timed play refl (machine_with (image_of timed play)) l.after Play 0 l.leaves.steps 0xDC05 is held refl
    l.leaves.called)
    ∙ (l.timer (lit< tt)).high)

pub timer_bytes_are_told : TimerBytesAreTold
timer_bytes_are_told = record {
  set = wrong_timer;
  kept = timer_changes;
  for_pal = pal_timer;
  for_ntsc = ntsc_timer;
}
