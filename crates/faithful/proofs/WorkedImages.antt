-- Small images that play a silent song, at the speed 1, and at the speed 2 of either system.
use Rattle.std.proofs.Common.{inl, inr, lit≤, refl, arith}
use Rattle.song_model.specs.Silence.{silence}
use Rattle.play_model.specs.State.{no_options}
use Rattle.faithful.specs.Routines.{image_of}
use Rattle.faithful.specs.WorkedPlaces.{twice, twice_on_ntsc}
use Rattle.faithful.specs.WorkedImages.{leave, timed, timed_for_ntsc, two_silences, RightImagesPlay}
use Rattle.faithful.proofs.Always.{always_is_faithful}
use Rattle.faithful.proofs.RightImages.{IsRight, plays_always, stands_alone}
use Rattle.faithful.proofs.SilentFrames.{silent_trace, two_traces}

right_at_one : IsRight no_options silence (leave 0) (leave 15) 27 27
right_at_one = record {
  fits = record { room = lit≤ tt; bytes = refl };
  plain_init = refl;
  plain_play = refl;
  few = (lit≤ tt, lit≤ tt);
  init_ports = refl;
  play_ports = refl;
  init_leaves = record { registers_are = λ s. refl; steps_are = λ s. refl };
  play_leaves = record { registers_are = λ s. refl; steps_are = λ s. refl };
  timer_set = λ fast. absurd (omega arith);
  timer_kept = λ s. (refl, refl);
  frames = λ k n few. silent_trace _ 1 k n few (inl refl);
}

right_at_two : IsRight twice silence timed (leave 15) 31 27
right_at_two = record {
  fits = record { room = lit≤ tt; bytes = refl };
  plain_init = refl;
  plain_play = refl;
  few = (lit≤ tt, lit≤ tt);
  init_ports = refl;
  play_ports = refl;
  init_leaves = record { registers_are = λ s. refl; steps_are = λ s. refl };
  play_leaves = record { registers_are = λ s. refl; steps_are = λ s. refl };
  timer_set = λ fast s. (refl, refl);
  timer_kept = λ s. (refl, refl);
  frames = λ k n few. silent_trace _ 2 k n few (inr refl);
}

right_on_ntsc : IsRight twice_on_ntsc silence timed_for_ntsc (leave 15) 31 27
right_on_ntsc = record {
  fits = record { room = lit≤ tt; bytes = refl };
  plain_init = refl;
  plain_play = refl;
  few = (lit≤ tt, lit≤ tt);
  init_ports = refl;
  play_ports = refl;
  init_leaves = record { registers_are = λ s. refl; steps_are = λ s. refl };
  play_leaves = record { registers_are = λ s. refl; steps_are = λ s. refl };
  timer_set = λ fast s. (refl, refl);
  timer_kept = λ s. (refl, refl);
  frames = λ k n few. silent_trace _ 2 k n few (inr refl);
}

right_for_both : IsRight no_options two_silences (leave 0) (leave 15) 27 27
right_for_both = record {
  fits = right_at_one.fits;
  plain_init = right_at_one.plain_init;
  plain_play = right_at_one.plain_play;
  few = right_at_one.few;
  init_ports = right_at_one.init_ports;
  play_ports = right_at_one.play_ports;
  init_leaves = right_at_one.init_leaves;
  play_leaves = right_at_one.play_leaves;
  timer_set = right_at_one.timer_set;
  timer_kept = right_at_one.timer_kept;
  frames = λ k n few. two_traces k n few;
}

pub right_images_play : RightImagesPlay
right_images_play = record {
  at_one = always_is_faithful (image_of (leave 0) (leave 15)) 0x1000 0xFC silence no_options
      (plays_always no_options silence (leave 0) (leave 15) 27 27 right_at_one);
  at_two = always_is_faithful (image_of timed (leave 15)) 0x1000 0xFC silence twice
      (plays_always twice silence timed (leave 15) 31 27 right_at_two);
  on_ntsc = always_is_faithful (image_of timed_for_ntsc (leave 15)) 0x1000 0xFC silence twice_on_ntsc
      (plays_always twice_on_ntsc silence timed_for_ntsc (leave 15) 31 27 right_on_ntsc);
  second = always_is_faithful (image_of (leave 0) (leave 15)) 0x1000 0xFC two_silences no_options
      (plays_always no_options two_silences (leave 0) (leave 15) 27 27 right_for_both);
  always = plays_always no_options silence (leave 0) (leave 15) 27 27 right_at_one;
  alone = stands_alone no_options silence (leave 0) (leave 15) 27 27 right_at_one;
}
