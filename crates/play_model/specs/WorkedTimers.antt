-- The timer's values at each speed, from the cycles of a picture.
use Rattle.std.specs.Prelude.{◌≡◌, ◌/◌, ◌%◌}
use Rattle.play_model.specs.declared.options.System.TheVariants.{Pal, Ntsc}
use Rattle.play_model.specs.Speeds.{picture_cycles, timer_value}

-- on PAL the timer counts 9,828, 6,552 and 4,914 cycles at the speeds 2, 3 and 4, on NTSC 8,547, 5,698 and 4,273
pub record TimersAreWorked : Type 0 where
  pub pal : picture_cycles Pal ≡ 19656
  pub ntsc : picture_cycles Ntsc ≡ 17095
  pub two : timer_value Pal 2 ≡ 9827
  pub three : timer_value Pal 3 ≡ 6551
  pub four : timer_value Pal 4 ≡ 4913
  pub low : timer_value Pal 2 % 256 ≡ 0x63
  pub high : timer_value Pal 2 / 256 ≡ 0x26
  pub ntsc_two : timer_value Ntsc 2 ≡ 8546
  pub ntsc_three : timer_value Ntsc 3 ≡ 5697
  pub ntsc_four : timer_value Ntsc 4 ≡ 4272
  pub ntsc_low : timer_value Ntsc 2 % 256 ≡ 0x62
  pub ntsc_high : timer_value Ntsc 2 / 256 ≡ 0x21
