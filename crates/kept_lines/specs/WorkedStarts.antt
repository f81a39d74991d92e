-- The numbers with which a subtune begins, worked by hand.
use Rattle.std.specs.Prelude.{◌≡◌}
use Rattle.play_model.specs.declared.options.System.TheVariants.{Ntsc}
use Rattle.play_model.specs.State.{at_speed}
use Rattle.kept_lines.specs.Starts.{start_of}

pub record StartsAreWorked : Type 0 where
  -- 19,656 cycles less one, and 9,828; 8,547 on the other system
  pub once : start_of (at_speed 1) ≡ record { tempo = 5; funk = 8; timer_low = 0xC7; timer_high = 0x4C }
  pub twice : start_of (at_speed 2) ≡ record { tempo = 11; funk = 17; timer_low = 0x63; timer_high = 0x26 }
  pub ntsc : start_of (record (at_speed 2) { system = Ntsc })
      ≡ record { tempo = 11; funk = 17; timer_low = 0x62; timer_high = 0x21 }
