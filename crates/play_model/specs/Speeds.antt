-- The speeds of a player, and the timer that each asks for.
use Rattle.std.specs.Prelude.{ℕ, ◌≤◌, ◌-◌, ◌*◌, ◌/◌}
use Rattle.play_model.specs.declared.options.System.{System}
use Rattle.play_model.specs.declared.options.System.TheVariants.{Pal, Ntsc}

-- a speed: from 1 to 4 play calls in the time of one picture
pub record IsSpeed (speed : ℕ) : Type 0 where
  pub least : 1 ≤ speed
  pub most : speed ≤ 4

-- the cycles of a picture: 63 in each of 312 lines on a PAL machine, 65 in each of 263 on an NTSC machine
abbrev pub picture_cycles : System → ℕ
picture_cycles Pal = 63 * 312
picture_cycles Ntsc = 65 * 263

-- the cycles from one play call to the next: those of a picture, divided by the play calls in it and rounded down;
-- less 1, since the timer counts one cycle more than its value
abbrev pub timer_value : System → ℕ → ℕ
timer_value system speed = picture_cycles system / speed - 1
