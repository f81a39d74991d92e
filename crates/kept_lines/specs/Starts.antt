-- The numbers with which a subtune begins for the options of a call. This is the project's own player.
use Rattle.std.specs.Prelude.{◌-◌, ◌*◌, ◌/◌, ◌%◌}
use Rattle.play_model.specs.declared.options.Options.{Options}
use Rattle.play_model.specs.Speeds.{timer_value}
use Rattle.player_text.specs.declared.texts.Start.{Start}

-- the tempos of the start state, and the timer's value, the low byte first
abbrev pub start_of : Options → Start
start_of o = record {
  tempo = 6 * o.speed - 1;
  funk = 9 * o.speed - 1;
  timer_low = timer_value o.system o.speed % 256;
  timer_high = timer_value o.system o.speed / 256;
}
