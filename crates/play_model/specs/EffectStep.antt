-- The effect step: the running command of a voice, once a frame.
use Rattle.std.specs.Prelude.{◌-◌, ◌||◌, ◌==◌, if◌then◌else◌, nat_le}
use Rattle.play_model.specs.LookUps.{LookUps}
use Rattle.play_model.specs.State.{Voice}
use Rattle.play_model.specs.Helpers.{porta_up, porta_down, tone, vibrato}

-- the instrument's vibrato begins when its delay has fallen to 1; a delay of 0 is never
abbrev pub instrument_vibrato : LookUps → Voice → Voice
instrument_vibrato look v =
    if (v.param == 0) || (v.vib_delay == 0) then v
    else if nat_le 2 v.vib_delay then record v { vib_delay = v.vib_delay - 1 }
    else vibrato look v.param v

unfoldable pub effect_step : LookUps → Voice → Voice
effect_step look v =
    if v.command == 0 then instrument_vibrato look v
    else if v.command == 1 then porta_up look v.param v
    else if v.command == 2 then porta_down look v.param v
    else if v.command == 3 then tone look v.param v
    else if v.command == 4 then vibrato look v.param v
    else v
