-- The code of a voice in a frame, run by hand.
use Rattle.std.proofs.Common.{ℕ, List, inl, inr, refl, arith}
use Rattle.song_model.specs.declared.orders.Order.{Order}
use Rattle.play_model.specs.LookUps.{LookUps}
use Rattle.player_memory.specs.Rooms.{IsElsewhere}
use Rattle.player_memory.specs.declared.labels.TheConstants.{TICK}
use Rattle.voice_code.specs.WorkedVoice.{bare, VoicesAreWorked, OthersAreDenied}
use Rattle.player_memory.proofs.Laws.{off_variables}

pub voices_are_worked : VoicesAreWorked
voices_are_worked = record {
  waits = record { ends = refl; tick_is = refl; rest_is = refl; cost_is = refl };
  sounds = record {
    low_is = refl;
    high_is = refl;
    pulse_low_is = refl;
    pulse_high_is = refl;
    wave_is = refl;
    ad_is = refl;
    sr_is = refl;
  };
  rests = record { ends = refl; tick_is = refl; rest_is = refl; cost_is = refl };
  by_one = record { ends = refl; tick_is = refl; rest_is = refl; cost_is = refl };
  not_by_one = record { ends = refl; tick_is = refl; rest_is = refl; cost_is = refl };
  by_own = record { ends = refl; tick_is = refl; rest_is = refl; cost_is = refl };
  not_by_own = record { ends = refl; tick_is = refl; rest_is = refl; cost_is = refl };
  pulsing_waits = record { ends = refl; tick_is = refl; rest_is = refl; cost_is = refl };
  pulsing_sounds = record {
    low_is = refl;
    high_is = refl;
    pulse_low_is = refl;
    pulse_high_is = refl;
    wave_is = refl;
    ad_is = refl;
    sr_is = refl;
  };
  first = refl;
  still = record { ends = refl; tick_is = refl; rest_is = refl; cost_is = refl };
  both_still = record { ends = refl; tick_is = refl; rest_is = refl; cost_is = refl };
  still_sounds = record {
    low_is = refl;
    high_is = refl;
    pulse_low_is = refl;
    pulse_high_is = refl;
    wave_is = refl;
    ad_is = refl;
    sr_is = refl;
  };
  other_still = record { ends = refl; tick_is = refl; rest_is = refl; cost_is = refl };
  turns = record { ends = refl; tick_is = refl; rest_is = refl; cost_is = refl };
}

-- a place between the variables and the registers
free : IsElsewhere bare 4 0x2000
free = record {
  variables = off_variables bare refl 0x2000 (inr (omega arith));
  slides_low = λ kept. absurd (cc);
  slides_high = λ kept. absurd (cc);
  low = λ e. omega (arith, e);
  high = λ e. omega (arith, e);
  registers = inl (omega arith);
}

pub others_are_denied : (look : LookUps) (packed : ℕ → List ℕ) (order : Order) → OthersAreDenied look packed order
others_are_denied look packed order = record {
  way = λ left. (let no = left.ends in absurd (cc));
  other_x = λ left. (let x = left.at_voice.x in omega (arith, x));
  lent = λ left. (let none = left.none_lent in omega (arith, none));
  own_register = λ left. (let byte = left.sounds 0 (omega arith) in omega (arith, byte));
  other_register = λ left. (let byte = left.registers 14 (omega arith) (inr (omega arith)) in omega (arith, byte));
  volume = λ left. (let byte = left.registers 24 (omega arith) (inr (omega arith)) in omega (arith, byte));
  other_voice = λ left.
      (let byte = left.others 0 TICK (omega arith) (λ e. omega (arith, e)) refl (λ e. omega (arith, e)) in
      omega (arith, byte));
  elsewhere = λ left. (let byte = left.elsewhere 0x2000 free in omega (arith, byte));
}
