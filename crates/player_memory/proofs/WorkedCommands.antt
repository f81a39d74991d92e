-- The conditions that are worked by hand.
use Rattle.std.proofs.Common.{◌≡◌, ℕ, zero, suc, ◌≤◌, None, refl, arith}
use Rattle.player_memory.specs.Commands.{condition_of, condition_of_both}
use Rattle.player_memory.specs.WorkedCommands.{CommandsAreWorked}

runs : (command param : ℕ) → command ≤ 4 → condition_of command param ≡ None
runs zero param few = refl
runs (suc zero) param few = refl
runs (suc (suc zero)) param few = refl
runs (suc (suc (suc zero))) param few = refl
runs (suc (suc (suc (suc zero)))) param few = refl
runs (suc (suc (suc (suc (suc command))))) param few = absurd (omega (arith, few))

both_run : (command : ℕ) → command ≤ 4 → condition_of_both command ≡ None
both_run zero few = refl
both_run (suc zero) few = refl
both_run (suc (suc zero)) few = refl
both_run (suc (suc (suc zero))) few = refl
both_run (suc (suc (suc (suc zero)))) few = refl
both_run (suc (suc (suc (suc (suc command))))) few = absurd (omega (arith, few))

pub commands_are_worked : CommandsAreWorked
commands_are_worked = record {
  rows = record {
    runs = runs;
    ad = λ param. refl;
    sr = λ param. refl;
    wave = λ param. refl;
    wave_pointer = λ param. refl;
    pulse_pointer = λ param. refl;
    filter_pointer = λ param. refl;
    filter_control = λ param. refl;
    cutoff = λ param. refl;
    volume = λ param. refl;
    funk = λ param. refl;
    chosen = refl;
    chosen_last = refl;
    idle = refl;
    length = refl;
    length_last = refl;
    idle_up = refl;
    idle_last = refl;
    own = refl;
    own_last = refl;
  };
  both = record {
    runs = both_run;
    wave = refl;
    wave_pointer = refl;
    pulse_pointer = refl;
    volume = refl;
    funk = refl;
    tempo = refl;
  };
  kept = record {
    ad = refl;
    length = refl;
    idle = tt;
    no_ad = λ e. absurd (cc);
    another = λ e. absurd (cc);
    no_length = λ e. absurd (cc);
    no_own_length = λ e. absurd (cc);
    no_turns = λ e. absurd (cc);
    no_choice = λ e. absurd (cc);
  };
  tempos = record {
    other = record {
      voice = λ is. absurd (omega (arith, is));
      common = λ is. absurd (omega (arith, is));
      turns = λ is. absurd (omega (arith, is));
      choice = λ is. absurd (omega (arith, is));
    };
    idle = record {
      voice = λ is from. absurd (omega (arith, from));
      common = λ is from to. absurd (omega (arith, from));
      turns = λ is low. absurd (omega (arith, low));
      choice = λ is. absurd (omega (arith, is));
    };
    voice = record {
      voice = λ is from. refl;
      common = λ is from to. absurd (omega (arith, to));
      turns = λ is low. absurd (omega (arith, low));
      choice = λ is. absurd (omega (arith, is));
    };
    common = record {
      voice = λ is from. absurd (omega (arith, from));
      common = λ is from to. refl;
      turns = λ is low. absurd (omega (arith, low));
      choice = λ is. absurd (omega (arith, is));
    };
    turns = record {
      voice = λ is from. absurd (omega (arith, from));
      common = λ is from to. absurd (omega (arith, from));
      turns = λ is low. refl;
      choice = λ is. absurd (omega (arith, is));
    };
    choice = record {
      voice = λ is from. absurd (omega (arith, is));
      common = λ is from to. absurd (omega (arith, is));
      turns = λ is low. absurd (omega (arith, is));
      choice = λ is. refl;
    };
    no_voice = λ keeps. (let on = keeps.voice refl (omega arith) in absurd cc);
    no_common = λ keeps. (let on = keeps.common refl (omega arith) (omega arith) in absurd cc);
    no_first_common = λ keeps. (let on = keeps.common refl (omega arith) (omega arith) in absurd cc);
    no_turns = λ keeps. (let on = keeps.turns refl (omega arith) in absurd cc);
    no_choice = λ keeps. (let on = keeps.choice refl in absurd cc);
  };
}
