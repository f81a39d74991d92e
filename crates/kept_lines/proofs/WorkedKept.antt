-- Sets that are worked, and the numbers with which a subtune begins.
use Rattle.std.proofs.Common.{refl}
use Rattle.kept_lines.specs.WorkedKept.{SetsAreWorked, AskedIsWorked}
use Rattle.kept_lines.specs.Asked.{asked}
use Rattle.kept_lines.specs.KeptLines.{kept_set}
use Rattle.kept_lines.specs.WorkedStarts.{StartsAreWorked}

pub sets_are_worked : SetsAreWorked
unfolding kept_set
sets_are_worked = record {
  none = refl;
  transposes = refl;
  up = refl;
  down = refl;
  tone = refl;
  tie = refl;
  vibrato = refl;
  instrument = refl;
  calculated = refl;
  filters = refl;
  control = refl;
  cutoff = refl;
  volume = refl;
  commands = refl;
  row_tone = refl;
  row_slide = refl;
  row_once = refl;
  first_mask = refl;
  legato = refl;
  no_hard_restart = refl;
  wave_delay = refl;
  gate_note = refl;
  note_vibrato = refl;
  vibrato_delay = refl;
  note_pulse = refl;
  note_filter = refl;
  voice_tempo = refl;
  common_tempo = refl;
  funk_turns = refl;
  funk_choice = refl;
  own_timer = refl;
  own_wave = refl;
  subtunes = refl;
  voice_two = refl;
  voice_three = refl;
  first_holds = refl;
  effects = refl;
  pulse = refl;
  twice = refl;
  first = refl;
  ntsc = refl;
  features = refl;
  all = refl;
  no_others = refl;
}

pub asked_is_worked : AskedIsWorked
unfolding asked
asked_is_worked = record {
  none = refl;
  feature = refl;
  fact = refl;
  last_fact = refl;
  both = refl;
  all = refl;
  no_features = refl;
}

pub starts_are_worked : StartsAreWorked
starts_are_worked = record { once = refl; twice = refl; ntsc = refl }
