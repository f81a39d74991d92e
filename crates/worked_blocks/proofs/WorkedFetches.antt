-- The code that fetches a row, run.
use Rattle.std.proofs.Common.{refl}
use Rattle.worked_blocks.specs.WorkedFetches.{FetchesAreWorked}

pub fetches_are_worked : FetchesAreWorked
fetches_are_worked = record {
  walks = refl;
  repeats = refl;
  rest = refl;
  second = refl;
  note = refl;
  both = refl;
  later = refl;
  over = refl;
  one_timer = refl;
  other_timer = refl;
  timer_none = refl;
  timer_envelope = refl;
  timer_gate = refl;
  number_none = refl;
  number_envelope = refl;
  number_gate = refl;
  number_zero = refl;
  number_far = refl;
  no_gate = refl;
  no_envelope = refl;
  skips = refl;
  between = refl;
  within = refl;
}
