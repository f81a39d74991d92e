-- Bytes, counts and places that are worked.
use Rattle.std.proofs.Common.{refl, arith}
use Rattle.variable_places.specs.Places.{voice_rows, shared_rows, asks, has_byte, voice_labels, other_labels}
use Rattle.variable_places.specs.Places.{free_places, funk_place, place_of, variable_count}
use Rattle.variable_places.specs.WorkedPlaces.{FieldsAreWorked, BytesAreWorked, CountsAreWorked, PlacesAreWorked}

pub fields_are_worked : FieldsAreWorked
unfolding free_places
fields_are_worked = record {
  none = refl;
  first = refl;
  other = refl;
  second = refl;
  all = refl;
  unlisted = refl;
  asks_two = refl;
  asks_none = refl;
  no_row = refl;
  front = refl;
  last = refl;
  not_there = refl;
  first_voice = (refl, refl);
  second_voice = (refl, refl);
  third_voice = (refl, refl);
  tempos = (refl, refl);
  group = (refl, refl, refl, refl);
  next_group = (refl, refl, refl);
  fields = (refl, refl, refl, refl, refl);
  in_group = refl;
  two_each = refl;
  behind_full = refl;
  with_all = refl;
  voices = (refl, refl, refl, refl);
  others = (refl, refl, refl, refl);
}

pub bytes_are_worked : BytesAreWorked
unfolding voice_rows shared_rows asks has_byte voice_labels other_labels
bytes_are_worked = record {
  fewest = (refl, refl);
  most = (refl, refl);
  pulse = (refl, refl);
  filter = (refl, refl);
  lent = (refl, refl);
  funk = (refl, refl);
  by_one = refl;
  by_two = refl;
  by_other = refl;
  its_own = refl;
  by_none = refl;
  always = refl;
  timer = (refl, refl);
  remembers = refl;
  no_lent = refl;
  second = refl;
  third = refl;
  no_third = refl;
  funk_two = refl;
  no_funk_two = refl;
  named = refl;
  unnamed = (refl, refl);
  uncovered = refl;
  list = (refl, refl);
}

pub counts_are_worked : CountsAreWorked
unfolding voice_rows shared_rows asks has_byte voice_labels other_labels free_places funk_place variable_count
counts_are_worked = record {
  fewest = refl;
  most = refl;
  pulse = refl;
  transposes = refl;
  both = refl;
  next_group = refl;
  volume = refl;
  control = refl;
  three = refl;
  five = refl;
  lent = refl;
  funk = refl;
  pulse_funk = refl;
}

pub places_are_worked : PlacesAreWorked
unfolding voice_rows shared_rows asks has_byte voice_labels other_labels free_places funk_place place_of variable_count
places_are_worked = record {
  uncleared = (refl, refl, refl, refl, refl);
  tempos = (refl, refl, refl);
  attack = (refl, refl, refl);
  repeat = (refl, refl);
  voices = (refl, refl);
  timer = (refl, refl, refl);
  pulse = (refl, refl);
  volume = refl;
  third = refl;
  filter = (refl, refl, refl, refl);
  lent = (refl, refl);
  funk = (refl, refl);
  same = (refl, refl, refl, refl, refl, refl);
  none = (refl, refl, refl);
  lists = refl;
  not_within = refl;
  no_fourth = λ e. omega (arith, e);
  not_own = λ e. omega (arith, e);
  not_there = λ e. omega (arith, e);
  not_together = λ e. omega (arith, e);
}
