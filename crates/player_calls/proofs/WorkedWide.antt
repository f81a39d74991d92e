-- Layouts with spare bytes, computed.
use Rattle.std.proofs.Common.{refl}
use Rattle.player_code.specs.CodeLines.{names_at}
use Rattle.variable_places.specs.Places.{voice_rows, shared_rows, asks, has_byte}
use Rattle.player_calls.specs.WorkedWide.{SparesAreWorked, LayoutsAreWorked}

pub spares_are_worked : SparesAreWorked
spares_are_worked = record {
  in_front = refl;
  first = refl;
  last = refl;
  behind = refl;
  other_in_front = refl;
  other_first = refl;
  other_last = refl;
  other_behind = refl;
  zero = refl;
  stays = refl;
  other_zero = refl;
  other_stays = refl;
}

pub layouts_are_worked : LayoutsAreWorked
unfolding voice_rows shared_rows asks has_byte names_at
layouts_are_worked = record {
  own = refl;
  spare = refl;
  other_spare = refl;
  kept = refl;
  reads = refl;
  writes = refl;
  reads_no_other = refl;
  writes_no_other = refl;
  other_reads = refl;
  other_writes = refl;
  other_reads_none = refl;
  other_writes_none = refl;
}
