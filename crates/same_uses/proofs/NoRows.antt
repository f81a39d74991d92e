-- A song that adds no row uses no more.
use Rattle.same_uses.specs.SameUses.{NoRowsNoUses}
use Rattle.same_uses.proofs.Parts.{instrument_used}
use Rattle.same_uses.proofs.Reached.{row_reached, is_pointer, is_target}
use Rattle.same_uses.proofs.Features.{has_feature}
use Rattle.same_uses.proofs.Facts.{has_fact}
use Rattle.same_uses.proofs.Numbers.{asks_number}

pub no_rows_lem : NoRowsNoUses
no_rows_lem song other adds = record {
  instruments = instrument_used song other adds;
  reached = row_reached song other adds;
  pointers = is_pointer song other adds;
  targets = is_target song other adds;
  features = has_feature song other adds;
  facts = has_fact song other adds;
  numbers = asks_number song other adds;
}
