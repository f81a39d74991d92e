use Rattle.std.proofs.Common.{◌≡◌}
use Rattle.packed_form.specs.WalkCount.{looks_from}
use Rattle.packed_form.proofs.OrderWalks.{most_from}
use Rattle.packed_form.proofs.walk_counts.most_looks.Given as goal

abbrev pub invariant-loop-place : goal.invariant-loop-place
invariant-loop-place l = record {
  looks : l.looks ≡ looks_from (record { entries = l.entries; restart = l.restart }) l.place;
  most : l.most ≡ most_from (record { entries = l.entries; restart = l.restart }) l.place;
}
