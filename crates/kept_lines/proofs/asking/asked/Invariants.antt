-- The set has the conditions that have been looked at.
use Rattle.std.proofs.Common.{◌≡◌, ◌<◌, ◌^◌}
use Rattle.kept_lines.specs.Asked.{asks}
use Rattle.kept_lines.proofs.Sums.{bits_below}
use Rattle.kept_lines.proofs.asking.asked.Given as goal

abbrev pub invariant-loop-condition : goal.invariant-loop-condition
invariant-loop-condition l = record {
  set : l.set ≡ bits_below (asks l.features.0 l.facts) l.condition;
  most : l.set < 2 ^ l.condition;
}
