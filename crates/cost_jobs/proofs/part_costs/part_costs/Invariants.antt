use Rattle.std.proofs.Common.{All, ◌<◌}
use Rattle.kept_lines.specs.Asked.{asked}
use Rattle.song_costs.specs.Kept.{AreKeptBelow}
use Rattle.cost_jobs.proofs.part_costs.part_costs.Given as goal

abbrev pub invariant-loop-part : goal.invariant-loop-part
invariant-loop-part l = record {
  kept : AreKeptBelow l.fn.song (asked l.fn.parts.features.0 l.fn.parts.facts) l.fn.options l.part l.told.items;
  named : All (λ cost. cost.part < l.part) l.told.items;
}
