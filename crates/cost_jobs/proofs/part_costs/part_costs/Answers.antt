use Rattle.std.proofs.Common.{◌<◌, subst, arith}
use Rattle.std.proofs.lemmas.List.Elements.{All-nil}
use Rattle.kept_lines.specs.Asked.{asked}
use Rattle.song_costs.specs.Kept.{AreKeptBelow}
use Rattle.song_costs.proofs.Laws.{kept_none}
use Rattle.cost_jobs.proofs.Costs.{kept_next, below_next}
use Rattle.cost_jobs.proofs.part_costs.part_costs.Goals as goal

pub loop-part-init : goal.loop-part-init
loop-part-init c =
    rw c.new-told.ensures.items (record {
      kept = kept_none c.args.song.now (asked c.args.parts.now.features.0 c.args.parts.now.facts) c.args.options.now;
      named = All-nil (λ cost. cost.part < 0);
    })

pub loop-part-preserved : goal.loop-part-preserved
loop-part-preserved c =
    let so_far = c.loop-part.invariant in
    let e = c.part_cost.ensures in
    rw c.in_ok-add_cost.ensures (record {
      kept = kept_next c.args.song.now (asked c.args.parts.now.features.0 c.args.parts.now.facts)
          c.args.options.now _ _ _ so_far.kept e.exact e.told;
      named = below_next c.args.song.now (asked c.args.parts.now.features.0 c.args.parts.now.facts)
          c.args.options.now _ _ _ so_far.named e.exact;
    })

pub returns-clause-kept : goal.returns-clause-kept
returns-clause-kept c =
    let least = c.loop-part-test.false in
    let most = c.loop-part.auto.part-end in
    subst (λ n. AreKeptBelow c.args.song.now (asked c.args.parts.now.features.0 c.args.parts.now.facts)
    c.args.options.now n c.loop-part.told.items)
    (omega (arith, least, most)) c.loop-part.invariant.kept
