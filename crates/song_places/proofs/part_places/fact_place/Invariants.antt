use Rattle.song_places.proofs.PartSteps.{IsFoundBelow, facts_for}
use Rattle.song_places.proofs.part_places.fact_place.Given as goal

abbrev pub invariant-loop-fact : goal.invariant-loop-fact
invariant-loop-fact l = IsFoundBelow (facts_for l.song l.part) l.fact-index l.first
