use Rattle.pattern_cut.proofs.Choices.{chosen_ways_weigh_no_more_lem}
use Rattle.pattern_cut.proofs.claims.chosen_ways_weigh_no_more.Goals as goal

pub returns : goal.returns
returns c = chosen_ways_weigh_no_more_lem
