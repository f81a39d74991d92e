use Rattle.player_bound.proofs.Kept.{turns_are_its_walks}
use Rattle.player_bound.proofs.claims.worked_turns.Goals as goal

pub returns : goal.returns
returns c = turns_are_its_walks
