use Rattle.player_bound.proofs.Kept.{programs_are_lowered, programs_have_nodes}
use Rattle.player_bound.proofs.claims.programs_are_lowered.Goals as goal

pub returns-clause-lowered : goal.returns-clause-lowered
returns-clause-lowered c = programs_are_lowered

pub returns-clause-nodes : goal.returns-clause-nodes
returns-clause-nodes c = programs_have_nodes
