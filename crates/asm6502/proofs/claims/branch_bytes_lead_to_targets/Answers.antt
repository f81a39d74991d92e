use Rattle.asm6502.proofs.Reaches.{branches_reach, far_is_out_of_reach, branches_keep_distance, branches_reach_after}
use Rattle.asm6502.proofs.Reaches.{branches_reach_before}
use Rattle.asm6502.proofs.claims.branch_bytes_lead_to_targets.Goals as goal

pub returns-clause-reach : goal.returns-clause-reach
returns-clause-reach c = branches_reach

pub returns-clause-far : goal.returns-clause-far
returns-clause-far c = far_is_out_of_reach

pub returns-clause-distance : goal.returns-clause-distance
returns-clause-distance c = branches_keep_distance

pub returns-clause-after : goal.returns-clause-after
returns-clause-after c = branches_reach_after

pub returns-clause-before : goal.returns-clause-before
returns-clause-before c = branches_reach_before
