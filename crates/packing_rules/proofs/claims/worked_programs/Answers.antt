use Rattle.packing_rules.proofs.WorkedSizes.{programs_once, programs_stop, programs_kept, programs_jump}
use Rattle.packing_rules.proofs.claims.worked_programs.Goals as goal

pub returns-clause-once : goal.returns-clause-once
returns-clause-once c = programs_once

pub returns-clause-kept : goal.returns-clause-kept
returns-clause-kept c = programs_kept

pub returns-clause-jumps : goal.returns-clause-jumps
returns-clause-jumps c = programs_jump

pub returns-clause-pulse : goal.returns-clause-pulse
returns-clause-pulse c = programs_stop
