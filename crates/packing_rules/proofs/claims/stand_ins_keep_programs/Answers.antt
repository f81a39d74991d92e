use Rattle.packing_rules.proofs.StandIns.{stand_ins_keep}
use Rattle.packing_rules.proofs.claims.stand_ins_keep_programs.Goals as goal

pub returns-clause-keep : goal.returns-clause-keep
returns-clause-keep c = stand_ins_keep
