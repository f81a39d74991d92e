use Rattle.packing_rules.proofs.ProgramMaps.{programs_read_the_same}
use Rattle.packing_rules.proofs.NewPointers.{new_pointers_are_read}
use Rattle.packing_rules.proofs.claims.programs_read_the_same.Goals as goal

pub returns-clause-maps : goal.returns-clause-maps
returns-clause-maps c = programs_read_the_same

pub returns-clause-pointers : goal.returns-clause-pointers
returns-clause-pointers c = new_pointers_are_read
