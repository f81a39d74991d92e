use Rattle.asm6502.proofs.Home.{names_append, names_split}
use Rattle.asm6502.proofs.claims.labels_are_named_once.Goals as goal

pub returns-clause-append : goal.returns-clause-append
returns-clause-append c = names_append

pub returns-clause-split : goal.returns-clause-split
returns-clause-split c = names_split
