use Rattle.asm6502.proofs.Naming.{place_of-append}
use Rattle.asm6502.proofs.Home.{labels_stand_where_named}
use Rattle.asm6502.proofs.claims.labels_have_places.Goals as goal

pub returns-clause-places : goal.returns-clause-places
returns-clause-places c = place_of-append

pub returns-clause-addresses : goal.returns-clause-addresses
returns-clause-addresses c = labels_stand_where_named
