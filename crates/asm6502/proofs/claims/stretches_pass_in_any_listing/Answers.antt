use Rattle.asm6502.proofs.Home.{homes_append, homes_grow, stretches_pass, passed_listings_assemble}
use Rattle.asm6502.proofs.claims.stretches_pass_in_any_listing.Goals as goal

pub returns-clause-append : goal.returns-clause-append
returns-clause-append c = homes_append

pub returns-clause-grow : goal.returns-clause-grow
returns-clause-grow c = homes_grow

pub returns-clause-pass : goal.returns-clause-pass
returns-clause-pass c = stretches_pass

pub returns-clause-assemble : goal.returns-clause-assemble
returns-clause-assemble c = passed_listings_assemble
