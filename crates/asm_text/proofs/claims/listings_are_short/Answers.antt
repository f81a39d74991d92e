use Rattle.asm_text.proofs.Printed.{listing_short}
use Rattle.asm_text.proofs.claims.listings_are_short.Goals as goal

pub returns : goal.returns
returns c = listing_short
