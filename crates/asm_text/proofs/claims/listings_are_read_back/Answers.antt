use Rattle.asm_text.proofs.Round.{listings_read_back}
use Rattle.asm_text.proofs.Ways.{what_is_printed_is_read, what_is_printed_has_no_fault}
use Rattle.asm_text.proofs.claims.listings_are_read_back.Goals as goal

pub returns-clause-listing : goal.returns-clause-listing
returns-clause-listing c = listings_read_back

pub returns-clause-read : goal.returns-clause-read
returns-clause-read c = what_is_printed_is_read

pub returns-clause-no_fault : goal.returns-clause-no_fault
returns-clause-no_fault c = what_is_printed_has_no_fault
