use Rattle.asm_text.proofs.Ways.{texts_read_in_one_way}
use Rattle.asm_text.proofs.claims.texts_read_in_one_way.Goals as goal

pub returns : goal.returns
returns c = texts_read_in_one_way
