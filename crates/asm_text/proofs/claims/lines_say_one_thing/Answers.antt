use Rattle.asm_text.proofs.Ways.{lines_say_one_thing}
use Rattle.asm_text.proofs.claims.lines_say_one_thing.Goals as goal

pub returns : goal.returns
returns c = lines_say_one_thing
