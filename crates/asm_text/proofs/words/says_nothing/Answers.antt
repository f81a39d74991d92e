use Rattle.asm_text.proofs.TextLaws.{says_when}
use Rattle.asm_text.proofs.words.says_nothing.Goals as goal

pub returns-in-len1-up : goal.returns-in-len1-up
returns-in-len1-up c = says_when c.args.line.now c.in-len1-up.len_at_least
