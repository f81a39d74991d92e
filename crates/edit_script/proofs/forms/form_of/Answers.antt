use Rattle.edit_script.proofs.KeywordLaws.{word_is_utf8}
use Rattle.edit_script.proofs.forms.form_of.Goals as goal

pub returns-in-Err-clause-none : goal.returns-in-Err-clause-none
returns-in-Err-clause-none c = λ keyword same. c.in-Err.ensures.cases.0 (word_is_utf8 c.args.word.now keyword same)
