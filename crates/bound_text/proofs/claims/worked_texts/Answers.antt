use Rattle.bound_text.proofs.WorkedTexts.{texts_are_worked, bad_lines_are_worked}
use Rattle.bound_text.proofs.claims.worked_texts.Goals as goal

pub returns-clause-texts : goal.returns-clause-texts
returns-clause-texts c = texts_are_worked

pub returns-clause-bad : goal.returns-clause-bad
returns-clause-bad c = bad_lines_are_worked
