use Rattle.bound_text.proofs.OneReading.{texts_are_of_one_list, texts_have_no_bad_line, one_bad_line}
use Rattle.bound_text.proofs.claims.one_reading.Goals as goal

pub returns-clause-numbers : goal.returns-clause-numbers
returns-clause-numbers c = texts_are_of_one_list

pub returns-clause-good : goal.returns-clause-good
returns-clause-good c = texts_have_no_bad_line

pub returns-clause-bad : goal.returns-clause-bad
returns-clause-bad c = one_bad_line
