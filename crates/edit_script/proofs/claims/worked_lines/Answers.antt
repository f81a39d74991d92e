use Rattle.std.proofs.Common.{refl}
use Rattle.edit_script.proofs.ActionLaws.{action_takes}
use Rattle.edit_script.proofs.OnTexts.{reading_texts}
use Rattle.edit_script.proofs.ScriptLaws.{is_bad_line}
use Rattle.edit_script.proofs.claims.worked_lines.Goals as goal

pub returns-clause-row : goal.returns-clause-row
unfolding reading_texts
returns-clause-row c = action_takes _ _ refl

pub returns-clause-edits : goal.returns-clause-edits
unfolding reading_texts
returns-clause-edits c = (
  action_takes _ _ refl,
  action_takes _ _ refl,
  action_takes _ _ refl,
  action_takes _ _ refl,
  action_takes _ _ refl,
  action_takes _ _ refl,
  action_takes _ _ refl,
  action_takes _ _ refl,
  action_takes _ _ refl,
  action_takes _ _ refl,
  action_takes _ _ refl,
  action_takes _ _ refl,
  action_takes _ _ refl,
  action_takes _ _ refl,
  action_takes _ _ refl,
)

pub returns-clause-names : goal.returns-clause-names
unfolding reading_texts
returns-clause-names c = (action_takes _ _ refl, action_takes _ _ refl)

pub returns-clause-words : goal.returns-clause-words
unfolding reading_texts
returns-clause-words c = (action_takes _ _ refl, action_takes _ _ refl, action_takes _ _ refl)

pub returns-clause-blanks : goal.returns-clause-blanks
unfolding reading_texts
returns-clause-blanks c = (
  is_bad_line _ _ refl refl,
  is_bad_line _ _ refl refl,
  is_bad_line _ _ refl refl,
  is_bad_line _ _ refl refl,
  is_bad_line _ _ refl refl,
)

pub returns-clause-digits : goal.returns-clause-digits
unfolding reading_texts
returns-clause-digits c = (
  is_bad_line _ _ refl refl,
  is_bad_line _ _ refl refl,
  is_bad_line _ _ refl refl,
  is_bad_line _ _ refl refl,
  is_bad_line _ _ refl refl,
  is_bad_line _ _ refl refl,
  is_bad_line _ _ refl refl,
)

pub returns-clause-forms : goal.returns-clause-forms
unfolding reading_texts
returns-clause-forms c = (
  is_bad_line _ _ refl refl,
  is_bad_line _ _ refl refl,
  is_bad_line _ _ refl refl,
  is_bad_line _ _ refl refl,
  is_bad_line _ _ refl refl,
  is_bad_line _ _ refl refl,
  is_bad_line _ _ refl refl,
  is_bad_line _ _ refl refl,
  is_bad_line _ _ refl refl,
)

pub returns-clause-bytes : goal.returns-clause-bytes
unfolding reading_texts
returns-clause-bytes c = (
  is_bad_line _ _ refl refl,
  is_bad_line _ _ refl refl,
  is_bad_line _ _ refl refl,
  is_bad_line _ _ refl refl,
  is_bad_line _ _ refl refl,
  is_bad_line _ _ refl refl,
  is_bad_line _ _ refl refl,
  is_bad_line _ _ refl refl,
)
