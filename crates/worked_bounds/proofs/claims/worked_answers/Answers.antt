use Rattle.worked_bounds.proofs.WorkedAnswers.{answers_are_worked}
use Rattle.worked_bounds.proofs.claims.worked_answers.Goals as goal

pub returns : goal.returns
returns c = answers_are_worked
