use Rattle.slide_code.proofs.claims.worked_slides.Goals as goal
use Rattle.slide_code.proofs.WorkedSlides.{slides_are_worked, grounds_are_worked, others_are_denied, runs_are_denied}

-- src/claims.rt:25:1
pub returns-clause-runs : goal.returns-clause-runs
returns-clause-runs c = slides_are_worked

pub returns-clause-grounds : goal.returns-clause-grounds
returns-clause-grounds c = grounds_are_worked

pub returns-clause-others : goal.returns-clause-others
returns-clause-others c = others_are_denied

pub returns-clause-denied : goal.returns-clause-denied
returns-clause-denied c = runs_are_denied
