-- What is worked by hand.
use Rattle.player_code.proofs.claims.worked_codes.Goals as goal
use Rattle.player_code.proofs.WorkedCode.{variables_are_named, plans_are_met, plans_are_refused}
use Rattle.player_code.proofs.WorkedCode.{code_is_measured}
use Rattle.player_code.proofs.WorkedCode.{lists_are_refused}

pub returns-clause-names : goal.returns-clause-names
returns-clause-names c = variables_are_named

pub returns-clause-plans : goal.returns-clause-plans
returns-clause-plans c = plans_are_met

pub returns-clause-refused : goal.returns-clause-refused
returns-clause-refused c = plans_are_refused

pub returns-clause-bytes : goal.returns-clause-bytes
returns-clause-bytes c = code_is_measured

pub returns-clause-lists : goal.returns-clause-lists
returns-clause-lists c = lists_are_refused
