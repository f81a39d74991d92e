use Rattle.player_bound.proofs.OneAnswer.{one_answer}
use Rattle.player_bound.proofs.claims.numbers_have_one_answer.Goals as goal

pub returns : goal.returns
returns c = one_answer
