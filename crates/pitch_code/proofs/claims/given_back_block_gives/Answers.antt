use Rattle.pitch_code.proofs.claims.given_back_block_gives.Goals as goal
use Rattle.pitch_code.proofs.Giving.{given_back_block_gives, given_back_block_plays}

-- src/claims.rt:15:1
pub returns-clause-gives : goal.returns-clause-gives
returns-clause-gives c = given_back_block_gives

pub returns-clause-plays : goal.returns-clause-plays
returns-clause-plays c = given_back_block_plays
