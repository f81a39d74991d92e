-- Its bytes are those of its blocks.
use Rattle.player_code.proofs.claims.code_takes_its_blocks.Goals as goal
use Rattle.player_code.proofs.CodeSizes.{code_takes_its_blocks}

pub returns : goal.returns
returns c = code_takes_its_blocks
