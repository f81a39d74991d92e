use Rattle.fetch_code.proofs.claims.fetch_block_fetches.Goals as goal
use Rattle.fetch_code.proofs.Stepping.{fetch_block_fetches}

pub returns : goal.returns
returns c = fetch_block_fetches
