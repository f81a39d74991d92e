use Rattle.pattern_pack.proofs.NormalRows.{normal_rows_are_fetched}
use Rattle.pattern_pack.proofs.claims.normal_rows_are_fetched.Goals as goal

pub returns : goal.returns
returns c = normal_rows_are_fetched
