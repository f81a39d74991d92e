use Rattle.pattern_pack.proofs.PatternLaws.{spelled_once}
use Rattle.pattern_pack.proofs.claims.what_is_packed_is_unpacked.Goals as goal

pub returns-clause-once : goal.returns-clause-once
returns-clause-once c = spelled_once
