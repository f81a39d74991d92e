use Rattle.pattern_pack.proofs.PatternLaws.{spelled_are_patterns}
use Rattle.pattern_pack.proofs.claims.rows_or_fault.Goals as goal

pub returns-clause-patterns : goal.returns-clause-patterns
returns-clause-patterns c = spelled_are_patterns
