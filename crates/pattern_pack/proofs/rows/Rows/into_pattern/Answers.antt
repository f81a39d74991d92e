use Rattle.std.proofs.Common.{arith}
use Rattle.pattern_pack.proofs.Kept.{kept_is_pattern, kept_within}
use Rattle.pattern_pack.proofs.rows.Rows.into_pattern.Goals as goal

pub from_vec-requires : goal.from_vec-requires
from_vec-requires c =
    let is = c.requires.1 in
    let counted = is.count in
    let some = c.if-self-eq0.false in
    let few = c.if-self.false in
    kept_is_pattern c.requires.0 c.args.self.kept.items is.kept c.requires.2 (omega arith) (omega arith)

pub returns : goal.returns
returns c = λ all is.
    let counted = is.count in
    let some = c.if-self-eq0.false in
    let few = c.if-self.false in
    rw c.from_vec.ensures (kept_within all c.args.self.kept.items is.kept (omega arith) (omega arith))
