use Rattle.std.proofs.Common.{arith}
use Rattle.std.proofs.lemmas.List.{take_all}
use Rattle.song_join.proofs.Ranges.{moved_is_pattern}
use Rattle.song_join.proofs.parts.moved_pattern.Goals as goal

pub from_vec-requires : goal.from_vec-requires
from_vec-requires c =
    let all = take_all c.loop-row.row-index c.as_slice-stored.result.now (omega arith) in
    rw (c.loop-row.invariant, all, c.as_slice-stored.ensures.rows)
    (moved_is_pattern c.args.first.now c.args.second.now c.requires c.args.pattern.now c.as_slice-stored.ensures.limits)
