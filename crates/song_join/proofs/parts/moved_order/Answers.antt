use Rattle.std.proofs.Common.{ℕ, ◌<◌, List, length, get_or, sym, subst, arith}
use Rattle.song_model.specs.Endless.{IsPatternByte}
use Rattle.std.proofs.lemmas.List.{take_all}
use Rattle.song_join.proofs.Ranges.{moved_are_entries}
use Rattle.song_join.proofs.parts.moved_order.Goals as goal

pub moved_byte-requires-clause-stored : goal.moved_byte-requires-clause-stored
moved_byte-requires-clause-stored c =
    subst
    (λ (bytes : List ℕ). IsPatternByte (get_or bytes c.loop-byte.byte-index 0) →
    get_or bytes c.loop-byte.byte-index 0 < length c.args.second.now.patterns)
    (sym c.as_slice-stored.ensures.bytes)
    (c.requires.stored c.loop-byte.byte-index 0 (rw c.as_slice-stored.ensures.bytes at c.loop-byte-test.true))

pub from_vec-requires : goal.from_vec-requires
from_vec-requires c =
    let all = take_all c.loop-byte.byte-index c.as_slice-stored.result.now (omega arith) in
    rw (c.loop-byte.invariant, all, c.as_slice-stored.ensures.bytes)
    (moved_are_entries c.args.first.now c.args.second.now c.requires.within c.args.order.now.entries
    c.as_slice-stored.ensures.limits c.requires.stored)
