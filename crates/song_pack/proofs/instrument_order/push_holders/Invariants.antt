use Rattle.std.proofs.Common.{◌≡◌, ◌++◌, ◌&&◌, ◌==◌}
use Rattle.std.specs.List.{filter, range_with_len}
use Rattle.song_model.specs.LookUp.{instrument_at}
use Rattle.song_facts.specs.Hold.{hold_of, how_much}
use Rattle.table_pack.specs.Marks.{is_marked}
use Rattle.song_pack.proofs.instrument_order.push_holders.Given as goal

abbrev pub invariant-loop-index : goal.invariant-loop-index
invariant-loop-index l =
    l.order.items
    ≡ l.initial.order.items
    ++ filter (λ n. is_marked l.usage.instruments n && (how_much (hold_of (instrument_at l.song n)) == how_much l.hold))
    (range_with_len 2 l.index)
