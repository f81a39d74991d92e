use Rattle.std.proofs.Common.{◌≡◌, map, take}
use Rattle.song_model.specs.LookUp.{instrument_at}
use Rattle.song_pack.specs.Numbers.{row_of}
use Rattle.song_pack.specs.Packed.{packed_instrument}
use Rattle.song_pack.proofs.instruments.packed_instruments.Given as goal

abbrev pub invariant-loop-n : goal.invariant-loop-n
invariant-loop-n l =
    l.list.items ≡ map (λ n. packed_instrument (row_of l.numbers) (instrument_at l.song n)) (take l.n-index l.order)
