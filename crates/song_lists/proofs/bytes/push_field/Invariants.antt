use Rattle.std.proofs.Common.{◌≡◌, ◌++◌, map, take}
use Rattle.packed_form.specs.Unpacked.{unpacked_instrument}
use Rattle.player_memory.specs.SongLists.{instrument_byte}
use Rattle.song_lists.proofs.bytes.push_field.Given as goal

abbrev pub invariant-loop-instrument : goal.invariant-loop-instrument
invariant-loop-instrument l =
    l.bytes ≡ l.initial.bytes
    ++ map (λ instrument. instrument_byte l.field (unpacked_instrument instrument))
    (take l.instrument-index l.instruments)
