use Rattle.std.proofs.Common.{◌≡◌, take}
use Rattle.std.specs.List.{flat_map}
use Rattle.pattern_cut.specs.Cuts.{in_pieces}
use Rattle.song_cut.specs.Tables.{list_at}
use Rattle.song_cut.proofs.cutting.cut_entries.Given as goal

abbrev pub invariant-loop-byte : goal.invariant-loop-byte
invariant-loop-byte l = l.bytes.items ≡ flat_map (in_pieces (list_at l.places)) (take l.byte-index l.entries)
