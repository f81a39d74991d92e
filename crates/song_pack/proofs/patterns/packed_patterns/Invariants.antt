use Rattle.std.proofs.Common.{◌≡◌, map}
use Rattle.table_pack.specs.Marks.{is_marked}
use Rattle.song_pack.specs.Texts.{text_under}
use Rattle.song_pack.proofs.GatheredPatterns.{GatheredTo}
use Rattle.song_pack.proofs.patterns.packed_patterns.Given as goal

abbrev pub invariant-loop-p : goal.invariant-loop-p
invariant-loop-p l =
    GatheredTo (text_under l.song l.numbers l.instruments) (is_marked l.used) l.p l.list.items l.to
    × (map (λ key. key.items) l.seen.keys ≡ l.list.items)
