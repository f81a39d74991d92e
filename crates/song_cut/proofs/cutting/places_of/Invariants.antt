use Rattle.std.proofs.Common.{◌≡◌, map, take, nat_eq}
use Rattle.std.specs.List.{position_or_len}
use Rattle.song_cut.proofs.cutting.places_of.Given as goal

abbrev pub invariant-loop-number : goal.invariant-loop-number
invariant-loop-number l =
    l.places.items ≡ map (λ k. position_or_len (nat_eq k) l.order) (take l.number-index l.numbers)
