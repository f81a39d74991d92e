use Rattle.std.proofs.Common.{ℕ, ◌<◌, [], ◌∷◌}
use Rattle.song_places.specs.Search.{meant, IsNowhereUnder}
use Rattle.song_places.proofs.instruments.first_instrument.Given as goal

abbrev pub invariant-loop-instrument : goal.invariant-loop-instrument
invariant-loop-instrument l = (k : ℕ) → k < l.instrument →
    IsNowhereUnder l.song (meant l.song l.wanted) (3 ∷ k ∷ [])
