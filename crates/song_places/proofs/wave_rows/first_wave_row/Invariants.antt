use Rattle.std.proofs.Common.{ℕ, ◌<◌, [], ◌∷◌}
use Rattle.song_places.specs.Search.{meant, IsNowhereUnder}
use Rattle.song_places.proofs.wave_rows.first_wave_row.Given as goal

abbrev pub invariant-loop-n : goal.invariant-loop-n
invariant-loop-n l = (k : ℕ) → k < l.n → IsNowhereUnder l.song (meant l.song l.wanted) (4 ∷ k ∷ [])
