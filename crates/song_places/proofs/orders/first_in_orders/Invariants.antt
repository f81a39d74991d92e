use Rattle.std.proofs.Common.{ℕ, ◌+◌, ◌<◌, [], ◌∷◌}
use Rattle.song_places.specs.Search.{meant, IsKnown, IsNowhereUnder}
use Rattle.song_places.proofs.orders.first_in_orders.Given as goal

abbrev pub invariant-loop-i : goal.invariant-loop-i
invariant-loop-i l = record {
  none : (k : ℕ) → k < l.i + 1 → IsNowhereUnder l.song (meant l.song l.wanted) (1 ∷ k ∷ []);
  known : IsKnown l.song l.wanted (l.i + 1) l.known;
}
