-- The first place of a song, kind after kind.
use Rattle.std.proofs.Common.{ℕ, ◌<◌, [], ◌∷◌, inl, inr, arith}
use Rattle.std.proofs.lemmas.Bool.{cases_lt}
use Rattle.song_model.specs.declared.songs.Song.{Song}
use Rattle.song_places.specs.declared.places.Place.{Place}
use Rattle.song_places.specs.Needs.{Need}
use Rattle.song_places.specs.Search.{IsFirstUnder, IsNowhereUnder}
use Rattle.song_places.proofs.Search.{first_on, none_on, none_more}
use Rattle.song_places.proofs.Leaves.{inner_song, kind_of}

below_orders : (song : Song) (need : Need) (k : ℕ) → k < 1 → IsNowhereUnder song need (k ∷ [])
below_orders song need k few place such = (let low = (kind_of k place such.under).low in omega arith)

below_patterns : (song : Song) (need : Need) → IsNowhereUnder song need (1 ∷ []) →
    (k : ℕ) → k < 2 → IsNowhereUnder song need (k ∷ [])
below_patterns song need orders = none_more song need [] 1 (below_orders song need) orders

below_instruments : (song : Song) (need : Need) → IsNowhereUnder song need (1 ∷ []) →
    IsNowhereUnder song need (2 ∷ []) → (k : ℕ) → k < 3 → IsNowhereUnder song need (k ∷ [])
below_instruments song need orders patterns = none_more song need [] 2 (below_patterns song need orders) patterns

below_waves : (song : Song) (need : Need) → IsNowhereUnder song need (1 ∷ []) → IsNowhereUnder song need (2 ∷ []) →
    IsNowhereUnder song need (3 ∷ []) → (k : ℕ) → k < 4 → IsNowhereUnder song need (k ∷ [])
below_waves song need orders patterns instruments =
    none_more song need [] 3 (below_instruments song need orders patterns) instruments

pub first_in_orders : (song : Song) (need : Need) (place : Place) → IsFirstUnder song need (1 ∷ []) place →
    IsFirstUnder song need [] place
first_in_orders song need place first = first_on song need [] 1 place inner_song (below_orders song need) first

pub first_in_patterns : (song : Song) (need : Need) (place : Place) → IsNowhereUnder song need (1 ∷ []) →
    IsFirstUnder song need (2 ∷ []) place → IsFirstUnder song need [] place
first_in_patterns song need place orders first =
    first_on song need [] 2 place inner_song (below_patterns song need orders) first

pub first_in_instruments : (song : Song) (need : Need) (place : Place) → IsNowhereUnder song need (1 ∷ []) →
    IsNowhereUnder song need (2 ∷ []) → IsFirstUnder song need (3 ∷ []) place → IsFirstUnder song need [] place
first_in_instruments song need place orders patterns first =
    first_on song need [] 3 place inner_song (below_instruments song need orders patterns) first

pub first_in_waves : (song : Song) (need : Need) (place : Place) → IsNowhereUnder song need (1 ∷ []) →
    IsNowhereUnder song need (2 ∷ []) → IsNowhereUnder song need (3 ∷ []) →
    IsFirstUnder song need (4 ∷ []) place → IsFirstUnder song need [] place
first_in_waves song need place orders patterns instruments first =
    first_on song need [] 4 place inner_song (below_waves song need orders patterns instruments) first

pub none_in_waves : (song : Song) (need : Need) → IsNowhereUnder song need (1 ∷ []) →
    IsNowhereUnder song need (2 ∷ []) → IsNowhereUnder song need (3 ∷ []) → IsNowhereUnder song need (4 ∷ []) →
    IsNowhereUnder song need []
none_in_waves song need orders patterns instruments waves = none_on song need [] inner_song (λ k.
    elim (cases_lt k 5) [
      | inl few ↦ none_more song need [] 4 (below_waves song need orders patterns instruments) waves k few
      | inr more ↦ λ place such. (let high = (kind_of k place such.under).high in omega arith)
    ])
