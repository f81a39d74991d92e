-- Ways to a pattern and counts that were worked out by hand.
use Rattle.std.specs.Prelude.{◌≡◌, ℕ, List, [], ◌∷◌, ◌++◌}
use Rattle.song_model.specs.declared.orders.Order.{Order}
use Rattle.packed_form.specs.declared.packed_songs.PackedSubtune.{PackedSubtune}
use Rattle.packed_form.specs.declared.packed_songs.PackedSong.{PackedSong}
use Rattle.packed_form.specs.WalkCount.{looks_from, most_looks, walk_count}

abbrev pub order : List ℕ → ℕ → Order
order entries restart = record { entries = entries; restart = restart }

abbrev pub packed_order : List ℕ → ℕ → List ℕ
packed_order entries restart = entries ++ 0xFF ∷ restart ∷ []

-- these entries in channel 2, and pattern 0 again and again in the others
abbrev pub subtune : List ℕ → ℕ → PackedSubtune
subtune entries restart = record {
  one = packed_order (0 ∷ []) 0;
  two = packed_order entries restart;
  three = packed_order (0 ∷ []) 0;
}

-- the packed songs of these subtunes have this count
abbrev pub HasCount : List PackedSubtune → ℕ → Type 0
HasCount subtunes count = (packed : PackedSong) → packed.subtunes ≡ subtunes → walk_count packed ≡ count

-- without repeats and transposes the endmark alone is passed
abbrev pub PatternsAlone : Type 0
PatternsAlone = HasCount (subtune (0 ∷ 1 ∷ []) 0 ∷ []) 2

-- the endmark, and then a transpose at the restart position
abbrev pub TransposesArePassed : Type 0
TransposesArePassed =
    (looks_from (order (0xF2 ∷ 0 ∷ []) 0) 0 ≡ 1) × (looks_from (order (0xF2 ∷ 0 ∷ []) 0) 1 ≡ 0)
    × (looks_from (order (0xF2 ∷ 0 ∷ []) 0) 2 ≡ 2) × HasCount (subtune (0xF2 ∷ 0 ∷ []) 0 ∷ []) 3

-- a repeat is passed behind the endmark only where it stands at the restart position
abbrev pub RepeatsArePassed : Type 0
RepeatsArePassed =
    HasCount (subtune (0xD1 ∷ 3 ∷ 1 ∷ []) 0 ∷ []) 3 × HasCount (subtune (0xD1 ∷ 3 ∷ 1 ∷ []) 1 ∷ []) 2

-- two transposes and a repeat, pattern 0, two repeats
abbrev pub with_runs : List ℕ
with_runs = 0xE0 ∷ 0xE1 ∷ 0xD0 ∷ 0 ∷ 0xD1 ∷ 0xD2 ∷ []

-- three bytes at the start, and three from the first of the last repeats on, with the endmark
abbrev pub RunsArePassed : Type 0
RunsArePassed =
    (looks_from (order with_runs 3) 0 ≡ 3) × (looks_from (order with_runs 3) 4 ≡ 3)
    × (most_looks (order with_runs 3) ≡ 3) × HasCount (subtune with_runs 3 ∷ []) 4

-- the second subtune has the most
abbrev pub SubtunesAreCompared : Type 0
SubtunesAreCompared = HasCount (subtune (0xF2 ∷ 0 ∷ []) 0 ∷ subtune (0xF2 ∷ 0xD1 ∷ 0 ∷ []) 0 ∷ []) 4

-- where a walk comes to no pattern, all bytes on its way are passed; a song without subtunes has no way
abbrev pub EndsAreCounted : Type 0
EndsAreCounted =
    HasCount (subtune (0 ∷ 0xD1 ∷ []) 2 ∷ []) 3 × HasCount (subtune (0xD1 ∷ 0xF2 ∷ []) 0 ∷ []) 6 × HasCount [] 1
