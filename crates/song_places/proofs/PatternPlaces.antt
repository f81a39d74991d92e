-- The first place in used patterns, row after row and pattern after pattern.
use Rattle.std.proofs.Common.{◌≡◌, ℕ, ◌<◌, ◌≤◌, Bool, List, [], ◌∷◌, length, get_or, Some}
use Rattle.std.proofs.Common.{slice_get, sym, ◌∙◌, ap, subst, inl, inr, arith}
use Rattle.std.proofs.lemmas.Bool.{cases_lt}
use Rattle.std.proofs.lemmas.List.{get_or_past}
use Rattle.std.proofs.lemmas.Option.{slice_get_within, slice_get-get_or, get_or_from_slice_get}
use Rattle.song_model.specs.declared.rows.Row.{Row}
use Rattle.song_model.specs.declared.songs.Song.{Song}
use Rattle.song_model.specs.LookUp.{pattern_at}
use Rattle.play_model.specs.Used.{IsUsedPattern}
use Rattle.usage.specs.Marks.{IsMarked, AreMarks}
use Rattle.song_places.specs.declared.places.Place.{Place}
use Rattle.song_places.specs.declared.places.Place.TheVariants.{InPattern}
use Rattle.song_places.specs.Needs.{Need}
use Rattle.song_places.specs.Places.{HasRowAt, IsNeededAt}
use Rattle.song_places.specs.Search.{IsNeededUnder, IsFirstUnder, IsNowhereUnder}
use Rattle.song_places.proofs.Search.{first_on, none_on, alone}
use Rattle.song_places.proofs.Leaves.{inner_kind, inner_pattern, pattern_place}

pattern_is : (song : Song) (p : ℕ) (pattern : List Row) → slice_get song.patterns p ≡ Some pattern →
    pattern_at song p ≡ pattern
unfolding pattern_at
pattern_is song p pattern e = get_or_from_slice_get song.patterns p pattern [] e

pub row_at : (song : Song) (need : Need) (p i : ℕ) (place : Place) → IsNeededUnder song need (2 ∷ p ∷ i ∷ []) place →
    HasRowAt song p i need.row
row_at song need p i place such = subst (IsNeededAt song need) (pattern_place p i place such.under) such.needed

-- ---- row after row

pub row_found : (song : Song) (need : Need) (p i : ℕ) (d : Row) (pattern rows : List Row) → IsUsedPattern song p →
    slice_get song.patterns p ≡ Some pattern → rows ≡ pattern → i < length rows → need.row (get_or rows i d) →
    ((k : ℕ) → k < i → IsNowhereUnder song need (2 ∷ p ∷ k ∷ [])) →
    IsFirstUnder song need (2 ∷ p ∷ []) (InPattern p i)
row_found song need p i d pattern rows used stored same inside needs none =
    let there : slice_get rows i ≡ Some (get_or rows i d) = slice_get-get_or rows i d inside in
    let are : rows ≡ pattern_at song p = same ∙ sym (pattern_is song p pattern stored) in
    first_on song need (2 ∷ p ∷ []) i (InPattern p i) (inner_pattern p) none
    (alone song need (InPattern p i) (record {
      used = used;
      row = get_or rows i d;
      there = subst (λ (xs : List Row). slice_get xs i ≡ Some (get_or rows i d)) are there;
      is_meant = needs;
    }))

pub row_passed : (song : Song) (need : Need) (p i : ℕ) (d : Row) (pattern rows : List Row) →
    slice_get song.patterns p ≡ Some pattern → rows ≡ pattern → ¬ need.row (get_or rows i d) →
    IsNowhereUnder song need (2 ∷ p ∷ i ∷ [])
row_passed song need p i d pattern rows stored same not_needed place such =
    let at = row_at song need p i place such in
    let are : pattern_at song p ≡ rows = pattern_is song p pattern stored ∙ sym same in
    let there : slice_get rows i ≡ Some at.row =
    subst (λ (xs : List Row). slice_get xs i ≡ Some at.row) are at.there in
    not_needed (subst need.row (sym (get_or_from_slice_get rows i at.row d there)) at.is_meant)

pub rows_end : (song : Song) (need : Need) (p i : ℕ) (pattern rows : List Row) →
    slice_get song.patterns p ≡ Some pattern → rows ≡ pattern → length rows ≤ i →
    ((k : ℕ) → k < i → IsNowhereUnder song need (2 ∷ p ∷ k ∷ [])) → IsNowhereUnder song need (2 ∷ p ∷ [])
rows_end song need p i pattern rows stored same end none =
    none_on song need (2 ∷ p ∷ []) (inner_pattern p) (λ k. elim (cases_lt k i) [
      | inl before ↦ none k before
      | inr past ↦ λ place such. (
          let at = row_at song need p k place such in
          let are : pattern_at song p ≡ rows = pattern_is song p pattern stored ∙ sym same in
          let inside : k < length rows = slice_get_within rows k at.row
          (subst (λ (xs : List Row). slice_get xs k ≡ Some at.row) are at.there) in
          absurd (omega arith))
    ])

-- ---- pattern after pattern

pub no_pattern : (song : Song) (need : Need) (p : ℕ) →
    ((i : ℕ) → ¬ HasRowAt song p i need.row) → IsNowhereUnder song need (2 ∷ p ∷ [])
no_pattern song need p none =
    none_on song need (2 ∷ p ∷ []) (inner_pattern p) (λ i place such. none i (row_at song need p i place such))

pub not_used : (song : Song) (need : Need) (p : ℕ) (used : List Bool) → AreMarks (IsUsedPattern song) used →
    ¬ IsMarked used p → IsNowhereUnder song need (2 ∷ p ∷ [])
not_used song need p used marks out = no_pattern song need p (λ i at. out ((marks.each p).1 at.used))

pub first_pattern : (song : Song) (need : Need) (i : ℕ) (place : Place) →
    ((k : ℕ) → k < i → IsNowhereUnder song need (2 ∷ k ∷ [])) →
    IsFirstUnder song need (2 ∷ i ∷ []) place → IsFirstUnder song need (2 ∷ []) place
first_pattern song need i place none first = first_on song need (2 ∷ []) i place (inner_kind 2) none first

-- a pattern that isn't stored has no rows
unstored : (song : Song) (p : ℕ) → length song.patterns ≤ p → pattern_at song p ≡ []
unfolding pattern_at
unstored song p past = get_or_past song.patterns p [] past

nothing_there : (rows : List Row) (i : ℕ) (row : Row) → rows ≡ [] → slice_get rows i ≡ Some row → ⊥
nothing_there rows i row none there = (let inside = slice_get_within rows i row there in
    let few = ap length none in omega arith)

pub patterns_end : (song : Song) (need : Need) (i : ℕ) → length song.patterns ≤ i →
    ((k : ℕ) → k < i → IsNowhereUnder song need (2 ∷ k ∷ [])) → IsNowhereUnder song need (2 ∷ [])
patterns_end song need i end none = none_on song need (2 ∷ []) (inner_kind 2) (λ k. elim (cases_lt k i) [
  | inl before ↦ none k before
  | inr past ↦ no_pattern song need k (λ n at.
      nothing_there (pattern_at song k) n at.row (unstored song k (omega arith)) at.there)
])
