-- What is so of the places of variables, whichever conditions hold. This is the project's own player.
use Rattle.std.specs.Prelude.{◌≡◌, ℕ, ◌+◌, ◌*◌, ◌<◌, ◌≤◌, Bool, true}
use Rattle.player_memory.specs.declared.labels.TheConstants.{VARIABLES, FIRST_CLEARED, FUNK_ONE, FUNK_TWO}
use Rattle.player_memory.specs.Labels.{is_own}
use Rattle.player_text.specs.declared.texts.Start.{Start}
use Rattle.player_text.specs.Texts.{filter_tree, voice_tree, init_tree}
use Rattle.narrow_runs.specs.Named.{names}
use Rattle.variable_places.specs.Places.{has_byte, place_of, variable_count}

-- each place is one of the places that are counted
abbrev pub PlacesAreWithin : Type 0
PlacesAreWithin =
    (holds : ℕ → Bool) (label : ℕ) → label < VARIABLES → place_of holds label < variable_count holds

-- there is one, and there are no more than variables
abbrev pub CountsAreFew : Type 0
CountsAreFew = (holds : ℕ → Bool) → (1 ≤ variable_count holds) × (variable_count holds ≤ VARIABLES)

-- where more conditions hold there are no fewer
abbrev pub CountsRise : Type 0
CountsRise =
    (one two : ℕ → Bool) → ((condition : ℕ) → one condition ≡ true → two condition ≡ true) →
    variable_count one ≤ variable_count two

-- so there are as many always as where none holds
abbrev pub CountsAreNoFewer : Type 0
CountsAreNoFewer = (holds : ℕ → Bool) → 61 ≤ variable_count holds

-- no two variables that have a byte have the same place
abbrev pub PlacesAreApart : Type 0
PlacesAreApart =
    (holds : ℕ → Bool) (one two : ℕ) → one < VARIABLES → two < VARIABLES → has_byte holds one ≡ true →
    has_byte holds two ≡ true → place_of holds one ≡ place_of holds two → one ≡ two

-- the voices have the same bytes, each 7 places behind the one before
abbrev pub VoicesAreAlike : Type 0
VoicesAreAlike =
    (holds : ℕ → Bool) (label voice : ℕ) → is_own label ≡ true → voice < 3 →
    has_byte holds (label + 7 * voice) ≡ has_byte holds label

abbrev pub VoicesAreInStep : Type 0
VoicesAreInStep =
    (holds : ℕ → Bool) (label voice : ℕ) → is_own label ≡ true → voice < 3 → has_byte holds label ≡ true →
    place_of holds (label + 7 * voice) ≡ place_of holds label + 7 * voice

-- of the funk tempos both have a byte or none, and the second stands behind the first
abbrev pub FunkIsTogether : Type 0
FunkIsTogether =
    (holds : ℕ → Bool) →
    (has_byte holds FUNK_TWO ≡ has_byte holds FUNK_ONE)
    × (has_byte holds FUNK_ONE ≡ true → place_of holds FUNK_TWO ≡ place_of holds FUNK_ONE + 1)

-- the variables that aren't cleared have bytes in each player, the first ones, and so has the first that is cleared, the
-- one behind them
abbrev pub UnclearedAreFirst : Type 0
UnclearedAreFirst =
    (holds : ℕ → Bool) (label : ℕ) → label ≤ FIRST_CLEARED → (has_byte holds label ≡ true) × (place_of holds label ≡ label)

-- the bytes of all others stand behind
abbrev pub ClearedAreBehind : Type 0
ClearedAreBehind =
    (holds : ℕ → Bool) (label : ℕ) → FIRST_CLEARED ≤ label → label < VARIABLES → has_byte holds label ≡ true →
    FIRST_CLEARED ≤ place_of holds label

-- each label that a kept line names has a byte
abbrev pub NamedHaveBytes : Type 0
NamedHaveBytes =
    (holds : ℕ → Bool) (start : Start) (variables label : ℕ) →
    (names holds filter_tree label ≡ true → has_byte holds label ≡ true)
    × (names holds voice_tree label ≡ true → has_byte holds label ≡ true)
    × (names holds (init_tree start variables) label ≡ true → has_byte holds label ≡ true)
