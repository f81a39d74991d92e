-- Each condition in a variable's row is needed: some line that names the variable is kept where none of the row's other
-- conditions holds. Each such line stands under one of the row's conditions, so it stands under this one, and no variable
-- has a byte for the sake of a condition that asks for none. This is the project's own player.
use Rattle.std.specs.Prelude.{◌≡◌, ℕ, ◌&&◌, ◌||◌, Bool, true, false, not, nat_eq, List, [], ◌∷◌, filter}
use Rattle.player_memory.specs.declared.conditions.TheConstants.{SWINGS, FILTER_TABLE, TRANSPOSES, REPEATS}
use Rattle.player_memory.specs.declared.labels.TheConstants.{TRANSPOSE, VIB_TIME}
use Rattle.player_text.specs.declared.texts.Start.{Start}
use Rattle.player_text.specs.Texts.{filter_tree, voice_tree, init_tree}
use Rattle.narrow_runs.specs.Named.{names, is_one_of}
use Rattle.variable_places.specs.Places.{voice_rows, shared_rows}

-- where all conditions hold but these
abbrev pub all_but : List ℕ → ℕ → Bool
all_but gone condition = not (is_one_of gone condition)

abbrev pub others_of : List ℕ → ℕ → List ℕ
others_of conditions condition = filter (λ other. not (nat_eq other condition)) conditions

-- whether a line of the player that is kept names a label
abbrev pub is_named : Start → (ℕ → Bool) → ℕ → Bool
is_named start holds label =
    names holds filter_tree label || names holds voice_tree label || names holds (init_tree start 92) label

-- whether a condition of a label's row is needed, each one of a row's, and each one of all rows'
abbrev pub is_needed : Start → ℕ → List ℕ → ℕ → Bool
is_needed start label conditions condition = is_named start (all_but (others_of conditions condition)) label

abbrev pub each_needed : Start → ℕ → List ℕ → List ℕ → Bool
each_needed start label conditions [] = true
each_needed start label conditions (condition ∷ more) =
    is_needed start label conditions condition && each_needed start label conditions more

abbrev pub all_needed : Start → List (ℕ × List ℕ) → Bool
all_needed start [] = true
all_needed start (row ∷ rows) = each_needed start row.0 row.1 row.1 && all_needed start rows

pub record RowsAreNeeded (start : Start) : Type 0 where
  pub voice : all_needed start voice_rows ≡ true
  pub shared : all_needed start shared_rows ≡ true
  -- a condition that no line with the label stands under, beside one that all do; and such a row
  pub other : is_needed start VIB_TIME (SWINGS ∷ FILTER_TABLE ∷ []) FILTER_TABLE ≡ false
  pub own : is_needed start VIB_TIME (SWINGS ∷ FILTER_TABLE ∷ []) SWINGS ≡ true
  pub row : all_needed start ((TRANSPOSE, TRANSPOSES ∷ REPEATS ∷ []) ∷ []) ≡ false
