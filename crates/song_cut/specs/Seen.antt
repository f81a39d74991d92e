-- Numbers, each once, in the order in which they are first seen.
use Rattle.std.specs.Prelude.{◌≡◌, ℕ, ◌<◌, Bool, true, false, nat_eq, if◌then◌else◌, List, [], ◌∷◌, ◌++◌, length}
use Rattle.std.specs.List.{list_any, fold}
use Rattle.song_model.specs.declared.patterns.TheConstants.{MOST_PATTERNS}
use Rattle.song_cut.specs.declared.collecting.TheConstants.{MOST_PIECES}
use Rattle.song_cut.specs.declared.seen.SeenPieces.{SeenPieces}
use Rattle.song_cut.specs.Marks.{is_marked}

-- numbers with this one at the end, where it isn't there
unfoldable pub with_number : List ℕ → ℕ → List ℕ
with_number numbers k = if list_any (nat_eq k) numbers then numbers else numbers ++ k ∷ []

-- with each of these, one after the other
unfoldable pub gathered : List ℕ → List ℕ → List ℕ
gathered numbers more = fold with_number numbers more

-- the marks are those of the numbers that were seen
pub record AreMarked (seen : SeenPieces) : Type 0 where
  pub long : length seen.marks ≡ MOST_PIECES
  pub each : (k : ℕ) → k < MOST_PIECES → is_marked seen.marks k ≡ list_any (nat_eq k) seen.numbers.items

-- these were seen, or they are more than a song may have patterns
pub record AreSeen (numbers : List ℕ) (seen : SeenPieces) : Type 0 where
  pub numbers_are : seen.numbers.items ≡ numbers
  pub marked : AreMarked seen

abbrev pub Sees : Bool → List ℕ → SeenPieces → Type 0
Sees true numbers seen = AreSeen numbers seen
Sees false numbers seen = MOST_PATTERNS < length numbers
