-- What a sink has taken: the bytes of all its pieces, one after the other.
use Rattle.std.specs.Prelude.{◌≡◌, ℕ, List, ◌++◌, Option, take, option_map}

-- what a sink has taken, where it tells it, with this piece after it
abbrev pub told_with_piece : Option (List ℕ) → List ℕ → Option (List ℕ)
told_with_piece told piece = option_map (λ bytes. bytes ++ piece) told

-- a prefix of the piece was taken
abbrev pub IsTakenInPart : Option (List ℕ) → Option (List ℕ) → List ℕ → Type 0
IsTakenInPart before after piece = (n : ℕ) × (after ≡ told_with_piece before (take n piece))
