-- Words of private contracts alone, which nothing that is claimed rests on: of the first line, and of places that are too
-- small.
use Rattle.std.specs.Prelude.{ℕ, ◌+◌, if◌then◌else◌, Bool, true, false, nat_lt, Option, Some, None, List, ◌∷◌}
use Rattle.scopes.specs.Trees.{Tree, NoneTree, ThenTree, led, opened}
use Rattle.scopes.specs.declared.line.Line.{Line}
use Rattle.scopes.specs.declared.line.Line.TheVariants.{Or, End}
use Rattle.scope_lines.specs.Readings.{first_of}

-- the tree of the first line, and of those in it; and that of the lines behind it
abbrev pub head_of : Tree → Tree
head_of (ThenTree first rest) = first
head_of tree = tree

abbrev pub rest_of : Tree → Tree
rest_of (ThenTree first rest) = rest
rest_of tree = NoneTree

-- the same of a line in front of others
abbrev pub line_tree : Line → List Line → Tree
line_tree line rest = head_of (first_of (led line (opened rest)))

abbrev pub behind_tree : Line → List Line → Tree
behind_tree line rest = rest_of (first_of (led line (opened rest)))

-- whether a line has a number
abbrev pub has_number : Line → Bool
has_number Or = false
has_number End = false
has_number line = true

-- the first place, counted from a given one on, at which numbers don't reach what is asked
abbrev pub short_from : ℕ → List ℕ → List ℕ → Option ℕ
short_from place (least ∷ more) (number ∷ numbers) =
    if nat_lt number least then Some place else short_from (place + 1) more numbers
short_from place least numbers = None
