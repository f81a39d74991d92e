-- What is open behind lines, without the trees: lines, or the side of a choice behind its `or`.
use Rattle.std.specs.Prelude.{Bool, true, false, List, [], ◌∷◌, if◌then◌else◌}
use Rattle.scopes.specs.declared.line.Line.{Line}
use Rattle.scopes.specs.declared.line.Line.TheVariants.{Scope, Loop, When, Choose, Or, End}
use Rattle.scopes.specs.Trees.{Open, Lines, Other}
use Rattle.scope_lines.specs.Readings.{is_simple}

pub data Side : Type 0 where
  BodySide : Side
  OtherSide : Side

abbrev pub sides_of : List Open → List Side
sides_of [] = []
sides_of (Lines tree ∷ more) = BodySide ∷ sides_of more
sides_of (Other tree ∷ more) = OtherSide ∷ sides_of more

-- where lines are open they stay so; else nothing is open
abbrev pub stayed : List Side → List Side
stayed (BodySide ∷ more) = BodySide ∷ more
stayed sides = []

-- what is open in front of a line; nothing where the line has no place
abbrev pub led_sides : Line → List Side → List Side
led_sides End (first ∷ more) = BodySide ∷ first ∷ more
led_sides Or (BodySide ∷ more) = BodySide ∷ OtherSide ∷ more
led_sides (Scope name) (BodySide ∷ more) = stayed more
led_sides (Loop count) (BodySide ∷ more) = stayed more
led_sides (When condition) (BodySide ∷ more) = stayed more
led_sides (Choose condition) (BodySide ∷ OtherSide ∷ more) = stayed more
led_sides line sides = if is_simple line then stayed sides else []

abbrev pub led_all : List Line → List Side → List Side
led_all [] sides = sides
led_all (line ∷ lines) sides = led_sides line (led_all lines sides)

-- whether lines alone are open
abbrev pub are_body : List Side → Bool
are_body (BodySide ∷ []) = true
are_body sides = false
