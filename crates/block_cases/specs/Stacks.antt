-- What is open, of what the code has.
use Rattle.std.specs.Prelude.{List, [], ◌∷◌}
use Rattle.block_cases.specs.declared.form.Open.{Open, Nothing, Body', Other'}
use Rattle.block_cases.specs.Sides.{Side, BodySide, OtherSide}

abbrev pub stack_of : Open → List Side
stack_of Nothing = []
stack_of (Body' p outer) = BodySide ∷ stack_of outer
stack_of (Other' p outer) = OtherSide ∷ stack_of outer
