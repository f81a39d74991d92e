-- The parts are bounded.
use Rattle.image_parts.proofs.Sums.{unkept_parts_have_none}
use Rattle.image_parts.proofs.Bounds.{parts_are_short, code_is_short, code_is_bounded, images_are_bounded}
use Rattle.image_parts.proofs.Rest.{rest_is_exact, rest_is_bounded}
use Rattle.image_parts.proofs.claims.parts_are_bounded.Goals as goal

pub returns-clause-none : goal.returns-clause-none
returns-clause-none c = unkept_parts_have_none

pub returns-clause-short : goal.returns-clause-short
returns-clause-short c = parts_are_short

pub returns-clause-exact : goal.returns-clause-exact
returns-clause-exact c = rest_is_exact

pub returns-clause-rest : goal.returns-clause-rest
returns-clause-rest c = rest_is_bounded

pub returns-clause-whole : goal.returns-clause-whole
returns-clause-whole c = code_is_short

pub returns-clause-code : goal.returns-clause-code
returns-clause-code c = code_is_bounded

pub returns-clause-image : goal.returns-clause-image
returns-clause-image c = images_are_bounded
