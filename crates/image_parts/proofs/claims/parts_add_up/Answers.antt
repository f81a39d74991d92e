-- The parts add up.
use Rattle.image_parts.proofs.Sums.{code_takes_its_parts, parts_add_up}
use Rattle.image_parts.proofs.Around.{lines_stand_around}
use Rattle.image_parts.proofs.claims.parts_add_up.Goals as goal

pub returns-clause-size : goal.returns-clause-size
returns-clause-size c = code_takes_its_parts

pub returns-clause-lines : goal.returns-clause-lines
returns-clause-lines c = lines_stand_around

pub returns-clause-sum : goal.returns-clause-sum
returns-clause-sum c = parts_add_up
