-- The parts are counted.
use Rattle.scope_parts.proofs.Counted.{parts_take_size, parts_are_kept, parts_are_bounded}
use Rattle.scope_parts.proofs.There.{parts_are_there}
use Rattle.scope_parts.proofs.claims.parts_are_counted.Goals as goal

pub returns-clause-size : goal.returns-clause-size
returns-clause-size c = parts_take_size

pub returns-clause-kept : goal.returns-clause-kept
returns-clause-kept c = parts_are_kept

pub returns-clause-most : goal.returns-clause-most
returns-clause-most c = parts_are_bounded

pub returns-clause-least : goal.returns-clause-least
returns-clause-least c = parts_are_there
