use Rattle.edit_ops.proofs.SameNames.{after_an_insert, after_a_delete, at_nothing}
use Rattle.edit_ops.proofs.claims.pointers_name_the_same.Goals as goal

pub returns : goal.returns
returns c = record { insert = after_an_insert; delete = after_a_delete; nothing = at_nothing }
