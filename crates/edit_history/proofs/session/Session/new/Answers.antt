use Rattle.edit_history.proofs.SessionLaws.{kept_new}
use Rattle.edit_history.proofs.session.Session.new.Goals as goal

pub invariant_of-result : goal.invariant_of-result
invariant_of-result c = kept_new c.args.song c.new.result c.new-2.result c.new.ensures.items c.new-2.ensures.items
