use Rattle.std.proofs.Common.{refl}
use Rattle.edit_script.proofs.RunLaws.{session_not_done}
use Rattle.edit_script.proofs.running.act.Goals as goal

pub returns-in-Err-clause-refused : goal.returns-in-Err-clause-refused
returns-in-Err-clause-refused c =
    let told = c.in-Err.ensures in
    rw (c.in-Edit.is, c.of_edit.ensures)
    (session_not_done c.args.session.now c.in-Edit.edit c.in-Err.fault _ refl told.no_such_place told.out_of_limit
    told.bad_value)
