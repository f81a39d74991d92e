use Rattle.edit_script.proofs.RunLaws.{step_in, stopped_in, held_in}
use Rattle.edit_script.proofs.running.run.Goals as goal

pub loop-command-preserved : goal.loop-command-preserved
loop-command-preserved c =
    step_in c.args.session.now c.loop-command.session c.act.new.session c.as_slice-command-items.result.now
    c.loop-command.command-index _ c.loop-command-test.true c.loop-command.invariant c.in_default.ensures.done

pub returns-in-Err-clause-stopped : goal.returns-in-Err-clause-stopped
returns-in-Err-clause-stopped c =
    stopped_in c.args.session.now c.loop-command.session c.act.new.session c.as_slice-command-items.result.now
    c.args.script.now c.loop-command.command-index _ c.in-Err.kind c.as_slice-command-items.ensures
    c.loop-command-test.true c.in-Err.ensures.err c.loop-command.invariant c.in-Err.ensures.refused

pub returns-in-Err-clause-held : goal.returns-in-Err-clause-held
returns-in-Err-clause-held c =
    held_in c.args.session.now c.loop-command.session c.act.new.session c.as_slice-command-items.result.now
    c.args.script.now c.loop-command.command-index _ c.in-Err.kind c.as_slice-command-items.ensures
    c.loop-command-test.true c.in-Err.ensures.err c.loop-command.invariant c.in-Err.ensures.refused
