use Rattle.std.proofs.Common.{◌≡◌, take, Ok}
use Rattle.edit_script.specs.Runs.{fold_of}
use Rattle.edit_script.proofs.running.run.Given as goal

abbrev pub invariant-loop-command : goal.invariant-loop-command
invariant-loop-command l = fold_of l.initial.session (take l.command-index l.command-items) ≡ Ok l.session
