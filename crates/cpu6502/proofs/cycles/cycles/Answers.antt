use Rattle.std.proofs.Common.{sym}
use Rattle.cpu6502.proofs.Fetch.{is_fetched, fetched_takes}
use Rattle.cpu6502.proofs.cycles.cycles.Goals as goal

pub returns : goal.returns
returns c = λ at e goes.
    let index = c.index_cycles.ensures.cycles at (is_fetched at c.args.cpu c.args.instruction e).place in
    let takes = fetched_takes at c.args.cpu c.args.instruction e goes in
    rw (index, c.branch_cycles.ensures.cycles, c.is_taken.ensures) (sym takes)
