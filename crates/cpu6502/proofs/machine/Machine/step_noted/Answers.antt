use Rattle.std.proofs.Common.{sym, ◌∙◌, slice_index}
use Rattle.cpu6502.proofs.Fetch.{fetched_goes}
use Rattle.cpu6502.proofs.machine.Machine.step_noted.Goals as goal

pub returns-clause-cycles : goal.returns-clause-cycles
returns-clause-cycles c =
    let at = slice_index c.args.self.now.memory in
    let cpu = c.args.self.now.cpu in
    let e = c.in_ok-instruction.ensures.fetched in
    c.cycles-taken.ensures at e
    (fetched_goes at cpu c.in_ok-instruction.instruction c.in_ok-effect.effect e (sym c.effect.ensures ∙ c.in_ok-effect.was))
