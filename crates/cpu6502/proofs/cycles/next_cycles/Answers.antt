use Rattle.std.proofs.Common.{slice_index, sym, ◌∙◌}
use Rattle.cpu6502.proofs.cycles.next_cycles.Goals as goal

pub returns-in-None : goal.returns-in-None
returns-in-None c =
    c.cycles.ensures (slice_index c.args.memory.now) c.in-Ok.ensures.fetched (sym c.stop.ensures ∙ c.in-None.is)
