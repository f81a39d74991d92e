use Rattle.std.proofs.Common.{◌-◌}
use Rattle.song_length.proofs.Laws.{plays_cost_little}
use Rattle.length_jobs.proofs.Drawing.{not_drawn}
use Rattle.length_jobs.proofs.chart.picture_of.Goals as goal

pub returns-in-Err-clause-refused : goal.returns-in-Err-clause-refused
returns-in-Err-clause-refused c =
    not_drawn c.args.psid.now c.args.subtune c.args.calls c.in-Err.fault _ c.in-Err.ensures.fault c.fault_refusal.ensures

pub returns-in-Err-play_cycles-clause-refused : goal.returns-in-Err-play_cycles-clause-refused
returns-in-Err-play_cycles-clause-refused c =
    not_drawn c.args.psid.now c.args.subtune c.args.calls c.in-Err-play_cycles.fault _ c.in-Err-play_cycles.ensures.fault
    c.fault_refusal-in-Err-play_cycles.ensures

pub draw-requires-clause-short : goal.draw-requires-clause-short
draw-requires-clause-short c =
    rw c.as_slice.ensures (plays_cost_little c.args.psid.now (c.args.subtune - 1) c.args.calls c.in-Ok-play_cycles.cycles
    c.in-Ok-play_cycles.ensures.cost)
