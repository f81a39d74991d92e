use Rattle.std.proofs.Common.{◌+◌, refl}
use Rattle.jobs.proofs.Measured.{no_subtune_summed, subtune_summed}
use Rattle.jobs.proofs.measuring.register_sum.Goals as goal

pub loop-subtune-init : goal.loop-subtune-init
loop-subtune-init c = no_subtune_summed c.args.song.now

pub loop-subtune-preserved : goal.loop-subtune-preserved
loop-subtune-preserved c =
    subtune_summed c.subtune_sum-sum.result (c.loop-subtune.sum + c.subtune_sum-sum.result) c.loop-subtune.invariant
    c.subtune_sum-sum.ensures.sum c.subtune_sum-sum.ensures.most refl
