use Rattle.std.proofs.Common.{◌+◌, refl}
use Rattle.jobs.proofs.Measured.{none_summed, call_summed, player_stands}
use Rattle.play_model.specs.State.{no_options}
use Rattle.jobs.proofs.measuring.subtune_sum.Goals as goal

pub loop-call-init : goal.loop-call-init
loop-call-init c =
    none_summed c.args.song.now c.args.subtune c.in-Ok.player
    (player_stands c.args.song.now c.args.subtune c.default.result c.in-Ok.player c.default.ensures c.in-Ok.ensures.plays
    c.in-Ok.ensures.start)

pub loop-call-preserved : goal.loop-call-preserved
loop-call-preserved c =
    let next = c.next_frame.ensures c.args.song.now c.args.subtune no_options c.loop-call.invariant.stands in
    call_summed c.next_frame.new.player c.next_frame.result c.bytes_sum-sum.result
    (c.loop-call.sum + c.bytes_sum-sum.result) c.loop-call.invariant next.0 next.1 c.bytes_sum-sum.ensures.sum
    c.bytes_sum-sum.ensures.most refl
