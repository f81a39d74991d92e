use Rattle.usage.proofs.HeardChannels.{heard_more, heard_of_all}
use Rattle.usage.proofs.channels.heard_patterns.Goals as goal

pub loop-n-preserved : goal.loop-n-preserved
loop-n-preserved c =
    heard_more c.args.song.now c.loop-n.n c.index-patterns-n.result
    (rw c.as_slice-patterns.ensures.items at c.index-patterns-n.is)
    (rw c.as_slice-patterns.ensures.items at c.loop-n-test.true) c.loop-n.invariant
    (rw c.as_slice.ensures.rows at c.mark_if_heard.ensures)

pub returns : goal.returns
returns c =
    heard_of_all c.args.song.now c.loop-n.n (rw c.as_slice-patterns.ensures.items at c.loop-n-test.false)
    c.loop-n.invariant
