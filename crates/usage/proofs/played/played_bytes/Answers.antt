use Rattle.usage.specs.Played.{PlaysByte}
use Rattle.usage.proofs.AddedMarks.{adds_item}
use Rattle.usage.proofs.PlayedBytes.{all_played}
use Rattle.usage.proofs.played.played_bytes.Goals as goal

pub loop-subtune-preserved : goal.loop-subtune-preserved
loop-subtune-preserved c =
    adds_item PlaysByte c.as_slice-stored.result.now c.loop-subtune.subtune-index c.subtune-item.result
    c.loop-subtune-test.true c.subtune-item.is c.loop-subtune.invariant c.mark_subtune.ensures

pub returns : goal.returns
returns c =
    all_played c.args.song.now c.as_slice-stored.result.now c.loop-subtune.subtune-index c.as_slice-stored.ensures.items
    c.loop-subtune-test.false c.loop-subtune.invariant
