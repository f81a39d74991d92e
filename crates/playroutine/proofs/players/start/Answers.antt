use Rattle.play_model.specs.Frame.{subtune_at}
use Rattle.playroutine.proofs.Starts.{begun_lem}
use Rattle.playroutine.proofs.players.start.Goals as goal

pub invariant_of-result : goal.invariant_of-result
invariant_of-result c =
    begun_lem c.args.song.now c.in-Some.played.now c.args.subtune c.args.options c.start.result c.requires
    c.in-Some.ensures.subtune (c.start.ensures c.in-Some.played.now)

pub returns-in-Some-clause-start : goal.returns-in-Some-clause-start
returns-in-Some-clause-start c = c.start.ensures (subtune_at c.args.song.now c.args.subtune)
