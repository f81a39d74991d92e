use Rattle.std.proofs.Common.{subst}
use Rattle.playroutine.specs.Cases.{UsesItsFeatures}
use Rattle.playroutine.proofs.Starts.{endless_lem, played_lem}
use Rattle.playroutine.proofs.Cases.{uses_features}
use Rattle.playroutine.proofs.players.Player.frame.Goals as goal

pub frame_of-requires-clause-endless : goal.frame_of-requires-clause-endless
frame_of-requires-clause-endless c =
    let at = c.self.invariant in
    endless_lem c.self.inside.song.now c.self.inside.number c.self.inside.subtune.now at.playable at.subtune_is

pub returns-clause-cases : goal.returns-clause-cases
returns-clause-cases c =
    subst UsesItsFeatures c.self.view_is (uses_features _ c.self.inside.subtune.now c.self.invariant)

pub invariant_of-self : goal.invariant_of-self
invariant_of-self c = played_lem _ _ _ _ _ _ c.self.invariant c.frame_of.ensures.state
