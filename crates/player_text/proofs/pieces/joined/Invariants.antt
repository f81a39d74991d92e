-- What has been joined: the steps so far.
use Rattle.std.proofs.Common.{◌≡◌, take}
use Rattle.std.specs.List.{flat_map}
use Rattle.player_text.proofs.pieces.joined.Given as goal

abbrev pub invariant-loop-step : goal.invariant-loop-step
invariant-loop-step l =
    l.lines ≡ flat_map (λ step. flat_map (λ piece. piece.now) step.now) (take l.step-index l.steps)
