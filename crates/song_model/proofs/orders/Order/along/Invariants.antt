use Rattle.song_model.specs.WalkRest.{IsSameRest}
use Rattle.song_model.proofs.Rests.{place_at}
use Rattle.song_model.proofs.orders.Order.along.Given as goal

abbrev pub invariant-loop-place : goal.invariant-loop-place
invariant-loop-place l = IsSameRest l.self.entries l.fn.from (place_at l.place l.transpose l.repeat)
