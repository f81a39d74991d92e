use Rattle.usage.proofs.Following.{IsFollowing, left_over}
use Rattle.usage.proofs.programs.follow.Given as goal

abbrev pub invariant-loop-next : goal.invariant-loop-next
invariant-loop-next l = IsFollowing l.name l.rows l.from l.initial.marks l.marks l.next

abbrev pub decreases-loop-next : goal.decreases-loop-next
decreases-loop-next l = left_over l.marks
