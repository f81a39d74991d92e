use Rattle.std.proofs.Common.{length, ◌+◌, ◌*◌}
use Rattle.cycle_bound.proofs.least.+least.Given as goal

abbrev pub decreases-push_inner : goal.decreases-push_inner
decreases-push_inner l = 2 * length l.rest.now + 1

abbrev pub decreases-push_least : goal.decreases-push_least
decreases-push_least l = 2 * length l.lines.now
