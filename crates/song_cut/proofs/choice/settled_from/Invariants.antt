use Rattle.std.proofs.Common.{◌≡◌, replicate}
use Rattle.std.specs.List.{fold}
use Rattle.song_model.specs.declared.patterns.TheConstants.{MOST_PATTERNS}
use Rattle.pattern_cut.specs.Choice.{settled}
use Rattle.song_cut.proofs.ChosenWays.{named_below}
use Rattle.song_cut.proofs.choice.settled_from.Given as goal

abbrev pub invariant-loop-n : goal.invariant-loop-n
invariant-loop-n l = l.ways ≡ fold (settled l.song) (replicate MOST_PATTERNS l.fn.length) (named_below l.song l.n)
