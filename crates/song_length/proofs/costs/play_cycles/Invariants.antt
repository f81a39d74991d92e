-- So many plays have been made.
use Rattle.song_length.proofs.Costing.{IsCosted}
use Rattle.song_length.proofs.costs.play_cycles.Given as goal

abbrev pub invariant-loop-before : goal.invariant-loop-before
invariant-loop-before l = IsCosted l.psid l.song l.before l.cycles l.runner
