use Rattle.std.proofs.Common.{◌≡◌, ℕ, ◌<◌, true}
use Rattle.song_model.specs.LookUp.{table_row}
use Rattle.play_model.specs.Reached.{is_jump}
use Rattle.usage.specs.Marks.{IsMarked}
use Rattle.usage.proofs.checks.check_pointers.Given as goal

abbrev pub invariant-loop-p : goal.invariant-loop-p
invariant-loop-p l = (q : ℕ) → q < l.p → IsMarked l.named q → ¬ (is_jump l.name (table_row l.song l.name q) ≡ true)
