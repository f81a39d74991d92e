use Rattle.std.proofs.Common.{ℕ, ◌<◌}
use Rattle.song_model.specs.LookUp.{speed_row}
use Rattle.usage.specs.Marks.{IsMarked}
use Rattle.usage.proofs.uses.has_note_speed.Given as goal

abbrev pub invariant-loop-pointer : goal.invariant-loop-pointer
invariant-loop-pointer l = (p : ℕ) → p < l.pointer → IsMarked l.pointers p → (speed_row l.song p).left < 0x80
