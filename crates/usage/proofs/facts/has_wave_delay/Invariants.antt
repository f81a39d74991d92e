use Rattle.std.proofs.Common.{ℕ, ◌<◌, ◌≤◌}
use Rattle.song_model.specs.declared.tables.TableName.TheVariants.{Wave}
use Rattle.song_model.specs.LookUp.{table_row}
use Rattle.usage.specs.Marks.{IsMarked}
use Rattle.usage.proofs.facts.has_wave_delay.Given as goal

abbrev pub invariant-loop-p : goal.invariant-loop-p
invariant-loop-p l = (p : ℕ) → p < l.p → IsMarked l.wave p → 0x10 ≤ (table_row l.song Wave p).left
