use Rattle.std.proofs.Common.{◌≡◌, ℕ, List, All, map, take, slice_index}
use Rattle.song_model.specs.declared.rows.Row.{Row}
use Rattle.song_model.specs.PatternLimits.{IsRow}
use Rattle.song_pack.specs.Numbers.{row_of, numbered_row}
use Rattle.song_pack.specs.declared.numbers.RowNumbers.{RowNumbers}
use Rattle.song_pack.proofs.patterns.numbered_pattern.Given as goal

pub record NumberedTo (numbers : RowNumbers) (instruments : List ℕ) (rows new : List Row) : Type 0 where
  pub are : new ≡ map (numbered_row (row_of numbers) (slice_index instruments)) rows
  pub fit : All IsRow new

abbrev pub invariant-loop-row : goal.invariant-loop-row
invariant-loop-row l = NumberedTo l.numbers l.instruments (take l.row-index l.stored) l.rows.items
