-- The rows of plays as lists: orderlists for which these are the same play the same rows.
use Rattle.std.specs.Prelude.{◌≡◌, ℤ, List, map}
use Rattle.std.specs.List.{flat_map}
use Rattle.song_model.specs.declared.rows.Row.{Row}
use Rattle.song_model.specs.declared.orders.Order.{Order}
use Rattle.song_model.specs.declared.orders.Step.{Step}
use Rattle.song_model.specs.Endless.{IsEndless}
use Rattle.song_model.specs.Walk.{prefix_of, cycle_of}
use Rattle.play_model.specs.LookUps.{LookUps}
use Rattle.same_frames.specs.SameRows.{HasPatternLengths, PlaysSameRows}

-- a row, and the transpose with which it is played
pub record PlayedRow : Type 0 where
  pub row : Row
  pub transpose : ℤ

-- the rows of one play, and those of several, one behind the other
abbrev pub rows_of_step : LookUps → Step → List PlayedRow
rows_of_step look step = map (λ (r : Row). record { row = r; transpose = step.transpose }) (look.rows step.pattern)

abbrev pub rows_of_steps : LookUps → List Step → List PlayedRow
rows_of_steps look steps = flat_map (rows_of_step look) steps

-- the same rows from the start to the end, and from the restart position to the end
pub record HasSameRowLists (look other : LookUps) (order beyond : Order) : Type 0 where
  pub prefix : rows_of_steps other (prefix_of beyond) ≡ rows_of_steps look (prefix_of order)
  pub cycle : rows_of_steps other (cycle_of beyond) ≡ rows_of_steps look (cycle_of order)

abbrev pub RowListsPlaySameRows : Type 0
RowListsPlaySameRows =
    (look other : LookUps) (order beyond : Order) → IsEndless order → IsEndless beyond →
    HasPatternLengths look order → HasPatternLengths other beyond → HasSameRowLists look other order beyond →
    PlaysSameRows look other order beyond
