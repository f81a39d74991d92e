-- Orderlists that play the same rows in other patterns: where no option looks at the beginning of a pattern, the frames of
-- both leave the same in the registers.
use Rattle.std.specs.Prelude.{◌≡◌, ℕ, zero, suc, ◌+◌, ◌==◌, false, if◌then◌else◌, List, length}
use Rattle.song_model.specs.declared.rows.Row.{Row}
use Rattle.song_model.specs.declared.orders.Order.{Order}
use Rattle.song_model.specs.declared.orders.Subtune.{Subtune}
use Rattle.song_model.specs.declared.tables.TableName.{TableName}
use Rattle.song_model.specs.PatternLimits.{IsPatternLength}
use Rattle.song_model.specs.LookUp.{pattern_row, order_of}
use Rattle.song_model.specs.Walk.{played}
use Rattle.play_model.specs.declared.options.Options.{Options}
use Rattle.play_model.specs.LookUps.{LookUps}
use Rattle.play_model.specs.Used.{IsChannel}
use Rattle.same_frames.specs.FrameLaws.{trace_of}
use Rattle.same_frames.specs.Begins.{rows_of_play}

-- where a voice is: a play of its orderlist, and a row of the pattern that it plays, both counted from 0
pub record Place : Type 0 where
  pub plays : ℕ
  pub row : ℕ

-- the rows of that pattern, and the one at the place
abbrev pub rows_there : LookUps → Order → Place → List Row
rows_there look order place = rows_of_play look order place.plays

abbrev pub row_there : LookUps → Order → Place → Row
row_there look order place = pattern_row (rows_there look order place) place.row

-- the place behind it: behind the last row of a pattern it is the first one of the next play
abbrev pub next_place : LookUps → Order → Place → Place
next_place look order place =
    if place.row + 1 == length (rows_there look order place) then record { plays = place.plays + 1; row = 0 }
    else record { plays = place.plays; row = place.row + 1 }

-- the place of row n of all that the orderlist plays, one row behind the other, counted from 0
abbrev pub place_of_row : LookUps → Order → ℕ → Place
place_of_row look order zero = record { plays = 0; row = 0 }
place_of_row look order (suc n) = next_place look order (place_of_row look order n)

-- row n itself
abbrev pub row_of_all : LookUps → Order → ℕ → Row
row_of_all look order n = row_there look order (place_of_row look order n)

-- each pattern that the orderlist plays has 1 to 128 rows
abbrev pub HasPatternLengths : LookUps → Order → Type 0
HasPatternLengths look order = (i : ℕ) → IsPatternLength (length (rows_of_play look order i))

-- the other orderlist plays the same rows, each with the same transpose, one behind the other for ever
pub record PlaysSameRows (look other : LookUps) (order beyond : Order) : Type 0 where
  pub row : (n : ℕ) → row_of_all other beyond n ≡ row_of_all look order n
  pub transpose : (n : ℕ) → (played beyond (place_of_row other beyond n).plays).transpose
      ≡ (played order (place_of_row look order n).plays).transpose
  pub lengths : HasPatternLengths look order
  pub other_lengths : HasPatternLengths other beyond

abbrev pub SubtunePlaysSameRows : LookUps → LookUps → Subtune → Subtune → Type 0
SubtunePlaysSameRows look other subtune beyond =
    (channel : ℕ) → IsChannel channel → PlaysSameRows look other (order_of channel subtune) (order_of channel beyond)

-- the same instruments and rows of tables, whatever the patterns are
pub record HasSameParts (look other : LookUps) : Type 0 where
  pub instrument : (i : ℕ) → other.instrument i ≡ look.instrument i
  pub row : (name : TableName) (p : ℕ) → other.row name p ≡ look.row name p

abbrev pub SameRowsPlayTheSame : Type 0
SameRowsPlayTheSame =
    (o : Options) (look other : LookUps) (subtune beyond : Subtune) (i : ℕ) → o.skip_first ≡ false →
    HasSameParts look other → SubtunePlaysSameRows look other subtune beyond →
    trace_of o other beyond i ≡ trace_of o look subtune i
