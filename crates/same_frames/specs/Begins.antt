-- What a voice plays before a row has named an instrument. Each voice begins with an instrument; where a row names one
-- before a note is played, or with it, the one that it begins with doesn't show but in when rows are fetched.
use Rattle.std.specs.Prelude.{◌≡◌, ℕ, ◌%◌, ◌<◌, Bool, not, ◌||◌, ◌==◌, List, length, Option, Some, None}
use Rattle.std.specs.List.{find}
use Rattle.song_model.specs.declared.rows.Row.{Row}
use Rattle.song_model.specs.declared.orders.Order.{Order}
use Rattle.song_model.specs.declared.orders.Subtune.{Subtune}
use Rattle.song_model.specs.PatternLimits.{IsPatternLength}
use Rattle.song_model.specs.Walk.{played}
use Rattle.song_model.specs.LookUp.{order_of}
use Rattle.play_model.specs.declared.options.Options.{Options}
use Rattle.play_model.specs.LookUps.{LookUps}
use Rattle.play_model.specs.FetchRow.{is_note}
use Rattle.play_model.specs.Used.{IsChannel}
use Rattle.same_frames.specs.FrameLaws.{start_with, trace_from}

-- the row has a note or names an instrument; instrument 0 is none
abbrev pub is_opening : Row → Bool
is_opening row = is_note row.note || not (row.instrument == 0)

-- the first such row of a pattern
abbrev pub opening : List Row → Option Row
opening rows = find is_opening rows

-- the rows of play i of an orderlist, counted from 0
abbrev pub rows_of_play : LookUps → Order → ℕ → List Row
rows_of_play look order i = look.rows (played order i).pattern

abbrev pub opening_of_play : LookUps → Order → ℕ → Option Row
opening_of_play look order i = opening (rows_of_play look order i)

-- the first row of all plays that has a note or names an instrument names none: so it has a note, which is played
-- before any row names an instrument
pub record BeginsUnnamed (look : LookUps) (order : Order) : Type 0 where
  pub play : ℕ
  pub row : Row
  pub opens : opening_of_play look order play ≡ Some row
  pub unnamed : row.instrument ≡ 0
  pub before : (i : ℕ) → i < play → opening_of_play look order i ≡ None

-- the frames before a row at which it is fetched, where the voice has this instrument
abbrev pub timer_of : LookUps → ℕ → ℕ
timer_of look i = (look.instrument i).gate_timer % 64

-- a subtune that may begin with either of two instruments
pub record MayBeginWith (look : LookUps) (subtune : Subtune) (i j : ℕ) : Type 0 where
  pub timer : timer_of look j ≡ timer_of look i
  pub named : (channel : ℕ) → IsChannel channel → ¬ BeginsUnnamed look (order_of channel subtune)
  -- each play's pattern has 1 to 128 rows
  pub lengths : (channel n : ℕ) → IsChannel channel →
      IsPatternLength (length (rows_of_play look (order_of channel subtune) n))

-- the registers are the same, with any options
abbrev pub FirstInstrumentsDoNotShow : Type 0
FirstInstrumentsDoNotShow =
    (o : Options) (look : LookUps) (subtune : Subtune) (i j n : ℕ) → MayBeginWith look subtune i j →
    trace_from o look subtune (start_with o j) n ≡ trace_from o look subtune (start_with o i) n
