-- Songs whose orderlists play no row that another song's don't: they use no more than that song, and ask for no more.
use Rattle.std.specs.Prelude.{◌≡◌, ℕ, ◌≤◌, length, Contains}
use Rattle.song_model.specs.declared.rows.Row.{Row}
use Rattle.song_model.specs.declared.orders.Order.{Order}
use Rattle.song_model.specs.declared.orders.Subtune.{Subtune}
use Rattle.song_model.specs.declared.features.Feature.{Feature}
use Rattle.song_model.specs.declared.tables.TableName.{TableName}
use Rattle.song_model.specs.declared.songs.Song.{Song}
use Rattle.song_model.specs.LookUp.{pattern_at, table_of, order_of, playable_subtunes}
use Rattle.song_model.specs.Endless.{IsPatternByte}
use Rattle.play_model.specs.Used.{IsChannel, IsUsedInstrument}
use Rattle.play_model.specs.Reached.{IsReached, IsPointer}
use Rattle.play_model.specs.Playable.{IsJumpTarget}
use Rattle.play_model.specs.Features.{HasFeature}
use Rattle.song_facts.specs.Facts.{AddsNoFact}
use Rattle.asked_numbers.specs.Range.{AddsNoNumber}

-- a pattern that the orderlist names has this row
pub record NamesRow (song : Song) (order : Order) (row : Row) : Type 0 where
  pub pattern : ℕ
  pub entry : Contains order.entries pattern
  pub is_pattern : IsPatternByte pattern
  pub has : Contains (pattern_at song pattern) row

-- an orderlist of the other song has no repeat, no transpose and no row that the song's hasn't
pub record NamesNoMore (song other : Song) (order beyond : Order) : Type 0 where
  pub byte : (byte : ℕ) → 0xD0 ≤ byte → Contains beyond.entries byte → Contains order.entries byte
  pub row : (row : Row) → NamesRow other beyond row → NamesRow song order row

-- for a subtune of the other song there is one of the song whose orderlists name all that its orderlists name
pub record HasSubtuneFor (song other : Song) (beyond : Subtune) : Type 0 where
  pub subtune : Subtune
  pub playable : Contains (playable_subtunes song) subtune
  pub order : (channel : ℕ) → IsChannel channel →
      NamesNoMore song other (order_of channel subtune) (order_of channel beyond)

-- the other song has the song's instruments, tables and number of subtunes, and no row more
pub record AddsNoRow (song other : Song) : Type 0 where
  pub instruments : other.instruments ≡ song.instruments
  pub tables : (name : TableName) → table_of other name ≡ table_of song name
  pub count : length (playable_subtunes other) ≡ length (playable_subtunes song)
  pub subtunes : (beyond : Subtune) → Contains (playable_subtunes other) beyond → HasSubtuneFor song other beyond

-- so it uses and asks for no more
pub record UsesNoMore (song other : Song) : Type 0 where
  pub instruments : (i : ℕ) → IsUsedInstrument other i → IsUsedInstrument song i
  pub reached : (name : TableName) (p : ℕ) → IsReached other name p → IsReached song name p
  pub pointers : (name : TableName) (p : ℕ) → IsPointer other name p → IsPointer song name p
  pub targets : (name : TableName) (p : ℕ) → IsJumpTarget other name p → IsJumpTarget song name p
  pub features : (feature : Feature) → HasFeature other feature → HasFeature song feature
  pub facts : AddsNoFact song other
  pub numbers : AddsNoNumber song other

abbrev pub NoRowsNoUses : Type 0
NoRowsNoUses = (song other : Song) → AddsNoRow song other → UsesNoMore song other
