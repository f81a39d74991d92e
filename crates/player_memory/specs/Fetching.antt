-- What the bytes of a voice say of where it is in its song: in its orderlist, and in the packed pattern that it plays;
-- and when orderlists and packed patterns stand in memory. This is the project's own player.
use Rattle.std.specs.Prelude.{◌≡◌, ◌≢◌, ◌↔◌, ℕ, ◌+◌, ◌-◌, ◌/◌, ◌%◌, ◌<◌}
use Rattle.std.specs.Prelude.{◌≤◌, ℤ, pos, unsigned_abs, ◌==◌, if◌then◌else◌}
use Rattle.std.specs.Prelude.{true, List, [], ◌∷◌, ◌++◌, length, drop, replicate, All, slice_index}
use Rattle.std.specs.Int.{int_rem_euclid}
use Rattle.cpu6502.specs.declared.memory.TheConstants.{MEMORY_SIZE}
use Rattle.song_model.specs.declared.rows.Row.{Row}
use Rattle.song_model.specs.declared.orders.Order.{Order}
use Rattle.song_model.specs.declared.orders.OrderPlace.{OrderPlace}
use Rattle.song_model.specs.declared.orders.Step.{Step}
use Rattle.song_model.specs.Walk.{played}
use Rattle.song_model.specs.Places.{restarted, place_of}
use Rattle.play_model.specs.LookUps.{LookUps}
use Rattle.play_model.specs.State.{Voice}
use Rattle.packed_form.specs.declared.packed_patterns.TheConstants.{MOST_PACKED_BYTES}
use Rattle.packed_form.specs.declared.entries.Command.{Command}
use Rattle.packed_form.specs.declared.entries.Entry.{Entry}
use Rattle.packed_form.specs.Entries.{IsEntry, no_command, row_with, rows_from}
use Rattle.packed_form.specs.PackedSpells.{PackedSpells, text_of}
use Rattle.scopes.specs.Desk.{Layout}
use Rattle.player_memory.specs.declared.conditions.TheConstants.{REPEATS}
use Rattle.player_memory.specs.declared.labels.TheConstants.{REST, OFFSET, PATTERN_LOW, PATTERN_HIGH, ORDER_LOW}
use Rattle.player_memory.specs.declared.labels.TheConstants.{ORDER_HIGH, ORDER_PLACE, TRANSPOSE, REPEAT}
use Rattle.player_memory.specs.declared.labels.TheConstants.{PATTERNS_LOW, PATTERNS_HIGH, PATTERNS}
use Rattle.player_memory.specs.Rooms.{IsElsewhere}
use Rattle.player_memory.specs.Playing.{IsListed}

-- ---- orderlists and packed patterns

-- bytes stand one behind the other from a label's address on, which the code may read and leaves
abbrev pub AreListed : Layout → ℕ → (ℕ → ℕ) → ℕ → List ℕ → Type 0
AreListed layout rows at label bytes =
    (number : ℕ) → number < length bytes → IsListed layout rows at label number (slice_index bytes number)

-- an orderlist: its entries, the endmark and the restart position
abbrev pub IsOrderlist : Layout → ℕ → (ℕ → ℕ) → ℕ → Order → Type 0
IsOrderlist layout rows at label order = AreListed layout rows at label (order.entries ++ 0xFF ∷ order.restart ∷ [])

-- the place before the packed pattern with this number
abbrev pub place_before : Layout → ℕ → ℕ
place_before layout number = layout.address (PATTERNS + number) - 1

-- A packed pattern spells the rows of the pattern with its number, in 256 bytes at most. The two bytes of the place
-- before it are listed, and the code may read that place too: it does so behind the last byte of 256.
pub record IsPattern (layout : Layout) (rows : ℕ) (at : ℕ → ℕ) (look : LookUps) (number : ℕ) (bytes : List ℕ)
    : Type 0 where
  pub spells : PackedSpells bytes (look.rows number)
  pub few : length bytes ≤ MOST_PACKED_BYTES
  pub listed : AreListed layout rows at (PATTERNS + number) bytes
  pub from : 1 ≤ layout.address (PATTERNS + number)
  pub to : layout.address (PATTERNS + number) ≤ MEMORY_SIZE
  pub low : IsListed layout rows at PATTERNS_LOW number (place_before layout number % 256)
  pub high : IsListed layout rows at PATTERNS_HIGH number (place_before layout number / 256)
  pub before : IsElsewhere layout rows (place_before layout number)
  pub reads_before : layout.may_read (place_before layout number) ≡ true

-- ---- bytes

-- two bytes hold a number of 16 bits
pub record AreHalves (low high number : ℕ) : Type 0 where
  pub low_is : low ≡ number % 256
  pub high_is : high ≡ number / 256

-- a transpose as a byte
abbrev pub transpose_byte : ℤ → ℕ
transpose_byte transpose = unsigned_abs (int_rem_euclid transpose (pos 256))

-- the voice has the orderlist that stands under this label
abbrev pub HasOrder : Layout → ℕ → (ℕ → ℕ) → Type 0
HasOrder layout label own = AreHalves (own ORDER_LOW) (own ORDER_HIGH) (layout.address label)

-- the voice has the pattern of this play
abbrev pub HasPattern : Layout → Step → (ℕ → ℕ) → Type 0
HasPattern layout play own =
    AreHalves (own PATTERN_LOW) (own PATTERN_HIGH) (place_before layout play.pattern)

-- ---- in the orderlist

-- a place in the orderlist is that of a pattern's number
pub record IsAtPattern (order : Order) (place : ℕ) : Type 0 where
  pub inside : place < length order.entries
  pub low : slice_index order.entries place < 0xD0

-- The walk along the orderlist goes on to play n. Either it stands at the play's place, or, at the end of the
-- orderlist, at the endmark, from which it goes on at the restart position. Or the play repeats the pattern that the
-- voice has, for which the code is kept: then the walk stands behind the pattern's number, and so many plays are left
-- of it, this one among them.
pub data WalkStands (layout : Layout) (order : Order) (n : ℕ) (own : ℕ → ℕ) : Type 0 where
  GoesOn : (at : OrderPlace) → restarted order at ≡ place_of order n → at.repeat ≡ 0 → own ORDER_PLACE ≡ at.place →
      own TRANSPOSE ≡ transpose_byte at.transpose → own REPEAT ≡ 0 → WalkStands layout order n own
  Repeats : layout.holds REPEATS ≡ true → IsAtPattern order (place_of order n).place → HasPattern layout
      (played order n) own →
      own ORDER_PLACE ≡ (place_of order n).place + 1 →
      own TRANSPOSE ≡ transpose_byte (place_of order n).transpose → own REPEAT ≡ (place_of order n).repeat + 1 →
      WalkStands layout order n own

-- ---- in the pattern

-- the command of the row that was fetched last
abbrev pub last_command : Voice → Command
last_command v = record { number = v.new_command; param = v.new_param }

-- the command that runs on into an entry: none into a pattern's first
abbrev pub running_command : Voice → ℕ → Command
running_command v offset = if offset == 1 then no_command else last_command v

-- the rows of a pattern from this one on stand in its packed bytes from an offset on, counted from 1: an entry at least
pub record EntriesStand (bytes : List ℕ) (rows : List Row) (running : Command) (row offset : ℕ) : Type 0 where
  pub entry : Entry
  pub others : List Entry
  pub each : All IsEntry (entry ∷ others)
  pub text : drop (offset - 1) bytes ≡ text_of (entry ∷ others)
  pub left : drop row rows ≡ rows_from running (entry ∷ others)

-- The next entry is the one of this row of play n. Either the orderlist has been walked to the play, and the voice has
-- its pattern and its transpose: the entry stands at the offset, which is 1 at the first row alone. Or the play isn't
-- walked to: then the offset is 0, and the row is the first.
pub data EntryIsNext (layout : Layout) (look : LookUps) (packed : ℕ → List ℕ) (order : Order) (v : Voice) (n row : ℕ)
    (own : ℕ → ℕ) : Type 0 where
  Walked : 1 ≤ own OFFSET → (row ≡ 0 ↔ own OFFSET ≡ 1) → HasPattern layout (played order n) own →
      own TRANSPOSE ≡ transpose_byte (played order n).transpose → WalkStands layout order (n + 1) own →
      EntriesStand (packed (played order n).pattern) (look.rows (played order n).pattern)
      (running_command v (own OFFSET)) row (own OFFSET) → EntryIsNext layout look packed order v n row own
  NotWalked : own OFFSET ≡ 0 → row ≡ 0 → WalkStands layout order n own → EntryIsNext layout look packed order v n row
      own

-- ---- both

-- the next rows are so many rests, in which the command runs on, of the run that the row fetched last is in
pub record AreRests (rows : List Row) (v : Voice) (count : ℕ) : Type 0 where
  pub begun : 1 ≤ v.row
  pub inside : v.row + count ≤ length rows
  pub each : drop v.row rows ≡ replicate count (row_with 0xBD 0 (last_command v)) ++ drop (v.row + count) rows

-- Where a voice is in its song. No rests are left, and its next row has an entry. Or rests are left, and behind them
-- stands the next entry: that of a later row of the pattern, or, where they are the pattern's last rows, that of the
-- next play's first row, to which the orderlist may have been walked already.
pub data SongStands (layout : Layout) (look : LookUps) (packed : ℕ → List ℕ) (order : Order) (v : Voice) (own : ℕ → ℕ)
    : Type 0 where
  AtEntry : own REST ≡ 0 → EntryIsNext layout look packed order v v.plays v.row own →
      SongStands layout look packed order v own
  InRun : own REST ≢ 0 → AreRests (look.rows (played order v.plays).pattern) v (own REST) →
      v.row + own REST < length (look.rows (played order v.plays).pattern) →
      EntryIsNext layout look packed order v v.plays (v.row + own REST) own → SongStands layout look packed order v own
  InLastRun : own REST ≢ 0 → AreRests (look.rows (played order v.plays).pattern) v (own REST) →
      v.row + own REST ≡ length (look.rows (played order v.plays).pattern) →
      EntryIsNext layout look packed order v (v.plays + 1) 0 own → SongStands layout look packed order v own

-- the voice has the orderlist under this label, and is in its song
pub record IsInSong (layout : Layout) (label : ℕ) (look : LookUps) (packed : ℕ → List ℕ) (order : Order) (v : Voice)
    (own : ℕ → ℕ) : Type 0 where
  pub has : HasOrder layout label own
  pub stands : SongStands layout look packed order v own
