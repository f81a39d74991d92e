-- Whether the parts of two songs together are within the limits of one song.
use Rattle.std.specs.Prelude.{◌≡◌, ℕ, ◌+◌, ◌<◌, ◌≤◌, length}
use Rattle.song_model.specs.declared.songs.Song.{Song}
use Rattle.song_model.specs.declared.orders.TheConstants.{MOST_SUBTUNES}
use Rattle.song_model.specs.declared.instruments.TheConstants.{MOST_INSTRUMENTS}
use Rattle.song_model.specs.declared.tables.TheConstants.{MOST_TABLE_ROWS}
use Rattle.song_model.specs.declared.patterns.TheConstants.{MOST_PATTERNS}
use Rattle.song_model.specs.LookUp.{playable_subtunes}
use Rattle.song_join.specs.declared.faults.JoinPart.{JoinPart}
use Rattle.song_join.specs.declared.faults.JoinPart.TheVariants.{Subtunes, Instruments, Wave, Pulse, Filter, Speed, Patterns}

-- how many of a part the joined song would have
abbrev pub sum_of : Song → Song → JoinPart → ℕ
sum_of first second Subtunes = length first.subtunes + length (playable_subtunes second)
sum_of first second Instruments = length first.instruments + length second.instruments
sum_of first second Wave = length first.wave + length second.wave
sum_of first second Pulse = length first.pulse + length second.pulse
sum_of first second Filter = length first.filter + length second.filter
sum_of first second Speed = length first.speed + length second.speed
sum_of first second Patterns = length first.patterns + length second.patterns

abbrev pub limit_of : JoinPart → ℕ
limit_of Subtunes = MOST_SUBTUNES
limit_of Instruments = MOST_INSTRUMENTS
limit_of Wave = MOST_TABLE_ROWS
limit_of Pulse = MOST_TABLE_ROWS
limit_of Filter = MOST_TABLE_ROWS
limit_of Speed = MOST_TABLE_ROWS
limit_of Patterns = MOST_PATTERNS

-- the order in which the parts are looked at
abbrev pub part_number : JoinPart → ℕ
part_number Subtunes = 0
part_number Instruments = 1
part_number Wave = 2
part_number Pulse = 3
part_number Filter = 4
part_number Speed = 5
part_number Patterns = 6

abbrev pub IsWithin : Song → Song → JoinPart → Type 0
IsWithin first second part = sum_of first second part ≤ limit_of part

-- the first part that would be over its limit, and how many of it there would be
pub record IsFirstOver (first second : Song) (part : JoinPart) (sum : ℕ) : Type 0 where
  pub over : limit_of part < sum
  pub sum_is : sum ≡ sum_of first second part
  pub earlier : (other : JoinPart) → part_number other < part_number part → IsWithin first second other

-- each part is within its limit
pub record AreWithin (first second : Song) : Type 0 where
  pub part : (part : JoinPart) → IsWithin first second part
