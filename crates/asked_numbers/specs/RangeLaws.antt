-- A song has one range, and it lies in the frequency table.
use Rattle.std.specs.Prelude.{◌≡◌, ◌+◌, ◌≤◌}
use Rattle.song_model.specs.declared.songs.Song.{Song}
use Rattle.asked_numbers.specs.declared.range.NumberRange.{NumberRange}
use Rattle.asked_numbers.specs.Range.{IsNumberRange}

abbrev pub SongsHaveOneRange : Type 0
SongsHaveOneRange = (song : Song) (a b : NumberRange) → IsNumberRange song a → IsNumberRange song b → a ≡ b

-- no number is above 128
abbrev pub RangesLieInTheTable : Type 0
RangesLieInTheTable =
    (song : Song) (range : NumberRange) → IsNumberRange song range → range.first + range.count ≤ 129
