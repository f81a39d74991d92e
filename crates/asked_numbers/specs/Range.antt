-- The range of the frequency table that a song asks for, from the least number to the greatest. This is this project's
-- own.
use Rattle.std.specs.Prelude.{◌≡◌, ◌≢◌, ℕ, ◌+◌, ◌≤◌, ◌<◌}
use Rattle.song_model.specs.declared.songs.Song.{Song}
use Rattle.asked_numbers.specs.Numbers.{IsAskedNumber}
use Rattle.asked_numbers.specs.declared.range.NumberRange.{NumberRange}

-- a number lies in the range
pub record IsInRange (range : NumberRange) (n : ℕ) : Type 0 where
  pub from : range.first ≤ n
  pub below : n < range.first + range.count

-- The range of the song, and no longer one: each number that the song asks for lies in it, and its first and its last
-- are such numbers. Where it is empty it begins at 0.
pub record IsNumberRange (song : Song) (range : NumberRange) : Type 0 where
  pub has : (n : ℕ) → IsAskedNumber song n → IsInRange range n
  pub first_is : range.count ≢ 0 → IsAskedNumber song range.first
  pub last_is : (last : ℕ) → range.first + range.count ≡ last + 1 → range.count ≢ 0 → IsAskedNumber song last
  pub none : range.count ≡ 0 → range.first ≡ 0

-- the other song asks for no number that the song doesn't ask for
abbrev pub AddsNoNumber : Song → Song → Type 0
AddsNoNumber song other = (n : ℕ) → IsAskedNumber other n → IsAskedNumber song n
