-- The frequencies of notes in memory.
use Rattle.std.specs.Prelude.{ℕ, ◌/◌, ◌%◌}
use Rattle.play_model.specs.Freq.{freq}
use Rattle.asked_numbers.specs.declared.range.NumberRange.{NumberRange}
use Rattle.asked_numbers.specs.Range.{IsInRange}
use Rattle.scopes.specs.Desk.{Layout}
use Rattle.player_memory.specs.declared.labels.TheConstants.{FREQUENCY_LOWS, FREQUENCY_HIGHS}
use Rattle.player_memory.specs.Playing.{IsListed}

-- the frequencies of the numbers in a range stand in two lists, of low bytes and of high ones
pub record HasFrequencies (layout : Layout) (rows : ℕ) (at : ℕ → ℕ) (range : NumberRange) : Type 0 where
  pub low : (n : ℕ) → IsInRange range n → IsListed layout rows at FREQUENCY_LOWS n (freq n % 256)
  pub high : (n : ℕ) → IsInRange range n → IsListed layout rows at FREQUENCY_HIGHS n (freq n / 256)
