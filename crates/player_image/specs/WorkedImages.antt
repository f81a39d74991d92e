-- Bytes in the order of their places, variables without a pattern, and where the blocks of an image may read and
-- write, worked by hand.
use Rattle.std.specs.Prelude.{◌≡◌, ℕ, ◌+◌, true, false, nat_eq, nat_le, if◌then◌else◌, [], ◌∷◌}
use Rattle.player_memory.specs.declared.labels.TheConstants.{PATTERN_LOW, PATTERN_HIGH, OFFSET}
use Rattle.player_image.specs.Images.{placed, is_read, is_written, HaveNoPattern}

-- ---- bytes by their places

-- label 1 has the first place, labels 0 and 2 the second, and all others are far
abbrev pub few_places : ℕ → ℕ
few_places label = if nat_eq label 1 then 0 else if nat_le label 2 then 1 else 9

-- where two labels have a place the first one's byte stands there, and where none has it a 0
pub record BytesArePlaced : Type 0 where
  pub three : placed few_places 3 (5 ∷ 6 ∷ 7 ∷ []) ≡ 6 ∷ 5 ∷ 0 ∷ []
  pub second : ¬ (placed few_places 3 (5 ∷ 6 ∷ 7 ∷ []) ≡ 6 ∷ 7 ∷ 0 ∷ [])

-- ---- no pattern

-- all variables are 0 but this one
abbrev pub only_at : ℕ → ℕ → ℕ
only_at label other = if nat_eq other label then 1 else 0

-- Voices have no pattern where all is 0, whatever stands in another byte; but they have one with a byte of its place,
-- the low byte of the second voice's or the high byte of the third's.
pub record PatternsAreDenied : Type 0 where
  pub none : HaveNoPattern (λ label. 0)
  pub offset : HaveNoPattern (only_at (OFFSET + 7))
  pub low : ¬ HaveNoPattern (only_at (PATTERN_LOW + 7))
  pub high : ¬ HaveNoPattern (only_at (PATTERN_HIGH + 14))

-- ---- where the blocks may read and write

-- an image at $1000 whose variables take 80 bytes, whose code takes 1,500, and all of it 2,000
pub record PlacesAreWorked : Type 0 where
  pub jump : is_read 80 0x1000 1500 2000 0x1005 ≡ false
  pub first_variable : is_read 80 0x1000 1500 2000 0x1006 ≡ true
  pub last_variable : is_read 80 0x1000 1500 2000 0x1055 ≡ true
  pub first_code : is_read 80 0x1000 1500 2000 0x1056 ≡ false
  pub last_code : is_read 80 0x1000 1500 2000 0x15DB ≡ false
  pub first_list : is_read 80 0x1000 1500 2000 0x15DC ≡ true
  pub last_list : is_read 80 0x1000 1500 2000 0x17CF ≡ true
  pub behind : is_read 80 0x1000 1500 2000 0x17D0 ≡ false
  pub stack : is_read 80 0x1000 1500 2000 0x01FF ≡ false
  pub list : is_written false 80 0x1000 1500 2000 0x15DC ≡ true
  pub code : is_written true 80 0x1000 1500 2000 0x1056 ≡ false
  pub before_registers : is_written true 80 0x1000 1500 2000 0xD3FF ≡ false
  pub first_register : is_written true 80 0x1000 1500 2000 0xD400 ≡ true
  pub last_register : is_written true 80 0x1000 1500 2000 0xD418 ≡ true
  pub behind_registers : is_written true 80 0x1000 1500 2000 0xD419 ≡ false
  pub timer_low : is_written true 80 0x1000 1500 2000 0xDC04 ≡ true
  pub timer_high : is_written true 80 0x1000 1500 2000 0xDC05 ≡ true
  pub behind_timer : is_written true 80 0x1000 1500 2000 0xDC06 ≡ false
  pub no_timer : is_written false 80 0x1000 1500 2000 0xDC04 ≡ false
