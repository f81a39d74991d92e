-- Where the image of a packed song may stand, and which bytes of page 0 its player may have. This is the project's own
-- player.
use Rattle.std.specs.Prelude.{◌≡◌, ℕ, ◌%◌, ◌≤◌}

-- a multiple of 256 from $0800 to $CF00
pub record IsAddress (address : ℕ) : Type 0 where
  pub whole_page : address % 256 ≡ 0
  pub least : 0x0800 ≤ address
  pub most : address ≤ 0xCF00

-- the first of the two bytes of page 0
pub record IsZeroPage (zero_page : ℕ) : Type 0 where
  pub least : 0x02 ≤ zero_page
  pub most : zero_page ≤ 0xFE
