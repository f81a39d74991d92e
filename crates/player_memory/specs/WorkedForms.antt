-- Rows of the wave table in the form in which they are stored, worked by hand.
use Rattle.std.specs.Prelude.{◌≡◌, ℕ}
use Rattle.song_model.specs.declared.tables.TableRow.{TableRow}
use Rattle.player_memory.specs.Forms.{stored_left, stored}

abbrev pub sides : ℕ → ℕ → TableRow
sides left right = record { left = left; right = right }

pub record FormsAreWorked : Type 0 where
  -- delays, and waveforms below $10
  pub no_delay : stored_left 0 ≡ 0xE0
  pub longest : stored_left 0x0F ≡ 0xEF
  pub first_wave : stored_left 0x10 ≡ 0x10
  pub last_wave : stored_left 0xDF ≡ 0xDF
  pub silent : stored_left 0xE0 ≡ 0
  pub low_wave : stored_left 0xEF ≡ 0x0F
  pub command : stored_left 0xF0 ≡ 0xF0
  pub jump : stored_left 0xFF ≡ 0xFF
  -- the note itself, and one of its own; a command's parameter, and where a jump leads
  pub relative : stored (sides 0x41 0) ≡ sides 0x41 0x80
  pub own_note : stored (sides 3 0x8C) ≡ sides 0xE3 0x0C
  pub parameter : stored (sides 0xF5 0xA7) ≡ sides 0xF5 0xA7
  pub leads : stored (sides 0xFF 2) ≡ sides 0xFF 2
