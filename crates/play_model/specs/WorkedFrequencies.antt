-- Frequencies that were worked out by hand.
use Rattle.std.specs.Prelude.{◌≡◌}
use Rattle.play_model.specs.Freq.{freq}

-- C-0, B-0 and C-1, A-4, the last note B-7, and what lies beyond it
pub record FrequenciesAreAsWorked : Type 0 where
  pub lowest : freq 0 ≡ 0x0116
  pub first_b : freq 11 ≡ 0x020D
  pub second_c : freq 12 ≡ 0x022D
  pub fifth_a : freq 57 ≡ 0x1D46
  pub last : freq 95 ≡ 0xFFFF
  pub beyond : freq 96 ≡ 0
  pub far_beyond : freq 255 ≡ 0
