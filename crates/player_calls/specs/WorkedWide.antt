-- Which places are spare, and layouts with spare bytes, worked by hand.
use Rattle.std.specs.Prelude.{◌≡◌, Bool, true, false}
use Rattle.scopes.specs.Desk.{Layout}
use Rattle.player_memory.specs.declared.labels.TheConstants.{TICK, VOLUME}
use Rattle.player_code.specs.WorkedCode.{worked_plan}
use Rattle.player_calls.specs.WideLayouts.{is_spare, wide_layout, with_zeros}

pub record SparesAreWorked : Type 0 where
  pub in_front : is_spare false 0x01FF ≡ false
  pub first : is_spare false 0x0200 ≡ true
  pub last : is_spare false 0x0270 ≡ true
  pub behind : is_spare false 0x0271 ≡ false
  pub other_in_front : is_spare true 0x02FF ≡ false
  pub other_first : is_spare true 0x0300 ≡ true
  pub other_last : is_spare true 0x0370 ≡ true
  pub other_behind : is_spare true 0x0371 ≡ false
  -- these are zeros, and no byte beside them is
  pub zero : with_zeros false (λ place. 7) 0x0270 ≡ 0
  pub stays : with_zeros false (λ place. 7) 0x0271 ≡ 7
  pub other_zero : with_zeros true (λ place. 7) 0x0300 ≡ 0
  pub other_stays : with_zeros true (λ place. 7) 0x0200 ≡ 7

-- a player at $1000 that keeps no condition's lines, and one that keeps all
abbrev pub bare : Bool → Layout
bare which = wide_layout (worked_plan (λ condition. false)) which

abbrev pub full : Bool → Layout
full which = wide_layout (worked_plan (λ condition. true)) which

pub record LayoutsAreWorked : Type 0 where
  -- a variable that has a byte, and one that has none but where all lines are kept
  pub own : (bare false).address TICK ≡ 0x101D
  pub spare : (bare false).address VOLUME ≡ 0x026B
  pub other_spare : (bare true).address VOLUME ≡ 0x036B
  pub kept : (full false).address VOLUME ≡ 0x1071
  -- its own spare bytes may be read and written, and the other's may not
  pub reads : (bare false).may_read 0x0200 ≡ true
  pub writes : (bare false).may_write 0x0200 ≡ true
  pub reads_no_other : (bare false).may_read 0x0300 ≡ false
  pub writes_no_other : (bare false).may_write 0x0300 ≡ false
  pub other_reads : (bare true).may_read 0x0300 ≡ true
  pub other_writes : (bare true).may_write 0x0300 ≡ true
  pub other_reads_none : (bare true).may_read 0x0200 ≡ false
  pub other_writes_none : (bare true).may_write 0x0200 ≡ false
