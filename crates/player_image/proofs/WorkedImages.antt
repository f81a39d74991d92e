-- The worked bytes and places, computed.
use Rattle.std.proofs.Common.{ℕ, ◌+◌, ◌<◌, zero, suc, [], ◌∷◌, false, refl, ap, arith}
use Rattle.std.proofs.lemmas.Bool.{both_ways}
use Rattle.std.specs.Prelude.{slice_index, nat_eq}
use Rattle.player_memory.specs.declared.labels.TheConstants.{PATTERN_LOW, PATTERN_HIGH, OFFSET}
use Rattle.player_memory.specs.Playing.{own_at}
use Rattle.player_memory.specs.Starting.{AreZero}
use Rattle.player_image.specs.Images.{placed, numbered}
use Rattle.player_image.specs.WorkedImages.{BytesArePlaced, PatternsAreDenied, PlacesAreWorked, only_at}

pub bytes_are_placed : BytesArePlaced
unfolding placed
bytes_are_placed = record {
  three = refl;
  second = λ e. both_ways false refl (ap (λ bytes. nat_eq (slice_index bytes 1) 7) e);
}

-- no other label is that of the offset of the second voice
no_offset : (voice : ℕ) → voice < 3 → AreZero (PATTERN_LOW ∷ PATTERN_HIGH ∷ []) (own_at numbered (only_at (OFFSET + 7)) voice)
no_offset zero few = (refl, (refl, tt))
no_offset (suc zero) few = (refl, (refl, tt))
no_offset (suc (suc zero)) few = (refl, (refl, tt))
no_offset (suc (suc (suc voice))) few = absurd (omega (arith, few))

pub patterns_are_denied : PatternsAreDenied
patterns_are_denied = record {
  none = λ voice few. (refl, (refl, tt));
  offset = no_offset;
  low = λ zero. (let is = (zero 1 (omega arith)).0 in absurd (omega (arith, is)));
  high = λ zero. (let is = (zero 2 (omega arith)).1.0 in absurd (omega (arith, is)));
}

pub places_are_worked : PlacesAreWorked
places_are_worked = record {
  jump = refl;
  first_variable = refl;
  last_variable = refl;
  first_code = refl;
  last_code = refl;
  first_list = refl;
  last_list = refl;
  behind = refl;
  stack = refl;
  list = refl;
  code = refl;
  before_registers = refl;
  first_register = refl;
  last_register = refl;
  behind_registers = refl;
  timer_low = refl;
  timer_high = refl;
  behind_timer = refl;
  no_timer = refl;
}
