-- Places that a call may write, worked by hand.
use Rattle.std.proofs.Common.{◌≡◌, ℕ, ◌+◌, ◌-◌, ◌%◌, inl, inr, Bool, false, ◌&&◌, ◌||◌}
use Rattle.std.proofs.Common.{nat_eq, nat_lt, nat_le}
use Rattle.std.proofs.Common.{refl, arith}
use Rattle.std.proofs.lemmas.Bool.Decides.{nat_tests}
use Rattle.play_model.specs.declared.options.Options.{Options}
use Rattle.play_model.specs.State.{no_options}
use Rattle.faithful.specs.Confined.{IsOwnPlace}
use Rattle.faithful.specs.WorkedPlaces.{IsOwn, PlacesAreWorked, twice}

-- a test that each own place passes: one of an image at $1000, the pointer, the stack, the SID or the timer
abbrev pub is_own : ℕ → Options → ℕ → ℕ → Bool
is_own size options sp place =
    (nat_le 0x1000 place && nat_lt place (0x1000 + size)) || nat_eq place 0xFC || nat_eq place 0xFD
    || (nat_le 256 place && nat_lt place 512 && nat_lt ((sp + 512 - place) % 256) 8)
    || (nat_le 0xD400 place && nat_le place 0xD418)
    || (nat_lt 1 options.speed && (nat_eq place 0xDC04 || nat_eq place 0xDC05))

-- so a place that fails it is none
pub not_own : (size : ℕ) (options : Options) (sp place : ℕ) → is_own size options sp place ≡ false →
    ¬ IsOwnPlace size 0x1000 0xFC options sp place
not_own size options sp place fails (IsOwnPlace.in_image from to) = grind (arith, nat_tests)
not_own size options sp place fails (IsOwnPlace.low_pointer e) = grind (arith, nat_tests)
not_own size options sp place fails (IsOwnPlace.high_pointer e) = grind (arith, nat_tests)
not_own size options sp place fails (IsOwnPlace.on_stack below few e) = grind (arith, nat_tests)
not_own size options sp place fails (IsOwnPlace.in_sid from to) = grind (arith, nat_tests)
not_own size options sp place fails (IsOwnPlace.in_timer fast e) = grind (arith, nat_tests)

beside : (options : Options) (sp place : ℕ) → is_own 16 options sp place ≡ false → ¬ IsOwn options sp place
beside options sp place fails = not_own 16 options sp place fails

pub places_are_worked : PlacesAreWorked
places_are_worked = record {
  first = IsOwnPlace.in_image (omega arith) (omega arith);
  last = IsOwnPlace.in_image (omega arith) (omega arith);
  before = beside no_options 0xFD 0x0FFF refl;
  behind = beside no_options 0xFD 0x1010 refl;
  low = IsOwnPlace.low_pointer refl;
  high = IsOwnPlace.high_pointer refl;
  below_pointer = beside no_options 0xFD 0xFB refl;
  above_pointer = beside no_options 0xFD 0xFE refl;
  port_direction = beside no_options 0xFD 0 refl;
  port = beside no_options 0xFD 1 refl;
  stack_end = beside no_options 0xFD 0x0100 refl;
  stack_middle = beside no_options 0xFD 0x0180 refl;
  top = IsOwnPlace.on_stack 0 (omega arith) refl;
  eighth = IsOwnPlace.on_stack 7 (omega arith) refl;
  ninth = beside no_options 0xFD 0x01F5 refl;
  above_stack = beside no_options 0xFD 0x01FE refl;
  round = IsOwnPlace.on_stack 7 (omega arith) refl;
  round_ninth = beside no_options 3 0x01FB refl;
  registers_first = IsOwnPlace.in_sid (omega arith) (omega arith);
  registers_last = IsOwnPlace.in_sid (omega arith) (omega arith);
  registers_behind = beside no_options 0xFD 0xD419 refl;
  timer = IsOwnPlace.in_timer (omega arith) (inl refl);
  timer_high = IsOwnPlace.in_timer (omega arith) (inr refl);
  timer_behind = beside twice 0xFD 0xDC06 refl;
  no_timer = beside no_options 0xFD 0xDC04 refl;
}
