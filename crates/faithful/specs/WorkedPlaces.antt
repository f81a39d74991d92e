-- Places that a call may write, and places beside them, worked by hand; and what some calls came to.
use Rattle.std.specs.Prelude.{◌≡◌, ℕ, [], ◌∷◌, Some, None}
use Rattle.play_model.specs.declared.options.Options.{Options}
use Rattle.play_model.specs.declared.options.System.TheVariants.{Ntsc}
use Rattle.play_model.specs.State.{no_options, at_speed}
use Rattle.faithful.specs.Confined.{IsOwnPlace}
use Rattle.faithful.specs.Histories.{Init, Play, since_init}

-- a place of a call of 16 bytes at $1000, with the pointer at $FC, where the call's return address lies above the stack
-- pointer
abbrev pub IsOwn : Options → ℕ → ℕ → Type 0
IsOwn options sp place = IsOwnPlace 16 0x1000 0xFC options sp place

abbrev pub twice : Options
twice = at_speed 2

abbrev pub twice_on_ntsc : Options
twice_on_ntsc = record twice { system = Ntsc }

pub record PlacesAreWorked : Type 0 where
  -- the first and the last byte of the image, and the places beside them
  pub first : IsOwn no_options 0xFD 0x1000
  pub last : IsOwn no_options 0xFD 0x100F
  pub before : ¬ IsOwn no_options 0xFD 0x0FFF
  pub behind : ¬ IsOwn no_options 0xFD 0x1010
  -- the two bytes of the pointer
  pub low : IsOwn no_options 0xFD 0xFC
  pub high : IsOwn no_options 0xFD 0xFD
  pub below_pointer : ¬ IsOwn no_options 0xFD 0xFB
  pub above_pointer : ¬ IsOwn no_options 0xFD 0xFE
  -- the port of the processor, and the other end of the stack
  pub port_direction : ¬ IsOwn no_options 0xFD 0
  pub port : ¬ IsOwn no_options 0xFD 1
  pub stack_end : ¬ IsOwn no_options 0xFD 0x0100
  pub stack_middle : ¬ IsOwn no_options 0xFD 0x0180
  -- eight bytes of the stack, the first of them where the stack pointer is; below $0100 comes $01FF
  pub top : IsOwn no_options 0xFD 0x01FD
  pub eighth : IsOwn no_options 0xFD 0x01F6
  pub ninth : ¬ IsOwn no_options 0xFD 0x01F5
  pub above_stack : ¬ IsOwn no_options 0xFD 0x01FE
  pub round : IsOwn no_options 3 0x01FC
  pub round_ninth : ¬ IsOwn no_options 3 0x01FB
  -- the registers of the SID
  pub registers_first : IsOwn no_options 0xFD 0xD400
  pub registers_last : IsOwn no_options 0xFD 0xD418
  pub registers_behind : ¬ IsOwn no_options 0xFD 0xD419
  -- the timer, at a speed above 1
  pub timer : IsOwn twice 0xFD 0xDC04
  pub timer_high : IsOwn twice 0xFD 0xDC05
  pub timer_behind : ¬ IsOwn twice 0xFD 0xDC06
  pub no_timer : ¬ IsOwn no_options 0xFD 0xDC04

-- after an init of subtune 0 and a play, an init of subtune 1 and two plays; and before the first init
pub record CallsAreCounted : Type 0 where
  pub both : since_init (Play ∷ Play ∷ Init 1 ∷ Play ∷ Init 0 ∷ []) ≡ Some (1, 2)
  pub begun : since_init (Init 1 ∷ Play ∷ []) ≡ Some (1, 0)
  pub none : since_init (Play ∷ Play ∷ []) ≡ None
