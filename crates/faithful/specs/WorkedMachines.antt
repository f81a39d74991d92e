-- Machines that the words of an image's calls hold of, and machines beside them, which differ in one byte or one number.
use Rattle.std.specs.Prelude.{◌≡◌, ℕ, List, [], slice_set, replicate}
use Rattle.play_model.specs.declared.options.Options.{Options}
use Rattle.play_model.specs.State.{no_options}
use Rattle.cpu6502.specs.declared.machine.Machine.{Machine}
use Rattle.sid_run.specs.State.{cleared_cpu, loaded_memory}
use Rattle.faithful.specs.Confined.{memory_at_entry, IsConfined}
use Rattle.faithful.specs.Faithful.{AgreesOn}
use Rattle.faithful.specs.Histories.{most_call_steps}
use Rattle.faithful.specs.Isolation.{Duration, EndAlike}
use Rattle.faithful.specs.Timers.{HasTimer, SetsTimer, SameTimer, KeepsTimer}
use Rattle.faithful.specs.WorkedPlaces.{twice, twice_on_ntsc}

-- a machine that holds an image at $1000, and zeros elsewhere
abbrev pub machine_with : List ℕ → Machine
machine_with image = record { cpu = cleared_cpu; memory = loaded_memory 0x1000 image }

-- the same machine with another byte at a place
abbrev pub with_byte : ℕ → ℕ → Machine → Machine
with_byte place byte machine = record machine { memory = slice_set machine.memory place byte }

-- ---- timers

abbrev pub with_timer : ℕ → ℕ → Machine
with_timer low high = with_byte 0xDC05 high (with_byte 0xDC04 low (machine_with []))

-- the timer's value at speed 2 is 9827, which is $2663; and 8546, which is $2162, for NTSC
pub record TimersAreTold : Type 0 where
  pub right : HasTimer (with_timer 0x63 0x26) 9827
  pub wrong_low : ¬ HasTimer (with_timer 0x64 0x26) 9827
  pub wrong_high : ¬ HasTimer (with_timer 0x63 0x27) 9827
  pub set : SetsTimer twice (with_timer 0x63 0x26)
  pub low_not_set : ¬ SetsTimer twice (with_timer 0x64 0x26)
  pub high_not_set : ¬ SetsTimer twice (with_timer 0x63 0x27)
  pub ntsc_set : SetsTimer twice_on_ntsc (with_timer 0x62 0x21)
  pub ntsc_low_not_set : ¬ SetsTimer twice_on_ntsc (with_timer 0x63 0x21)
  pub ntsc_high_not_set : ¬ SetsTimer twice_on_ntsc (with_timer 0x62 0x26)
  pub free : SetsTimer no_options (with_timer 0x64 0x27)
  pub low_changed : ¬ SameTimer (with_timer 0x63 0x26) (with_timer 0x64 0x26)
  pub high_changed : ¬ SameTimer (with_timer 0x63 0x26) (with_timer 0x63 0x27)
  pub low_not_kept : ¬ KeepsTimer twice (with_timer 0x63 0x26) (with_timer 0x64 0x26)
  pub high_not_kept : ¬ KeepsTimer twice (with_timer 0x63 0x26) (with_timer 0x63 0x27)
  pub not_minded : KeepsTimer no_options (with_timer 0x63 0x26) (with_timer 0x64 0x27)

-- ---- changed places

-- a machine whose stack pointer is $FD
abbrev pub caller : Machine
caller = record (machine_with []) { cpu = record cleared_cpu { sp = 0xFD } }

-- a call from it of 16 bytes at $1000, with the pointer at $FC, changed the byte at this place alone, and that is confined
abbrev pub MayChange : Options → ℕ → Type 0
MayChange options place =
    IsConfined caller (record caller { memory = slice_set (memory_at_entry caller) place 1 }) 16 0x1000 0xFC options

-- the two bytes that the call pushed, at $01FD and $01FC, aren't its own, and the eight below them are
pub record ChangesAreTold : Type 0 where
  pub image : MayChange no_options 0x100F
  pub behind : ¬ MayChange no_options 0x1010
  pub screen : ¬ MayChange no_options 0x0400
  pub port : ¬ MayChange no_options 0x0001
  pub pointer : MayChange no_options 0x00FD
  pub above_stack : ¬ MayChange no_options 0x01FE
  pub pushed : ¬ MayChange no_options 0x01FC
  pub first : MayChange no_options 0x01FB
  pub eighth : MayChange no_options 0x01F4
  pub ninth : ¬ MayChange no_options 0x01F3
  pub register : MayChange no_options 0xD418
  pub behind_registers : ¬ MayChange no_options 0xD419
  pub timer : MayChange twice 0xDC05
  pub no_timer : ¬ MayChange no_options 0xDC05

-- ---- two machines

-- sixteen bytes at $1000
abbrev pub sixteen : List ℕ
sixteen = replicate 16 0x60

abbrev pub Agrees : ℕ → Type 0
Agrees place = AgreesOn sixteen 0x1000 (machine_with sixteen) (with_byte place 1 (machine_with sixteen))

-- so many steps and cycles
abbrev pub took : ℕ → ℕ → Duration
took steps cycles = record { steps = steps; cycles = cycles }

abbrev pub EndsAlike : ℕ → Type 0
EndsAlike place =
    EndAlike sixteen 0x1000 (took 5 17) (took 5 17) (machine_with sixteen) (with_byte place 1 (machine_with sixteen))

-- two machines that differ in the byte at a place
pub record PairsAreTold : Type 0 where
  pub before : Agrees 0x0FFF
  pub first : ¬ Agrees 0x1000
  pub last : ¬ Agrees 0x100F
  pub behind : Agrees 0x1010
  pub elsewhere : EndsAlike 0x0400
  pub register : ¬ EndsAlike 0xD400
  pub volume : ¬ EndsAlike 0xD418
  pub in_image : ¬ EndsAlike 0x100F
  pub steps : ¬ EndAlike sixteen 0x1000 (took 5 17) (took 6 17) (machine_with sixteen) (machine_with sixteen)
  pub cycles : ¬ EndAlike sixteen 0x1000 (took 5 17) (took 5 18) (machine_with sixteen) (machine_with sixteen)
  -- and the steps that a call may take
  pub most : most_call_steps ≡ 60000
