-- Where the call of a player may write: in its image, in its two bytes of page 0, in eight bytes of the stack, in the
-- SID, and, where it is called more often than once a picture, in the timer. This is the project's own player.
use Rattle.std.specs.Prelude.{◌≡◌, ℕ, ◌+◌, ◌-◌, ◌%◌, ◌<◌, ◌≤◌, ◌⊎◌, List, slice_index}
use Rattle.play_model.specs.declared.options.Options.{Options}
use Rattle.cpu6502.specs.declared.machine.Machine.{Machine}
use Rattle.cpu6502.specs.declared.memory.TheConstants.{MEMORY_SIZE}
use Rattle.cpu6502.specs.declared.log.TheConstants.{SID_BASE, SID_LAST}
use Rattle.cpu6502.specs.Step.{written}
use Rattle.cpu6502.specs.Call.{return_address}
use Rattle.faithful.specs.Timers.{timer_low, timer_high}

-- a place that a call may write, where an image of this length stands at an address, the player owns the bytes
-- zero_page and zero_page + 1, and the stack pointer is sp as the call begins
pub data IsOwnPlace (length address zero_page : ℕ) (options : Options) (sp place : ℕ) : Type 0 where
  in_image : address ≤ place → place < address + length → IsOwnPlace length address zero_page options sp place
  low_pointer : place ≡ zero_page → IsOwnPlace length address zero_page options sp place
  high_pointer : place ≡ zero_page + 1 → IsOwnPlace length address zero_page options sp place
  on_stack : (below : ℕ) → below < 8 → place ≡ 256 + (sp + 256 - below) % 256 →
      IsOwnPlace length address zero_page options sp place
  in_sid : SID_BASE ≤ place → place ≤ SID_LAST → IsOwnPlace length address zero_page options sp place
  in_timer : 1 < options.speed → (place ≡ timer_low) ⊎ (place ≡ timer_high) →
      IsOwnPlace length address zero_page options sp place

-- a machine's memory once a call has pushed its two bytes
abbrev pub memory_at_entry : Machine → List ℕ
memory_at_entry machine = written machine.memory (return_address machine.cpu.sp)

-- a call from the first machine has changed own places only when it is in the second: each other byte is as it was
-- once the call had pushed its two bytes
pub record IsConfined (machine after : Machine) (length address zero_page : ℕ) (options : Options) : Type 0 where
  pub same : (place : ℕ) → place < MEMORY_SIZE →
      (IsOwnPlace length address zero_page options ((machine.cpu.sp + 254) % 256) place → ⊥) →
      slice_index after.memory place ≡ slice_index (memory_at_entry machine) place
