-- When an image plays a song: whatever else is in memory, init and each play return, write in their own places only,
-- and leave the SID's registers as the song's frames do, and the timer as the speed wants it.
use Rattle.std.specs.Prelude.{◌≡◌, ℕ, zero, suc, ◌+◌, ◌<◌, ◌≤◌, List, length, slice_index}
use Rattle.song_model.specs.declared.songs.Song.{Song}
use Rattle.song_model.specs.LookUp.{playable_subtunes}
use Rattle.play_model.specs.declared.options.Options.{Options}
use Rattle.play_model.specs.Frame.{trace_with}
use Rattle.cpu6502.specs.declared.machine.Machine.{Machine}
use Rattle.cpu6502.specs.Call.{Called}
use Rattle.cpu6502.specs.Code.{IsMachine, Holds}
use Rattle.sid_run.specs.declared.runner.TheConstants.{MOST_STEPS}
use Rattle.sid_run.specs.State.{sid_registers}
use Rattle.faithful.specs.Confined.{IsConfined}
use Rattle.faithful.specs.Timers.{SetsTimer, KeepsTimer}

-- a call of an image at an entry, with a number in the accumulator: it returns within the most steps that a call may
-- take in the machine after, has written in its own places only, and leaves these registers
pub record Leaves (image : List ℕ) (address zero_page : ℕ) (options : Options) (machine : Machine) (entry number : ℕ)
    (registers : List ℕ) (after : Machine) : Type 0 where
  pub steps : ℕ
  pub within : steps ≤ MOST_STEPS
  pub called : Called machine entry number steps after
  pub confined : IsConfined machine after (length image) address zero_page options
  pub registers_are : sid_registers after ≡ registers

-- two machines agree on the bytes of an image
pub record AgreesOn (image : List ℕ) (address : ℕ) (before machine : Machine) : Type 0 where
  pub same : (k : ℕ) → k < length image →
      slice_index machine.memory (address + k) ≡ slice_index before.memory (address + k)

-- a call leaves these registers in some machine, which has such a timer, and from which it goes on so
pub record LeavesAndGoesOn (image : List ℕ) (address zero_page : ℕ) (options : Options) (machine : Machine)
    (entry number : ℕ) (registers : List ℕ) (HasSuchTimer GoesOn : Machine → Type 0) : Type 0 where
  pub after : Machine
  pub leaves : Leaves image address zero_page options machine entry number registers after
  pub timer : HasSuchTimer after
  pub goes_on : GoesOn after

-- The next n plays, the first of them call i, where the call before left the machine before. Each is entered from any
-- machine that agrees with the one before on the image's bytes: its other bytes, its registers, its flags and its
-- stack pointer are free.
abbrev pub PlaysOn : List ℕ → ℕ → ℕ → Song → Options → ℕ → ℕ → ℕ → Machine → Type 0
PlaysOn image address zero_page song options k i zero before = Unit {0}
PlaysOn image address zero_page song options k i (suc n) before =
    (machine : Machine) (number : ℕ) → IsMachine machine → number < 256 → AgreesOn image address before machine →
    LeavesAndGoesOn image address zero_page options machine (address + 3) number (trace_with options song k i)
    (KeepsTimer options machine) (PlaysOn image address zero_page song options k (suc i) n)

-- For each playable subtune k and each n: init with k, from any machine that holds the image at the address, and n
-- plays after it.
pub record IsFaithful (image : List ℕ) (address zero_page : ℕ) (song : Song) (options : Options) : Type 0 where
  pub plays : (k n : ℕ) (machine : Machine) → k < length (playable_subtunes song) → IsMachine machine →
      Holds machine.memory address image →
      LeavesAndGoesOn image address zero_page options machine address k (trace_with options song k 0)
      (SetsTimer options) (PlaysOn image address zero_page song options k 1 n)
