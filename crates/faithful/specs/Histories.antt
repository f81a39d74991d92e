-- Calls of an image in any order: what any init and any play leave after any calls before them.
use Rattle.std.specs.Prelude.{◌≡◌, ℕ, suc, ◌+◌, ◌%◌, ◌<◌, ◌≤◌, List, [], ◌∷◌, length}
use Rattle.std.specs.Prelude.{All, Option, Some, None}
use Rattle.std.specs.Option.{option_map}
use Rattle.song_model.specs.declared.songs.Song.{Song}
use Rattle.song_model.specs.LookUp.{playable_subtunes}
use Rattle.play_model.specs.declared.options.Options.{Options}
use Rattle.play_model.specs.Frame.{trace_with}
use Rattle.cpu6502.specs.declared.machine.Machine.{Machine}
use Rattle.cpu6502.specs.declared.effect.Write.{Write}
use Rattle.cpu6502.specs.Call.{Called, entered, writes_in}
use Rattle.cpu6502.specs.Code.{IsMachine, Holds}
use Rattle.sid_run.specs.State.{sid_registers}
use Rattle.faithful.specs.Confined.{IsOwnPlace, IsConfined}
use Rattle.faithful.specs.Timers.{SetsTimer, KeepsTimer}
use Rattle.faithful.specs.Faithful.{AgreesOn}

-- a call of an image: init of a subtune, counted from 0, or play
pub data ImageCall : Type 0 where
  Init : (k : ℕ) → ImageCall
  Play : ImageCall

-- where it is entered: init at the image's address, play three bytes after it
abbrev pub entry_of : ℕ → ImageCall → ℕ
entry_of address (Init k) = address
entry_of address Play = address + 3

-- a call that a song's image may be given, with a number in the accumulator: init of a playable subtune with its number,
-- and play with any
abbrev pub IsMade : Song → ImageCall → ℕ → Type 0
IsMade song (Init k) number = (k < length (playable_subtunes song)) × (number ≡ k)
IsMade song Play number = number < 256

-- a call of an image led to a machine: before it stood such a machine, and it was made from any machine that agrees with
-- that one on the image's bytes
pub record CallLedTo (image : List ℕ) (address : ℕ) (song : Song) (call : ImageCall) (StoodBefore : Machine → Type 0)
    (last : Machine) : Type 0 where
  pub before : Machine
  pub stood : StoodBefore before
  pub machine : Machine
  pub number : ℕ
  pub steps : ℕ
  pub is : IsMachine machine
  pub agrees : AgreesOn image address before machine
  pub made : IsMade song call number
  pub called : Called machine (entry_of address call) number steps last

-- These calls, the last of them first, lead to a machine. At first any machine holds the image.
abbrev pub LeadTo : List ℕ → ℕ → Song → List ImageCall → Machine → Type 0
LeadTo image address song [] last = IsMachine last × Holds last.memory address image
LeadTo image address song (call ∷ earlier) last =
    CallLedTo image address song call (LeadTo image address song earlier) last

-- the subtune of the last init of these calls, the last of them first, and how many plays came after it; none where
-- there was no init
abbrev pub since_init : List ImageCall → Option (ℕ × ℕ)
since_init [] = None
since_init (Init k ∷ earlier) = Some (k, 0)
since_init (Play ∷ earlier) = option_map (λ (last : ℕ × ℕ). (last.0, suc last.1)) (since_init earlier)

-- the most steps of a call
abbrev pub most_call_steps : ℕ
most_call_steps = 60000

-- init sets the timer, and play leaves it as it finds it
abbrev pub MindsTimer : Options → ImageCall → Machine → Machine → Type 0
MindsTimer options (Init k) machine after = SetsTimer options after
MindsTimer options Play machine after = KeepsTimer options machine after

-- a call after these earlier ones returns, has changed its own places only and stored nowhere else, and minds the timer;
-- from the first init on it leaves the registers of the trace
pub record Serves (image : List ℕ) (address zero_page : ℕ) (song : Song) (options : Options) (earlier : List ImageCall)
    (call : ImageCall) (machine : Machine) (number : ℕ) : Type 0 where
  pub steps : ℕ
  pub within : steps ≤ most_call_steps
  pub after : Machine
  pub called : Called machine (entry_of address call) number steps after
  pub confined : IsConfined machine after (length image) address zero_page options
  pub stores : All (λ (write : Write). IsOwnPlace (length image) address zero_page options ((machine.cpu.sp + 254) % 256)
      write.place) (writes_in steps (entered machine (entry_of address call) number))
  pub timer : MindsTimer options call machine after
  pub registers : (k n : ℕ) → since_init (call ∷ earlier) ≡ Some (k, n) →
      sid_registers after ≡ trace_with options song k n

-- after any calls, each call does, from any machine that agrees with the last one on the image's bytes
pub record PlaysAlways (image : List ℕ) (address zero_page : ℕ) (song : Song) (options : Options) : Type 0 where
  pub serves : (earlier : List ImageCall) (call : ImageCall) (before machine : Machine) (number : ℕ) →
      LeadTo image address song earlier before → IsMachine machine → AgreesOn image address before machine →
      IsMade song call number → Serves image address zero_page song options earlier call machine number
