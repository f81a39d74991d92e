-- What is told of a packed file holds of its image on any machine: how many clock cycles each call takes, from init on.
use Rattle.std.specs.Prelude.{◌≡◌, ℕ, zero, suc, ◌+◌, ◌-◌, ◌<◌, ◌≤◌, List, [], ◌∷◌, Some, Ok, true, length}
use Rattle.song_model.specs.declared.songs.Song.{Song}
use Rattle.song_model.specs.Limits.{KeepsLimits}
use Rattle.song_model.specs.LookUp.{playable_subtunes}
use Rattle.play_model.specs.declared.options.Options.{Options}
use Rattle.packed_form.specs.ImagePlaces.{IsAddress}
use Rattle.cpu6502.specs.declared.machine.Machine.{Machine}
use Rattle.cpu6502.specs.Call.{Called, call_cycles}
use Rattle.cpu6502.specs.Code.{IsMachine, Holds}
use Rattle.psid.specs.declared.header.Psid.{Psid}
use Rattle.psid.specs.Reading.{psid_read}
use Rattle.sid_run.specs.State.{loaded, sid_registers}
use Rattle.song_length.specs.declared.measuring.Repeat.{Repeat}
use Rattle.song_length.specs.declared.measuring.Measured.{Measured}
use Rattle.song_length.specs.Plays.{PlayTold, Tells}
use Rattle.song_length.specs.Told.{Begins, IsMeasured}
use Rattle.faithful.specs.Faithful.{AgreesOn}
use Rattle.faithful.specs.Histories.{ImageCall, Init, Play, LeadTo}
use Rattle.command_line.specs.declared.chip.Chip.{Chip}
use Rattle.jobs.specs.Packed.{IsWrittenFile}

-- the calls of a subtune, counted from 0: its init, of an image as it was loaded, and so many plays after it; the last one
-- first
abbrev pub song_calls : ℕ → ℕ → List ImageCall
song_calls k zero = Init k ∷ []
song_calls k (suc n) = Play ∷ song_calls k n

-- a play of an image that comes after these calls, from any machine that agrees with the one that they led to on the image's
-- bytes: it returns after so many steps in another machine
pub record PlaysAnywhere (image : List ℕ) (address : ℕ) (song : Song) (k n : ℕ) (machine : Machine) (number steps : ℕ)
    (after : Machine) : Type 0 where
  pub before : Machine
  pub led : LeadTo image address song (song_calls k n) before
  pub is : IsMachine machine
  pub agrees : AgreesOn image address before machine
  pub small : number < 256
  pub called : Called machine (address + 3) number steps after

-- it took what is told of a play, and left its registers
pub record TookWhatIsTold (told : PlayTold) (machine : Machine) (entry number steps : ℕ) (after : Machine) : Type 0 where
  pub steps_are : steps ≡ told.steps
  pub cycles_are : call_cycles machine entry number steps ≡ told.cycles
  pub registers_are : sid_registers after ≡ told.registers

-- Each call of an image takes what is told of a subtune of a file. Init, from any machine that holds the image; and each play
-- after it, which takes what the file's own play does. So the dearest play takes what is told of it; and where the subtune
-- repeats no play takes more, and each from there on does what the one does that comes so many plays after it.
pub record TakesAsTold (image : List ℕ) (address : ℕ) (song : Song) (k : ℕ) (psid : Psid)
    (measured : Measured) : Type 0 where
  pub init : (machine after : Machine) (steps : ℕ) → IsMachine machine → Holds machine.memory address image →
      Called machine address k steps after → call_cycles machine address k steps ≡ measured.init
  pub first : Machine
  pub begins : Begins psid k measured.init first
  pub plays : (n : ℕ) (machine after : Machine) (number steps : ℕ) →
      PlaysAnywhere image address song k n machine number steps after →
      (told : PlayTold) × Tells (loaded psid).play first n told
      × TookWhatIsTold told machine (address + 3) number steps after
  pub dearest : (machine after : Machine) (number steps : ℕ) →
      PlaysAnywhere image address song k (measured.dearest.call - 1) machine number steps after →
      call_cycles machine (address + 3) number steps ≡ measured.dearest.cycles
  pub most : (repeat : Repeat) (n : ℕ) (machine after : Machine) (number steps : ℕ) → measured.repeat ≡ Some repeat →
      PlaysAnywhere image address song k n machine number steps after →
      call_cycles machine (address + 3) number steps ≤ measured.dearest.cycles
  pub again : (repeat : Repeat) (n : ℕ) (one two after last : Machine) (number other steps more : ℕ) →
      measured.repeat ≡ Some repeat → repeat.from ≤ n →
      PlaysAnywhere image address song k n one number steps after →
      PlaysAnywhere image address song k (n + repeat.length) two other more last →
      (steps ≡ more)
      × (call_cycles one (address + 3) number steps ≡ call_cycles two (address + 3) other more)
      × (sid_registers after ≡ sid_registers last)

-- so it is of each PSID file that `pack` writes
abbrev pub PackedSongsTakeAsTold : Type 0
PackedSongsTakeAsTold =
    (song : Song) (options : Options) (address zero_page : ℕ) (chip : Chip) (file : List ℕ) (psid : Psid) (k calls : ℕ)
    (measured : Measured) → KeepsLimits song → IsAddress address →
    (written : IsWrittenFile true address zero_page song options chip file) → psid_read file ≡ Ok psid →
    k < length (playable_subtunes song) → IsMeasured psid k calls measured →
    TakesAsTold written.packed.image address song k psid measured
