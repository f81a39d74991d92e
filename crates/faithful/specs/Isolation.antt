-- What a call of an image depends on: the image's bytes, and of init its number.
use Rattle.std.specs.Prelude.{◌≡◌, ◌≢◌, ℕ, List, ◌∷◌, None}
use Rattle.song_model.specs.declared.songs.Song.{Song}
use Rattle.cpu6502.specs.declared.machine.Machine.{Machine}
use Rattle.cpu6502.specs.Call.{Called, call_cycles}
use Rattle.cpu6502.specs.Code.{IsMachine}
use Rattle.sid_run.specs.State.{sid_registers}
use Rattle.faithful.specs.Faithful.{AgreesOn}
use Rattle.faithful.specs.Histories.{ImageCall, entry_of, IsMade, LeadTo, since_init}

-- how long a call took: its steps, and their clock cycles
pub record Duration : Type 0 where
  pub steps : ℕ
  pub cycles : ℕ

-- that of a call in so many steps
abbrev pub duration : Machine → ℕ → ℕ → ℕ → Duration
duration machine entry number steps = record { steps = steps; cycles = call_cycles machine entry number steps }

-- calls from two machines that return took as many steps and as many cycles, and left the same in the SID's registers and
-- in the image
pub record EndAlike (image : List ℕ) (address : ℕ) (took other : Duration) (one two : Machine) : Type 0 where
  pub same_duration : took ≡ other
  pub same_registers : sid_registers one ≡ sid_registers two
  pub same_image : AgreesOn image address one two

-- from the first init on: the same call, after the same earlier ones, from two machines that agree with the last one on
-- the image's bytes, whatever else is in them
pub record IsIsolated (image : List ℕ) (address : ℕ) (song : Song) : Type 0 where
  pub alike : (earlier : List ImageCall) (call : ImageCall) (before one two : Machine) (number other : ℕ) →
      LeadTo image address song earlier before → since_init (call ∷ earlier) ≢ None →
      IsMachine one → AgreesOn image address before one → IsMade song call number →
      IsMachine two → AgreesOn image address before two → IsMade song call other →
      (steps : ℕ) (after : Machine) → Called one (entry_of address call) number steps after →
      (steps' : ℕ) (after' : Machine) → Called two (entry_of address call) other steps' after' →
      EndAlike image address (duration one (entry_of address call) number steps)
      (duration two (entry_of address call) other steps') after after'
