-- The calls that a run of a PSID file makes. Call 0 is init, with the subtune's number from 0 in A; the others are
-- play, with A as it stands. The first begins at the machine with the file loaded, each other one at the machine that
-- the call before it left.
use Rattle.std.specs.Prelude.{◌≡◌, ℕ, zero, suc, ◌-◌, ◌≤◌, List, [], ◌∷◌, ◌++◌}
use Rattle.cpu6502.specs.declared.machine.Machine.{Machine}
use Rattle.cpu6502.specs.declared.stop.CallStop.{CallStop}
use Rattle.cpu6502.specs.Call.{FailsBy}
use Rattle.psid.specs.declared.header.Psid.{Psid}
use Rattle.sid_run.specs.declared.runner.TheConstants.{MOST_STEPS}
use Rattle.sid_run.specs.State.{RunnerState, loaded, sid_registers}
use Rattle.song_length.specs.Plays.{Takes}

-- the address at which a call begins
abbrev pub entry_of : RunnerState → ℕ → ℕ
entry_of file zero = file.init
entry_of file (suc call) = file.play

-- what stands in A as a call begins
abbrev pub accumulator_of : ℕ → ℕ → Machine → ℕ
accumulator_of subtune zero machine = subtune
accumulator_of subtune (suc call) machine = machine.cpu.a

-- a call returns, in a machine with these registers of the SID
pub record ReturnsTo (machine : Machine) (entry number : ℕ) (registers : List ℕ) (after : Machine) : Type 0 where
  pub steps : ℕ
  pub takes : Takes machine entry number steps after
  pub registers_are : sid_registers after ≡ registers

-- the first calls of a loaded file tell something each, this many of them: what they tell, in order, and the machine
-- after the last
abbrev pub CallsTell : {A : Type 0} → (Machine → ℕ → ℕ → A → Machine → Type 0) → RunnerState →
    ℕ → ℕ → List A →
    Machine → Type 0
CallsTell Tells file subtune zero told machine = (told ≡ []) × (machine ≡ file.machine)
CallsTell {A} Tells file subtune (suc call) told machine =
    (earlier : List A) × (before : Machine) × (last : A) ×
    CallsTell Tells file subtune call earlier before ×
    Tells before (entry_of file call) (accumulator_of subtune call before) last machine ×
    (told ≡ earlier ++ last ∷ [])

-- they return, and leave these registers
abbrev pub FirstCalls : RunnerState → ℕ → ℕ → List (List ℕ) → Machine → Type 0
FirstCalls file subtune calls registers machine = CallsTell ReturnsTo file subtune calls registers machine

-- and they take these steps
abbrev pub FirstCallsTake : RunnerState → ℕ → ℕ → List ℕ → Machine → Type 0
FirstCallsTake file subtune calls steps machine = CallsTell Takes file subtune calls steps machine

-- the calls before this one return and leave these registers, and this one does not return, for this reason
pub record MeetsStopAt (file : RunnerState) (subtune call : ℕ) (registers : List (List ℕ))
    (reason : CallStop) : Type 0 where
  pub before : Machine
  pub calls : FirstCalls file subtune call registers before
  pub after : Machine
  pub fails : FailsBy before (entry_of file call) (accumulator_of subtune call before) MOST_STEPS reason after

-- a PSID file has this subtune, counted from 1
pub record HasSubtune (psid : Psid) (subtune : ℕ) : Type 0 where
  pub first : 1 ≤ subtune
  pub last : subtune ≤ psid.header.songs

-- one of the calls, init of the subtune and then play as often as there are frames, does not return; each call before
-- it does
pub record StopsIn (psid : Psid) (subtune frames : ℕ) : Type 0 where
  pub call : ℕ
  pub within : call ≤ frames
  pub registers : List (List ℕ)
  pub reason : CallStop
  pub meets : MeetsStopAt (loaded psid) (subtune - 1) call registers reason
