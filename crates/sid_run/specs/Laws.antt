-- What a reader may rely on: the constants, and the machine that a file is loaded into.
use Rattle.std.specs.Prelude.{◌≡◌, ◌⊎◌, ℕ, ◌+◌, ◌<◌, ◌≤◌, [], ◌∷◌, length, take}
use Rattle.std.specs.Prelude.{slice_index, All}
use Rattle.psid.specs.declared.header.Psid.{Psid}
use Rattle.psid.specs.declared.reading.TheConstants.{ADDRESSES}
use Rattle.cpu6502.specs.declared.log.TheConstants.{SID_BASE}
use Rattle.cpu6502.specs.declared.memory.TheConstants.{MEMORY_SIZE}
use Rattle.cpu6502.specs.Code.{Holds, IsMachine}
use Rattle.sid_run.specs.declared.runner.TheConstants.{MOST_STEPS}
use Rattle.sid_run.specs.declared.memory.TheConstants.{REGISTERS}
use Rattle.sid_run.specs.State.{loaded_memory, loaded_machine}

-- a call may take 200,000 steps, and the SID has 25 registers from $D400 on; an image may go up to the end of memory
abbrev pub ConstantsAre : Type 0
ConstantsAre = (MOST_STEPS ≡ 200000) × (SID_BASE ≡ 0xD400) × (REGISTERS ≡ 25) × (ADDRESSES ≡ MEMORY_SIZE)

-- an image that doesn't pass $FFFF stands at its address
abbrev pub ImageStands : Type 0
ImageStands = (psid : Psid) → psid.load + length psid.image ≤ MEMORY_SIZE →
    Holds (loaded_machine psid).memory psid.load psid.image

-- and each other byte is 0
abbrev pub ElsewhereIsZero : Type 0
ElsewhereIsZero = (psid : Psid) (place : ℕ) → (place < psid.load) ⊎ (psid.load + length psid.image ≤ place) →
    slice_index (loaded_machine psid).memory place ≡ 0

-- and if it is bytes, the machine is one that there is
abbrev pub LoadedIsMachine : Type 0
LoadedIsMachine = (psid : Psid) → psid.load + length psid.image ≤ MEMORY_SIZE → All (λ byte. byte < 256) psid.image →
    IsMachine (loaded_machine psid)

-- one byte at address 2: the first four bytes of memory
abbrev pub OneByteIsLoaded : Type 0
OneByteIsLoaded = take 4 (loaded_memory 2 (0x60 ∷ [])) ≡ 0 ∷ 0 ∷ 0x60 ∷ 0 ∷ []
