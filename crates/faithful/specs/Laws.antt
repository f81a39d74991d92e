-- What follows from the definitions.
use Rattle.std.specs.Prelude.{◌≡◌, ℕ, ◌+◌, ◌%◌, ◌<◌, ◌≤◌, ◌⊎◌, List, length, Contains}
use Rattle.song_model.specs.declared.songs.Song.{Song}
use Rattle.song_model.specs.LookUp.{playable_subtunes}
use Rattle.play_model.specs.declared.options.Options.{Options}
use Rattle.play_model.specs.Frame.{trace_with}
use Rattle.cpu6502.specs.declared.effect.Write.{Write}
use Rattle.cpu6502.specs.declared.machine.Machine.{Machine}
use Rattle.cpu6502.specs.Call.{Called, entered, writes_in}
use Rattle.cpu6502.specs.Code.{IsMachine, Holds}
use Rattle.faithful.specs.Confined.{IsOwnPlace}
use Rattle.faithful.specs.Faithful.{AgreesOn, LeavesAndGoesOn, IsFaithful}
use Rattle.faithful.specs.Histories.{ImageCall, entry_of, Serves, PlaysAlways}
use Rattle.faithful.specs.Isolation.{duration, EndAlike, IsIsolated}
use Rattle.faithful.specs.Timers.{SetsTimer, KeepsTimer}

-- what plays a song after any calls is faithful to it
abbrev pub AlwaysIsFaithful : Type 0
AlwaysIsFaithful =
    (image : List ℕ) (address zero_page : ℕ) (song : Song) (options : Options) →
    PlaysAlways image address zero_page song options →
    IsFaithful image address zero_page song options

-- an own place is one of the image, or it is in pages 0 and 1, or from $D400 to $D418, or at the timer
abbrev pub OwnPlacesAreFew : Type 0
OwnPlacesAreFew =
    (length address zero_page : ℕ) (options : Options) (sp place : ℕ) → zero_page ≤ 254 →
    IsOwnPlace length address zero_page options sp place →
    ((address ≤ place) × (place < address + length)) ⊎ (place < 512) ⊎ ((0xD400 ≤ place) × (place ≤ 0xD418))
    ⊎ (place ≡ 0xDC04) ⊎ (place ≡ 0xDC05)

-- what a call that serves stores is at an own place
abbrev pub CallsStoreAtHome : Type 0
CallsStoreAtHome =
    (image : List ℕ) (address zero_page : ℕ) (song : Song) (options : Options) (earlier : List ImageCall)
    (call : ImageCall) (machine : Machine) (number : ℕ) →
    (s : Serves image address zero_page song options earlier call machine number) → (write : Write) →
    Contains (writes_in s.steps (entered machine (entry_of address call) number)) write →
    IsOwnPlace (length image) address zero_page options ((machine.cpu.sp + 254) % 256) write.place

-- the first play of a faithful image leaves the registers of the first frame, from each machine that has the image as
-- init left it, whatever its registers are
abbrev pub FirstPlaysAreFree : Type 0
FirstPlaysAreFree =
    (image : List ℕ) (address zero_page : ℕ) (song : Song) (options : Options) →
    IsFaithful image address zero_page song options → (k : ℕ) → k < length (playable_subtunes song) →
    (machine : Machine) → IsMachine machine → Holds machine.memory address image →
    LeavesAndGoesOn image address zero_page options machine address k (trace_with options song k 0) (SetsTimer options)
    (λ last. (next : Machine) (number : ℕ) → IsMachine next → number < 256 → AgreesOn image address last next →
    LeavesAndGoesOn image address zero_page options next (address + 3) number (trace_with options song k 1)
    (KeepsTimer options next) (λ after. Unit {0}))

-- of an isolated image two inits of one subtune end alike, from any two machines that hold the image
abbrev pub InitsEndAlike : Type 0
InitsEndAlike =
    (image : List ℕ) (address : ℕ) (song : Song) → IsIsolated image address song →
    (k : ℕ) → k < length (playable_subtunes song) → (one two : Machine) →
    IsMachine one → Holds one.memory address image → IsMachine two → Holds two.memory address image →
    (steps other : ℕ) (after after' : Machine) → Called one address k steps after → Called two address k other after' →
    EndAlike image address (duration one address k steps) (duration two address k other) after after'

-- and so do two plays after an init, whatever the two numbers are with which they are entered
abbrev pub PlaysEndAlike : Type 0
PlaysEndAlike =
    (image : List ℕ) (address : ℕ) (song : Song) → IsIsolated image address song →
    (k : ℕ) → k < length (playable_subtunes song) → (first last : Machine) (n : ℕ) → IsMachine first →
    Holds first.memory address image → Called first address k n last → (one two : Machine) (number other : ℕ) →
    IsMachine one → AgreesOn image address last one → number < 256 →
    IsMachine two → AgreesOn image address last two → other < 256 →
    (steps steps' : ℕ) (after after' : Machine) → Called one (address + 3) number steps after →
    Called two (address + 3) other steps' after' →
    EndAlike image address (duration one (address + 3) number steps) (duration two (address + 3) other steps') after
    after'
