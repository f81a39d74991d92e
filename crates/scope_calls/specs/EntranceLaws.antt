-- What calls of entrances do: they return in the machine whose memory is what the entrance means, depend on the bytes
-- that they may read alone, and leave the code that stands apart. This is the project's own form of player code.
use Rattle.std.specs.Prelude.{◌≡◌, ◌≢◌, ℕ, ◌+◌, ◌*◌, ◌<◌, ◌≤◌, ◌⊎◌, ◌&&◌}
use Rattle.std.specs.Prelude.{Bool, true, false, Option, Some, None, length, slice_index, All, if◌then◌else◌}
use Rattle.cpu6502.specs.declared.effect.Write.{Write}
use Rattle.cpu6502.specs.declared.machine.Machine.{Machine}
use Rattle.cpu6502.specs.declared.memory.TheConstants.{MEMORY_SIZE}
use Rattle.cpu6502.specs.Registers.{stack_place}
use Rattle.cpu6502.specs.Call.{entered, Called, writes_in, call_cycles}
use Rattle.scopes.specs.Trees.{Tree}
use Rattle.scopes.specs.Meaning.{Done}
use Rattle.scope_lines.specs.Weights.{weight}
use Rattle.scope_lines.specs.Known.{Known, nothing, the_a, the_x, shown, either, known}
use Rattle.scope_lines.specs.Lowered.{writes_at, spot}
use Rattle.code_runs.specs.Runs.{view}
use Rattle.scope_calls.specs.Entrances.{Entrance}
use Rattle.scope_calls.specs.Listed.{Listed, InListing, layout_at, HasCode, IsCode, IsWellEntered, meant, MayStore}
use Rattle.scope_calls.specs.Cycles.{meant_cycles}

-- a call at an entrance with a number in A returns: the memory, the registers and the flags are what the entrance
-- means, the program counter apart, the steps are those that it counts and the jump, so are the clock cycles, and each
-- write is at a place where it may be
pub record Returns (e : Listed) (machine : Machine) (number : ℕ) : Type 0 where
  pub steps : ℕ
  pub after : Machine
  pub called : Called machine e.entry number steps after
  pub seen : view after ≡ spot 0 (meant e machine number).desk
  pub steps_are : steps ≡ (meant e machine number).cost + 1
  pub cycles_are : call_cycles machine e.entry number steps ≡ meant_cycles e machine number
  pub writes : All (λ (write : Write). MayStore e machine.cpu.sp write.place)
      (writes_in steps (entered machine e.entry number))
  pub size : length after.memory ≡ MEMORY_SIZE

-- from any machine of 65,536 bytes that holds its code, whatever the registers, the flags and the rest of memory are,
-- where the blocks come to their ends
abbrev pub EntrancesReturn : Type 0
EntrancesReturn =
    (e : Listed) (machine : Machine) (number : ℕ) → IsWellEntered e → length machine.memory ≡ MEMORY_SIZE →
    machine.cpu.sp < 256 → HasCode e (slice_index machine.memory) → (meant e machine number).outcome ≡ Done →
    Returns e machine number

-- ---- how long

-- the instructions of a call are at most those of each block's weight, and those around them: JMP, CLD and RTS, two
-- loads of X, calls and returns, and a third load
abbrev pub voice_weight : Option Tree → ℕ
voice_weight None = 0
voice_weight (Some block) = 3 * weight block + 7

abbrev pub entrance_weight : Entrance → ℕ
entrance_weight e = weight e.first + voice_weight e.voice + 3

abbrev pub CallsAreShort : Type 0
CallsAreShort =
    (e : Listed) (machine : Machine) (number : ℕ) → (r : Returns e machine number) →
    r.steps ≤ entrance_weight e.entrance

-- ---- on what it depends

-- what is known in front of the first block: A, where it is the number of the call
abbrev pub known_first : Bool → Known
known_first numbered = if numbered then the_a else nothing

-- and in front of a voice's: X, and the flags that show it
abbrev pub voice_is_known : Option Tree → Bool
voice_is_known None = true
voice_is_known (Some block) = (known block (either the_x shown)).reads_known

-- the blocks read what is known alone
abbrev pub are_known : Entrance → Bool
are_known e = (known e.first (known_first e.numbered)).reads_known && voice_is_known e.voice

-- two machines have the same bytes where the blocks may read, of which none is on the stack
pub record AgreeOnBytes (e : Listed) (one two : Machine) : Type 0 where
  pub at : (place : ℕ) → e.may_read place ≡ true → slice_index one.memory place ≡ slice_index two.memory place
  pub off_stack : (place : ℕ) → e.may_read place ≡ true → (place < 256) ⊎ (512 ≤ place)

-- two calls take the same number of steps and of clock cycles, and leave the same bytes where the blocks may read
pub record AreAlike (e : Listed) (one two : Machine) (number other : ℕ) (a : Returns e one number)
    (b : Returns e two other) : Type 0 where
  pub steps : a.steps ≡ b.steps
  pub cycles : call_cycles one e.entry number a.steps ≡ call_cycles two e.entry other b.steps
  pub bytes : (place : ℕ) → e.may_read place ≡ true →
      slice_index a.after.memory place ≡ slice_index b.after.memory place

-- so they do in two such machines, with the same number where the block may rest on it, whatever else is in the
-- registers, the flags, the pointer and the rest of memory
abbrev pub EntrancesAreIsolated : Type 0
EntrancesAreIsolated =
    (e : Listed) (one two : Machine) (number other : ℕ) → IsWellEntered e → are_known e.entrance ≡ true →
    AgreeOnBytes e one two → (e.entrance.numbered ≡ true → number ≡ other) →
    (meant e one number).outcome ≡ Done → (meant e two other).outcome ≡ Done → (a : Returns e one number)
    (b : Returns e two other) → AreAlike e one two number other a b

-- ---- what it leaves

-- behind a call the decimal flag is clear, and the interrupt flag as it was
pub record IsClear (before after : Machine) : Type 0 where
  pub decimal : after.cpu.d ≡ false
  pub interrupts : after.cpu.i ≡ before.cpu.i

abbrev pub FlagsAreClear : Type 0
FlagsAreClear =
    (e : Listed) (machine : Machine) (number : ℕ) → IsWellEntered e → (r : Returns e machine number) →
    IsClear machine r.after

-- a byte that a call may not write, and that isn't one of the two that hold its return address, is as before
abbrev pub OthersStay : Type 0
OthersStay =
    (e : Listed) (machine : Machine) (number : ℕ) → (r : Returns e machine number) → (place : ℕ) →
    (MayStore e machine.cpu.sp place → ⊥) → place ≢ stack_place machine.cpu.sp →
    place ≢ stack_place (machine.cpu.sp + 255) → slice_index r.after.memory place ≡ slice_index machine.memory place

-- a place is none at which the blocks may write
abbrev pub IsApart : Listed → ℕ → Type 0
IsApart e place = writes_at (layout_at e) place ≢ true

-- each such byte of the listing is as before
abbrev pub ListingsStay : Type 0
ListingsStay =
    (e : Listed) (machine : Machine) (number : ℕ) → IsWellEntered e → (r : Returns e machine number) → (place : ℕ) →
    InListing e place → IsApart e place → slice_index r.after.memory place ≡ slice_index machine.memory place

-- behind a call at one entrance the code of another, or its own, still stands, where it is apart
abbrev pub CodeStays : Type 0
CodeStays =
    (e other : Listed) (machine : Machine) (number : ℕ) → IsWellEntered e → IsWellEntered other →
    (r : Returns e machine number) → ((place : ℕ) → IsCode other place → IsApart e place) →
    HasCode other (slice_index machine.memory) → HasCode other (slice_index r.after.memory)

-- two machines have the same bytes of the listing
pub record AgreeOnListing (e : Listed) (one two : Machine) : Type 0 where
  pub at : (place : ℕ) → InListing e place → slice_index one.memory place ≡ slice_index two.memory place

-- the code is in the listing: where it stands in the one it stands in the other
abbrev pub CodeIsShared : Type 0
CodeIsShared =
    (e : Listed) (one two : Machine) → IsWellEntered e → AgreeOnListing e one two →
    HasCode e (slice_index one.memory) → HasCode e (slice_index two.memory)
