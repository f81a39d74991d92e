-- Entrances in a listing: where their code stands, when it is well entered, what a call of it means, and where it may
-- write. This is the project's own form of player code.
use Rattle.std.specs.Prelude.{◌≡◌, ℕ, ◌+◌, ◌<◌, ◌≤◌, ◌⊎◌, Bool, true, List, ◌++◌, Some, None}
use Rattle.cpu6502.specs.declared.machine.Machine.{Machine}
use Rattle.cpu6502.specs.declared.memory.TheConstants.{MEMORY_SIZE}
use Rattle.cpu6502.specs.declared.mnemonic.Mnemonic.TheVariants.{Jmp}
use Rattle.cpu6502.specs.declared.mnemonic.Mode.TheVariants.{Absolute}
use Rattle.cpu6502.specs.Registers.{stack_place}
use Rattle.cpu6502.specs.Call.{entered}
use Rattle.code_runs.specs.Runs.{view}
use Rattle.code_runs.specs.Code.{Stands}
use Rattle.asm6502.specs.declared.lines.Line.{Line}
use Rattle.asm6502.specs.Lines.{kept, size_of, address_in}
use Rattle.asm6502.specs.Assembly.{assembled_bytes}
use Rattle.asm6502.specs.Faults.{fault_of}
use Rattle.asm6502.specs.Stretches.{HasBytes}
use Rattle.scopes.specs.Desk.{Desk, Layout}
use Rattle.scopes.specs.Trees.{Tree}
use Rattle.scopes.specs.Meaning.{Ran}
use Rattle.scope_lines.specs.Lowered.{writes_at, desk_of}
use Rattle.scope_calls.specs.Entrances.{Entrance, entrance_lines, entrance_size, have_lines}
use Rattle.scope_calls.specs.Meaning.{entrance_ran}

-- an entrance in a listing: the lines before and behind its own, with which parts and where the listing is assembled,
-- where the jump stands by which it is entered, how many turns an open loop has, and where its blocks may read and write
pub record Listed : Type 0 where
  pub front : List Line
  pub entrance : Entrance
  pub back : List Line
  pub set : ℕ
  pub origin : ℕ
  pub entry : ℕ
  pub open_turns : ℕ
  pub may_read : ℕ → Bool
  pub may_write : ℕ → Bool

abbrev pub listing_at : Listed → List Line
listing_at e = e.front ++ (entrance_lines e.entrance ++ e.back)

-- where the listing ends, and a place in it; and where the entrance's own lines begin and end
abbrev pub end_at : Listed → ℕ
end_at e = e.origin + size_of (kept e.set (listing_at e))

abbrev pub InListing : Listed → ℕ → Type 0
InListing e place = (e.origin ≤ place) × (place < end_at e)

abbrev pub low_at : Listed → ℕ
low_at e = e.origin + size_of (kept e.set e.front)

abbrev pub high_at : Listed → ℕ
high_at e = low_at e + entrance_size e.entrance

-- the addresses of the listing's labels, and the rest of what the blocks are laid out by
abbrev pub layout_at : Listed → Layout
layout_at e = record {
  address = address_in (kept e.set (listing_at e)) e.origin;
  pointer = e.entrance.pointer;
  holds = e.entrance.holds;
  open_turns = e.open_turns;
  may_read = e.may_read;
  may_write = e.may_write;
}

-- the code of an entrance stands in a memory: the jump to it, and the bytes of its lines
pub record HasCode (e : Listed) (at : ℕ → ℕ) : Type 0 where
  pub jump : Stands at e.entry Jmp Absolute (low_at e)
  pub bytes : HasBytes at e.origin (size_of (kept e.set e.front)) (entrance_size e.entrance)
      (assembled_bytes e.set e.origin (listing_at e))

-- a place of the entrance's code
abbrev pub IsCode : Listed → ℕ → Type 0
IsCode e place = ((e.entry ≤ place) × (place < e.entry + 3)) ⊎ ((low_at e ≤ place) × (place < high_at e))

-- the blocks have lines, the listing assembles and stands from $0800 up to $D000, the label is in front of the
-- entrance's lines, and the jump is in the listing. The blocks write in memory, but nowhere in the entrance's lines and
-- nowhere on the stack, and the pointer is behind the processor's port
pub record IsWellEntered (e : Listed) : Type 0 where
  pub lines : have_lines e.entrance ≡ true
  pub assembles : fault_of e.set e.origin (listing_at e) ≡ None
  pub begins : 0x0800 ≤ e.origin
  pub ends : end_at e ≤ 0xD000
  pub named : (layout_at e).address e.entrance.label ≡ low_at e
  pub jump_begins : e.origin ≤ e.entry
  pub jump_ends : e.entry + 3 ≤ end_at e
  pub writes_below : (place : ℕ) → writes_at (layout_at e) place ≡ true → place < MEMORY_SIZE
  pub writes_outside : (place : ℕ) → writes_at (layout_at e) place ≡ true → (place < low_at e) ⊎ (high_at e ≤ place)
  pub writes_off_stack : (place : ℕ) → writes_at (layout_at e) place ≡ true → (place < 256) ⊎ (512 ≤ place)
  pub pointer_low : 2 ≤ e.entrance.pointer
  pub pointer_high : e.entrance.pointer ≤ 254

-- the desk as a call with a number in A begins
abbrev pub entrance_desk : Listed → Machine → ℕ → Desk
entrance_desk e machine number = desk_of (view (entered machine e.entry number))

-- what the call means behind the jump
abbrev pub meant : Listed → Machine → ℕ → Ran
meant e machine number = entrance_ran (layout_at e) e.entrance (entrance_desk e machine number)

-- where a call may write: where the blocks may, and, where it has voices, at the two bytes of the stack below those
-- that hold its own return address, which is pushed at the stack pointer and one below it
pub data MayStore (e : Listed) (sp place : ℕ) : Type 0 where
  AsBlock : writes_at (layout_at e) place ≡ true → MayStore e sp place
  AsCall : (block : Tree) → e.entrance.voice ≡ Some block →
      (place ≡ stack_place (sp + 254)) ⊎ (place ≡ stack_place (sp + 253)) → MayStore e sp place
