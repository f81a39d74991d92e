-- What lowered blocks do: the lines of a tree in an assembled listing, entered in any machine that holds the block's
-- own bytes, do what the tree means. This is the project's own language of player code.
use Rattle.std.specs.Prelude.{◌≡◌, ℕ, ◌+◌, ◌<◌, ◌≤◌, ◌⊎◌, ◌||◌, Bool, true, nat_eq}
use Rattle.std.specs.Prelude.{List, ◌++◌, None}
use Rattle.cpu6502.specs.declared.memory.TheConstants.{MEMORY_SIZE}
use Rattle.code_runs.specs.Runs.{State, Leads}
use Rattle.code_runs.specs.Calls.{In}
use Rattle.asm6502.specs.declared.lines.Line.{Line}
use Rattle.asm6502.specs.Lines.{kept, size_of, address_in}
use Rattle.asm6502.specs.Assembly.{assembled_bytes}
use Rattle.asm6502.specs.Faults.{fault_of}
use Rattle.asm6502.specs.Stretches.{HasBytes}
use Rattle.scopes.specs.Desk.{Desk, Layout}
use Rattle.scopes.specs.Trees.{Tree}
use Rattle.scopes.specs.Meaning.{Ran, Done, each_one, ran}
use Rattle.scope_lines.specs.Lines.{block_lines}
use Rattle.scope_lines.specs.Reach.{nothing_around, has_lines}

-- a lowered block in a listing: the lines before and behind its own, with which parts and where the listing is
-- assembled, the label from which the block counts places and how many bytes behind it the block begins, the block's
-- pointer, which of its conditions hold, how many turns an open loop has, and where it may read and write
pub record Site : Type 0 where
  pub front : List Line
  pub tree : Tree
  pub back : List Line
  pub set : ℕ
  pub origin : ℕ
  pub label : ℕ
  pub first : ℕ
  pub pointer : ℕ
  pub holds : ℕ → Bool
  pub open_turns : ℕ
  pub may_read : ℕ → Bool
  pub may_write : ℕ → Bool

-- the block's lines, and the whole listing
abbrev pub lines_at : Site → List Line
lines_at site = block_lines site.label site.pointer site.holds site.first site.tree

abbrev pub listing_at : Site → List Line
listing_at site = site.front ++ (lines_at site ++ site.back)

-- where the block's own lines begin and end
abbrev pub low_at : Site → ℕ
low_at site = site.origin + size_of (kept site.set site.front)

abbrev pub high_at : Site → ℕ
high_at site = low_at site + size_of (lines_at site)

-- the addresses of the listing's labels, and the rest of what the block is laid out by
abbrev pub layout_at : Site → Layout
layout_at site = record {
  address = address_in (kept site.set (listing_at site)) site.origin;
  pointer = site.pointer;
  holds = site.holds;
  open_turns = site.open_turns;
  may_read = site.may_read;
  may_write = site.may_write;
}

-- where the block may write: where its layout says, and the pointer
abbrev pub writes_at : Layout → ℕ → Bool
writes_at layout place =
    layout.may_write place || nat_eq place layout.pointer || nat_eq place (layout.pointer + 1)

-- the block has lines, the listing assembles, the block begins where it says and ends below the end of memory, not at
-- address 0, it writes nowhere in its own lines, and the pointer is in page 0
pub record IsWellPlaced (site : Site) : Type 0 where
  pub lines : has_lines nothing_around site.tree ≡ true
  pub assembles : fault_of site.set site.origin (listing_at site) ≡ None
  pub begins : (layout_at site).address site.label + site.first ≡ low_at site
  pub labels : (label : ℕ) → (layout_at site).address label < MEMORY_SIZE
  pub away : 0 < low_at site
  pub ends : high_at site < MEMORY_SIZE
  pub kept : (place : ℕ) → writes_at (layout_at site) place ≡ true → (place < low_at site) ⊎ (high_at site ≤ place)
  pub pointer : site.pointer ≤ 254

-- a state at the first of the block's lines, with any memory that has their bytes
pub record Enters (site : Site) (state : State) : Type 0 where
  pub bytes : HasBytes state.at site.origin (size_of (kept site.set site.front)) (size_of (lines_at site))
      (assembled_bytes site.set site.origin (listing_at site))
  pub pc : state.cpu.pc ≡ low_at site

-- a state as a desk, and a desk as a state at a place
abbrev pub desk_of : State → Desk
desk_of state = record { cpu = state.cpu; at = state.at }

abbrev pub spot : ℕ → Desk → State
spot pc desk = record { cpu = record desk.cpu { pc = pc }; at = desk.at }

-- what the tree means from a state
abbrev pub meant : Site → State → Ran
meant site state = ran each_one (layout_at site) site.tree (desk_of state)

-- the state leads behind the last line, to the memory and registers that the tree means, in as many steps as it counts,
-- with writes where the block may write alone
abbrev pub Comes : Site → State → Type 0
Comes site state =
    Leads (In (writes_at (layout_at site))) (meant site state).cost state (spot (high_at site) (meant site state).desk)

-- for every origin and set with which the listing around it assembles, and from any state that enters it, where the
-- tree comes to its end
abbrev pub LoweredBlocksDo : Type 0
LoweredBlocksDo =
    (site : Site) (state : State) → IsWellPlaced site → Enters site state → (meant site state).outcome ≡ Done →
    Comes site state
