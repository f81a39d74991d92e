-- Blocks that are worked by hand at $1000: one that looks for a byte in a list, and one that adds a byte by the
-- pointer. Each stands at a site that is well placed, and states enter it, so what the theorems on lowered blocks ask
-- is met. Source: the MOS 6502 programming manual.
use Rattle.std.specs.Prelude.{◌≡◌, ℕ, ◌-◌, ◌&&◌, ◌||◌, true, false, nat_eq, nat_le, nat_lt, List}
use Rattle.std.specs.Prelude.{[], ◌∷◌, ◌++◌, slice_index, if◌then◌else◌}
use Rattle.code_runs.specs.Runs.{State}
use Rattle.asm6502.specs.declared.lines.Item.TheVariants.{Label, Bytes}
use Rattle.asm6502.specs.declared.lines.Line.{Line}
use Rattle.asm6502.specs.Assembly.{assembled_bytes}
use Rattle.scopes.specs.Trees.{tree_of}
use Rattle.scopes.specs.Meaning.{Done}
use Rattle.scope_lines.specs.declared.worked.TheConstants.{CAPPED, START, COUNTER, LIST, SOUGHT, SUMMED}
use Rattle.scope_lines.specs.Lowered.{Site, listing_at, high_at, IsWellPlaced, Enters, meant}
use Rattle.scope_lines.specs.Known.{is_known}
use Rattle.scope_lines.specs.Isolation.{AgreeOnBytes, IsIsolated}
use Rattle.scope_lines.specs.Cycles.{block_cycles}

-- a name, and bytes that stand as they are
abbrev pub name : ℕ → Line
name label = record { part = 255; item = Label label }

abbrev pub bytes_line : List ℕ → Line
bytes_line bytes = record { part = 255; item = Bytes bytes }

-- a state with these bytes from $1000 on and A's byte before them, at a place, with other registers and flags
abbrev pub state_with : List ℕ → ℕ → ℕ → State
state_with bytes pc a = record {
  cpu = record { a = a; x = 90; y = 9; sp = 240; pc = pc; n = true; v = true; d = false; i = true; z = true; c = true };
  at = λ place. if nat_lt place 0x1000 then a else slice_index bytes (place - 0x1000);
}

-- a site and a state: it is well placed and entered, its block comes to its end in so many steps and clock cycles, at
-- this place, with a byte at another
pub record IsMet (site : Site) (state : State) (steps takes end place byte : ℕ) : Type 0 where
  pub placed : IsWellPlaced site
  pub entered : Enters site state
  pub done : (meant site state).outcome ≡ Done
  pub steps_are : (meant site state).cost ≡ steps
  pub cycles_are : block_cycles site state ≡ takes
  pub ends : high_at site ≡ end
  pub is : (meant site state).desk.at place ≡ byte

-- ---- a search

abbrev pub sought_site : Site
sought_site = record {
  front = name START ∷ [];
  tree = tree_of SOUGHT.now;
  back = name LIST ∷ bytes_line (0x11 ∷ 0x22 ∷ 0x33 ∷ 0x44 ∷ []) ∷ [];
  set = 0;
  origin = 0x1000;
  label = START;
  first = 0;
  pointer = 0xFC;
  holds = λ condition. false;
  open_turns = 255;
  may_read = λ place. nat_le 0x100D place && nat_lt place 0x1011;
  may_write = λ place. false;
}

-- LDY #3; at $1002 CMP $100D,Y; BEQ $100D; DEY; BMI $100D; JMP $1002; and at $100D the list
abbrev pub sought_bytes : List ℕ
sought_bytes =
    0xA0 ∷ 0x03 ∷ 0xD9 ∷ 0x0D ∷ 0x10 ∷ 0xF0 ∷ 0x06 ∷ 0x88 ∷ 0x30 ∷ 0x03 ∷ 0x4C ∷ 0x02 ∷ 0x10
    ∷ 0x11 ∷ 0x22 ∷ 0x33 ∷ 0x44
    ∷ []

abbrev pub seeks : ℕ → State
seeks a = state_with sought_bytes 0x1000 a

-- the second byte is found in the third turn, after 13 steps; a byte that isn't there after 20
pub record SoughtIsLowered : Type 0 where
  pub bytes : assembled_bytes sought_site.set sought_site.origin (listing_at sought_site) ≡ sought_bytes
  pub found : IsMet sought_site (seeks 0x22) 13 35 0x100D 0x100E 0x22
  pub found_at : (meant sought_site (seeks 0x22)).desk.cpu.y ≡ 1
  pub missed : IsMet sought_site (seeks 0x55) 20 52 0x100D 0x100E 0x22
  pub missed_at : (meant sought_site (seeks 0x55)).desk.cpu.y ≡ 255

-- ---- a sum

-- it stands one byte behind its label, under which is the counter, and is capped
abbrev pub summed_site : Site
summed_site = record {
  front = name START ∷ name COUNTER ∷ bytes_line (3 ∷ []) ∷ [];
  tree = tree_of SUMMED.now;
  back = name LIST ∷ bytes_line (7 ∷ 5 ∷ []) ∷ [];
  set = 0;
  origin = 0x1000;
  label = START;
  first = 1;
  pointer = 0xFC;
  holds = nat_eq CAPPED;
  open_turns = 255;
  may_read = λ place. nat_eq place 0x1000 || nat_eq place 0x101C;
  may_write = nat_eq 0x1000;
}

-- at $1001 LDA #$1B, STA $FC, LDA #$10, STA $FD, LDY #1
abbrev pub pointing_bytes : List ℕ
pointing_bytes = 0xA9 ∷ 0x1B ∷ 0x85 ∷ 0xFC ∷ 0xA9 ∷ 0x10 ∷ 0x85 ∷ 0xFD ∷ 0xA0 ∷ 0x01 ∷ []

-- CLC, LDA ($FC),Y, ADC $1000, CMP #16, BCC $1018, JMP $101B; at $1018 STA $1000
abbrev pub adding_bytes : List ℕ
adding_bytes =
    0x18 ∷ 0xB1 ∷ 0xFC ∷ 0x6D ∷ 0x00 ∷ 0x10 ∷ 0xC9 ∷ 0x10 ∷ 0x90 ∷ 0x03 ∷ 0x4C ∷ 0x1B ∷ 0x10
    ∷ 0x8D ∷ 0x00 ∷ 0x10 ∷ []

-- the counter stands before them, and the list behind them
abbrev pub summed_bytes : ℕ → List ℕ
summed_bytes counter = counter ∷ (pointing_bytes ++ (adding_bytes ++ 7 ∷ 5 ∷ []))

abbrev pub sums : ℕ → ℕ → State
sums counter a = state_with (summed_bytes counter) 0x1001 a

-- 3 and 5 are kept, 12 and 5 aren't; the block rests on no register and no byte of the pointer, so with others it
-- does the same
pub record SummedIsLowered : Type 0 where
  pub bytes : assembled_bytes summed_site.set summed_site.origin (listing_at summed_site) ≡ summed_bytes 3
  pub kept : IsMet summed_site (sums 3 0) 11 32 0x101B 0x1000 8
  pub capped : IsMet summed_site (sums 12 0) 11 30 0x101B 0x1000 12
  pub known : is_known summed_site.tree ≡ true
  pub agree : AgreeOnBytes summed_site (sums 3 0) (sums 3 200)
  pub other : IsMet summed_site (sums 3 200) 11 32 0x101B 0x1000 8

-- from states in which what it may read differs, or A on which it rests, a block does other things
pub record OthersAreNotIsolated : Type 0 where
  pub steps : IsIsolated sought_site (seeks 0x22) (seeks 0x55) → ⊥
  pub bytes : IsIsolated summed_site (sums 3 0) (sums 12 0) → ⊥
