-- What a lowered block rests on: the bytes that it may read, and what is known of the registers before it. This is the
-- project's own language of player code.
use Rattle.std.specs.Prelude.{◌≡◌, ◌≢◌, ℕ, ◌+◌, true}
use Rattle.cpu6502.specs.declared.cpu.Cpu.{Cpu}
use Rattle.code_runs.specs.Runs.{State}
use Rattle.scopes.specs.Desk.{Desk, Layout}
use Rattle.scopes.specs.Trees.{Tree}
use Rattle.scopes.specs.Meaning.{Outcome, Done, Left, Again, Stuck, Ran, each_one, ran}
use Rattle.scope_lines.specs.Reach.{Reach, has_lines}
use Rattle.scope_lines.specs.Known.{Known, Ways, nothing, known, is_known}
use Rattle.scope_lines.specs.Lowered.{Site, IsWellPlaced, meant}

-- what is known of the registers is the same in both
pub record SameRegisters (known : Known) (one two : Cpu) : Type 0 where
  pub a : known.a ≡ true → one.a ≡ two.a
  pub x : known.x ≡ true → one.x ≡ two.x
  pub y : known.y ≡ true → one.y ≡ two.y
  pub carry : known.carry ≡ true → one.c ≡ two.c
  pub zero : known.zero ≡ true → one.z ≡ two.z
  pub minus : known.minus ≡ true → one.n ≡ two.n

-- and so is each byte that may be read, and what is known of the pointer; places that may not be read are free, those
-- of the SID among them
pub record Alike (layout : Layout) (known : Known) (one two : Desk) : Type 0 where
  pub registers : SameRegisters known one.cpu two.cpu
  pub low : known.low ≡ true → one.at layout.pointer ≡ two.at layout.pointer
  pub high : known.high ≡ true → one.at (layout.pointer + 1) ≡ two.at (layout.pointer + 1)
  pub bytes : (place : ℕ) → layout.may_read place ≡ true → one.at place ≡ two.at place

-- what is known where a tree comes to
abbrev pub known_at : Ways → Outcome → Known
known_at ways Done = ways.done
known_at ways (Left name) = ways.left name
known_at ways Again = ways.again
known_at ways Stuck = nothing

-- two runs come to the same place, in as many instructions, with what is known there
pub record RanAlike (layout : Layout) (ways : Ways) (one two : Ran) : Type 0 where
  pub outcome : one.outcome ≡ two.outcome
  pub cost : one.cost ≡ two.cost
  pub desk : Alike layout (known_at ways one.outcome) one.desk two.desk

-- a tree that has lines and reads what is known alone does the same from both, where neither is stuck
abbrev pub TreesAreIsolated : Type 0
TreesAreIsolated =
    (layout : Layout) (reach : Reach) (tree : Tree) (before : Known) (one two : Desk) → has_lines reach tree ≡ true →
    (known tree before).reads_known ≡ true → Alike layout before one two →
    (ran each_one layout tree one).outcome ≢ Stuck → (ran each_one layout tree two).outcome ≢ Stuck →
    RanAlike layout (known tree before) (ran each_one layout tree one) (ran each_one layout tree two)

-- two states have the same bytes where the block may read
pub record AgreeOnBytes (site : Site) (one two : State) : Type 0 where
  pub at : (place : ℕ) → site.may_read place ≡ true → one.at place ≡ two.at place

-- the block takes as many steps from the one as from the other, and leaves the same bytes where it may read
pub record IsIsolated (site : Site) (one two : State) : Type 0 where
  pub steps : (meant site one).cost ≡ (meant site two).cost
  pub bytes : (place : ℕ) → site.may_read place ≡ true → (meant site one).desk.at place ≡ (meant site two).desk.at place

-- whatever the registers, the flags, the pointer and the rest of memory are
abbrev pub LoweredBlocksAreIsolated : Type 0
LoweredBlocksAreIsolated =
    (site : Site) (one two : State) → IsWellPlaced site → is_known site.tree ≡ true → AgreeOnBytes site one two →
    (meant site one).outcome ≡ Done → (meant site two).outcome ≡ Done → IsIsolated site one two
