-- When the lines under a condition do nothing. This is the project's own player.
use Rattle.std.specs.Prelude.{◌≡◌, ℕ, ◌==◌, ◌<◌, Bool, false, ◌||◌, if◌then◌else◌, List, [], ◌∷◌, ◌++◌}
use Rattle.std.specs.Prelude.{slice_index_or}
use Rattle.cpu6502.specs.declared.cpu.Cpu.{Cpu}
use Rattle.play_model.specs.State.{Playing}
use Rattle.scopes.specs.declared.line.Line.{Line}
use Rattle.scopes.specs.Desk.{Desk, Layout}
use Rattle.scopes.specs.Trees.{Tree, ThenTree, ScopeTree, LoopTree, WhenTree, ChooseTree, NoneTree, NeverTree, tree_of}
use Rattle.scopes.specs.Meaning.{Done, Ran, each_one, ran}
use Rattle.player_memory.specs.Rooms.{IsRoom, MayUse}
use Rattle.player_memory.specs.Playing.{IsAtVoice, IsPlaying}

-- ---- the lines under a condition, and those in front of them

-- the bodies of a tree that stand under a condition, in the order of their lines
abbrev pub bodies : ℕ → Tree → List Tree
bodies condition (ThenTree first rest) = bodies condition first ++ bodies condition rest
bodies condition (ScopeTree name body) = bodies condition body
bodies condition (LoopTree count body) = bodies condition body
bodies condition (WhenTree own body) = (if own == condition then body ∷ [] else []) ++ bodies condition body
bodies condition (ChooseTree own this other) =
    (if own == condition then this ∷ other ∷ [] else []) ++ bodies condition this ++ bodies condition other
bodies condition tree = []

-- the one with a number, counted from 0, in a block; where there is none nothing comes to its end
abbrev pub part : ℕ → ℕ → List Line → Tree
part condition number block = slice_index_or (bodies condition (tree_of block)) number NeverTree

abbrev pub has_body : ℕ → Tree → Bool
has_body condition (ThenTree first rest) = has_body condition first || has_body condition rest
has_body condition (ScopeTree name body) = has_body condition body
has_body condition (LoopTree count body) = has_body condition body
has_body condition (WhenTree own body) = own == condition || has_body condition body
has_body condition (ChooseTree own this other) =
    own == condition || has_body condition this || has_body condition other
has_body condition tree = false

-- The lines that stand in front of the first one, up to where it is come to for the first time. The scopes in which it
-- stands are left out, so that what leaves one of them doesn't come to the end, and so are the conditions, which are
-- taken to hold.
abbrev pub front : ℕ → Tree → Tree
front condition (ThenTree first rest) =
    if has_body condition first then front condition first else ThenTree first (front condition rest)
front condition (ScopeTree name body) = front condition body
front condition (LoopTree count body) = front condition body
front condition (WhenTree own body) = if own == condition then NoneTree else front condition body
front condition (ChooseTree own this other) =
    if own == condition then NoneTree
    else if has_body condition this then front condition this
    else front condition other
front condition tree = NoneTree

-- where a run from a desk at the block's beginning is then
abbrev pub met : Layout → ℕ → List Line → Desk → Ran
met layout condition block desk = ran each_one layout (front condition (tree_of block)) desk

-- ---- doing nothing

-- what the lines behind a part may rest on
pub data Kept : Type 0 where
  A : Kept
  Y : Kept
  Carry : Kept

abbrev pub IsKept : Kept → Cpu → Cpu → Type 0
IsKept A before after = after.a ≡ before.a
IsKept Y before after = after.y ≡ before.y
IsKept Carry before after = after.c ≡ before.c

abbrev pub AreKept : List Kept → Cpu → Cpu → Type 0
AreKept [] before after = Unit {0}
AreKept (one ∷ others) before after = IsKept one before after × AreKept others before after

-- the lines come to their own end, and leave each byte, X, the decimal flag, and these registers
pub record Idles (layout : Layout) (body : Tree) (desk : Desk) (kept : List Kept) : Type 0 where
  pub ends : (ran each_one layout body desk).outcome ≡ Done
  pub stays : (place : ℕ) → (ran each_one layout body desk).desk.at place ≡ desk.at place
  pub x : (ran each_one layout body desk).desk.cpu.x ≡ desk.cpu.x
  pub decimal : (ran each_one layout body desk).desk.cpu.d ≡ desk.cpu.d
  pub kept_are : AreKept kept desk.cpu (ran each_one layout body desk).desk.cpu

-- they do, where the block comes to them from this desk for the first time
abbrev pub IdlesWhereMet : Layout → ℕ → List Line → Desk → List Kept → Type 0
IdlesWhereMet layout condition block desk kept =
    (met layout condition block desk).outcome ≡ Done →
    Idles layout (part condition 0 block) (met layout condition block desk).desk kept

-- ---- memories that hold a state

-- the memory holds a voice that plays, the desk is at that voice, and the code may use its room
pub record HoldsVoice (layout : Layout) (rows voice : ℕ) (s : Playing) (desk : Desk) : Type 0 where
  pub room : IsRoom layout rows
  pub may : MayUse layout rows
  pub few : voice < 3
  pub at_voice : IsAtVoice voice desk
  pub plays : IsPlaying layout voice s desk.at
