-- The rules of a bound on clock cycles: each line of a block but its ends has a number, which says how many cycles pass at
-- most from there to the end of the block, and in a loop to the end of a turn. This is the project's own; what an
-- instruction takes is the MOS 6502 programming manual's.
use Rattle.std.specs.Prelude.{ℕ, ◌+◌, ◌*◌, ◌≤◌, ◌&&◌, ◌++◌, Bool, max, nat_eq, if◌then◌else◌}
use Rattle.std.specs.Prelude.{List, [], ◌∷◌, get_or, take, drop}
use Rattle.cpu6502.specs.declared.mnemonic.Mnemonic.{Mnemonic}
use Rattle.cpu6502.specs.declared.mnemonic.Mnemonic.TheVariants.{Jmp}
use Rattle.cpu6502.specs.declared.mnemonic.Mode.TheVariants.{Absolute, Relative}
use Rattle.cpu6502.specs.Registers.{one_if}
use Rattle.cpu6502.specs.Cycles.{is_read, is_paged}
use Rattle.cpu6502.specs.Manual.{read_cycles, cycles_of}
use Rattle.scopes.specs.declared.line.Operand.{Operand}
use Rattle.scopes.specs.Trees.{Tree, DoTree, WithTree, NoneTree, ThenTree, ScopeTree, LeaveTree, LeaveIfTree, LoopTree}
use Rattle.scopes.specs.Trees.{AgainTree, AgainIfTree, WhenTree, ChooseTree, NeverTree}
use Rattle.scope_lines.specs.Instructions.{mode_of, alone_mode}
use Rattle.scopes.specs.Meaning.{turns_in}

-- ---- what a line takes at most

-- without an operand; with one, which a read may find in another page than without its index
abbrev pub alone_most : Mnemonic → ℕ
alone_most mnemonic = cycles_of mnemonic (alone_mode mnemonic)

abbrev pub with_most : Mnemonic → Operand → ℕ
with_most mnemonic operand =
    cycles_of mnemonic (mode_of operand) + one_if (is_paged (mode_of operand) && is_read mnemonic)

-- a jump; a branch that is passed; and one that is taken, into another page
abbrev pub jump_most : ℕ
jump_most = cycles_of Jmp Absolute

abbrev pub passed_most : ℕ
passed_most = read_cycles Relative

abbrev pub taken_most : ℕ
taken_most = read_cycles Relative + 2

-- ---- what the numbers rest on

-- which conditions hold, and how many turns an open loop has
pub record Setting : Type 0 where
  pub holds : ℕ → Bool
  pub open_turns : ℕ

-- ---- what follows

-- the numbers where the scopes around end, by their names
abbrev pub Ends : Type 0
Ends = ℕ → ℕ

-- of a block, and of a turn of a loop: nothing follows
abbrev pub nowhere : Ends
nowhere name = 0

-- in a scope behind whose end this number stands
abbrev pub in_scope : ℕ → ℕ → Ends → Ends
in_scope name behind ends other = if nat_eq other name then behind else ends other

-- the number at the first of these lines, or what follows where there is none
abbrev pub entry : List ℕ → ℕ → ℕ
entry numbers behind = get_or numbers 0 behind

-- those behind the first
abbrev pub behind_first : List ℕ → List ℕ
behind_first [] = []
behind_first (number ∷ numbers) = numbers

-- ---- loops

-- the greatest number at the end of a scope around that a tree leaves, with the lines that are kept
abbrev pub furthest : (ℕ → Bool) → Ends → Tree → ℕ
furthest holds ends (ThenTree first rest) = max (furthest holds ends first) (furthest holds ends rest)
furthest holds ends (ScopeTree name body) = furthest holds (in_scope name 0 ends) body
furthest holds ends (LeaveTree name) = ends name
furthest holds ends (LeaveIfTree name test) = ends name
furthest holds ends (LoopTree count body) = furthest holds ends body
furthest holds ends (WhenTree condition body) = if holds condition then furthest holds ends body else 0
furthest holds ends (ChooseTree condition this other) =
    if holds condition then furthest holds ends this else furthest holds ends other
furthest holds ends tree = 0

-- ---- the rules

-- how many lines have a number
abbrev pub nodes : Tree → ℕ
nodes NoneTree = 0
nodes (ThenTree first rest) = nodes first + nodes rest
nodes (ScopeTree name body) = 1 + nodes body
nodes (LoopTree count body) = 1 + nodes body
nodes (WhenTree condition body) = 1 + nodes body
nodes (ChooseTree condition this other) = 1 + (nodes this + nodes other)
nodes tree = 1

-- What each line's number must reach at least, by the numbers of the lines behind it. A condition's is that of what is
-- kept, and the lines that aren't kept are asked like all others. A loop's is that of all its turns, and of where it comes
-- out.
abbrev pub asked : Setting → Ends → ℕ → Tree → List ℕ → List ℕ
asked setting ends behind (DoTree mnemonic) numbers = (alone_most mnemonic + behind) ∷ []
asked setting ends behind (WithTree mnemonic operand) numbers = (with_most mnemonic operand + behind) ∷ []
asked setting ends behind NoneTree numbers = []
asked setting ends behind (ThenTree first rest) numbers =
    asked setting ends (entry (drop (nodes first) numbers) behind) first (take (nodes first) numbers)
    ++ asked setting ends behind rest (drop (nodes first) numbers)
asked setting ends behind (ScopeTree name body) numbers =
    entry (behind_first numbers) behind ∷ asked setting (in_scope name behind ends) behind body (behind_first numbers)
asked setting ends behind (LeaveTree name) numbers = (jump_most + ends name) ∷ []
asked setting ends behind (LeaveIfTree name test) numbers =
    max (passed_most + behind) (taken_most + ends name) ∷ []
asked setting ends behind (LoopTree count body) numbers =
    (turns_in setting.open_turns count * entry (behind_first numbers) 0 + max behind (furthest setting.holds ends body))
    ∷ asked setting nowhere 0 body (behind_first numbers)
asked setting ends behind AgainTree numbers = jump_most ∷ []
asked setting ends behind (AgainIfTree test) numbers = max (passed_most + behind) taken_most ∷ []
asked setting ends behind (WhenTree condition body) numbers =
    (if setting.holds condition then entry (behind_first numbers) behind else behind)
    ∷ asked setting ends behind body (behind_first numbers)
asked setting ends behind (ChooseTree condition this other) numbers =
    (if setting.holds condition then entry (take (nodes this) (behind_first numbers)) behind
    else entry (drop (nodes this) (behind_first numbers)) behind)
    ∷ (asked setting ends behind this (take (nodes this) (behind_first numbers))
    ++ asked setting ends behind other (drop (nodes this) (behind_first numbers)))
asked setting ends behind NeverTree numbers = 0 ∷ []

-- numbers reach others: there are as many, and each is as great or greater
abbrev pub Reaches : List ℕ → List ℕ → Type 0
Reaches [] [] = Unit {0}
Reaches (least ∷ more) (number ∷ numbers) = (least ≤ number) × Reaches more numbers
Reaches least numbers = ⊥

-- the numbers of a block's lines are admitted where each reaches what it must
abbrev pub Admits : Setting → Tree → List ℕ → Type 0
Admits setting tree numbers = Reaches (asked setting nowhere 0 tree numbers) numbers

-- what they say of the block
abbrev pub bound_by : List ℕ → ℕ
bound_by numbers = entry numbers 0
