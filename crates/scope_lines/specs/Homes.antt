-- That `assemble` refuses no line of a block, in a whole listing that names the labels that it uses, at any origin and
-- with any set of parts. This is the project's own language of player code.
use Rattle.std.specs.Prelude.{◌≡◌, ℕ, ◌≤◌, ◌&&◌, Bool, true, List, [], ◌∷◌, ◌++◌, ◌+◌}
use Rattle.cpu6502.specs.declared.memory.TheConstants.{MEMORY_SIZE}
use Rattle.asm6502.specs.declared.lines.Line.{Line}
use Rattle.asm6502.specs.Lines.{kept, size_of}
use Rattle.asm6502.specs.Stretches.{AtHome, NamesNoLabelTwice, NamesOthers, Passes}
use Rattle.scopes.specs.declared.line.Operand.{Operand}
use Rattle.scopes.specs.declared.line.Operand.TheVariants.{Var, Own, Entry}
use Rattle.scopes.specs.Trees.{Tree, WithTree, ThenTree, ScopeTree, LoopTree, WhenTree, ChooseTree}
use Rattle.scope_lines.specs.Lines.{block_lines}
use Rattle.scope_lines.specs.Reach.{nothing_around, has_lines}

-- whether an operand, and a tree, uses no label but these
abbrev pub operand_uses : (ℕ → Bool) → Operand → Bool
operand_uses others (Var label) = others label
operand_uses others (Own label) = others label
operand_uses others (Entry label) = others label
operand_uses others _ = true

abbrev pub uses_only : (ℕ → Bool) → Tree → Bool
uses_only others (WithTree mnemonic operand) = operand_uses others operand
uses_only others (ThenTree first rest) = uses_only others first && uses_only others rest
uses_only others (ScopeTree name body) = uses_only others body
uses_only others (LoopTree count body) = uses_only others body
uses_only others (WhenTree condition body) = uses_only others body
uses_only others (ChooseTree condition this other) = uses_only others this && uses_only others other
uses_only others _ = true

-- The lines of a tree are at home in any listing that names these labels, the one from which its places are counted
-- among them: each has an opcode and an operand that suits it, uses labels that are named, and branches to none.
abbrev pub LoweredLinesAreAtHome : Type 0
LoweredLinesAreAtHome =
    (others : ℕ → Bool) (label pointer : ℕ) (holds : ℕ → Bool) (place : ℕ) (tree : Tree) →
    has_lines nothing_around tree ≡ true → others label ≡ true → uses_only others tree ≡ true → pointer ≤ 254 →
    AtHome others [] (block_lines label pointer holds place tree) []

-- In a listing that has the lines of a block one behind the other, always names the labels that they use, names no
-- label twice and fits at its origin, `assemble` finds nothing wrong with any of them, with any set of parts.
abbrev pub LoweredLinesAreNotRefused : Type 0
LoweredLinesAreNotRefused =
    (others : ℕ → Bool) (set origin label pointer : ℕ) (holds : ℕ → Bool) (place : ℕ) (tree : Tree)
    (front back before : List Line) (line : Line) (after : List Line) → has_lines nothing_around tree ≡ true →
    others label ≡ true → uses_only others tree ≡ true → pointer ≤ 254 →
    NamesNoLabelTwice (front ++ (block_lines label pointer holds place tree ++ back)) →
    NamesOthers others (front ++ (block_lines label pointer holds place tree ++ back)) →
    origin + size_of (kept set (front ++ (block_lines label pointer holds place tree ++ back))) ≤ MEMORY_SIZE →
    block_lines label pointer holds place tree ≡ before ++ line ∷ after →
    Passes set origin (front ++ (block_lines label pointer holds place tree ++ back)) (front ++ before) line
