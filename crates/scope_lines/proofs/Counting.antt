-- How many lines there are: none is of no byte, and none has bytes as they are.
use Rattle.std.proofs.Common.{◌≡◌, ℕ, ◌+◌, ◌≤◌, Bool, true, false, List, [], ◌∷◌, ◌++◌, length, refl}
use Rattle.std.proofs.Common.{arith, if◌then◌else◌, length-append}
use Rattle.cpu6502.specs.declared.mnemonic.Mode.{Mode}
use Rattle.cpu6502.specs.declared.mnemonic.Mode.TheVariants.{Implied, Accumulator, Immediate, ZeroPage, ZeroPageX}
use Rattle.cpu6502.specs.declared.mnemonic.Mode.TheVariants.{ZeroPageY, Absolute, AbsoluteX, AbsoluteY, IndirectX}
use Rattle.cpu6502.specs.declared.mnemonic.Mode.TheVariants.{IndirectY, Indirect, Relative}
use Rattle.cpu6502.specs.Opcodes.{length_of}
use Rattle.asm6502.specs.declared.lines.Line.{Line}
use Rattle.asm6502.specs.Lines.{size_of, data_size}
use Rattle.asm6502.proofs.Laws.{size_of-append}
use Rattle.scopes.specs.Trees.{Tree, DoTree, WithTree, NoneTree, ThenTree, ScopeTree, LeaveTree, LeaveIfTree, LoopTree}
use Rattle.scopes.specs.Trees.{AgainTree, AgainIfTree, WhenTree, ChooseTree, NeverTree}
use Rattle.scope_lines.specs.Instructions.{mode_of}
use Rattle.scope_lines.specs.Sizes.{size}
use Rattle.scope_lines.specs.Lines.{Around, in_scope, in_loop, lines}
use Rattle.scope_lines.proofs.Plain.{alone_one}

-- lines of which each takes a byte or more, and none has bytes as they are
pub record AreCode (ls : List Line) : Type 0 where
  pub few : length ls ≤ size_of ls
  pub bytes : data_size ls ≡ 0

data_append : (front back : List Line) → data_size (front ++ back) ≡ data_size front + data_size back
data_append [] back = omega arith
data_append (line ∷ front) back = (let rest = data_append front back in omega (arith, rest))

pub both_code : (front back : List Line) → AreCode front → AreCode back → AreCode (front ++ back)
both_code front back one two =
    let all = length-append front back in
    let size = size_of-append front back in
    let raw = data_append front back in
    let a = one.few in
    let b = two.few in
    let c = one.bytes in
    let d = two.bytes in
    record { few = omega (arith, all, size, a, b); bytes = omega (arith, raw, c, d) }

one_code : (z : Bool) (this other : List Line) → AreCode this → AreCode other → AreCode (if z then this else other)
one_code true this other one two = one
one_code false this other one two = two

-- an instruction takes a byte or more
some_bytes : (mode : Mode) → 1 ≤ length_of mode
some_bytes Implied = omega arith
some_bytes Accumulator = omega arith
some_bytes Immediate = omega arith
some_bytes ZeroPage = omega arith
some_bytes ZeroPageX = omega arith
some_bytes ZeroPageY = omega arith
some_bytes Absolute = omega arith
some_bytes AbsoluteX = omega arith
some_bytes AbsoluteY = omega arith
some_bytes IndirectX = omega arith
some_bytes IndirectY = omega arith
some_bytes Indirect = omega arith
some_bytes Relative = omega arith

pub lines_are_code : (around : Around) (place : ℕ) (tree : Tree) → AreCode (lines around place tree)
lines_are_code around place (DoTree mnemonic) =
    (let one = alone_one mnemonic in record { few = omega (arith, one); bytes = refl })
lines_are_code around place (WithTree mnemonic operand) =
    (let some = some_bytes (mode_of operand) in record { few = omega (arith, some); bytes = refl })
lines_are_code around place NoneTree = record { few = omega arith; bytes = refl }
lines_are_code around place (ThenTree first rest) =
    both_code (lines around place first) (lines around (place + size around.holds first) rest)
    (lines_are_code around place first) (lines_are_code around (place + size around.holds first) rest)
lines_are_code around place (ScopeTree name body) =
    lines_are_code (in_scope name (place + size around.holds body) around) place body
lines_are_code around place (LeaveTree name) = record { few = omega arith; bytes = refl }
lines_are_code around place (LeaveIfTree name test) = record { few = omega arith; bytes = refl }
lines_are_code around place (LoopTree count body) = lines_are_code (in_loop place around) place body
lines_are_code around place AgainTree = record { few = omega arith; bytes = refl }
lines_are_code around place (AgainIfTree test) = record { few = omega arith; bytes = refl }
lines_are_code around place (WhenTree condition body) =
    one_code (around.holds condition) (lines around place body) [] (lines_are_code around place body)
    (record { few = omega arith; bytes = refl })
lines_are_code around place (ChooseTree condition this other) =
    one_code (around.holds condition) (lines around place this) (lines around place other)
    (lines_are_code around place this) (lines_are_code around place other)
lines_are_code around place NeverTree = record { few = omega arith; bytes = refl }
