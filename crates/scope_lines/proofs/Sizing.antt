-- How many bytes lines take, that all of them are kept, and that none of them names a label.
use Rattle.std.proofs.Common.{◌≡◌, ℕ, ◌+◌, ◌≤◌, max, Bool, true, false, List, [], ◌++◌}
use Rattle.std.proofs.Common.{None, refl, ap}
use Rattle.std.proofs.Common.{◌∙◌, arith, if◌then◌else◌}
use Rattle.std.proofs.Math.Nat.{le-max_left, le-max_right}
use Rattle.asm6502.specs.declared.lines.Line.{Line}
use Rattle.std.specs.Option.{option_or, option_map}
use Rattle.asm6502.specs.Lines.{kept, size_of, place_of}
use Rattle.asm6502.proofs.Laws.{size_of-append, kept-append, place_of-append}
use Rattle.scopes.specs.Trees.{Tree, DoTree, WithTree, NoneTree, ThenTree, ScopeTree, LeaveTree, LeaveIfTree, LoopTree}
use Rattle.scopes.specs.Trees.{AgainTree, AgainIfTree, WhenTree, ChooseTree, NeverTree}
use Rattle.scope_lines.specs.Sizes.{size, most, SizesAreBounded}
use Rattle.scope_lines.specs.Lines.{Around, in_scope, in_loop, lines}
use Rattle.scope_lines.proofs.Plain.{alone_one}

at_most : (z : Bool) (a b m n : ℕ) → a ≤ m → b ≤ n → (if z then a else b) ≤ max m n
at_most true a b m n h i = (let l = le-max_left m n in omega arith)
at_most false a b m n h i = (let l = le-max_right m n in omega arith)

at_most_or_none : (z : Bool) (a m : ℕ) → a ≤ m → (if z then a else 0) ≤ m
at_most_or_none true a m h = h
at_most_or_none false a m h = omega arith

pub sizes_are_bounded : SizesAreBounded
sizes_are_bounded holds (DoTree mnemonic) = omega arith
sizes_are_bounded holds (WithTree mnemonic operand) = omega arith
sizes_are_bounded holds NoneTree = omega arith
sizes_are_bounded holds (ThenTree first rest) =
    let a = sizes_are_bounded holds first in let b = sizes_are_bounded holds rest in omega arith
sizes_are_bounded holds (ScopeTree name body) = sizes_are_bounded holds body
sizes_are_bounded holds (LeaveTree name) = omega arith
sizes_are_bounded holds (LeaveIfTree name test) = omega arith
sizes_are_bounded holds (LoopTree count body) = sizes_are_bounded holds body
sizes_are_bounded holds AgainTree = omega arith
sizes_are_bounded holds (AgainIfTree test) = omega arith
sizes_are_bounded holds (WhenTree condition body) =
    at_most_or_none (holds condition) (size holds body) (most body) (sizes_are_bounded holds body)
sizes_are_bounded holds (ChooseTree condition this other) =
    at_most (holds condition) (size holds this) (size holds other) (most this) (most other)
    (sizes_are_bounded holds this)
    (sizes_are_bounded holds other)
sizes_are_bounded holds NeverTree = omega arith

one_size : (z : Bool) (this other : List Line) (m n : ℕ) → size_of this ≡ m → size_of other ≡ n →
    size_of (if z then this else other) ≡ (if z then m else n)
one_size true this other m n e f = e
one_size false this other m n e f = f

one_kept : (set : ℕ) (z : Bool) (this other : List Line) → kept set this ≡ this → kept set other ≡ other →
    kept set (if z then this else other) ≡ (if z then this else other)
one_kept set true this other e f = e
one_kept set false this other e f = f

-- the lines take the bytes that the tree's shape says
pub lines_size : (around : Around) (place : ℕ) (tree : Tree) →
    size_of (lines around place tree) ≡ size around.holds tree
lines_size around place (DoTree mnemonic) = (let one = alone_one mnemonic in omega (arith, one))
lines_size around place (WithTree mnemonic operand) = omega arith
lines_size around place NoneTree = refl
lines_size around place (ThenTree first rest) =
    let a = lines_size around place first in
    let b = lines_size around (place + size around.holds first) rest in
    size_of-append (lines around place first) (lines around (place + size around.holds first) rest)
    ∙ omega (arith, a, b)
lines_size around place (ScopeTree name body) =
    lines_size (in_scope name (place + size around.holds body) around) place body
lines_size around place (LeaveTree name) = refl
lines_size around place (LeaveIfTree name test) = refl
lines_size around place (LoopTree count body) = lines_size (in_loop place around) place body
lines_size around place AgainTree = refl
lines_size around place (AgainIfTree test) = refl
lines_size around place (WhenTree condition body) =
    one_size (around.holds condition) (lines around place body) [] (size around.holds body) 0
    (lines_size around place body) refl
lines_size around place (ChooseTree condition this other) =
    one_size (around.holds condition) (lines around place this) (lines around place other) (size around.holds this)
    (size around.holds other) (lines_size around place this) (lines_size around place other)
lines_size around place NeverTree = refl

-- and all of them are kept
pub lines_kept : (set : ℕ) (around : Around) (place : ℕ) (tree : Tree) →
    kept set (lines around place tree) ≡ lines around place tree
lines_kept set around place (DoTree mnemonic) = refl
lines_kept set around place (WithTree mnemonic operand) = refl
lines_kept set around place NoneTree = refl
lines_kept set around place (ThenTree first rest) =
    let a = lines_kept set around place first in
    let b = lines_kept set around (place + size around.holds first) rest in
    kept-append set (lines around place first) (lines around (place + size around.holds first) rest)
    ∙ (ap (λ l. l ++ kept set (lines around (place + size around.holds first) rest)) a
    ∙ ap (λ l. lines around place first ++ l) b)
lines_kept set around place (ScopeTree name body) =
    lines_kept set (in_scope name (place + size around.holds body) around) place body
lines_kept set around place (LeaveTree name) = refl
lines_kept set around place (LeaveIfTree name test) = refl
lines_kept set around place (LoopTree count body) = lines_kept set (in_loop place around) place body
lines_kept set around place AgainTree = refl
lines_kept set around place (AgainIfTree test) = refl
lines_kept set around place (WhenTree condition body) =
    one_kept set (around.holds condition) (lines around place body) [] (lines_kept set around place body) refl
lines_kept set around place (ChooseTree condition this other) =
    one_kept set (around.holds condition) (lines around place this) (lines around place other)
    (lines_kept set around place this) (lines_kept set around place other)
lines_kept set around place NeverTree = refl

one_named : (label : ℕ) (z : Bool) (this other : List Line) → place_of this label ≡ None →
    place_of other label ≡ None → place_of (if z then this else other) label ≡ None
one_named label true this other e f = e
one_named label false this other e f = f

pub both_unnamed : (label : ℕ) (front back : List Line) → place_of front label ≡ None → place_of back label ≡ None →
    place_of (front ++ back) label ≡ None
both_unnamed label front back e f =
    place_of-append front back label
    ∙ (ap (λ o. option_or o (option_map (λ place. size_of front + place) (place_of back label))) e
    ∙ ap (λ o. option_map (λ place. size_of front + place) o) f)

-- and none of them names a label
pub lines_name_none : (label : ℕ) (around : Around) (place : ℕ) (tree : Tree) →
    place_of (lines around place tree) label ≡ None
lines_name_none label around place (DoTree mnemonic) = refl
lines_name_none label around place (WithTree mnemonic operand) = refl
lines_name_none label around place NoneTree = refl
lines_name_none label around place (ThenTree first rest) =
    both_unnamed label (lines around place first) (lines around (place + size around.holds first) rest)
    (lines_name_none label around place first)
    (lines_name_none label around (place + size around.holds first) rest)
lines_name_none label around place (ScopeTree name body) =
    lines_name_none label (in_scope name (place + size around.holds body) around) place body
lines_name_none label around place (LeaveTree name) = refl
lines_name_none label around place (LeaveIfTree name test) = refl
lines_name_none label around place (LoopTree count body) = lines_name_none label (in_loop place around) place body
lines_name_none label around place AgainTree = refl
lines_name_none label around place (AgainIfTree test) = refl
lines_name_none label around place (WhenTree condition body) =
    one_named label (around.holds condition) (lines around place body) []
    (lines_name_none label around place body) refl
lines_name_none label around place (ChooseTree condition this other) =
    one_named label (around.holds condition) (lines around place this) (lines around place other)
    (lines_name_none label around place this) (lines_name_none label around place other)
lines_name_none label around place NeverTree = refl
