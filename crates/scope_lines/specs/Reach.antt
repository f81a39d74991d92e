-- Which trees have lines: each instruction is one of the processor's that a block may have, each leave has its scope
-- around it and each next turn its loop, and branches reach as far as they go, whichever conditions hold.
use Rattle.std.specs.Prelude.{ℕ, ◌+◌, ◌&&◌, Bool, true, false, Option, Some, None, nat_eq, nat_le, nat_lt}
use Rattle.std.specs.Prelude.{if◌then◌else◌}
use Rattle.std.specs.Option.{is_some, option_map}
use Rattle.scopes.specs.declared.line.Operand.{Operand}
use Rattle.scopes.specs.declared.line.Operand.TheVariants.{Number, Register, OwnRegister}
use Rattle.scopes.specs.Trees.{Tree, DoTree, WithTree, NoneTree, ThenTree, ScopeTree, LeaveTree, LeaveIfTree, LoopTree}
use Rattle.scopes.specs.Trees.{AgainTree, AgainIfTree, WhenTree, ChooseTree, NeverTree}
use Rattle.scope_lines.specs.Instructions.{mode_of, alone_mode, is_spelled}
use Rattle.scope_lines.specs.Sizes.{most}

-- What is around a tree: at most how many bytes stand between its end and the end of each scope, by its name; and
-- between the beginning of the loop and its own.
pub record Reach : Type 0 where
  pub ends : ℕ → Option ℕ
  pub head : Option ℕ

abbrev pub nothing_around : Reach
nothing_around = record { ends = λ name. None; head = None }

-- with so many bytes more behind the tree, and before it
abbrev pub before_bytes : ℕ → Reach → Reach
before_bytes bytes reach = record reach { ends = λ name. option_map (λ far. bytes + far) (reach.ends name) }

abbrev pub behind_bytes : ℕ → Reach → Reach
behind_bytes bytes reach = record reach { head = option_map (λ far. far + bytes) reach.head }

abbrev pub in_scope : ℕ → Reach → Reach
in_scope name reach = record reach { ends = λ other. if nat_eq other name then Some 0 else reach.ends other }

abbrev pub in_loop : Reach → Reach
in_loop reach = record reach { head = Some 0 }

-- whether there is a label, and within so many bytes
abbrev pub is_within : ℕ → Option ℕ → Bool
is_within bytes None = false
is_within bytes (Some far) = nat_le far bytes

-- numbers are bytes, and the SID has 25 registers, of which 7 are a voice's
abbrev pub is_operand : Operand → Bool
is_operand (Number number) = nat_lt number 256
is_operand (Register register) = nat_le register 24
is_operand (OwnRegister register) = nat_le register 6
is_operand _ = true

-- a branch reaches 127 bytes on from its end, and 126 back from its own place
abbrev pub has_lines : Reach → Tree → Bool
has_lines reach (DoTree mnemonic) = is_spelled mnemonic (alone_mode mnemonic)
has_lines reach (WithTree mnemonic operand) = is_spelled mnemonic (mode_of operand) && is_operand operand
has_lines reach NoneTree = true
has_lines reach (ThenTree first rest) =
    has_lines (before_bytes (most rest) reach) first && has_lines (behind_bytes (most first) reach) rest
has_lines reach (ScopeTree name body) = has_lines (in_scope name reach) body
has_lines reach (LeaveTree name) = is_some (reach.ends name)
has_lines reach (LeaveIfTree name test) = is_within 127 (reach.ends name)
has_lines reach (LoopTree count body) = has_lines (in_loop reach) body
has_lines reach AgainTree = is_some reach.head
has_lines reach (AgainIfTree test) = is_within 126 reach.head
has_lines reach (WhenTree condition body) = has_lines reach body
has_lines reach (ChooseTree condition this other) = has_lines reach this && has_lines reach other
has_lines reach NeverTree = true
