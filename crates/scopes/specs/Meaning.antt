-- What a block means on the desk, kind by kind, and what it costs. This is the project's own language of player code.
use Rattle.std.specs.Prelude.{ℕ, zero, suc, ◌+◌, Bool, not, Option, Some, None, nat_eq, if◌then◌else◌, min}
use Rattle.cpu6502.specs.declared.mnemonic.Mnemonic.{Mnemonic}
use Rattle.scopes.specs.declared.line.TheConstants.{OPEN}
use Rattle.scopes.specs.declared.line.Operand.{Operand}
use Rattle.scopes.specs.declared.line.Flag.{Flag}
use Rattle.scopes.specs.declared.line.Flag.TheVariants.{Zero, Minus, Carry}
use Rattle.scopes.specs.declared.line.Test.{Test}
use Rattle.scopes.specs.declared.line.Test.TheVariants.{On, Off}
use Rattle.scopes.specs.Desk.{Desk, Layout}
use Rattle.scopes.specs.Steps.{done, done_with}
use Rattle.scopes.specs.Trees.{Tree, DoTree, WithTree, NoneTree, ThenTree, ScopeTree, LeaveTree, LeaveIfTree, LoopTree}
use Rattle.scopes.specs.Trees.{AgainTree, AgainIfTree, WhenTree, ChooseTree, NeverTree}

-- ---- tests

abbrev pub flag_of : Flag → Desk → Bool
flag_of Zero desk = desk.cpu.z
flag_of Minus desk = desk.cpu.n
flag_of Carry desk = desk.cpu.c

abbrev pub is_met : Test → Desk → Bool
is_met (On flag) desk = flag_of flag desk
is_met (Off flag) desk = not (flag_of flag desk)

-- ---- outcomes

-- how a block ends: at its own end, at the end of a scope around it, in front of the next turn of the loop around it,
-- or where it mustn't come to
pub data Outcome : Type 0 where
  Done : Outcome
  Left : (name : ℕ) → Outcome
  Again : Outcome
  Stuck : Outcome

pub record Ran : Type 0 where
  pub outcome : Outcome
  pub desk : Desk
  pub cost : ℕ

-- what lines cost: an instruction without or with its operand, by the desk before it; a leave
-- or a next turn without a test; a leave whose test is met, and one whose test isn't; and the same of a next turn
pub record Prices : Type 0 where
  pub alone : Mnemonic → Desk → ℕ
  pub operand : Mnemonic → Operand → Desk → ℕ
  pub jump : ℕ
  pub left : ℕ
  pub stayed : ℕ
  pub taken : ℕ
  pub passed : ℕ

-- each instruction counts one
abbrev pub each_one : Prices
each_one = record {
  alone = λ mnemonic desk. 1;
  operand = λ mnemonic operand desk. 1;
  jump = 1;
  left = 1;
  stayed = 1;
  taken = 1;
  passed = 1;
}

abbrev pub ended : Outcome → Desk → ℕ → Ran
ended outcome desk cost = record { outcome = outcome; desk = desk; cost = cost }

-- an instruction at which the processor stops is stuck
abbrev pub stepped : Option Desk → Desk → ℕ → Ran
stepped None desk cost = ended Stuck desk 0
stepped (Some after) desk cost = ended Done after cost

-- with what was paid before
abbrev pub paid : ℕ → Ran → Ran
paid cost ran = record ran { cost = cost + ran.cost }

-- what follows is done behind an end alone
abbrev pub behind : Outcome → Ran → (Desk → Ran) → Ran
behind Done ran next = paid ran.cost (next ran.desk)
behind outcome ran next = ran

abbrev pub and_then : Ran → (Desk → Ran) → Ran
and_then ran next = behind ran.outcome ran next

-- the end of a scope is where those come to that leave it by its name
abbrev pub out_of_scope : ℕ → Outcome → Outcome
out_of_scope name (Left other) = if nat_eq other name then Done else Left other
out_of_scope name outcome = outcome

abbrev pub scoped : ℕ → Ran → Ran
scoped name ran = record ran { outcome = out_of_scope name ran.outcome }

-- the next turn, where it is asked for
abbrev pub next_turn : Outcome → Ran → (Desk → Ran) → Ran
next_turn Again ran turn = paid ran.cost (turn ran.desk)
next_turn outcome ran turn = ran

-- how many turns a loop has by its count, where an open loop has so many, and never more than 255
abbrev pub turns_in : ℕ → ℕ → ℕ
turns_in most count = if nat_eq count OPEN then min OPEN most else count

-- at most so many turns; one more is stuck
abbrev pub turns : ℕ → (Desk → Ran) → Desk → Ran
turns zero body desk = ended Stuck desk 0
turns (suc more) body desk = next_turn (body desk).outcome (body desk) (turns more body)

-- ---- trees

abbrev pub ran : Prices → Layout → Tree → Desk → Ran
ran prices layout (DoTree mnemonic) desk = stepped (done layout mnemonic desk) desk (prices.alone mnemonic desk)
ran prices layout (WithTree mnemonic operand) desk =
    stepped (done_with layout mnemonic operand desk) desk (prices.operand mnemonic operand desk)
ran prices layout NoneTree desk = ended Done desk 0
ran prices layout (ThenTree first rest) desk = and_then (ran prices layout first desk) (ran prices layout rest)
ran prices layout (ScopeTree name body) desk = scoped name (ran prices layout body desk)
ran prices layout (LeaveTree name) desk = ended (Left name) desk prices.jump
ran prices layout (LeaveIfTree name test) desk =
    if is_met test desk then ended (Left name) desk prices.left else ended Done desk prices.stayed
ran prices layout (LoopTree count body) desk =
    turns (turns_in layout.open_turns count) (ran prices layout body) desk
ran prices layout AgainTree desk = ended Again desk prices.jump
ran prices layout (AgainIfTree test) desk =
    if is_met test desk then ended Again desk prices.taken else ended Done desk prices.passed
ran prices layout (WhenTree condition body) desk =
    if layout.holds condition then ran prices layout body desk else ended Done desk 0
ran prices layout (ChooseTree condition this other) desk =
    if layout.holds condition then ran prices layout this desk else ran prices layout other desk
ran prices layout NeverTree desk = ended Stuck desk 0
