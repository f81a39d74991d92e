-- The lines of a tree run at most as many instructions as it weighs.
use Rattle.std.proofs.Common.{◌≡◌, ℕ, zero, suc, ◌+◌, ◌*◌, ◌≤◌, max, Bool, true, false, Option}
use Rattle.std.proofs.Common.{Some, None, arith, if◌then◌else◌}
use Rattle.std.proofs.Math.Nat.{le-max_left, le-max_right, mul-le-mul_right}
use Rattle.scopes.specs.Desk.{Desk}
use Rattle.scopes.specs.Steps.{done, done_with}
use Rattle.scopes.specs.Trees.{DoTree, WithTree, NoneTree, ThenTree, ScopeTree, LeaveTree, LeaveIfTree, LoopTree}
use Rattle.scopes.specs.Trees.{AgainTree, AgainIfTree, WhenTree, ChooseTree, NeverTree}
use Rattle.scopes.specs.Meaning.{Outcome, Done, Left, Again, Stuck, Ran, each_one, is_met, ended, stepped, behind, turns_in}
use Rattle.scopes.specs.Meaning.{next_turn, turns, ran}
use Rattle.scope_lines.specs.Weights.{weight, CostsAreBounded}
use Rattle.scopes.proofs.Laws.{turns_within}

step_costs : (result : Option Desk) (desk : Desk) → (stepped result desk 1).cost ≤ 1
step_costs None desk = omega arith
step_costs (Some after) desk = omega arith

then_costs : (m n : ℕ) (one : Ran) (next : Desk → Ran) → one.cost ≤ m → ((desk : Desk) → (next desk).cost ≤ n) →
    (o : Outcome) → (behind o one next).cost ≤ m + n
then_costs m n one next first rest Done = (let more = rest one.desk in omega (arith, first, more))
then_costs m n one next first rest (Left name) = omega (arith, first)
then_costs m n one next first rest Again = omega (arith, first)
then_costs m n one next first rest Stuck = omega (arith, first)

turn_costs : (m n : ℕ) (one : Ran) (next : Desk → Ran) → one.cost ≤ m → ((desk : Desk) → (next desk).cost ≤ n) →
    (o : Outcome) → (next_turn o one next).cost ≤ m + n
turn_costs m n one next first rest Again = (let more = rest one.desk in omega (arith, first, more))
turn_costs m n one next first rest (Left name) = omega (arith, first)
turn_costs m n one next first rest Done = omega (arith, first)
turn_costs m n one next first rest Stuck = omega (arith, first)

turns_cost : (m : ℕ) (body : Desk → Ran) → ((desk : Desk) → (body desk).cost ≤ m) → (count : ℕ) (desk : Desk) →
    (turns count body desk).cost ≤ count * m
turns_cost m body each zero desk = omega arith
turns_cost m body each (suc more) desk =
    let all = turn_costs m (more * m) (body desk) (turns more body) (each desk) (turns_cost m body each more)
    (body desk).outcome in
    let sum : suc more * m ≡ m + more * m = omega arith in
    omega (arith, all, sum)

test_costs : (outcome : Outcome) (desk : Desk) (z : Bool) →
    (if z then ended outcome desk 1 else ended Done desk 1).cost ≤ 1
test_costs outcome desk true = omega arith
test_costs outcome desk false = omega arith

one_costs : (m : ℕ) (one two : Ran) (z : Bool) → one.cost ≤ m → two.cost ≤ m → (if z then one else two).cost ≤ m
one_costs m one two true this other = this
one_costs m one two false this other = other

pub costs_are_bounded : CostsAreBounded
costs_are_bounded layout (DoTree mnemonic) desk = step_costs (done layout mnemonic desk) desk
costs_are_bounded layout (WithTree mnemonic operand) desk = step_costs (done_with layout mnemonic operand desk) desk
costs_are_bounded layout NoneTree desk = omega arith
costs_are_bounded layout (ThenTree first rest) desk =
    then_costs (weight first) (weight rest) (ran each_one layout first desk) (ran each_one layout rest)
    (costs_are_bounded layout first desk) (costs_are_bounded layout rest) (ran each_one layout first desk).outcome
costs_are_bounded layout (ScopeTree name body) desk = costs_are_bounded layout body desk
costs_are_bounded layout (LeaveTree name) desk = omega arith
costs_are_bounded layout (LeaveIfTree name test) desk = test_costs (Left name) desk (is_met test desk)
costs_are_bounded layout (LoopTree count body) desk =
    let turns = turns_in layout.open_turns count in
    let cost = turns_cost (weight body) (ran each_one layout body) (costs_are_bounded layout body) turns desk in
    let more = mul-le-mul_right (weight body) (turns_within layout.open_turns count) in
    omega (arith, cost, more)
costs_are_bounded layout AgainTree desk = omega arith
costs_are_bounded layout (AgainIfTree test) desk = test_costs Again desk (is_met test desk)
costs_are_bounded layout (WhenTree condition body) desk =
    one_costs (weight body) (ran each_one layout body desk) (ended Done desk 0) (layout.holds condition)
    (costs_are_bounded layout body desk) (omega arith)
costs_are_bounded layout (ChooseTree condition this other) desk =
    let one = costs_are_bounded layout this desk in
    let two = costs_are_bounded layout other desk in
    let left = le-max_left (weight this) (weight other) in
    let right = le-max_right (weight this) (weight other) in
    one_costs (max (weight this) (weight other)) (ran each_one layout this desk) (ran each_one layout other desk)
    (layout.holds condition) (omega (arith, one, left)) (omega (arith, two, right))
costs_are_bounded layout NeverTree desk = omega arith
