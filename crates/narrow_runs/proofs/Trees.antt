-- A tree does the same in a layout that has no places but those that two others have in common.
use Rattle.std.proofs.Common.{◌≡◌, ℕ, Bool, true, false, refl, if◌then◌else◌, ap}
use Rattle.std.proofs.lemmas.Bool.{and_parts, and_from, or_left, or_right}
use Rattle.std.specs.Option.{is_some}
use Rattle.cpu6502.specs.Opcodes.{opcode_of}
use Rattle.scopes.specs.Desk.{Layout}
use Rattle.scopes.specs.Plain.{is_plain}
use Rattle.scopes.specs.Steps.{done, done_with}
use Rattle.scopes.specs.Trees.{DoTree, WithTree, NoneTree, ThenTree, ScopeTree, LeaveTree, LeaveIfTree, LoopTree}
use Rattle.scopes.specs.Trees.{AgainTree, AgainIfTree, WhenTree, ChooseTree, NeverTree}
use Rattle.scopes.specs.Meaning.{Done, Left, Again, each_one, ended, ran, turns_in}
use Rattle.scope_lines.specs.Instructions.{mode_of, is_spelled}
use Rattle.scope_lines.specs.Sizes.{most}
use Rattle.scope_lines.specs.Reach.{before_bytes, behind_bytes, is_operand, has_lines, in_scope, in_loop}
use Rattle.narrow_runs.specs.Named.{names}
use Rattle.narrow_runs.specs.Narrow.{AgreesOn, TreesAreNarrow}
use Rattle.narrow_runs.proofs.Instructions.{with_narrow, alone_narrow}
use Rattle.narrow_runs.proofs.Lines.{came_to, steps_narrow, tests_narrow, then_narrow, scope_narrow, as_many_narrow}
use Rattle.narrow_runs.proofs.Lines.{choose_narrow}

-- ---- labels

-- layouts agree on fewer labels
pub agrees_less : {named fewer : ℕ → Bool} {narrow wide : Layout} →
    ((label : ℕ) → fewer label ≡ true → named label ≡ true) → AgreesOn named narrow wide → AgreesOn fewer narrow wide
agrees_less less agrees = record {
  addresses = λ label e. agrees.addresses label (less label e);
  pointer = agrees.pointer;
  holds = agrees.holds;
  open_turns = agrees.open_turns;
}

this_named : (z p q : Bool) → z ≡ true → p ≡ true → (if z then p else q) ≡ true
this_named z p q e f = rw e f

other_named : (z p q : Bool) → z ≡ false → q ≡ true → (if z then p else q) ≡ true
other_named z p q e f = rw e f

-- ---- trees

pub trees_are_narrow : TreesAreNarrow
trees_are_narrow reach (DoTree mnemonic) narrow one two more other desk first second has agrees agrees' is same same'
    goes goes' =
    steps_narrow (done narrow mnemonic desk) (done one mnemonic first) (done two mnemonic second) desk first second goes
    goes'
    (λ after after' e f.
    alone_narrow mnemonic narrow one two more other desk first second after after' has is same same' e f)
trees_are_narrow reach (WithTree mnemonic operand) narrow one two more other desk first second has agrees agrees' is
    same same' goes goes' =
    steps_narrow (done_with narrow mnemonic operand desk) (done_with one mnemonic operand first)
    (done_with two mnemonic operand second) desk first second goes goes'
    (λ after after' e f.
    with_narrow mnemonic operand narrow one two more other desk first second after after'
    (and_parts (is_plain mnemonic) (is_some (opcode_of mnemonic (mode_of operand)))
    (and_parts (is_spelled mnemonic (mode_of operand)) (is_operand operand) has).0).0 agrees agrees' is same same' e f)
trees_are_narrow reach NoneTree narrow one two more other desk first second has agrees agrees' is same same' goes
    goes' =
    came_to Done 0 same same'
trees_are_narrow reach (ThenTree before rest) narrow one two more other desk first second has agrees agrees' is same
    same' goes goes' =
    let parts =
    and_parts (has_lines (before_bytes (most rest) reach) before) (has_lines (behind_bytes (most before) reach) rest)
    has in
    let left : (label : ℕ) → names narrow.holds before label ≡ true →
    names narrow.holds (ThenTree before rest) label ≡ true =
    λ label e. or_left (names narrow.holds before label) (names narrow.holds rest label) e in
    let right : (label : ℕ) → names narrow.holds rest label ≡ true →
    names narrow.holds (ThenTree before rest) label ≡ true =
    λ label e. or_right (names narrow.holds before label) (names narrow.holds rest label) e in
    then_narrow (ran each_one narrow before desk) (ran each_one one before first) (ran each_one two before second)
    (ran each_one narrow rest) (ran each_one one rest) (ran each_one two rest) goes goes'
    (λ g g'.
    trees_are_narrow (before_bytes (most rest) reach) before narrow one two more other desk first second parts.0
    (agrees_less left agrees) (agrees_less left agrees') is same same' g g')
    (λ here there g g'.
    trees_are_narrow (behind_bytes (most before) reach) rest narrow one two more other
    (ran each_one narrow before desk).desk (ran each_one one before first).desk (ran each_one two before second).desk
    parts.1 (agrees_less right agrees) (agrees_less right agrees') is here there g g')
trees_are_narrow reach (ScopeTree name body) narrow one two more other desk first second has agrees agrees' is same
    same' goes goes' =
    scope_narrow name (ran each_one narrow body desk) (ran each_one one body first) (ran each_one two body second) goes
    goes'
    (λ g g'.
    trees_are_narrow (in_scope name reach) body narrow one two more other desk first second has
    (agrees_less (λ label e. e) agrees) (agrees_less (λ label e. e) agrees') is same same' g g')
trees_are_narrow reach (LeaveTree name) narrow one two more other desk first second has agrees agrees' is same same'
    goes goes' =
    came_to (Left name) 1 same same'
trees_are_narrow reach (LeaveIfTree name test) narrow one two more other desk first second has agrees agrees' is same
    same' goes goes' =
    tests_narrow test (Left name) same same'
trees_are_narrow reach (LoopTree count body) narrow one two more other desk first second has agrees agrees' is same
    same' goes goes' =
    as_many_narrow (ran each_one narrow body) (ran each_one one body) (ran each_one two body)
    (λ d f s here there g g'.
    trees_are_narrow (in_loop reach) body narrow one two more other d f s has
    (agrees_less (λ label e. e) agrees) (agrees_less (λ label e. e) agrees') is here there g g')
    (turns_in narrow.open_turns count) (turns_in one.open_turns count) (turns_in two.open_turns count)
    (ap (λ n. turns_in n count) agrees.open_turns) (ap (λ n. turns_in n count) agrees'.open_turns) desk first second
    same same' goes goes'
trees_are_narrow reach AgainTree narrow one two more other desk first second has agrees agrees' is same same' goes
    goes' =
    came_to Again 1 same same'
trees_are_narrow reach (AgainIfTree test) narrow one two more other desk first second has agrees agrees' is same same'
    goes goes' =
    tests_narrow test Again same same'
trees_are_narrow reach (WhenTree condition body) narrow one two more other desk first second has agrees agrees' is same
    same' goes goes' =
    choose_narrow (narrow.holds condition) (one.holds condition) (two.holds condition) (ran each_one narrow body desk)
    (ran each_one one body first) (ran each_one two body second) (ended Done desk 0) (ended Done first 0)
    (ended Done second 0) (agrees.holds condition) (agrees'.holds condition) goes goes'
    (λ h g g'.
    let kept : (label : ℕ) → names narrow.holds body label ≡ true →
    names narrow.holds (WhenTree condition body) label ≡ true =
    λ label e. and_from (narrow.holds condition) (names narrow.holds body label) h e in
    trees_are_narrow reach body narrow one two more other desk first second has (agrees_less kept agrees)
    (agrees_less kept agrees') is same same' g g')
    (λ h g g'. came_to Done 0 same same')
trees_are_narrow reach (ChooseTree condition this that) narrow one two more other desk first second has agrees agrees'
    is same same' goes goes' =
    let parts = and_parts (has_lines reach this) (has_lines reach that) has in
    choose_narrow (narrow.holds condition) (one.holds condition) (two.holds condition) (ran each_one narrow this desk)
    (ran each_one one this first) (ran each_one two this second) (ran each_one narrow that desk)
    (ran each_one one that first) (ran each_one two that second) (agrees.holds condition) (agrees'.holds condition) goes
    goes'
    (λ h g g'.
    let kept : (label : ℕ) → names narrow.holds this label ≡ true →
    names narrow.holds (ChooseTree condition this that) label ≡ true =
    λ label e.
    this_named (narrow.holds condition) (names narrow.holds this label) (names narrow.holds that label) h e in
    trees_are_narrow reach this narrow one two more other desk first second parts.0 (agrees_less kept agrees)
    (agrees_less kept agrees') is same same' g g')
    (λ h g g'.
    let kept : (label : ℕ) → names narrow.holds that label ≡ true →
    names narrow.holds (ChooseTree condition this that) label ≡ true =
    λ label e.
    other_named (narrow.holds condition) (names narrow.holds this label) (names narrow.holds that label) h e in
    trees_are_narrow reach that narrow one two more other desk first second parts.1 (agrees_less kept agrees)
    (agrees_less kept agrees') is same same' g g')
trees_are_narrow reach NeverTree narrow one two more other desk first second has agrees agrees' is same same' goes
    goes' =
    absurd (goes refl)
