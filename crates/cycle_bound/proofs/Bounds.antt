-- Admitted numbers bound the clock cycles of a tree.
use Rattle.std.proofs.Common.{◌≡◌, ℕ, zero, suc, ◌+◌, ◌*◌, ◌≤◌, ◌++◌, ◌&&◌, Bool, true, false, max, nat_eq}
use Rattle.std.proofs.Common.{List, [], ◌∷◌, length, take, drop, Option, Some, None, refl, ap}
use Rattle.std.proofs.Common.{subst, arith, if◌then◌else◌}
use Rattle.std.proofs.Math.Nat.{le-max_left, le-max_right}
use Rattle.cpu6502.specs.declared.mnemonic.Mnemonic.{Mnemonic}
use Rattle.cpu6502.specs.declared.mnemonic.Mode.{Mode}
use Rattle.cpu6502.specs.Registers.{one_if}
use Rattle.cpu6502.specs.Cycles.{is_read, is_paged, crosses, index_cycles}
use Rattle.scopes.specs.declared.line.Operand.{Operand}
use Rattle.code_runs.specs.Cycles.{unindexed}
use Rattle.scopes.specs.Desk.{Desk, Layout, operand_place}
use Rattle.scopes.specs.Steps.{done, done_with}
use Rattle.scopes.specs.Trees.{Tree, DoTree, WithTree, NoneTree, ThenTree, ScopeTree, LeaveTree, LeaveIfTree, LoopTree}
use Rattle.scopes.specs.Trees.{AgainTree, AgainIfTree, WhenTree, ChooseTree, NeverTree}
use Rattle.scopes.specs.Meaning.{Outcome, Done, Left, Again, Stuck, Ran, each_one, is_met, ended, stepped}
use Rattle.scopes.specs.Meaning.{behind as then_behind, turns_in, and_then, out_of_scope, next_turn, turns, ran}
use Rattle.scope_lines.specs.Sizes.{size}
use Rattle.scope_lines.specs.Instructions.{mode_of}
use Rattle.scope_lines.specs.Lines.{in_scope as around_scope, in_loop as around_loop}
use Rattle.scope_lines.specs.Cycles.{with_cycles, test_cycles, if_done, if_again, turn_cycles, cycles}
use Rattle.cycle_bound.specs.Rules.{alone_most, with_most, jump_most, passed_most, taken_most, Ends, nowhere, in_scope}
use Rattle.cycle_bound.specs.Rules.{Setting, entry, behind_first, furthest, nodes, asked, Reaches}
use Rattle.cycle_bound.specs.Bounds.{number_at, TreesKeepBounds, BlocksKeepBounds, LoweredBlocksKeepBounds, setting_of}
use Rattle.scope_lines.specs.Lines.{block_around}
use Rattle.scope_lines.specs.Lowered.{layout_at, desk_of}
use Rattle.scope_lines.proofs.Laws.{lowered_blocks_take}

-- ---- lists of numbers

-- the first one reaches what it must
pub first_reaches : (least : ℕ) (more numbers : List ℕ) (behind : ℕ) → Reaches (least ∷ more) numbers →
    least ≤ entry numbers behind
first_reaches least more [] behind reaches = absurd reaches
first_reaches least more (number ∷ numbers) behind reaches = reaches.0

pub rest_reaches : (least : ℕ) (more numbers : List ℕ) → Reaches (least ∷ more) numbers →
    Reaches more (behind_first numbers)
rest_reaches least more [] reaches = absurd reaches
rest_reaches least more (number ∷ numbers) reaches = reaches.1

-- two lists, one behind the other
pub reaches_both : (one two numbers : List ℕ) → Reaches (one ++ two) numbers →
    Reaches one (take (length one) numbers) × Reaches two (drop (length one) numbers)
reaches_both [] two numbers reaches = (tt, reaches)
reaches_both (least ∷ one) two [] reaches = absurd reaches
reaches_both (least ∷ one) two (number ∷ numbers) reaches =
    let both = reaches_both one two numbers reaches.1 in
    ((reaches.0, both.0), both.1)

-- the number at the first line of two lists
entry_both : (n : ℕ) (numbers : List ℕ) (behind : ℕ) →
    entry (take n numbers) (entry (drop n numbers) behind) ≡ entry numbers behind
entry_both zero numbers behind = refl
entry_both (suc n) [] behind = refl
entry_both (suc n) (number ∷ numbers) behind = refl

-- there are as many as lines
pub length_both : (one two : List ℕ) (m n : ℕ) → length one ≡ m → length two ≡ n → length (one ++ two) ≡ m + n
length_both [] two m n e f = omega (arith, e, f)
length_both (x ∷ one) two zero n e f = absurd (omega (arith, e))
length_both (x ∷ one) two (suc m) n e f =
    let less : length one ≡ m = omega (arith, e) in
    let rest = length_both one two m n less f in
    omega (arith, rest)

pub one_more : (n m : ℕ) → n ≡ m → suc n ≡ 1 + m
one_more n m e = omega (arith, e)

pub asked_count : (setting : Setting) (ends : Ends) (behind : ℕ) (tree : Tree) (numbers : List ℕ) →
    length (asked setting ends behind tree numbers) ≡ nodes tree
asked_count setting ends behind (DoTree mnemonic) numbers = refl
asked_count setting ends behind (WithTree mnemonic operand) numbers = refl
asked_count setting ends behind NoneTree numbers = refl
asked_count setting ends behind (ThenTree first rest) numbers =
    length_both
    (asked setting ends (entry (drop (nodes first) numbers) behind) first (take (nodes first) numbers))
    (asked setting ends behind rest (drop (nodes first) numbers)) (nodes first) (nodes rest)
    (asked_count setting ends (entry (drop (nodes first) numbers) behind) first (take (nodes first) numbers))
    (asked_count setting ends behind rest (drop (nodes first) numbers))
asked_count setting ends behind (ScopeTree name body) numbers =
    one_more _ _ (asked_count setting (in_scope name behind ends) behind body (behind_first numbers))
asked_count setting ends behind (LeaveTree name) numbers = refl
asked_count setting ends behind (LeaveIfTree name test) numbers = refl
asked_count setting ends behind (LoopTree count body) numbers =
    one_more _ _ (asked_count setting nowhere 0 body (behind_first numbers))
asked_count setting ends behind AgainTree numbers = refl
asked_count setting ends behind (AgainIfTree test) numbers = refl
asked_count setting ends behind (WhenTree condition body) numbers =
    one_more _ _ (asked_count setting ends behind body (behind_first numbers))
asked_count setting ends behind (ChooseTree condition this other) numbers =
    one_more _ _
    (length_both (asked setting ends behind this (take (nodes this) (behind_first numbers)))
    (asked setting ends behind other (drop (nodes this) (behind_first numbers))) (nodes this) (nodes other)
    (asked_count setting ends behind this (take (nodes this) (behind_first numbers)))
    (asked_count setting ends behind other (drop (nodes this) (behind_first numbers))))
asked_count setting ends behind NeverTree numbers = refl

-- ---- single lines

no_more : (n : ℕ) → n + 0 ≡ n
no_more n = omega arith

-- an instruction comes to its end
steps_keep : (layout : Layout) (ends : Ends) (behind c m : ℕ) (result : Option Desk) (desk : Desk) → c ≤ m →
    c + number_at ends behind (stepped result desk 1).outcome ≤ m + behind
steps_keep layout ends behind c m None desk few = omega (arith, few)
steps_keep layout ends behind c m (Some after) desk few = omega (arith, few)

one_at_most : (p r x : Bool) → one_if (p && r && x) ≤ one_if (p && r)
one_at_most true true true = omega arith
one_at_most true true false = omega arith
one_at_most true false x = omega arith
one_at_most false r x = omega arith

index_few : (mnemonic : Mnemonic) (mode : Mode) (from to : ℕ) →
    index_cycles mnemonic mode from to ≤ one_if (is_paged mode && is_read mnemonic)
index_few mnemonic mode from to = one_at_most (is_paged mode) (is_read mnemonic) (crosses from to)

with_keeps : (layout : Layout) (mnemonic : Mnemonic) (operand : Operand) (desk : Desk) →
    with_cycles layout mnemonic operand desk ≤ with_most mnemonic operand
with_keeps layout mnemonic operand desk =
    let few =
    index_few mnemonic (mode_of operand) (operand_place layout operand (record desk { cpu = unindexed desk.cpu }))
    (operand_place layout operand desk) in
    omega (arith, few)

-- a branch
pub one_few : (x : Bool) → one_if x ≤ 1
one_few true = omega arith
one_few false = omega arith

tests_keep : (ends : Ends) (behind next to : ℕ) (outcome : Outcome) (z : Bool) (desk : Desk) →
    test_cycles z next to + number_at ends behind (if z then ended outcome desk 1 else ended Done desk 1).outcome
    ≤ max (passed_most + behind) (taken_most + number_at ends behind outcome)
tests_keep ends behind next to outcome true desk =
    let right = le-max_right (passed_most + behind) (taken_most + number_at ends behind outcome) in
    let few = one_few (crosses next to) in
    omega (arith, right, few)
tests_keep ends behind next to outcome false desk =
    let left = le-max_left (passed_most + behind) (taken_most + number_at ends behind outcome) in
    omega (arith, left)

-- ---- one behind the other

then_keeps : (ends : Ends) (behind mid first : ℕ) (one : Ran) (next : Desk → Ran) (c : ℕ) (takes : Desk → ℕ) →
    c + number_at ends mid one.outcome ≤ first →
    ((desk : Desk) → takes desk + number_at ends behind (next desk).outcome ≤ mid) →
    c + if_done one.outcome (takes one.desk) + number_at ends behind (and_then one next).outcome ≤ first
then_keeps ends behind mid first one next c takes here there = by_outcome one.outcome refl
  where
    by_outcome : (o : Outcome) → one.outcome ≡ o →
        c + if_done o (takes one.desk) + number_at ends behind (then_behind o one next).outcome ≤ first
    by_outcome Done is =
        let more = there one.desk in
        let at = ap (number_at ends mid) is in
        omega (arith, here, more, at)
    by_outcome (Left name) is =
        let at = ap (number_at ends mid) is in
        let end = ap (number_at ends behind) is in
        omega (arith, here, at, end)
    by_outcome Again is =
        let at = ap (number_at ends mid) is in
        let end = ap (number_at ends behind) is in
        omega (arith, here, at, end)
    by_outcome Stuck is =
        let at = ap (number_at ends mid) is in
        let end = ap (number_at ends behind) is in
        omega (arith, here, at, end)

-- ---- scopes

-- who leaves a scope by its name comes behind it
scope_number : (ends : Ends) (behind name : ℕ) (o : Outcome) →
    number_at ends behind (out_of_scope name o) ≡ number_at (in_scope name behind ends) behind o
scope_number ends behind name Done = refl
scope_number ends behind name (Left other) = by_name (nat_eq other name)
  where
    by_name : (z : Bool) → number_at ends behind (if z then Done else Left other)
        ≡ (if z then behind else ends other)
    by_name true = refl
    by_name false = refl
scope_number ends behind name Again = refl
scope_number ends behind name Stuck = refl

-- ---- where a tree is left

abbrev left_number : Ends → Outcome → ℕ
left_number ends (Left name) = ends name
left_number ends outcome = 0

both_leave : (ends : Ends) (m n : ℕ) (one : Ran) (next : Desk → Ran) → left_number ends one.outcome ≤ m →
    ((desk : Desk) → left_number ends (next desk).outcome ≤ n) →
    left_number ends (and_then one next).outcome ≤ max m n
both_leave ends m n one next first rest = by_outcome one.outcome refl
  where
    by_outcome : (o : Outcome) → one.outcome ≡ o → left_number ends (then_behind o one next).outcome ≤ max m n
    by_outcome Done is =
        let more = rest one.desk in
        let right = le-max_right m n in
        omega (arith, more, right)
    by_outcome (Left name) is = (let left = le-max_left m n in omega (arith, first, left))
    by_outcome Again is = (let left = le-max_left m n in omega (arith, first, left))
    by_outcome Stuck is = (let left = le-max_left m n in omega (arith, first, left))

scope_leaves : (ends : Ends) (name : ℕ) (o : Outcome) →
    left_number ends (out_of_scope name o) ≤ left_number (in_scope name 0 ends) o
scope_leaves ends name (Left other) = by_name (nat_eq other name)
  where
    by_name : (z : Bool) → left_number ends (if z then Done else Left other)
        ≤ (if z then 0 else ends other)
    by_name true = omega arith
    by_name false = omega arith
scope_leaves ends name Done = omega arith
scope_leaves ends name Again = omega arith
scope_leaves ends name Stuck = omega arith

turns_leave : (ends : Ends) (m : ℕ) (body : Desk → Ran) →
    ((desk : Desk) → left_number ends (body desk).outcome ≤ m) → (count : ℕ) (desk : Desk) →
    left_number ends (turns count body desk).outcome ≤ m
turns_leave ends m body each zero desk = omega arith
turns_leave ends m body each (suc more) desk =
    by_outcome (body desk).outcome (turns_leave ends m body each more (body desk).desk)
  where
    by_outcome : (o : Outcome) → left_number ends (turns more body (body desk).desk).outcome ≤ m →
        left_number ends (next_turn o (body desk) (turns more body)).outcome ≤ m
    by_outcome Again rest = rest
    by_outcome Done rest = each desk
    by_outcome (Left name) rest = each desk
    by_outcome Stuck rest = each desk

step_leaves : (ends : Ends) (result : Option Desk) (desk : Desk) →
    left_number ends (stepped result desk 1).outcome ≤ 0
step_leaves ends None desk = omega arith
step_leaves ends (Some after) desk = omega arith

test_leaves : (ends : Ends) (outcome : Outcome) (desk : Desk) (z : Bool) →
    left_number ends (if z then ended outcome desk 1 else ended Done desk 1).outcome ≤ left_number ends outcome
test_leaves ends outcome desk true = omega arith
test_leaves ends outcome desk false = omega arith

side_leaves : (ends : Ends) (one two : Ran) (m n : ℕ) (z : Bool) → left_number ends one.outcome ≤ m →
    left_number ends two.outcome ≤ n →
    left_number ends (if z then one else two).outcome ≤ (if z then m else n)
side_leaves ends one two m n true this other = this
side_leaves ends one two m n false this other = other

tree_leaves : (layout : Layout) (ends : Ends) (tree : Tree) (desk : Desk) →
    left_number ends (ran each_one layout tree desk).outcome ≤ furthest layout.holds ends tree
tree_leaves layout ends (DoTree mnemonic) desk = step_leaves ends (done layout mnemonic desk) desk
tree_leaves layout ends (WithTree mnemonic operand) desk =
    step_leaves ends (done_with layout mnemonic operand desk) desk
tree_leaves layout ends NoneTree desk = omega arith
tree_leaves layout ends (ThenTree first rest) desk =
    both_leave ends (furthest layout.holds ends first) (furthest layout.holds ends rest)
    (ran each_one layout first desk) (ran each_one layout rest) (tree_leaves layout ends first desk)
    (tree_leaves layout ends rest)
tree_leaves layout ends (ScopeTree name body) desk =
    let all = tree_leaves layout (in_scope name 0 ends) body desk in
    let one = scope_leaves ends name (ran each_one layout body desk).outcome in
    omega (arith, all, one)
tree_leaves layout ends (LeaveTree name) desk = omega arith
tree_leaves layout ends (LeaveIfTree name test) desk = test_leaves ends (Left name) desk (is_met test desk)
tree_leaves layout ends (LoopTree count body) desk =
    turns_leave ends (furthest layout.holds ends body) (ran each_one layout body) (tree_leaves layout ends body)
    (turns_in layout.open_turns count) desk
tree_leaves layout ends AgainTree desk = omega arith
tree_leaves layout ends (AgainIfTree test) desk = test_leaves ends Again desk (is_met test desk)
tree_leaves layout ends (WhenTree condition body) desk =
    side_leaves ends (ran each_one layout body desk) (ended Done desk 0) (furthest layout.holds ends body) 0
    (layout.holds condition) (tree_leaves layout ends body desk) (omega arith)
tree_leaves layout ends (ChooseTree condition this other) desk =
    side_leaves ends (ran each_one layout this desk) (ran each_one layout other desk)
    (furthest layout.holds ends this) (furthest layout.holds ends other) (layout.holds condition)
    (tree_leaves layout ends this desk) (tree_leaves layout ends other desk)
tree_leaves layout ends NeverTree desk = omega arith

-- ---- loops

turns_keep : (ends : Ends) (behind most far : ℕ) (body : Desk → Ran) (takes : Desk → ℕ) → behind ≤ far →
    ((desk : Desk) → takes desk ≤ most) → ((desk : Desk) → left_number ends (body desk).outcome ≤ far) →
    (count : ℕ) (desk : Desk) →
    turn_cycles count body takes desk + number_at ends behind (turns count body desk).outcome ≤ count * most + far
turns_keep ends behind most far body takes near each leaves zero desk = omega arith
turns_keep ends behind most far body takes near each leaves (suc more) desk =
    by_outcome (body desk).outcome refl
    (turns_keep ends behind most far body takes near each leaves more (body desk).desk)
  where
    one : takes desk ≤ most
    one = each desk

    left : left_number ends (body desk).outcome ≤ far
    left = leaves desk

    sum : suc more * most ≡ most + more * most
    sum = omega arith

    by_outcome : (o : Outcome) → (body desk).outcome ≡ o →
        turn_cycles more body takes (body desk).desk
        + number_at ends behind (turns more body (body desk).desk).outcome ≤ more * most + far →
        takes desk + if_again o (turn_cycles more body takes (body desk).desk)
        + number_at ends behind (next_turn o (body desk) (turns more body)).outcome
        ≤ suc more * most + far
    by_outcome Again is rest = omega (arith, rest, one, sum)
    by_outcome Done is rest =
        let at = ap (number_at ends behind) is in
        omega (arith, one, near, sum, at)
    by_outcome (Left name) is rest =
        let at = ap (number_at ends behind) is in
        let end = ap (left_number ends) is in
        omega (arith, one, left, sum, at, end)
    by_outcome Stuck is rest =
        let at = ap (number_at ends behind) is in
        omega (arith, one, sum, at)

-- ---- sides

sides_keep : (ends : Ends) (behind c d m n : ℕ) (one two : Ran) (z : Bool) →
    c + number_at ends behind one.outcome ≤ m → d + number_at ends behind two.outcome ≤ n →
    (if z then c else d) + number_at ends behind (if z then one else two).outcome ≤ (if z then m else n)
sides_keep ends behind c d m n one two true this other = this
sides_keep ends behind c d m n one two false this other = other

within : {a b c : ℕ} → a ≤ b → b ≤ c → a ≤ c
within one two = omega (arith, one, two)

-- ---- trees

pub trees_keep_bounds : TreesKeepBounds
trees_keep_bounds layout around place ends behind (DoTree mnemonic) numbers desk reaches =
    within (steps_keep layout ends behind _ _ (done layout mnemonic desk) desk (omega arith))
    (first_reaches (alone_most mnemonic + behind) [] numbers behind reaches)
trees_keep_bounds layout around place ends behind (WithTree mnemonic operand) numbers desk reaches =
    within
    (steps_keep layout ends behind _ _ (done_with layout mnemonic operand desk) desk
    (with_keeps layout mnemonic operand desk))
    (first_reaches (with_most mnemonic operand + behind) [] numbers behind reaches)
trees_keep_bounds layout around place ends behind NoneTree [] desk reaches = omega arith
trees_keep_bounds layout around place ends behind NoneTree (number ∷ numbers) desk reaches = absurd reaches
trees_keep_bounds layout around place ends behind (ThenTree first rest) numbers desk reaches =
    let ys = drop (nodes first) numbers in
    let mid = entry ys behind in
    let one = asked (setting_of layout) ends mid first (take (nodes first) numbers) in
    let two = asked (setting_of layout) ends behind rest ys in
    let count = asked_count (setting_of layout) ends mid first (take (nodes first) numbers) in
    let both =
    subst (λ n. Reaches one (take n numbers) × Reaches two (drop n numbers)) count
    (reaches_both one two numbers reaches) in
    let here = trees_keep_bounds layout around place ends mid first (take (nodes first) numbers) desk both.0 in
    subst (λ n. cycles layout around place (ThenTree first rest) desk
    + number_at ends behind (ran each_one layout (ThenTree first rest) desk).outcome ≤ n)
    (entry_both (nodes first) numbers behind)
    (then_keeps ends behind mid (entry (take (nodes first) numbers) mid) (ran each_one layout first desk)
    (ran each_one layout rest) (cycles layout around place first desk)
    (cycles layout around (place + size around.holds first) rest) here
    (λ d. trees_keep_bounds layout around (place + size around.holds first) ends behind rest ys d both.1))
trees_keep_bounds layout around place ends behind (ScopeTree name body) numbers desk reaches =
    let more = asked (setting_of layout) (in_scope name behind ends) behind body (behind_first numbers) in
    let inner = around_scope name (place + size around.holds body) around in
    let here =
    trees_keep_bounds layout inner place (in_scope name behind ends) behind body (behind_first numbers) desk
    (rest_reaches (entry (behind_first numbers) behind) more numbers reaches) in
    let first = first_reaches (entry (behind_first numbers) behind) more numbers behind reaches in
    let same = scope_number ends behind name (ran each_one layout body desk).outcome in
    omega (arith, here, first, same)
trees_keep_bounds layout around place ends behind (LeaveTree name) numbers desk reaches =
    first_reaches (jump_most + ends name) [] numbers behind reaches
trees_keep_bounds layout around place ends behind (LeaveIfTree name test) numbers desk reaches =
    within (tests_keep ends behind _ _ (Left name) (is_met test desk) desk)
    (first_reaches (max (passed_most + behind) (taken_most + ends name)) [] numbers behind reaches)
trees_keep_bounds layout around place ends behind (LoopTree count body) numbers desk reaches =
    let far = max behind (furthest layout.holds ends body) in
    let most = entry (behind_first numbers) 0 in
    let turns = turns_in layout.open_turns count in
    let inside = around_loop place around in
    let more = asked (setting_of layout) nowhere 0 body (behind_first numbers) in
    within
    (turns_keep ends behind most far (ran each_one layout body) (cycles layout inside place body)
    (le-max_left behind (furthest layout.holds ends body))
    (λ d.
    let all =
    trees_keep_bounds layout inside place nowhere 0 body (behind_first numbers) d
    (rest_reaches (turns * most + far) more numbers reaches) in
    omega (arith, all))
    (λ d. within (tree_leaves layout ends body d) (le-max_right behind (furthest layout.holds ends body))) turns desk)
    (first_reaches (turns * most + far) more numbers behind reaches)
trees_keep_bounds layout around place ends behind AgainTree numbers desk reaches =
    first_reaches jump_most [] numbers behind reaches
trees_keep_bounds layout around place ends behind (AgainIfTree test) numbers desk reaches =
    within (tests_keep ends behind _ _ Again (is_met test desk) desk)
    (first_reaches (max (passed_most + behind) taken_most) [] numbers behind reaches)
trees_keep_bounds layout around place ends behind (WhenTree condition body) numbers desk reaches =
    let more = asked (setting_of layout) ends behind body (behind_first numbers) in
    let least = if layout.holds condition then entry (behind_first numbers) behind else behind in
    within
    (sides_keep ends behind _ _ _ _ (ran each_one layout body desk) (ended Done desk 0) (layout.holds condition)
    (trees_keep_bounds layout around place ends behind body (behind_first numbers) desk
    (rest_reaches least more numbers reaches)) (omega arith))
    (first_reaches least more numbers behind reaches)
trees_keep_bounds layout around place ends behind (ChooseTree condition this other) numbers desk reaches =
    let xs = take (nodes this) (behind_first numbers) in
    let ys = drop (nodes this) (behind_first numbers) in
    let one = asked (setting_of layout) ends behind this xs in
    let two = asked (setting_of layout) ends behind other ys in
    let least = if layout.holds condition then entry xs behind else entry ys behind in
    let both =
    subst (λ n. Reaches one (take n (behind_first numbers)) × Reaches two (drop n (behind_first numbers)))
    (asked_count (setting_of layout) ends behind this xs)
    (reaches_both one two (behind_first numbers) (rest_reaches least (one ++ two) numbers reaches)) in
    within
    (sides_keep ends behind _ _ _ _ (ran each_one layout this desk) (ran each_one layout other desk)
    (layout.holds condition) (trees_keep_bounds layout around place ends behind this xs desk both.0)
    (trees_keep_bounds layout around place ends behind other ys desk both.1))
    (first_reaches least (one ++ two) numbers behind reaches)
trees_keep_bounds layout around place ends behind NeverTree numbers desk reaches = omega arith

pub blocks_keep_bounds : BlocksKeepBounds
blocks_keep_bounds layout around place tree numbers desk admits =
    let all = trees_keep_bounds layout around place nowhere 0 tree numbers desk admits in omega (arith, all)

pub lowered_blocks_keep_bounds : LoweredBlocksKeepBounds
lowered_blocks_keep_bounds site state numbers placed enters ends admits =
    let takes = lowered_blocks_take site state placed enters ends in
    let all = blocks_keep_bounds (layout_at site) (block_around site.label site.pointer site.holds) site.first site.tree
    numbers (desk_of state) admits in
    omega (arith, takes, all)
