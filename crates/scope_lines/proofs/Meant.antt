-- What the lines of a tree do where they stand: from any desk at their beginning they lead to the tree's desk
-- behind them, or where a scope around them ends or the loop around them begins.
use Rattle.std.proofs.Common.{◌≡◌, ◌≢◌, ℕ, zero, suc, ◌+◌, ◌≤◌, Bool, true, false, nat_eq, List, []}
use Rattle.std.proofs.Common.{Option, Some, None, refl, sym, ap, ◌∙◌, subst, arith, if◌then◌else◌}
use Rattle.std.proofs.lemmas.Bool.{and_parts}
use Rattle.std.specs.Option.{is_some}
use Rattle.cpu6502.specs.Opcodes.{length_of}
use Rattle.cpu6502.specs.Manual.{cycles_of}
use Rattle.code_runs.specs.Runs.{Leads}
use Rattle.code_runs.specs.Code.{Stands}
use Rattle.code_runs.specs.Calls.{In}
use Rattle.code_runs.proofs.Laws.{Lasts, lasts_none, lasts_on, lasts_to, lasts_as, lasts_wider}
use Rattle.asm6502.specs.declared.lines.Line.{Line}
use Rattle.asm6502.specs.Operands.{number_of}
use Rattle.asm6502.specs.Lines.{size_of}
use Rattle.asm6502.specs.Standing.{LinesAt}
use Rattle.asm6502.proofs.Laws.{fronts_stand, backs_stand}
use Rattle.scopes.specs.Desk.{Desk}
use Rattle.scopes.specs.Steps.{done, done_with}
use Rattle.scopes.specs.Trees.{Tree, DoTree, WithTree, NoneTree, ThenTree, ScopeTree, LeaveTree, LeaveIfTree, LoopTree}
use Rattle.scopes.specs.Trees.{AgainTree, AgainIfTree, WhenTree, ChooseTree, NeverTree}
use Rattle.scopes.specs.Meaning.{Outcome, Done, Left, Again, Stuck, Ran, each_one, is_met, ended, behind, and_then, turns_in}
use Rattle.scopes.specs.Meaning.{out_of_scope, scoped, next_turn, turns, ran}
use Rattle.scope_lines.specs.Instructions.{mode_of, argument_of, alone_mode, is_spelled}
use Rattle.scope_lines.specs.Sizes.{size, most}
use Rattle.scope_lines.specs.Lines.{Around, in_scope, in_loop, forwards, backwards, lines}
use Rattle.scope_lines.specs.Reach.{Reach, before_bytes, behind_bytes, is_operand, has_lines}
use Rattle.scope_lines.specs.Reach.{in_scope as reach_in_scope, in_loop as reach_in_loop}
use Rattle.scope_lines.specs.Lowered.{writes_at, spot}
use Rattle.scope_lines.specs.Cycles.{with_cycles, test_cycles, if_done, if_again, turn_cycles, cycles}
use Rattle.scope_lines.proofs.Plain.{alone_one}
use Rattle.scope_lines.proofs.Stepping.{with_does, alone_does}
use Rattle.scope_lines.proofs.Timing.{with_lasts, alone_lasts}
use Rattle.scope_lines.proofs.Sizing.{sizes_are_bounded, lines_size}
use Rattle.scope_lines.proofs.Nearing.{IsNear, some_of, within, near_first, near_rest, near_scope, near_loop}
use Rattle.scope_lines.proofs.Ways.{Ground, HasCode, IsAround, target, Comes, kept, stands_here, step_comes, jumps}
use Rattle.scope_lines.proofs.Ways.{branches, forwards_goes, backwards_goes, own_writes, change_writes}

-- ---- kinds

no_more : (n : ℕ) → n ≡ n + 0
no_more n = omega arith

-- what follows is done behind an end alone
then_comes : (g : Ground) (around : Around) (place between end c d : ℕ) (desk : Desk) (one : Ran)
    (next : Desk → Ran) →
    (and_then one next).outcome ≢ Stuck → (one.outcome ≢ Stuck → Comes g around place between desk one c) →
    (one.outcome ≡ Done → Leads (In (writes_at g.layout)) one.cost (spot (g.start + place) desk)
    (spot (g.start + between) one.desk) →
    (next one.desk).outcome ≢ Stuck → Comes g around between end one.desk (next one.desk) d) →
    Comes g around place end desk (and_then one next) (c + if_done one.outcome d)
then_comes g around place between end c d desk one next runs first rest = by_outcome one.outcome refl runs
  where
    by_outcome : (o : Outcome) → one.outcome ≡ o → (behind o one next).outcome ≢ Stuck →
        Comes g around place end desk (behind o one next) (c + if_done o d)
    by_outcome Done is goes =
        let way = first (λ stuck. (let no : Done ≡ Stuck = sym is ∙ stuck in cc)) in
        let here : Lasts (In (writes_at g.layout)) one.cost c (spot (g.start + place) desk)
        (spot (g.start + between) one.desk) =
        subst (λ o. Lasts (In (writes_at g.layout)) one.cost c (spot (g.start + place) desk)
        (spot (g.start + target around between o) one.desk)) is way.lasts in
        record { lasts = lasts_on here (rest is here.leads goes).lasts }
    by_outcome (Left name) is goes =
        let way = first goes in
        record {
          lasts =
              lasts_as (no_more c)
              (lasts_to (ap (λ o. spot (g.start + target around between o) one.desk) is
              ∙ sym (ap (λ o. spot (g.start + target around end o) one.desk) is)) way.lasts);
        }
    by_outcome Again is goes =
        let way = first goes in
        record {
          lasts =
              lasts_as (no_more c)
              (lasts_to (ap (λ o. spot (g.start + target around between o) one.desk) is
              ∙ sym (ap (λ o. spot (g.start + target around end o) one.desk) is)) way.lasts);
        }
    by_outcome Stuck is goes = absurd (goes is)

-- who leaves a scope by its name comes to its end
scope_comes : (g : Ground) (around : Around) (place end name c : ℕ) (desk : Desk) (r : Ran) →
    (scoped name r).outcome ≢ Stuck → (r.outcome ≢ Stuck → Comes g (in_scope name end around) place end desk r c) →
    Comes g around place end desk (scoped name r) c
scope_comes g around place end name c desk r runs body =
    let way = body (λ stuck. runs (ap (out_of_scope name) stuck)) in
    record { lasts = lasts_to (ap (λ n. spot (g.start + n) r.desk) (same r.outcome)) way.lasts }
  where
    named : (other : ℕ) (z : Bool) → nat_eq other name ≡ z → (if z then end else around.ends other)
        ≡ target around end (if z then Done else Left other)
    named other true e = refl
    named other false e = refl

    same : (o : Outcome) → target (in_scope name end around) end o ≡ target around end (out_of_scope name o)
    same Done = refl
    same (Left other) = named other (nat_eq other name) refl
    same Again = refl
    same Stuck = refl

-- a loop goes on at its head
turns_come : (g : Ground) (around : Around) (place end : ℕ) (body : Desk → Ran) (takes : Desk → ℕ) →
    ((desk : Desk) → HasCode g desk.at → (body desk).outcome ≢ Stuck →
    Comes g (in_loop place around) place end desk (body desk) (takes desk)) → (count : ℕ) (desk : Desk) →
    HasCode g desk.at → (turns count body desk).outcome ≢ Stuck →
    Comes g around place end desk (turns count body desk) (turn_cycles count body takes desk)
turns_come g around place end body takes comes zero desk has runs = absurd (runs refl)
turns_come g around place end body takes comes (suc more) desk has runs =
    turn_comes g around place end (takes desk) (turn_cycles more body takes (body desk).desk) desk (body desk)
    (turns more body) runs (comes desk has)
    (λ way goes. turns_come g around place end body takes comes more (body desk).desk (kept g _ _ _ has way) goes)
  where
    turn_comes : (g : Ground) (around : Around) (place end c d : ℕ) (desk : Desk) (one : Ran) (next : Desk → Ran) →
        (next_turn one.outcome one next).outcome ≢ Stuck →
        (one.outcome ≢ Stuck → Comes g (in_loop place around) place end desk one c) →
        (Leads (In (writes_at g.layout)) one.cost (spot (g.start + place) desk) (spot (g.start + place) one.desk) →
        (next one.desk).outcome ≢ Stuck → Comes g around place end one.desk (next one.desk) d) →
        Comes g around place end desk (next_turn one.outcome one next) (c + if_again one.outcome d)
    turn_comes g around place end c d desk one next runs first rest = by_outcome one.outcome refl runs
      where
        by_outcome : (o : Outcome) → one.outcome ≡ o → (next_turn o one next).outcome ≢ Stuck →
            Comes g around place end desk (next_turn o one next) (c + if_again o d)
        by_outcome Again is goes =
            let way = first (λ stuck. (let no : Again ≡ Stuck = sym is ∙ stuck in cc)) in
            let here : Lasts (In (writes_at g.layout)) one.cost c (spot (g.start + place) desk)
            (spot (g.start + place) one.desk) =
            subst (λ o. Lasts (In (writes_at g.layout)) one.cost c (spot (g.start + place) desk)
            (spot (g.start + target (in_loop place around) end o) one.desk)) is way.lasts in
            record { lasts = lasts_on here (rest here.leads goes).lasts }
        by_outcome Done is goes =
            let way = first goes in
            record {
              lasts =
                  lasts_as (no_more c)
                  (lasts_to (ap (λ o. spot (g.start + target (in_loop place around) end o) one.desk) is
                  ∙ sym (ap (λ o. spot (g.start + target around end o) one.desk) is)) way.lasts);
            }
        by_outcome (Left name) is goes =
            let way = first goes in
            record {
              lasts =
                  lasts_as (no_more c)
                  (lasts_to (ap (λ o. spot (g.start + target (in_loop place around) end o) one.desk) is
                  ∙ sym (ap (λ o. spot (g.start + target around end o) one.desk) is)) way.lasts);
            }
        by_outcome Stuck is goes = absurd (goes is)

-- what is under a condition
when_comes : (g : Ground) (around : Around) (reach : Reach) (place bytes c : ℕ) (ls : List Line) (desk : Desk) (r : Ran)
    (z w : Bool) → w ≡ z → IsAround g around reach place (place + (if z then bytes else 0)) →
    g.start + (place + (if z then bytes else 0)) ≤ g.high →
    LinesAt g.layout.address g.code (g.start + place) (if z then ls else []) →
    (if w then r else ended Done desk 0).outcome ≢ Stuck →
    (IsAround g around reach place (place + bytes) → g.start + (place + bytes) ≤ g.high →
    LinesAt g.layout.address g.code (g.start + place) ls → r.outcome ≢ Stuck →
    Comes g around place (place + bytes) desk r c) →
    Comes g around place (place + (if z then bytes else 0)) desk (if w then r else ended Done desk 0)
    (if w then c else 0)
when_comes g around reach place bytes c ls desk r true true e is high s runs body = body is high s runs
when_comes g around reach place bytes c ls desk r false false e is high s runs body =
    record { lasts = lasts_to (ap (λ n. spot (g.start + n) desk) (no_more place)) (lasts_none _) }
when_comes g around reach place bytes c ls desk r true false e is high s runs body = absurd (cc)
when_comes g around reach place bytes c ls desk r false true e is high s runs body = absurd (cc)

choose_comes : (g : Ground) (around : Around) (reach : Reach) (place a b c d : ℕ) (ls ks : List Line) (desk : Desk)
    (r q : Ran)
    (z w : Bool) → w ≡ z → IsAround g around reach place (place + (if z then a else b)) →
    g.start + (place + (if z then a else b)) ≤ g.high →
    LinesAt g.layout.address g.code (g.start + place) (if z then ls else ks) → (if w then r else q).outcome ≢ Stuck →
    (IsAround g around reach place (place + a) → g.start + (place + a) ≤ g.high →
    LinesAt g.layout.address g.code (g.start + place) ls → r.outcome ≢ Stuck →
    Comes g around place (place + a) desk r c) →
    (IsAround g around reach place (place + b) → g.start + (place + b) ≤ g.high →
    LinesAt g.layout.address g.code (g.start + place) ks → q.outcome ≢ Stuck →
    Comes g around place (place + b) desk q d) →
    Comes g around place (place + (if z then a else b)) desk (if w then r else q) (if w then c else d)
choose_comes g around reach place a b c d ls ks desk r q true true e is high s runs this other = this is high s runs
choose_comes g around reach place a b c d ls ks desk r q false false e is high s runs this other = other is high s runs
choose_comes g around reach place a b c d ls ks desk r q true false e is high s runs this other = absurd (cc)
choose_comes g around reach place a b c d ls ks desk r q false true e is high s runs this other = absurd (cc)

-- a leave or a next turn under a test
if_comes : (g : Ground) (around : Around) (place c : ℕ) (desk : Desk) (outcome : Outcome) (z : Bool) →
    Lasts (In (writes_at g.layout)) 1 c (spot (g.start + place) desk)
    (spot (g.start + (if z then target around (place + 2) outcome else place + 2)) desk) →
    Comes g around place (place + 2) desk (if z then ended outcome desk 1 else ended Done desk 1) c
if_comes g around place c desk outcome true way = record { lasts = way }
if_comes g around place c desk outcome false way = record { lasts = way }

there : (option : Option ℕ) → is_some option ≡ true → (far : ℕ) × (option ≡ Some far)
there (Some far) e = (far, refl)
there None e = absurd (cc)

-- the scope itself ends in the code, as those around it do
ends_inside : (g : Ground) (around : Around) (reach : Reach) (name end : ℕ) → g.start + end ≤ g.high →
    ((other far : ℕ) → reach.ends other ≡ Some far → g.start + around.ends other ≤ g.high) → (other far : ℕ)
    (z : Bool) → nat_eq other name ≡ z → (if z then Some 0 else reach.ends other) ≡ Some far →
    g.start + (if z then end else around.ends other) ≤ g.high
ends_inside g around reach name end high inside other far true e some = high
ends_inside g around reach name end high inside other far false e some = inside other far some

-- ---- trees

abbrev Stood : Ground → Around → ℕ → Tree → Type 0
Stood g around place tree = LinesAt g.layout.address g.code (g.start + place) (lines around place tree)

pub tree_comes : (g : Ground) (around : Around) (reach : Reach) (tree : Tree) (place : ℕ) (desk : Desk) →
    has_lines reach tree ≡ true → IsAround g around reach place (place + size around.holds tree) →
    g.low ≤ g.start + place → g.start + (place + size around.holds tree) ≤ g.high → HasCode g desk.at →
    Stood g around place tree → (ran each_one g.layout tree desk).outcome ≢ Stuck →
    Comes g around place (place + size around.holds tree) desk (ran each_one g.layout tree desk)
    (cycles g.layout around place tree desk)
tree_comes g around reach (DoTree mnemonic) place desk has is low high code s runs =
    let ends = g.ends in
    let away = g.away in
    let one = alone_one mnemonic in
    let here =
    stands_here g desk.at (g.start + place) 0 mnemonic (alone_mode mnemonic) code low (omega (arith, one)) s.0 in
    step_comes g around place 1 (cycles_of mnemonic (alone_mode mnemonic)) desk (done g.layout mnemonic desk) runs
    (λ after e.
    lasts_wider (own_writes g.layout)
    (alone_lasts desk after (g.start + place) (g.start + place + 1) mnemonic has here
    (alone_does g.layout desk after (g.start + place) mnemonic has here (omega arith) (omega arith) e)))
tree_comes g around reach (WithTree mnemonic operand) place desk has is low high code s runs =
    let ends = g.ends in
    let away = g.away in
    let bytes = length_of (mode_of operand) in
    let parts = and_parts (is_spelled mnemonic (mode_of operand)) (is_operand operand) has in
    let here =
    subst (λ p. Stands desk.at (g.start + place) mnemonic (mode_of operand)
    (number_of g.layout.address (g.start + place) (mode_of operand) (argument_of p operand))) is.pointer
    (stands_here g desk.at (g.start + place) _ mnemonic (mode_of operand) code low (omega arith) s.0) in
    step_comes g around place bytes (with_cycles g.layout mnemonic operand desk) desk
    (done_with g.layout mnemonic operand desk) runs
    (λ after e.
    lasts_wider (change_writes g.layout operand)
    (with_lasts g.layout desk after (g.start + place) (g.start + place + bytes) mnemonic operand g.laid parts.0 here
    (with_does g.layout desk after (g.start + place) mnemonic operand g.laid parts.0 here (omega arith) (omega arith)
    e)))
tree_comes g around reach NoneTree place desk has is low high code s runs =
    record { lasts = lasts_to (ap (λ n. spot (g.start + n) desk) (no_more place)) (lasts_none _) }
tree_comes g around reach (ThenTree first rest) place desk has is low high code s runs =
    let parts =
    and_parts (has_lines (before_bytes (most rest) reach) first)
    (has_lines (behind_bytes (most first) reach) rest) has in
    let m = size around.holds first in
    let n = size around.holds rest in
    let ms = sizes_are_bounded around.holds first in
    let ns = sizes_are_bounded around.holds rest in
    let mid = place + m in
    let end : mid + n ≡ place + (m + n) = omega arith in
    let first_lines = lines around place first in
    let rest_lines = lines around mid rest in
    let sized = lines_size around place first in
    let s1 = fronts_stand g.layout.address g.code (g.start + place) first_lines rest_lines s in
    let there_is : g.start + place + size_of first_lines ≡ g.start + mid = omega (arith, sized) in
    let s2 =
    subst (λ p. LinesAt g.layout.address g.code p rest_lines) there_is
    (backs_stand g.layout.address g.code (g.start + place) first_lines rest_lines s) in
    let is1 : IsAround g around (before_bytes (most rest) reach) place mid = record {
      label = is.label;
      pointer = is.pointer;
      holds = is.holds;
      near = near_first (most rest) (omega arith) (omega (arith, ns)) is.near;
      inside = λ name far e.
          let some = some_of (λ f. most rest + f) (reach.ends name) far e in is.inside name some.0 some.1;
    } in
    let is2 : IsAround g around (behind_bytes (most first) reach) mid (mid + n) = record {
      label = is.label;
      pointer = is.pointer;
      holds = is.holds;
      near =
          subst (λ q. IsNear around (behind_bytes (most first) reach) mid q) (sym end)
          (near_rest (most first) (omega arith) (omega (arith, ms)) is.near);
      inside = is.inside;
    } in
    subst (λ q. Comes g around place q desk (ran each_one g.layout (ThenTree first rest) desk)
    (cycles g.layout around place (ThenTree first rest) desk)) end
    (then_comes g around place mid (mid + n) (cycles g.layout around place first desk)
    (cycles g.layout around mid rest (ran each_one g.layout first desk).desk) desk (ran each_one g.layout first desk)
    (ran each_one g.layout rest) runs
    (λ goes.
    tree_comes g around (before_bytes (most rest) reach) first place desk parts.0 is1 low (omega (arith, high)) code s1
    goes)
    (λ done way goes.
    tree_comes g around (behind_bytes (most first) reach) rest mid (ran each_one g.layout first desk).desk parts.1 is2
    (omega (arith, low)) (omega (arith, high)) (kept g _ _ _ code way) s2 goes))
tree_comes g around reach (ScopeTree name body) place desk has is low high code s runs =
    let end = place + size around.holds body in
    let inner : IsAround g (in_scope name end around) (reach_in_scope name reach) place end = record {
      label = is.label;
      pointer = is.pointer;
      holds = is.holds;
      near = near_scope name is.near;
      inside = λ other far e. ends_inside g around reach name end high is.inside other far (nat_eq other name) refl e;
    } in
    scope_comes g around place end name (cycles g.layout (in_scope name end around) place body desk) desk
    (ran each_one g.layout body desk) runs
    (λ goes.
    tree_comes g (in_scope name end around) (reach_in_scope name reach) body place desk has inner low high code s goes)
tree_comes g around reach (LeaveTree name) place desk has is low high code s runs =
    let far = there (reach.ends name) has in
    let inside = is.inside name far.0 far.1 in
    let ends = g.ends in
    record {
      lasts =
          jumps g desk.at desk place around.label (around.ends name) code low high is.label (omega (arith, inside)) s.0;
    }
tree_comes g around reach (LeaveIfTree name test) place desk has is low high code s runs =
    let far = within 127 (reach.ends name) has in
    let at = is.near.ends name far.0 far.1 in
    let inside = is.inside name far.0 far.1 in
    let ends = g.ends in
    let near = far.2 in
    let goal =
    forwards_goes g.start place (around.ends name) at.0 (omega (arith, at.1, near)) (omega (arith, inside)) in
    subst (λ n. Comes g around place (place + 2) desk (ran each_one g.layout (LeaveIfTree name test) desk)
    (test_cycles (is_met test desk) (n + (place + 2)) (n + around.ends name))) (sym is.label)
    (if_comes g around place _ desk (Left name) (is_met test desk)
    (branches g desk place (around.ends name) (forwards place (around.ends name)) test code low high goal s.0))
tree_comes g around reach (LoopTree count body) place desk has is low high code s runs =
    let end = place + size around.holds body in
    let inner : IsAround g (in_loop place around) (reach_in_loop reach) place end = record {
      label = is.label;
      pointer = is.pointer;
      holds = is.holds;
      near = near_loop is.near;
      inside = is.inside;
    } in
    turns_come g around place end (ran each_one g.layout body) (cycles g.layout (in_loop place around) place body)
    (λ more kept goes.
    tree_comes g (in_loop place around) (reach_in_loop reach) body place more has inner low high kept s goes)
    (turns_in g.layout.open_turns count) desk code runs
tree_comes g around reach AgainTree place desk has is low high code s runs =
    let far = there reach.head has in
    let at = is.near.head far.0 far.1 in
    let ends = g.ends in
    record {
      lasts =
          jumps g desk.at desk place around.label around.head code low high is.label (omega (arith, at.0)) s.0;
    }
tree_comes g around reach (AgainIfTree test) place desk has is low high code s runs =
    let far = within 126 reach.head has in
    let at = is.near.head far.0 far.1 in
    let ends = g.ends in
    let near = far.2 in
    let goal = backwards_goes g.start place around.head at.0 (omega (arith, at.1, near)) (omega (arith, high)) in
    subst (λ n. Comes g around place (place + 2) desk (ran each_one g.layout (AgainIfTree test) desk)
    (test_cycles (is_met test desk) (n + (place + 2)) (n + around.head))) (sym is.label)
    (if_comes g around place _ desk Again (is_met test desk)
    (branches g desk place around.head (backwards place around.head) test code low high goal s.0))
tree_comes g around reach (WhenTree condition body) place desk has is low high code s runs =
    when_comes g around reach place (size around.holds body) (cycles g.layout around place body desk)
    (lines around place body) desk (ran each_one g.layout body desk)
    (around.holds condition) (g.layout.holds condition) (sym (ap (λ f. f condition) is.holds)) is high s runs
    (λ i h l goes. tree_comes g around reach body place desk has i low h code l goes)
tree_comes g around reach (ChooseTree condition this other) place desk has is low high code s runs =
    let parts = and_parts (has_lines reach this) (has_lines reach other) has in
    choose_comes g around reach place (size around.holds this) (size around.holds other)
    (cycles g.layout around place this desk) (cycles g.layout around place other desk) (lines around place this)
    (lines around place other) desk (ran each_one g.layout this desk) (ran each_one g.layout other desk)
    (around.holds condition) (g.layout.holds condition) (sym (ap (λ f. f condition) is.holds)) is high s runs
    (λ i h l goes. tree_comes g around reach this place desk parts.0 i low h code l goes)
    (λ i h l goes. tree_comes g around reach other place desk parts.1 i low h code l goes)
tree_comes g around reach NeverTree place desk has is low high code s runs = absurd (runs refl)
