-- A tree that reads what is known alone does the same from two desks that have the same in it.
use Rattle.std.proofs.Common.{◌≡◌, ◌≢◌, ℕ, zero, suc, ◌+◌, Bool, true, false, nat_eq}
use Rattle.std.proofs.Common.{Option, Some, None, refl, sym, ap, ◌∙◌, subst, if◌then◌else◌}
use Rattle.std.proofs.lemmas.Bool.{and_parts, false≢true, eq-eqb, eqb-true}
use Rattle.scopes.specs.Desk.{Desk, Layout}
use Rattle.scopes.specs.Steps.{done, done_with}
use Rattle.scopes.specs.Trees.{DoTree, WithTree, NoneTree, ThenTree, ScopeTree, LeaveTree, LeaveIfTree, LoopTree}
use Rattle.scopes.specs.Trees.{AgainTree, AgainIfTree, WhenTree, ChooseTree, NeverTree}
use Rattle.scopes.specs.Meaning.{Outcome, Done, Left, Again, Stuck, Ran, each_one, is_met, ended, stepped, paid, behind, turns_in}
use Rattle.scopes.specs.Meaning.{and_then, out_of_scope, scoped, next_turn, turns, ran}
use Rattle.scope_lines.specs.Instructions.{mode_of, is_spelled}
use Rattle.scope_lines.specs.Reach.{nothing_around, before_bytes, behind_bytes, is_operand, has_lines, in_scope, in_loop}
use Rattle.scope_lines.specs.Sizes.{most}
use Rattle.scope_lines.specs.Known.{Known, Ways, nothing, everything, both, is_within, reads}
use Rattle.scope_lines.specs.Known.{alone_reads, with_reads, test_reads, known}
use Rattle.scope_lines.specs.Known.{goes_on, leaves, turns_again, one_of, joined, closed, looped}
use Rattle.scope_lines.specs.Isolation.{Alike, known_at, RanAlike, TreesAreIsolated}
use Rattle.scope_lines.specs.Isolation.{LoweredBlocksAreIsolated}
use Rattle.code_runs.specs.Runs.{State}
use Rattle.scope_lines.specs.Lowered.{Site, IsWellPlaced, layout_at, desk_of, meant}
use Rattle.scope_lines.proofs.Knowing.{IsWithin, within, within_itself, both_left, both_right}
use Rattle.scope_lines.proofs.Knowing.{fewer, test_same, Fewer, fewer_ways}
use Rattle.scope_lines.proofs.Growing.{turns_grow}
use Rattle.scope_lines.proofs.Whole.{done_runs}
use Rattle.scope_lines.proofs.SameSteps.{with_same, alone_same}

-- ---- kinds

-- an instruction comes to its end
steps_same : {layout : Layout} {known : Known} (one two : Desk) (result other : Option Desk) →
    (stepped result one 1).outcome ≢ Stuck → (stepped other two 1).outcome ≢ Stuck →
    ((after after' : Desk) → result ≡ Some after → other ≡ Some after' → Alike layout known after after') →
    (read : Bool) → RanAlike layout (goes_on read known) (stepped result one 1) (stepped other two 1)
steps_same one two None other goes goes' same read = absurd (goes refl)
steps_same one two (Some after) None goes goes' same read = absurd (goes' refl)
steps_same one two (Some after) (Some after') goes goes' same read =
    record { outcome = refl; cost = refl; desk = same after after' refl refl }

-- two runs that end alike
ends_same : {layout : Layout} {known : Known} {one two : Desk} (ways : Ways) (outcome : Outcome) (cost : ℕ) →
    IsWithin (known_at ways outcome) known → Alike layout known one two →
    RanAlike layout ways (ended outcome one cost) (ended outcome two cost)
ends_same ways outcome cost w s = record { outcome = refl; cost = refl; desk = fewer w s }

-- under a test
tests_same : {layout : Layout} {known : Known} {one two : Desk} (ways : Ways) (outcome : Outcome) (z w : Bool) → z ≡ w →
    IsWithin (known_at ways outcome) known → IsWithin ways.done known → Alike layout known one two →
    RanAlike layout ways (if z then ended outcome one 1 else ended Done one 1)
    (if w then ended outcome two 1 else ended Done two 1)
tests_same ways outcome true true e met unmet s = ends_same ways outcome 1 met s
tests_same ways outcome false false e met unmet s = ends_same ways Done 1 unmet s
tests_same ways outcome true false e met unmet s = absurd (cc)
tests_same ways outcome false true e met unmet s = absurd (cc)

-- what was paid before
pays_same : {layout : Layout} {ways : Ways} {one two : Ran} (cost cost' : ℕ) → cost ≡ cost' →
    RanAlike layout ways one two → RanAlike layout ways (paid cost one) (paid cost' two)
pays_same {one = one} cost cost' e s = record {
  outcome = s.outcome;
  cost = ap (λ c. c + one.cost) e ∙ ap (λ c. cost' + c) s.cost;
  desk = s.desk;
}

-- one behind the other
joined_left : (one two : Ways) (outcome : Outcome) → outcome ≢ Done →
    IsWithin (known_at (joined one two) outcome) (known_at one outcome)
joined_left one two Done e = absurd (e refl)
joined_left one two (Left name) e = both_left (one.left name) (two.left name)
joined_left one two Again e = both_left one.again two.again
joined_left one two Stuck e = within_itself nothing

joined_right : (one two : Ways) → Fewer (joined one two) two
joined_right one two = record { at = at }
  where
    at : (outcome : Outcome) → IsWithin (known_at (joined one two) outcome) (known_at two outcome)
    at Done = within_itself two.done
    at (Left name) = both_right (one.left name) (two.left name)
    at Again = both_right one.again two.again
    at Stuck = within_itself nothing

pub then_goes : (one : Ran) (next : Desk → Ran) → (and_then one next).outcome ≢ Stuck → one.outcome ≢ Stuck
then_goes one next goes stuck =
    goes (subst (λ o. (behind o one next).outcome ≡ Stuck) (sym stuck) stuck)

then_same : {layout : Layout} (ways more : Ways) (one two : Ran) (next : Desk → Ran) →
    (and_then one next).outcome ≢ Stuck → (and_then two next).outcome ≢ Stuck →
    (one.outcome ≢ Stuck → two.outcome ≢ Stuck → RanAlike layout ways one two) →
    (Alike layout ways.done one.desk two.desk → (next one.desk).outcome ≢ Stuck → (next two.desk).outcome ≢ Stuck →
    RanAlike layout more (next one.desk) (next two.desk)) →
    RanAlike layout (joined ways more) (and_then one next) (and_then two next)
then_same {layout = layout} ways more one two next goes goes' first rest =
    subst (λ o. RanAlike layout (joined ways more) (and_then one next) (behind o two next)) same.outcome
    (by_outcome one.outcome refl goes (subst (λ o. (behind o two next).outcome ≢ Stuck) (sym same.outcome) goes'))
  where
    same : RanAlike layout ways one two
    same = first (then_goes one next goes) (then_goes two next goes')

    as_first : one.outcome ≢ Done → RanAlike layout (joined ways more) one two
    as_first other = record {
      outcome = same.outcome;
      cost = same.cost;
      desk = fewer (joined_left ways more one.outcome other) same.desk;
    }

    by_outcome : (o : Outcome) → one.outcome ≡ o → (behind o one next).outcome ≢ Stuck →
        (behind o two next).outcome ≢ Stuck → RanAlike layout (joined ways more) (behind o one next) (behind o two next)
    by_outcome Done is goes goes' =
        let here : Alike layout ways.done one.desk two.desk =
        subst (λ o. Alike layout (known_at ways o) one.desk two.desk) is same.desk in
        pays_same one.cost two.cost same.cost (fewer_ways (joined_right ways more) (rest here goes goes'))
    by_outcome (Left name) is goes goes' = as_first (λ e. (let no : Left name ≡ Done = sym is ∙ e in cc))
    by_outcome Again is goes goes' = as_first (λ e. (let no : Again ≡ Done = sym is ∙ e in cc))
    by_outcome Stuck is goes goes' = absurd (goes is)

-- who leaves a scope by its name comes to its end
scope_same : {layout : Layout} (ways : Ways) (name : ℕ) (one two : Ran) → (scoped name one).outcome ≢ Stuck →
    (scoped name two).outcome ≢ Stuck →
    (one.outcome ≢ Stuck → two.outcome ≢ Stuck → RanAlike layout ways one two) →
    RanAlike layout (closed name ways) (scoped name one) (scoped name two)
scope_same {layout = layout} ways name one two goes goes' body = record {
  outcome = ap (out_of_scope name) same.outcome;
  cost = same.cost;
  desk = fewer (at one.outcome) same.desk;
}
  where
    same : RanAlike layout ways one two
    same = body (λ stuck. goes (ap (out_of_scope name) stuck)) (λ stuck. goes' (ap (out_of_scope name) stuck))

    named : (other : ℕ) (z : Bool) → nat_eq other name ≡ z →
        IsWithin (known_at (closed name ways) (if z then Done else Left other)) (ways.left other)
    named other true e =
        subst (λ n. IsWithin (both ways.done (ways.left name)) (ways.left n)) (sym (eqb-true other name e))
        (both_right ways.done (ways.left name))
    named other false e =
        subst (λ z. IsWithin (if z then everything else ways.left other) (ways.left other)) (sym e)
        (within_itself (ways.left other))

    at : (o : Outcome) → IsWithin (known_at (closed name ways) (out_of_scope name o)) (known_at ways o)
    at Done = both_left ways.done (ways.left name)
    at (Left other) = named other (nat_eq other name) refl
    at Again = within_itself ways.again
    at Stuck = within_itself nothing

-- each turn of a loop begins alike
pub turn_goes : (one : Ran) (next : Desk → Ran) → (next_turn one.outcome one next).outcome ≢ Stuck → one.outcome ≢ Stuck
turn_goes one next goes stuck =
    goes (subst (λ o. (next_turn o one next).outcome ≡ Stuck) (sym stuck) stuck)

looped_same : (ways : Ways) (outcome : Outcome) → outcome ≢ Again →
    IsWithin (known_at (looped ways) outcome) (known_at ways outcome)
looped_same ways Done e = within_itself ways.done
looped_same ways (Left name) e = within_itself (ways.left name)
looped_same ways Again e = absurd (e refl)
looped_same ways Stuck e = within_itself nothing

turns_same : {layout : Layout} (known : Known) (ways : Ways) (body : Desk → Ran) → IsWithin known ways.again →
    ((one two : Desk) → Alike layout known one two → (body one).outcome ≢ Stuck → (body two).outcome ≢ Stuck →
    RanAlike layout ways (body one) (body two)) → (count : ℕ) (one two : Desk) → Alike layout known one two →
    (turns count body one).outcome ≢ Stuck → (turns count body two).outcome ≢ Stuck →
    RanAlike layout (looped ways) (turns count body one) (turns count body two)
turns_same known ways body w each zero one two s goes goes' = absurd (goes refl)
turns_same {layout = layout} known ways body w each (suc more) one two s goes goes' =
    turn (body one) (body two) goes goes'
    (each one two s (turn_goes (body one) (turns more body) goes) (turn_goes (body two) (turns more body) goes'))
    (turns_same known ways body w each more (body one).desk (body two).desk)
  where
    turn : (r q : Ran) → (next_turn r.outcome r (turns more body)).outcome ≢ Stuck →
        (next_turn q.outcome q (turns more body)).outcome ≢ Stuck → RanAlike layout ways r q →
        (Alike layout known r.desk q.desk → (turns more body r.desk).outcome ≢ Stuck →
        (turns more body q.desk).outcome ≢ Stuck →
        RanAlike layout (looped ways) (turns more body r.desk) (turns more body q.desk)) →
        RanAlike layout (looped ways) (next_turn r.outcome r (turns more body))
        (next_turn q.outcome q (turns more body))
    turn r q goes goes' same rest =
        subst (λ o. RanAlike layout (looped ways) (next_turn r.outcome r (turns more body))
        (next_turn o q (turns more body)))
        same.outcome
        (by_outcome r.outcome refl goes
        (subst (λ o. (next_turn o q (turns more body)).outcome ≢ Stuck) (sym same.outcome) goes'))
      where
        as_first : r.outcome ≢ Again → RanAlike layout (looped ways) r q
        as_first other = record {
          outcome = same.outcome;
          cost = same.cost;
          desk = fewer (looped_same ways r.outcome other) same.desk;
        }

        by_outcome : (o : Outcome) → r.outcome ≡ o → (next_turn o r (turns more body)).outcome ≢ Stuck →
            (next_turn o q (turns more body)).outcome ≢ Stuck →
            RanAlike layout (looped ways) (next_turn o r (turns more body)) (next_turn o q (turns more body))
        by_outcome Again is goes goes' =
            let here : Alike layout ways.again r.desk q.desk =
            subst (λ o. Alike layout (known_at ways o) r.desk q.desk) is same.desk in
            pays_same r.cost q.cost same.cost (rest (fewer w here) goes goes')
        by_outcome Done is goes goes' = as_first (λ e. (let no : Done ≡ Again = sym is ∙ e in cc))
        by_outcome (Left name) is goes goes' = as_first (λ e. (let no : Left name ≡ Again = sym is ∙ e in cc))
        by_outcome Stuck is goes goes' = absurd (goes is)

-- one of two trees
one_left : (one two : Ways) → Fewer (one_of one two) one
one_left one two = record { at = at }
  where
    at : (outcome : Outcome) → IsWithin (known_at (one_of one two) outcome) (known_at one outcome)
    at Done = both_left one.done two.done
    at (Left name) = both_left (one.left name) (two.left name)
    at Again = both_left one.again two.again
    at Stuck = within_itself nothing

one_right : (one two : Ways) → Fewer (one_of one two) two
one_right one two = record { at = at }
  where
    at : (outcome : Outcome) → IsWithin (known_at (one_of one two) outcome) (known_at two outcome)
    at Done = both_right one.done two.done
    at (Left name) = both_right (one.left name) (two.left name)
    at Again = both_right one.again two.again
    at Stuck = within_itself nothing

choose_same : {layout : Layout} (ways more : Ways) (one two one' two' : Ran) (z : Bool) →
    (if z then one else one').outcome ≢ Stuck → (if z then two else two').outcome ≢ Stuck →
    (one.outcome ≢ Stuck → two.outcome ≢ Stuck → RanAlike layout ways one two) →
    (one'.outcome ≢ Stuck → two'.outcome ≢ Stuck → RanAlike layout more one' two') →
    RanAlike layout (one_of ways more) (if z then one else one') (if z then two else two')
choose_same ways more one two one' two' true goes goes' this other =
    fewer_ways (one_left ways more) (this goes goes')
choose_same ways more one two one' two' false goes goes' this other =
    fewer_ways (one_right ways more) (other goes goes')

-- ---- trees

-- what is known at the name itself
left_name : (name : ℕ) (known : Known) → IsWithin (if nat_eq name name then known else everything) known
left_name name known =
    subst (λ z. IsWithin (if z then known else everything) known) (sym (eq-eqb name name refl)) (within_itself known)

pub trees_are_isolated : TreesAreIsolated
trees_are_isolated layout reach (DoTree mnemonic) before one two has reads s goes goes' =
    steps_same one two (done layout mnemonic one) (done layout mnemonic two) goes goes'
    (λ after after' e f. alone_same layout mnemonic before one two after after' has reads s e f)
    (is_within (alone_reads mnemonic) before)
trees_are_isolated layout reach (WithTree mnemonic operand) before one two has reads s goes goes' =
    steps_same one two (done_with layout mnemonic operand one) (done_with layout mnemonic operand two) goes goes'
    (λ after after' e f.
    with_same layout mnemonic operand before one two after after'
    (and_parts (is_spelled mnemonic (mode_of operand)) (is_operand operand) has).0 reads s e f)
    (is_within (with_reads mnemonic operand) before)
trees_are_isolated layout reach NoneTree before one two has reads s goes goes' =
    ends_same (goes_on true before) Done 0 (within_itself before) s
trees_are_isolated layout reach (ThenTree first rest) before one two has reads s goes goes' =
    let parts =
    and_parts (has_lines (before_bytes (most rest) reach) first)
    (has_lines (behind_bytes (most first) reach) rest) has in
    let each = and_parts (known first before).reads_known (known rest (known first before).done).reads_known reads in
    then_same (known first before) (known rest (known first before).done) (ran each_one layout first one)
    (ran each_one layout first two) (ran each_one layout rest) goes goes'
    (λ g g'. trees_are_isolated layout (before_bytes (most rest) reach) first before one two parts.0 each.0 s g g')
    (λ now g g'.
    trees_are_isolated layout (behind_bytes (most first) reach) rest (known first before).done
    (ran each_one layout first one).desk (ran each_one layout first two).desk parts.1 each.1 now g g')
trees_are_isolated layout reach (ScopeTree name body) before one two has reads s goes goes' =
    scope_same (known body before) name (ran each_one layout body one) (ran each_one layout body two) goes goes'
    (λ g g'. trees_are_isolated layout (in_scope name reach) body before one two has reads s g g')
trees_are_isolated layout reach (LeaveTree name) before one two has reads s goes goes' =
    ends_same (leaves true name before everything) (Left name) 1 (left_name name before) s
trees_are_isolated layout reach (LeaveIfTree name test) before one two has reads s goes goes' =
    tests_same (leaves (is_within (test_reads test) before) name before before) (Left name) (is_met test one)
    (is_met test two) (test_same test (within (test_reads test) before reads) s) (left_name name before)
    (within_itself before) s
trees_are_isolated layout reach (LoopTree count body) before one two has reads s goes goes' =
    turns_same before (known body before) (ran each_one layout body) (turns_grow body before)
    (λ d e t g g'. trees_are_isolated layout
    (in_loop reach) body before d e has reads t g g') (turns_in layout.open_turns count) one two s goes goes'
trees_are_isolated layout reach AgainTree before one two has reads s goes goes' =
    ends_same (turns_again true before everything) Again 1 (within_itself before) s
trees_are_isolated layout reach (AgainIfTree test) before one two has reads s goes goes' =
    tests_same (turns_again (is_within (test_reads test) before) before before) Again (is_met test one)
    (is_met test two) (test_same test (within (test_reads test) before reads) s) (within_itself before)
    (within_itself before) s
trees_are_isolated layout reach (WhenTree condition body) before one two has reads s goes goes' =
    choose_same (known body before) (goes_on true before) (ran each_one layout body one) (ran each_one layout body two)
    (ended Done one 0) (ended Done two 0) (layout.holds condition) goes goes'
    (λ g g'.
    trees_are_isolated layout reach body before one two has
    (and_parts (known body before).reads_known true reads).0 s g g')
    (λ g g'. ends_same (goes_on true before) Done 0 (within_itself before) s)
trees_are_isolated layout reach (ChooseTree condition this other) before one two has reads s goes goes' =
    let parts = and_parts (has_lines reach this) (has_lines reach other) has in
    let each = and_parts (known this before).reads_known (known other before).reads_known reads in
    choose_same (known this before) (known other before) (ran each_one layout this one) (ran each_one layout this two)
    (ran each_one layout other one) (ran each_one layout other two) (layout.holds condition) goes goes'
    (λ g g'. trees_are_isolated layout reach this before one two parts.0 each.0 s g g')
    (λ g g'. trees_are_isolated layout reach other before one two parts.1 each.1 s g g')
trees_are_isolated layout reach NeverTree before one two has reads s goes goes' = absurd (goes refl)

-- ---- sites

-- desks of which nothing is known but the bytes that may be read
pub only_bytes : {layout : Layout} {one two : Desk} →
    ((place : ℕ) → layout.may_read place ≡ true → one.at place ≡ two.at place) → Alike layout nothing one two
only_bytes agree = record {
  registers = record {
    a = λ e. absurd (false≢true e);
    x = λ e. absurd (false≢true e);
    y = λ e. absurd (false≢true e);
    carry = λ e. absurd (false≢true e);
    zero = λ e. absurd (false≢true e);
    minus = λ e. absurd (false≢true e);
  };
  low = λ e. absurd (false≢true e);
  high = λ e. absurd (false≢true e);
  bytes = agree;
}

-- from any set that is known before
pub sites_are_isolated : (site : Site) (before : Known) (one two : State) → IsWellPlaced site →
    (known site.tree before).reads_known ≡ true → Alike (layout_at site) before (desk_of one) (desk_of two) →
    (meant site one).outcome ≡ Done → (meant site two).outcome ≡ Done →
    RanAlike (layout_at site) (known site.tree before) (meant site one) (meant site two)
sites_are_isolated site before one two placed reads same done done' =
    trees_are_isolated (layout_at site) nothing_around site.tree before (desk_of one) (desk_of two) placed.lines reads
    same (done_runs (meant site one).outcome done) (done_runs (meant site two).outcome done')

pub lowered_blocks_are_isolated : LoweredBlocksAreIsolated
lowered_blocks_are_isolated site one two placed reads agree done done' =
    let same = sites_are_isolated site nothing one two placed reads (only_bytes agree.at) done done' in
    record { steps = same.cost; bytes = same.desk.bytes }
