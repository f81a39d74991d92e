-- A tree that reads what is known alone takes as many clock cycles from two desks that have the same in it.
use Rattle.std.proofs.Common.{◌≡◌, ◌≢◌, ℕ, zero, suc, ◌+◌, ◌*◌, ◌%◌, Bool, true, false}
use Rattle.std.proofs.Common.{refl, sym, ap, ◌∙◌, subst, if◌then◌else◌}
use Rattle.std.proofs.lemmas.Bool.{and_parts}
use Rattle.cpu6502.specs.declared.mnemonic.Mnemonic.{Mnemonic}
use Rattle.cpu6502.specs.Manual.{cycles_of}
use Rattle.code_runs.specs.Cycles.{unindexed}
use Rattle.scopes.specs.declared.line.Operand.{Operand}
use Rattle.scopes.specs.declared.line.Operand.TheVariants.{Number, Var, Own, Entry, Pointed, Pointer, Register}
use Rattle.scopes.specs.declared.line.Operand.TheVariants.{OwnRegister, Timer}
use Rattle.scopes.specs.Desk.{Desk, Layout, operand_place}
use Rattle.scopes.specs.Steps.{is_store}
use Rattle.scopes.specs.Trees.{DoTree, WithTree, NoneTree, ThenTree, ScopeTree, LeaveTree, LeaveIfTree, LoopTree}
use Rattle.scopes.specs.Trees.{AgainTree, AgainIfTree, WhenTree, ChooseTree, NeverTree}
use Rattle.scopes.specs.Meaning.{Outcome, Done, Left, Again, Stuck, Ran, each_one, ended, behind, and_then, turns_in}
use Rattle.scopes.specs.Meaning.{out_of_scope, next_turn, turns, ran}
use Rattle.scope_lines.specs.Instructions.{mode_of}
use Rattle.scope_lines.specs.Sizes.{size, most}
use Rattle.scope_lines.specs.Lines.{in_scope, in_loop}
use Rattle.scope_lines.specs.Reach.{before_bytes, behind_bytes, has_lines}
use Rattle.scope_lines.specs.Reach.{in_scope as reach_in_scope, in_loop as reach_in_loop}
use Rattle.scope_lines.specs.Known.{Known, Ways, nothing, either, reads, finds, half_of, with_reads, test_reads, known}
use Rattle.scope_lines.specs.Isolation.{Alike, known_at, RanAlike}
use Rattle.scope_lines.specs.Cycles.{with_cycles, test_cycles, if_done, if_again, turn_cycles, address_in, cycles}
use Rattle.scope_lines.specs.Cycles.{CyclesAreIsolated}
use Rattle.scope_lines.proofs.Knowing.{IsWithin, within, either_left, within_more, fewer, test_same}
use Rattle.scope_lines.proofs.Growing.{turns_grow}
use Rattle.scope_lines.proofs.Timing.{index_same}
use Rattle.scope_lines.proofs.SameSteps.{place_same}
use Rattle.scope_lines.proofs.Isolating.{then_goes, turn_goes, trees_are_isolated}

-- ---- an instruction

-- the place without its index
bare_same : {layout : Layout} {before : Known} {one two : Desk} → (operand : Operand) →
    IsWithin (finds operand) before → Alike layout before one two →
    operand_place layout operand (record one { cpu = unindexed one.cpu })
    ≡ operand_place layout operand (record two { cpu = unindexed two.cpu })
bare_same (Number number) w s = refl
bare_same (Var label) w s = refl
bare_same (Own label) w s = refl
bare_same (Entry label) w s = refl
bare_same {layout = layout} {one = one} {two = two} Pointed w s =
    ap (λ n. (n + 256 * one.at (layout.pointer + 1) + 0) % 65536) (s.low (w.low refl))
    ∙ ap (λ n. (two.at layout.pointer + 256 * n + 0) % 65536) (s.high (w.high refl))
bare_same (Pointer half) w s = refl
bare_same (Register register) w s = refl
bare_same (OwnRegister register) w s = refl
bare_same (Timer half) w s = refl

with_takes_same : {layout : Layout} {before : Known} {one two : Desk} (mnemonic : Mnemonic) (operand : Operand) →
    IsWithin (with_reads mnemonic operand) before → Alike layout before one two →
    with_cycles layout mnemonic operand one ≡ with_cycles layout mnemonic operand two
with_takes_same mnemonic operand w s =
    let halves = if is_store mnemonic then nothing else half_of operand in
    let found = within_more (either_left (finds operand) (either halves (reads mnemonic))) w in
    ap (λ n. cycles_of mnemonic (mode_of operand) + n)
    (index_same mnemonic (mode_of operand) _ _ _ _ (λ paged. bare_same operand found s)
    (λ paged. place_same operand found s))

-- ---- one behind the other, and turns

then_takes_same : {layout : Layout} {ways : Ways} (one two : Ran) (next : Desk → Ran) (takes : Desk → ℕ) (c d : ℕ) →
    (and_then one next).outcome ≢ Stuck → (and_then two next).outcome ≢ Stuck → RanAlike layout ways one two → c ≡ d →
    (Alike layout ways.done one.desk two.desk → (next one.desk).outcome ≢ Stuck → (next two.desk).outcome ≢ Stuck →
    takes one.desk ≡ takes two.desk) →
    c + if_done one.outcome (takes one.desk) ≡ d + if_done two.outcome (takes two.desk)
then_takes_same {layout = layout} {ways = ways} one two next takes c d goes goes' same e rest =
    ap (λ n. n + if_done one.outcome (takes one.desk)) e
    ∙ (ap (λ n. d + n)
    (by_outcome one.outcome refl goes (subst (λ o. (behind o two next).outcome ≢ Stuck) (sym same.outcome) goes'))
    ∙ ap (λ o. d + if_done o (takes two.desk)) same.outcome)
  where
    by_outcome : (o : Outcome) → one.outcome ≡ o → (behind o one next).outcome ≢ Stuck →
        (behind o two next).outcome ≢ Stuck → if_done o (takes one.desk) ≡ if_done o (takes two.desk)
    by_outcome Done is goes goes' =
        rest (subst (λ o. Alike layout (known_at ways o) one.desk two.desk) is same.desk) goes goes'
    by_outcome (Left name) is goes goes' = refl
    by_outcome Again is goes goes' = refl
    by_outcome Stuck is goes goes' = refl

turn_takes_same : {layout : Layout} {ways : Ways} (one two : Ran) (next : Desk → Ran) (takes : Desk → ℕ) (c d : ℕ) →
    (next_turn one.outcome one next).outcome ≢ Stuck → (next_turn two.outcome two next).outcome ≢ Stuck →
    RanAlike layout ways one two → c ≡ d →
    (Alike layout ways.again one.desk two.desk → (next one.desk).outcome ≢ Stuck → (next two.desk).outcome ≢ Stuck →
    takes one.desk ≡ takes two.desk) →
    c + if_again one.outcome (takes one.desk) ≡ d + if_again two.outcome (takes two.desk)
turn_takes_same {layout = layout} {ways = ways} one two next takes c d goes goes' same e rest =
    ap (λ n. n + if_again one.outcome (takes one.desk)) e
    ∙ (ap (λ n. d + n)
    (by_outcome one.outcome refl goes (subst (λ o. (next_turn o two next).outcome ≢ Stuck) (sym same.outcome) goes'))
    ∙ ap (λ o. d + if_again o (takes two.desk)) same.outcome)
  where
    by_outcome : (o : Outcome) → one.outcome ≡ o → (next_turn o one next).outcome ≢ Stuck →
        (next_turn o two next).outcome ≢ Stuck → if_again o (takes one.desk) ≡ if_again o (takes two.desk)
    by_outcome Again is goes goes' =
        rest (subst (λ o. Alike layout (known_at ways o) one.desk two.desk) is same.desk) goes goes'
    by_outcome Done is goes goes' = refl
    by_outcome (Left name) is goes goes' = refl
    by_outcome Stuck is goes goes' = refl

turns_take_same : {layout : Layout} (known : Known) (ways : Ways) (body : Desk → Ran) (takes : Desk → ℕ) →
    IsWithin known ways.again →
    ((one two : Desk) → Alike layout known one two → (body one).outcome ≢ Stuck → (body two).outcome ≢ Stuck →
    RanAlike layout ways (body one) (body two) × (takes one ≡ takes two)) → (count : ℕ) (one two : Desk) →
    Alike layout known one two → (turns count body one).outcome ≢ Stuck → (turns count body two).outcome ≢ Stuck →
    turn_cycles count body takes one ≡ turn_cycles count body takes two
turns_take_same known ways body takes w each zero one two s goes goes' = refl
turns_take_same {layout = layout} known ways body takes w each (suc more) one two s goes goes' =
    let both =
    each one two s (turn_goes (body one) (turns more body) goes) (turn_goes (body two) (turns more body) goes') in
    turn_takes_same {layout = layout} {ways = ways} (body one) (body two) (turns more body)
    (turn_cycles more body takes) (takes one) (takes two) goes goes' both.0 both.1
    (λ now g g'.
    turns_take_same known ways body takes w each more (body one).desk (body two).desk (fewer w now) g g')

sides_take_same : (z : Bool) (one two one' two' : Ran) {a b c d : ℕ} → (if z then one else one').outcome ≢ Stuck →
    (if z then two else two').outcome ≢ Stuck → (one.outcome ≢ Stuck → two.outcome ≢ Stuck → a ≡ b) →
    (one'.outcome ≢ Stuck → two'.outcome ≢ Stuck → c ≡ d) → (if z then a else c) ≡ (if z then b else d)
sides_take_same true one two one' two' goes goes' this other = this goes goes'
sides_take_same false one two one' two' goes goes' this other = other goes goes'

-- ---- trees

pub cycles_are_isolated : CyclesAreIsolated
cycles_are_isolated layout around place reach (DoTree mnemonic) before one two has reads s goes goes' = refl
cycles_are_isolated layout around place reach (WithTree mnemonic operand) before one two has reads s goes goes' =
    with_takes_same mnemonic operand (within (with_reads mnemonic operand) before reads) s
cycles_are_isolated layout around place reach NoneTree before one two has reads s goes goes' = refl
cycles_are_isolated layout around place reach (ThenTree first rest) before one two has reads s goes goes' =
    let parts =
    and_parts (has_lines (before_bytes (most rest) reach) first)
    (has_lines (behind_bytes (most first) reach) rest) has in
    let each = and_parts (known first before).reads_known (known rest (known first before).done).reads_known reads in
    let g = then_goes (ran each_one layout first one) (ran each_one layout rest) goes in
    let g' = then_goes (ran each_one layout first two) (ran each_one layout rest) goes' in
    then_takes_same {layout = layout} {ways = known first before} (ran each_one layout first one)
    (ran each_one layout first two) (ran each_one layout rest)
    (cycles layout around (place + size around.holds first) rest) (cycles layout around place first one)
    (cycles layout around place first two) goes goes'
    (trees_are_isolated layout (before_bytes (most rest) reach) first before one two parts.0 each.0 s g g')
    (cycles_are_isolated layout around place (before_bytes (most rest) reach) first before one two parts.0 each.0 s g g')
    (λ now h h'.
    cycles_are_isolated layout around (place + size around.holds first) (behind_bytes (most first) reach) rest
    (known first before).done (ran each_one layout first one).desk (ran each_one layout first two).desk parts.1 each.1
    now h h')
cycles_are_isolated layout around place reach (ScopeTree name body) before one two has reads s goes goes' =
    cycles_are_isolated layout (in_scope name (place + size around.holds body) around) place (reach_in_scope name reach)
    body before one two has reads s (λ stuck. goes (ap (out_of_scope name) stuck))
    (λ stuck. goes' (ap (out_of_scope name) stuck))
cycles_are_isolated layout around place reach (LeaveTree name) before one two has reads s goes goes' = refl
cycles_are_isolated layout around place reach (LeaveIfTree name test) before one two has reads s goes goes' =
    ap (λ z. test_cycles z (address_in layout around (place + 2)) (address_in layout around (around.ends name)))
    (test_same test (within (test_reads test) before reads) s)
cycles_are_isolated layout around place reach (LoopTree count body) before one two has reads s goes goes' =
    turns_take_same before (known body before) (ran each_one layout body)
    (cycles layout (in_loop place around) place body) (turns_grow body before)
    (λ d e t g g'. (
      trees_are_isolated layout (reach_in_loop reach) body before d e has reads t g g',
      cycles_are_isolated layout (in_loop place around) place (reach_in_loop reach) body before d e has reads t g g',
    ))
    (turns_in layout.open_turns count) one two s goes goes'
cycles_are_isolated layout around place reach AgainTree before one two has reads s goes goes' = refl
cycles_are_isolated layout around place reach (AgainIfTree test) before one two has reads s goes goes' =
    ap (λ z. test_cycles z (address_in layout around (place + 2)) (address_in layout around around.head))
    (test_same test (within (test_reads test) before reads) s)
cycles_are_isolated layout around place reach (WhenTree condition body) before one two has reads s goes goes' =
    sides_take_same (layout.holds condition) (ran each_one layout body one) (ran each_one layout body two)
    (ended Done one 0) (ended Done two 0) goes goes'
    (λ g g'.
    cycles_are_isolated layout around place reach body before one two has
    (and_parts (known body before).reads_known true reads).0 s g g')
    (λ g g'. refl)
cycles_are_isolated layout around place reach (ChooseTree condition this other) before one two has reads s goes goes' =
    let parts = and_parts (has_lines reach this) (has_lines reach other) has in
    let each = and_parts (known this before).reads_known (known other before).reads_known reads in
    sides_take_same (layout.holds condition) (ran each_one layout this one) (ran each_one layout this two)
    (ran each_one layout other one) (ran each_one layout other two) goes goes'
    (λ g g'. cycles_are_isolated layout around place reach this before one two parts.0 each.0 s g g')
    (λ g g'. cycles_are_isolated layout around place reach other before one two parts.1 each.1 s g g')
cycles_are_isolated layout around place reach NeverTree before one two has reads s goes goes' = refl
