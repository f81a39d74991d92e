-- The least numbers are within their span.
use Rattle.std.proofs.Common.{ℕ, ◌+◌, ◌*◌, ◌^◌, ◌<◌, ◌≤◌, ◌++◌, Bool, true, false, max, nat_eq, ◌&&◌}
use Rattle.std.proofs.Common.{if◌then◌else◌, List, [], ◌∷◌, Some, None, arith}
use Rattle.std.proofs.Math.Nat.{max-le, mul-le-mul_left, mul-le-mul_right}
use Rattle.cpu6502.specs.declared.mnemonic.Mnemonic.{Mnemonic}
use Rattle.cpu6502.specs.declared.mnemonic.Mnemonic.TheVariants.{Asl, Brk, Dec, Inc, Jmp, Jsr, Lsr, Pha, Php, Pla, Plp}
use Rattle.cpu6502.specs.declared.mnemonic.Mnemonic.TheVariants.{Rol, Ror, Rti, Rts, Sta, Stx, Sty}
use Rattle.cpu6502.specs.declared.mnemonic.Mode.{Mode}
use Rattle.cpu6502.specs.declared.mnemonic.Mode.TheVariants.{Implied}
use Rattle.cpu6502.specs.Cycles.{is_read, is_paged}
use Rattle.cpu6502.specs.Manual.{read_cycles, store_cycles, change_cycles, jump_cycles, cycles_of}
use Rattle.scope_lines.specs.Instructions.{mode_of, alone_mode}
use Rattle.scopes.specs.declared.line.Operand.{Operand}
use Rattle.scopes.specs.Trees.{Tree, DoTree, WithTree, NoneTree, ThenTree, ScopeTree, LeaveTree, LeaveIfTree, LoopTree}
use Rattle.scopes.specs.Trees.{AgainTree, AgainIfTree, WhenTree, ChooseTree, NeverTree}
use Rattle.scopes.specs.Meaning.{turns_in}
use Rattle.scopes.proofs.Laws.{turns_within}
use Rattle.cycle_bound.specs.Rules.{Setting, Ends, nowhere, in_scope, entry, furthest, alone_most, with_most}
use Rattle.cycle_bound.specs.Least.{least, least_of, least_all, Fit}
use Rattle.cycle_bound.specs.Spans.{span, call_span, LeastFit}
use Rattle.cycle_bound.proofs.Bounds.{one_few}

-- ---- lists

-- none of the numbers is greater
abbrev Within : ℕ → List ℕ → Type 0
Within most [] = Unit {0}
Within most (number ∷ numbers) = (number ≤ most) × Within most numbers

farther : (less most : ℕ) (numbers : List ℕ) → less ≤ most → Within less numbers → Within most numbers
farther less most [] few within = tt
farther less most (number ∷ numbers) few within =
    let here = within.0 in (omega (arith, few, here), farther less most numbers few within.1)

within_both : (most : ℕ) (one two : List ℕ) → Within most one → Within most two → Within most (one ++ two)
within_both most [] two first second = second
within_both most (number ∷ one) two first second = (first.0, within_both most one two first.1 second)

entry_within : (most behind : ℕ) (numbers : List ℕ) → behind ≤ most → Within most numbers →
    entry numbers behind ≤ most
entry_within most behind [] few within = few
entry_within most behind (number ∷ numbers) few within = within.0

fits_within : (most : ℕ) (numbers : List ℕ) → most < 2 ^ 64 → Within most numbers → Fit numbers
fits_within most [] few within = tt
fits_within most (number ∷ numbers) few within =
    let here = within.0 in (omega (arith, few, here), fits_within most numbers few within.1)

-- ---- the numbers where scopes end

record AreWithin (most : ℕ) (ends : Ends) : Type 0 where
  each : (name : ℕ) → ends name ≤ most

none_within : (most : ℕ) → AreWithin most nowhere
none_within most = record { each = λ name. omega arith }

scope_within : (most name behind : ℕ) (ends : Ends) → behind ≤ most → AreWithin most ends →
    AreWithin most (in_scope name behind ends)
scope_within most name behind ends few within = record { each = λ other. by_name (nat_eq other name) other }
  where
    by_name : (z : Bool) (other : ℕ) → (if z then behind else ends other) ≤ most
    by_name true other = few
    by_name false other = within.each other

either_within : (z : Bool) (most one two : ℕ) → one ≤ most → two ≤ most → (if z then one else two) ≤ most
either_within true most one two few other = few
either_within false most one two few other = other

furthest_within : (holds : ℕ → Bool) (most : ℕ) (ends : Ends) (tree : Tree) → AreWithin most ends →
    furthest holds ends tree ≤ most
furthest_within holds most ends (ThenTree first rest) within =
    max-le (furthest_within holds most ends first within) (furthest_within holds most ends rest within)
furthest_within holds most ends (ScopeTree name body) within =
    furthest_within holds most (in_scope name 0 ends) body (scope_within most name 0 ends (omega arith) within)
furthest_within holds most ends (LeaveTree name) within = within.each name
furthest_within holds most ends (LeaveIfTree name test) within = within.each name
furthest_within holds most ends (LoopTree count body) within = furthest_within holds most ends body within
furthest_within holds most ends (WhenTree condition body) within =
    either_within (holds condition) most _ 0 (furthest_within holds most ends body within) (omega arith)
furthest_within holds most ends (ChooseTree condition this other) within =
    either_within (holds condition) most _ _ (furthest_within holds most ends this within)
    (furthest_within holds most ends other within)
furthest_within holds most ends (DoTree mnemonic) within = omega arith
furthest_within holds most ends (WithTree mnemonic operand) within = omega arith
furthest_within holds most ends NoneTree within = omega arith
furthest_within holds most ends AgainTree within = omega arith
furthest_within holds most ends (AgainIfTree test) within = omega arith
furthest_within holds most ends NeverTree within = omega arith

-- ---- instructions

-- one mode stands alone, so that the others are taken one by one
read_few : (mode : Mode) → read_cycles mode ≤ 7
read_few Implied = omega arith
read_few _ = omega arith

store_few : (mode : Mode) → store_cycles mode ≤ 7
store_few Implied = omega arith
store_few _ = omega arith

change_few : (mode : Mode) → change_cycles mode ≤ 7
change_few Implied = omega arith
change_few _ = omega arith

jump_few : (mode : Mode) → jump_cycles mode ≤ 7
jump_few Implied = omega arith
jump_few _ = omega arith

cycles_few : (mnemonic : Mnemonic) (mode : Mode) → cycles_of mnemonic mode ≤ 7
cycles_few Sta mode = store_few mode
cycles_few Stx mode = store_few mode
cycles_few Sty mode = store_few mode
cycles_few Asl mode = change_few mode
cycles_few Lsr mode = change_few mode
cycles_few Rol mode = change_few mode
cycles_few Ror mode = change_few mode
cycles_few Inc mode = change_few mode
cycles_few Dec mode = change_few mode
cycles_few Jmp mode = jump_few mode
cycles_few Jsr mode = omega arith
cycles_few Rts mode = omega arith
cycles_few Rti mode = omega arith
cycles_few Brk mode = omega arith
cycles_few Pha mode = omega arith
cycles_few Php mode = omega arith
cycles_few Pla mode = omega arith
cycles_few Plp mode = omega arith
cycles_few _ mode = read_few mode

alone : (mnemonic : Mnemonic) → alone_most mnemonic ≤ 8
alone mnemonic = (let few = cycles_few mnemonic (alone_mode mnemonic) in omega (arith, few))

with_one : (mnemonic : Mnemonic) (operand : Operand) → with_most mnemonic operand ≤ 8
with_one mnemonic operand =
    let few = cycles_few mnemonic (mode_of operand) in
    let crossed = one_few (is_paged (mode_of operand) && is_read mnemonic) in
    omega (arith, few, crossed)

-- ---- trees

least_within : (setting : Setting) (most : ℕ) (ends : Ends) (behind : ℕ) (tree : Tree) → behind ≤ most →
    AreWithin most ends → Within (most + span tree) (least setting ends behind tree)
least_within setting most ends behind (DoTree mnemonic) few within =
    let takes = alone mnemonic in (omega (arith, few, takes), tt)
least_within setting most ends behind (WithTree mnemonic operand) few within =
    let takes = with_one mnemonic operand in (omega (arith, few, takes), tt)
least_within setting most ends behind NoneTree few within = tt
least_within setting most ends behind (ThenTree first rest) few within =
    let more = span rest in
    let rests = least_within setting most ends behind rest few within in
    let next = entry_within (most + more) behind (least setting ends behind rest) (omega (arith, few)) rests in
    let firsts = least_within setting (most + more) ends (entry (least setting ends behind rest) behind) first next
    (record { each = λ name. (let end = within.each name in omega (arith, end)) }) in
    within_both _ _ _ (farther _ _ _ (omega arith) firsts) (farther _ _ _ (omega arith) rests)
least_within setting most ends behind (ScopeTree name body) few within =
    let inner = least_within setting most (in_scope name behind ends) behind body few
    (scope_within most name behind ends few within) in
    (entry_within _ behind _ (omega (arith, few)) inner, inner)
least_within setting most ends behind (LeaveTree name) few within =
    let end = within.each name in (omega (arith, end), tt)
least_within setting most ends behind (LeaveIfTree name test) few within =
    let end = within.each name in (omega (arith, end, few), tt)
least_within setting most ends behind (LoopTree count body) few within =
    let inner = farther (0 + span body) (span body) (least setting nowhere 0 body)
    (omega arith) (least_within setting 0 nowhere 0 body (omega arith) (none_within 0)) in
    let turn = entry_within _ 0 _ (omega arith) inner in
    let far = furthest_within setting.holds most ends body within in (
      loop_within (turns_in setting.open_turns count) count most (span body) _ behind _
          (turns_within setting.open_turns count) turn few far,
      farther _ _ _ (once_within count most (span body)) inner,
    )
  where
    loop_within : (times all most turns turn one two : ℕ) → times ≤ all → turn ≤ turns → one ≤ most → two ≤ most →
        times * turn + max one two ≤ most + (1 + all) * turns
    loop_within times all most turns turn one two often few here there =
        let turned : times * turn ≤ times * turns = mul-le-mul_left times few in
        let more : times * turns ≤ all * turns = mul-le-mul_right turns often in
        let out : max one two ≤ most = max-le here there in
        omega (arith, turned, more, out)

    once_within : (times most turns : ℕ) → turns ≤ most + (1 + times) * turns
    once_within times most turns = omega arith
least_within setting most ends behind AgainTree few within = (omega arith, tt)
least_within setting most ends behind (AgainIfTree test) few within = (omega (arith, few), tt)
least_within setting most ends behind (WhenTree condition body) few within =
    let inner = least_within setting most ends behind body few within in (
      either_within (setting.holds condition) _ _ _ (entry_within _ behind _ (omega (arith, few)) inner)
          (omega (arith, few)),
      inner,
    )
least_within setting most ends behind (ChooseTree condition this other) few within =
    let these = farther _ (most + (span this + span other)) _ (omega arith)
    (least_within setting most ends behind this few within) in
    let others = farther _ (most + (span this + span other)) _ (omega arith)
    (least_within setting most ends behind other few within) in (
      either_within (setting.holds condition) _ _ _ (entry_within _ behind _ (omega (arith, few)) these)
          (entry_within _ behind _ (omega (arith, few)) others),
      within_both _ _ _ these others,
    )
least_within setting most ends behind NeverTree few within = (omega arith, tt)

-- ---- calls

block_within : (setting : Setting) (tree : Tree) → Within (span tree) (least_of setting tree)
block_within setting tree =
    farther _ _ _ (omega arith) (least_within setting 0 nowhere 0 tree (omega arith) (none_within 0))

pub least_fit : LeastFit
least_fit setting first None few =
    let block = block_within setting first in
    let here = entry_within _ 0 _ (omega arith) block in
    let all : Within (call_span first None) (least_all setting first None) =
    (omega (arith, here), within_both _ _ _ block tt) in
    fits_within (call_span first None) (least_all setting first None) few all
least_fit setting first (Some voice) few =
    let block = block_within setting first in
    let turn = block_within setting voice in
    let here = entry_within _ 0 _ (omega arith) block in
    let there = entry_within _ 0 _ (omega arith) turn in
    let all : Within (call_span first (Some voice)) (least_all setting first (Some voice)) = (
      omega (arith, here, there),
      within_both _ _ _ (farther _ _ _ (omega arith) block) (farther _ _ _ (omega arith) turn),
    ) in
    fits_within (call_span first (Some voice)) (least_all setting first (Some voice)) few all
