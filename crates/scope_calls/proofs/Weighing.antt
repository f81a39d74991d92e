-- At most how many instructions a call runs.
use Rattle.std.proofs.Common.{ℕ, ◌+◌, ◌≤◌, Option, Some, None, arith}
use Rattle.scopes.specs.Desk.{Desk, Layout}
use Rattle.scopes.specs.Trees.{Tree}
use Rattle.scopes.specs.Meaning.{Outcome, Done, Left, Again, Stuck, Ran, each_one, behind, and_then, ran}
use Rattle.scope_lines.specs.Weights.{weight}
use Rattle.scope_lines.proofs.Laws.{costs_are_bounded}
use Rattle.scope_calls.specs.Entrances.{Entrance, voices_place}
use Rattle.scope_calls.specs.Meaning.{cleared, at_voice, called_from, back, voice_called, voice_last, voices_ran}
use Rattle.scope_calls.specs.Meaning.{entrance_ran}
use Rattle.scope_calls.specs.Listed.{layout_at, entrance_desk}
use Rattle.scope_calls.specs.EntranceLaws.{voice_weight, entrance_weight, CallsAreShort}

-- one after the other
then_costs : (one : Ran) (next : Desk → Ran) (m n : ℕ) → one.cost ≤ m → ((desk : Desk) → (next desk).cost ≤ n) →
    (and_then one next).cost ≤ m + n
then_costs one next m n h k = by_outcome one.outcome
  where
    by_outcome : (o : Outcome) → (behind o one next).cost ≤ m + n
    by_outcome Done = (let rest = k one.desk in omega (arith, h, rest))
    by_outcome (Left name) = omega (arith, h)
    by_outcome Again = omega (arith, h)
    by_outcome Stuck = omega (arith, h)

called_costs : (layout : Layout) (block : Tree) (last voice : ℕ) (desk : Desk) →
    (voice_called layout block last voice desk).cost ≤ weight block + 3
called_costs layout block last voice desk =
    let start = called_from last (at_voice voice desk) in
    let both =
    then_costs (ran each_one layout block start) back (weight block) 1 (costs_are_bounded layout block start)
    (λ more. omega arith) in
    omega (arith, both)

voices_cost : (layout : Layout) (voice : Option Tree) (place : ℕ) (desk : Desk) →
    (voices_ran layout voice place desk).cost ≤ voice_weight voice
voices_cost layout None place desk = omega arith
voices_cost layout (Some block) place desk =
    let last : (more : Desk) → (voice_last layout block more).cost ≤ weight block + 1 =
    λ more. one_more (costs_are_bounded layout block (at_voice 2 more)) in
    let two : (more : Desk) → (and_then (voice_called layout block (place + 9) 1 more) (voice_last layout block)).cost
    ≤ weight block + 3 + (weight block + 1) =
    λ more.
    then_costs (voice_called layout block (place + 9) 1 more) (voice_last layout block) (weight block + 3)
    (weight block + 1) (called_costs layout block (place + 9) 1 more) last in
    let all =
    then_costs (voice_called layout block (place + 4) 0 desk)
    (λ one. and_then (voice_called layout block (place + 9) 1 one) (voice_last layout block)) (weight block + 3)
    (weight block + 3 + (weight block + 1)) (called_costs layout block (place + 4) 0 desk) two in
    omega (arith, all)
  where
    one_more : {n m : ℕ} → n ≤ m → 1 + n ≤ m + 1
    one_more h = omega (arith, h)

entrance_costs : (layout : Layout) (e : Entrance) (desk : Desk) →
    (entrance_ran layout e desk).cost + 1 ≤ entrance_weight e
entrance_costs layout e desk =
    let start = cleared desk in
    let place = layout.address e.label + voices_place e in
    let rest : (more : Desk) → (and_then (voices_ran layout e.voice place more) back).cost ≤ voice_weight e.voice + 1 =
    λ more.
    then_costs (voices_ran layout e.voice place more) back (voice_weight e.voice) 1
    (voices_cost layout e.voice place more)
    (λ one. omega arith) in
    let all =
    then_costs (ran each_one layout e.first start) (λ done. and_then (voices_ran layout e.voice place done) back)
    (weight e.first) (voice_weight e.voice + 1) (costs_are_bounded layout e.first start) rest in
    omega (arith, all)

pub calls_are_short : CallsAreShort
calls_are_short e machine number r =
    let most = entrance_costs (layout_at e) e.entrance (entrance_desk e machine number) in
    let steps = r.steps_are in
    omega (arith, steps, most)
