-- The first step that holds clock cycles, and heights.
use Rattle.std.proofs.Common.{◌≡◌, ℕ, zero, suc, ◌*◌, ◌<◌, ◌≤◌, Bool, Option, Some, None, List, [], ◌∷◌}
use Rattle.std.proofs.Common.{get_or, length, nat_le, unwrap_or, cond, refl, sym, ap, ◌∙◌, lit≤, arith}
use Rattle.std.specs.List.{find, range_with_len}
use Rattle.std.proofs.lemmas.Bool.{le-leb, lt-leb, leb-true, cond_both}
use Rattle.std.proofs.lemmas.List.Elements.{All-map}
use Rattle.std.proofs.lemmas.Nat.{div_below}
use Rattle.song_chart.specs.Columns.{AreCalls, column, column_count, greatest}
use Rattle.song_chart.specs.Scale.{steps, top, step_for, height}
use Rattle.song_chart.specs.Laws.{HeightsFit}
use Rattle.song_chart.proofs.Greatest.{most_of, part_low}

-- ---- the first

-- of any steps
found : (most : ℕ) (these : List ℕ) (place : ℕ) → place < length these →
    ((k : ℕ) → k < place → top (get_or these k 0) < most) → most ≤ top (get_or these place 0) →
    find (λ step. nat_le most (top step)) these ≡ Some (get_or these place 0)
found most [] place few before here = absurd (omega (arith, few))
found most (step ∷ these) zero few before here =
    ap (λ b. cond b (Some step) (find (λ step. nat_le most (top step)) these)) (le-leb most (top step) here)
found most (step ∷ these) (suc place) few before here =
    let less : place < length these = omega (arith, few) in
    let first : top step < most = before 0 (omega arith) in
    ap (λ b. cond b (Some step) (find (λ step. nat_le most (top step)) these)) (lt-leb most (top step) first)
    ∙ found most these place less (λ k small. before (suc k) (omega (arith, small))) here

none : (most : ℕ) (these : List ℕ) → ((k : ℕ) → k < length these → top (get_or these k 0) < most) →
    find (λ step. nat_le most (top step)) these ≡ None
none most [] before = refl
none most (step ∷ these) before =
    let first : top step < most = before 0 (omega arith) in
    ap (λ b. cond b (Some step) (find (λ step. nat_le most (top step)) these)) (lt-leb most (top step) first)
    ∙ none most these (λ k small. before (suc k) (omega (arith, small)))

pub first_step : (most place : ℕ) → place < length steps → ((k : ℕ) → k < place → top (get_or steps k 0) < most) →
    most ≤ top (get_or steps place 0) → get_or steps place 0 ≡ step_for most
first_step most place few before here = sym (ap (λ s. unwrap_or s 5000) (found most steps place few before here))

pub no_step : (most : ℕ) → ((k : ℕ) → k < length steps → top (get_or steps k 0) < most) → 5000 ≡ step_for most
no_step most before = sym (ap (λ s. unwrap_or s 5000) (none most steps before))

-- ---- any step

record IsStep (step : ℕ) : Type 0 where
  some : 1 ≤ step
  few : step ≤ 5000

abbrev Each : List ℕ → Type 0
Each [] = Unit {0}
Each (step ∷ these) = IsStep step × Each these

one_of : (test : ℕ → Bool) (these : List ℕ) → Each these → IsStep (unwrap_or (find test these) 5000)
one_of test [] each = record { some = lit≤ tt; few = lit≤ tt }
one_of test (step ∷ these) each =
    cond_both (test step) (Some step) (find test these) (λ (one : Option ℕ). IsStep (unwrap_or one 5000)) (λ yes. each.0)
    (λ no. one_of test these each.1)

step : (n : ℕ) → 1 ≤ n → n ≤ 5000 → IsStep n
step n some few = record { some = some; few = few }

each_step : Each steps
each_step = (
  step 1 (lit≤ tt) (lit≤ tt),
  (
    step 2 (lit≤ tt) (lit≤ tt),
    (
      step 5 (lit≤ tt) (lit≤ tt),
      (
        step 10 (lit≤ tt) (lit≤ tt),
        (
          step 20 (lit≤ tt) (lit≤ tt),
          (
            step 50 (lit≤ tt) (lit≤ tt),
            (
              step 100 (lit≤ tt) (lit≤ tt),
              (
                step 200 (lit≤ tt) (lit≤ tt),
                (
                  step 500 (lit≤ tt) (lit≤ tt),
                  (
                    step 1000 (lit≤ tt) (lit≤ tt),
                    (step 2000 (lit≤ tt) (lit≤ tt), (step 5000 (lit≤ tt) (lit≤ tt), tt)),
                  ),
                ),
              ),
            ),
          ),
        ),
      ),
    ),
  ),
)

pub some_step : (most : ℕ) → 1 ≤ step_for most
some_step most = (one_of (λ step. nat_le most (top step)) steps each_step).some

pub few_steps : (most : ℕ) → step_for most ≤ 5000
few_steps most = (one_of (λ step. nat_le most (top step)) steps each_step).few

-- it holds the clock cycles, if the last does
holds_one : (most : ℕ) (these : List ℕ) → most ≤ top 5000 →
    most ≤ top (unwrap_or (find (λ step. nat_le most (top step)) these) 5000)
holds_one most [] end = end
holds_one most (step ∷ these) end =
    cond_both (nat_le most (top step)) (Some step) (find (λ step. nat_le most (top step)) these)
    (λ (one : Option ℕ). most ≤ top (unwrap_or one 5000)) (λ yes. leb-true most (top step) yes)
    (λ no. holds_one most these end)

pub step_holds : (cycles : List ℕ) → AreCalls cycles → greatest cycles ≤ top (step_for (greatest cycles))
step_holds cycles are =
    let low = most_of 1400000 cycles are.short in
    holds_one (greatest cycles) steps (omega (arith, low))

-- ---- heights

pub height_fits : (step cycles : ℕ) → 1 ≤ step → cycles ≤ top step → height step cycles ≤ 420
height_fits step cycles some fits =
    let below = div_below (cycles * 420) (top step) 421 (omega (arith, some)) (omega (arith, fits, some)) in
    omega (arith, below)

pub heights_fit : HeightsFit
heights_fit per cycles are =
    let most = greatest cycles in
    All-map (λ calls. height (step_for most) (greatest calls) ≤ 420) (column per cycles)
    (range_with_len 0 (column_count per (length cycles)))
    (λ k d few.
    let place = get_or (range_with_len 0 (column_count per (length cycles))) k d in
    let low = part_low (place * per) per cycles in
    let holds = step_holds cycles are in
    height_fits (step_for most) (greatest (column per cycles place)) (some_step most) (omega (arith, low, holds)))
