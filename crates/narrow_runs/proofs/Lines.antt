-- What each kind of lines does in two layouts that have more places, it does where neither has more than the other.
use Rattle.std.proofs.Common.{◌≡◌, ◌≢◌, ℕ, zero, suc, ◌+◌, Bool, true, false, Option, Some, None, refl, sym, ap}
use Rattle.std.proofs.Common.{◌∙◌, subst, if◌then◌else◌}
use Rattle.scopes.specs.declared.line.Flag.{Flag}
use Rattle.scopes.specs.declared.line.Flag.TheVariants.{Zero, Minus, Carry}
use Rattle.scopes.specs.declared.line.Test.{Test}
use Rattle.scopes.specs.declared.line.Test.TheVariants.{On, Off}
use Rattle.std.specs.Prelude.{not}
use Rattle.scopes.specs.Desk.{Desk}
use Rattle.scopes.specs.Meaning.{Outcome, Done, Left, Again, Stuck, Ran, flag_of, is_met, ended, stepped, paid, behind}
use Rattle.scopes.specs.Meaning.{and_then, out_of_scope, scoped, next_turn, turns}
use Rattle.narrow_runs.specs.Narrow.{IsSameBut, CameTo}
use Rattle.narrow_runs.proofs.Instructions.{Comes}

-- ---- ends

pub came_to : {more other : ℕ → Bool} {desk first second : Desk} (outcome : Outcome) (cost : ℕ) →
    IsSameBut more desk first → IsSameBut other desk second →
    CameTo more other (ended outcome desk cost) (ended outcome first cost) (ended outcome second cost)
came_to outcome cost same same' =
    record { as_one = refl; as_two = refl; cost = refl; first = same; second = same' }

-- an instruction comes to its end
pub steps_narrow : {more other : ℕ → Bool} (result one two : Option Desk) (desk first second : Desk) →
    (stepped one first 1).outcome ≢ Stuck → (stepped two second 1).outcome ≢ Stuck →
    ((after after' : Desk) → one ≡ Some after → two ≡ Some after' → Comes more other result after after') →
    CameTo more other (stepped result desk 1) (stepped one first 1) (stepped two second 1)
steps_narrow result None two desk first second goes goes' comes = absurd (goes refl)
steps_narrow result (Some after) None desk first second goes goes' comes = absurd (goes' refl)
steps_narrow {more = more} {other = other} result (Some after) (Some after') desk first second goes goes' comes =
    let here = comes after after' refl refl in
    subst (λ r. CameTo more other (stepped r desk 1) (ended Done after 1) (ended Done after' 1)) (sym here.is)
    (came_to Done 1 here.first here.second)

-- under a test, which looks at flags alone
flag_same : {more : ℕ → Bool} {one two : Desk} (flag : Flag) → IsSameBut more one two →
    flag_of flag one ≡ flag_of flag two
flag_same Zero same = ap (λ c. c.z) same.cpu
flag_same Minus same = ap (λ c. c.n) same.cpu
flag_same Carry same = ap (λ c. c.c) same.cpu

test_same : {more : ℕ → Bool} {one two : Desk} (test : Test) → IsSameBut more one two →
    is_met test one ≡ is_met test two
test_same (On flag) same = flag_same flag same
test_same (Off flag) same = ap not (flag_same flag same)

pub tests_narrow : {more other : ℕ → Bool} {desk first second : Desk} (test : Test) (outcome : Outcome) →
    IsSameBut more desk first → IsSameBut other desk second →
    CameTo more other (if is_met test desk then ended outcome desk 1 else ended Done desk 1)
    (if is_met test first then ended outcome first 1 else ended Done first 1)
    (if is_met test second then ended outcome second 1 else ended Done second 1)
tests_narrow {more = more} {other = other} {desk = desk} {first = first} {second = second} test outcome same same' =
    by_test (is_met test desk) (is_met test first) (is_met test second) (test_same test same) (test_same test same')
  where
    by_test : (z p q : Bool) → z ≡ p → z ≡ q →
        CameTo more other (if z then ended outcome desk 1 else ended Done desk 1)
        (if p then ended outcome first 1 else ended Done first 1)
        (if q then ended outcome second 1 else ended Done second 1)
    by_test true true true e f = came_to outcome 1 same same'
    by_test false false false e f = came_to Done 1 same same'
    by_test true false q e f = absurd (cc)
    by_test false true q e f = absurd (cc)
    by_test true true false e f = absurd (cc)
    by_test false false true e f = absurd (cc)

-- what was paid before
pub pays_narrow : {more other : ℕ → Bool} {run one two : Ran} (cost cost' cost'' : ℕ) → cost ≡ cost' →
    CameTo more other run one two → CameTo more other (paid cost run) (paid cost' one) (paid cost'' two)
pays_narrow {run = run} cost cost' cost'' e came = record {
  as_one = came.as_one;
  as_two = came.as_two;
  cost = ap (λ c. c + run.cost) e ∙ ap (λ c. cost' + c) came.cost;
  first = came.first;
  second = came.second;
}

-- ---- one behind the other

then_goes : (one : Ran) (next : Desk → Ran) → (and_then one next).outcome ≢ Stuck → one.outcome ≢ Stuck
then_goes one next goes stuck =
    goes (subst (λ o. (behind o one next).outcome ≡ Stuck) (sym stuck) stuck)

pub then_narrow : {more other : ℕ → Bool} (run one two : Ran) (next next' next'' : Desk → Ran) →
    (and_then one next').outcome ≢ Stuck → (and_then two next'').outcome ≢ Stuck →
    (one.outcome ≢ Stuck → two.outcome ≢ Stuck → CameTo more other run one two) →
    (IsSameBut more run.desk one.desk → IsSameBut other run.desk two.desk → (next' one.desk).outcome ≢ Stuck →
    (next'' two.desk).outcome ≢ Stuck → CameTo more other (next run.desk) (next' one.desk) (next'' two.desk)) →
    CameTo more other (and_then run next) (and_then one next') (and_then two next'')
then_narrow {more = more} {other = other} run one two next next' next'' goes goes' first rest =
    subst (λ o. CameTo more other (and_then run next) (behind o one next') (and_then two next'')) came.as_one
    (subst (λ o. CameTo more other (and_then run next) (behind run.outcome one next') (behind o two next'')) came.as_two
    (by_outcome run.outcome (subst (λ o. (behind o one next').outcome ≢ Stuck) (sym came.as_one) goes)
    (subst (λ o. (behind o two next'').outcome ≢ Stuck) (sym came.as_two) goes')))
  where
    came : CameTo more other run one two
    came = first (then_goes one next' goes) (then_goes two next'' goes')

    by_outcome : (o : Outcome) → (behind o one next').outcome ≢ Stuck → (behind o two next'').outcome ≢ Stuck →
        CameTo more other (behind o run next) (behind o one next') (behind o two next'')
    by_outcome Done goes goes' =
        pays_narrow run.cost one.cost two.cost came.cost (rest came.first came.second goes goes')
    by_outcome (Left name) goes goes' = came
    by_outcome Again goes goes' = came
    by_outcome Stuck goes goes' = came

-- who leaves a scope by its name comes to its end
pub scope_narrow : {more other : ℕ → Bool} (name : ℕ) (run one two : Ran) → (scoped name one).outcome ≢ Stuck →
    (scoped name two).outcome ≢ Stuck →
    (one.outcome ≢ Stuck → two.outcome ≢ Stuck → CameTo more other run one two) →
    CameTo more other (scoped name run) (scoped name one) (scoped name two)
scope_narrow {more = more} {other = other} name run one two goes goes' body = record {
  as_one = ap (out_of_scope name) came.as_one;
  as_two = ap (out_of_scope name) came.as_two;
  cost = came.cost;
  first = came.first;
  second = came.second;
}
  where
    came : CameTo more other run one two
    came = body (λ stuck. goes (ap (out_of_scope name) stuck)) (λ stuck. goes' (ap (out_of_scope name) stuck))

-- ---- turns

turn_goes : (one : Ran) (next : Desk → Ran) → (next_turn one.outcome one next).outcome ≢ Stuck → one.outcome ≢ Stuck
turn_goes one next goes stuck =
    goes (subst (λ o. (next_turn o one next).outcome ≡ Stuck) (sym stuck) stuck)

turn_narrow : {more other : ℕ → Bool} (run one two : Ran) (next next' next'' : Desk → Ran) →
    (next_turn one.outcome one next').outcome ≢ Stuck → (next_turn two.outcome two next'').outcome ≢ Stuck →
    CameTo more other run one two →
    (IsSameBut more run.desk one.desk → IsSameBut other run.desk two.desk → (next' one.desk).outcome ≢ Stuck →
    (next'' two.desk).outcome ≢ Stuck → CameTo more other (next run.desk) (next' one.desk) (next'' two.desk)) →
    CameTo more other (next_turn run.outcome run next) (next_turn one.outcome one next')
    (next_turn two.outcome two next'')
turn_narrow {more = more} {other = other} run one two next next' next'' goes goes' came rest =
    subst (λ o. CameTo more other (next_turn run.outcome run next) (next_turn o one next')
    (next_turn two.outcome two next''))
    came.as_one
    (subst (λ o. CameTo more other (next_turn run.outcome run next) (next_turn run.outcome one next')
    (next_turn o two next''))
    came.as_two
    (by_outcome run.outcome (subst (λ o. (next_turn o one next').outcome ≢ Stuck) (sym came.as_one) goes)
    (subst (λ o. (next_turn o two next'').outcome ≢ Stuck) (sym came.as_two) goes')))
  where
    by_outcome : (o : Outcome) → (next_turn o one next').outcome ≢ Stuck → (next_turn o two next'').outcome ≢ Stuck →
        CameTo more other (next_turn o run next) (next_turn o one next') (next_turn o two next'')
    by_outcome Again goes goes' =
        pays_narrow run.cost one.cost two.cost came.cost (rest came.first came.second goes goes')
    by_outcome Done goes goes' = came
    by_outcome (Left name) goes goes' = came
    by_outcome Stuck goes goes' = came

pub turns_narrow : {more other : ℕ → Bool} (body body' body'' : Desk → Ran) →
    ((desk first second : Desk) → IsSameBut more desk first → IsSameBut other desk second →
    (body' first).outcome ≢ Stuck → (body'' second).outcome ≢ Stuck →
    CameTo more other (body desk) (body' first) (body'' second)) → (count : ℕ) (desk first second : Desk) →
    IsSameBut more desk first → IsSameBut other desk second → (turns count body' first).outcome ≢ Stuck →
    (turns count body'' second).outcome ≢ Stuck →
    CameTo more other (turns count body desk) (turns count body' first) (turns count body'' second)
turns_narrow body body' body'' each zero desk first second same same' goes goes' = absurd (goes refl)
turns_narrow body body' body'' each (suc left) desk first second same same' goes goes' =
    turn_narrow (body desk) (body' first) (body'' second) (turns left body) (turns left body') (turns left body'') goes
    goes'
    (each desk first second same same' (turn_goes (body' first) (turns left body') goes)
    (turn_goes (body'' second) (turns left body'') goes'))
    (λ here there on on'.
    turns_narrow body body' body'' each left (body desk).desk (body' first).desk (body'' second).desk here there on on')

-- where the counts are the same
pub as_many_narrow : {more other : ℕ → Bool} (body body' body'' : Desk → Ran) →
    ((desk first second : Desk) → IsSameBut more desk first → IsSameBut other desk second →
    (body' first).outcome ≢ Stuck → (body'' second).outcome ≢ Stuck →
    CameTo more other (body desk) (body' first) (body'' second)) → (count p q : ℕ) → p ≡ count → q ≡ count →
    (desk first second : Desk) → IsSameBut more desk first → IsSameBut other desk second →
    (turns p body' first).outcome ≢ Stuck → (turns q body'' second).outcome ≢ Stuck →
    CameTo more other (turns count body desk) (turns p body' first) (turns q body'' second)
as_many_narrow {more = more} {other = other} body body' body'' each count p q e f desk first second same same' =
    subst (λ n. (turns n body' first).outcome ≢ Stuck → (turns q body'' second).outcome ≢ Stuck →
    CameTo more other (turns count body desk) (turns n body' first) (turns q body'' second)) (sym e)
    (subst (λ n. (turns count body' first).outcome ≢ Stuck → (turns n body'' second).outcome ≢ Stuck →
    CameTo more other (turns count body desk) (turns count body' first) (turns n body'' second)) (sym f)
    (turns_narrow body body' body'' each count desk first second same same'))

-- ---- sides

pub choose_narrow : {more other : ℕ → Bool} (z p q : Bool) (run one two run' one' two' : Ran) → p ≡ z → q ≡ z →
    (if p then one else one').outcome ≢ Stuck → (if q then two else two').outcome ≢ Stuck →
    (z ≡ true → one.outcome ≢ Stuck → two.outcome ≢ Stuck → CameTo more other run one two) →
    (z ≡ false → one'.outcome ≢ Stuck → two'.outcome ≢ Stuck → CameTo more other run' one' two') →
    CameTo more other (if z then run else run') (if p then one else one') (if q then two else two')
choose_narrow true true true run one two run' one' two' e f goes goes' this that = this refl goes goes'
choose_narrow false false false run one two run' one' two' e f goes goes' this that = that refl goes goes'
choose_narrow true false q run one two run' one' two' e f goes goes' this that = absurd (cc)
choose_narrow false true q run one two run' one' two' e f goes goes' this that = absurd (cc)
choose_narrow true true false run one two run' one' two' e f goes goes' this that = absurd (cc)
choose_narrow false false true run one two run' one' two' e f goes goes' this that = absurd (cc)
