-- Runs of the machine: how they join, and what a stop does to them.
use Rattle.std.proofs.Common.{◌≡◌, ℕ, zero, suc, ◌+◌, ◌-◌, ◌*◌, ◌<◌, ◌≤◌, slice_index, [], ◌++◌, Result, Ok, Err, refl}
use Rattle.std.proofs.Common.{sym, ap, ◌∙◌, arith, append_assoc}
use Rattle.std.proofs.lemmas.List.{append-nil}
use Rattle.cpu6502.specs.declared.effect.Effect.{Effect}
use Rattle.cpu6502.specs.declared.machine.Machine.{Machine}
use Rattle.cpu6502.specs.declared.stop.Stop.{Stop}
use Rattle.cpu6502.specs.Step.{stepped, next_effect, next_cycles, step}
use Rattle.cpu6502.specs.Call.{after_step, run, writes_by, writes_after, writes_in}
use Rattle.cpu6502.specs.Call.{cycles_after, cycles_in, entered, StepsTakeFewCycles}
use Rattle.cpu6502.proofs.Columns.{cycles_are_few}

-- what follows from a step that was made follows after it
after_ok : (r : Result Machine Stop) (go then : Machine → Result Machine Stop) (between : Machine)
    (end : Result Machine Stop) → after_step r go ≡ Ok between → ((m : Machine) → go m ≡ Ok between → then m ≡ end) →
    after_step r then ≡ end
after_ok (Ok m) go then between end e f = f m e
after_ok (Err s) go then between end e f = cc

-- a run of a sum of steps is one run after the other
pub run-add : (n k : ℕ) (m between : Machine) → run n m ≡ Ok between → run (n + k) m ≡ run k between
run-add zero k m between e =
    let z : 0 + k ≡ k = omega arith in
    let same : m ≡ between = cc in
    rw (z, same) refl
run-add (suc n) k m between e =
    let z : suc n + k ≡ suc (n + k) = omega arith in
    rw z (after_ok (step m) (run n) (run (n + k)) between (run k between) e (λ m' e'. run-add n k m' between e'))

-- one step alone
pub run_one : (m : Machine) → run 1 m ≡ step m
run_one m = after_same (step m) where
  after_same : (r : Result Machine Stop) → after_step r (run 0) ≡ r
  after_same (Ok m) = refl
  after_same (Err s) = refl

-- one step more
pub run-suc : (n : ℕ) (m between : Machine) → run n m ≡ Ok between → run (n + 1) m ≡ step between
run-suc n m between e = run-add n 1 m between e ∙ run_one between

-- after a stop there is only that stop
pub run_stopped : (n k : ℕ) (m between : Machine) (stop : Stop) → run n m ≡ Ok between → step between ≡ Err stop →
    n < k → run k m ≡ Err stop
run_stopped n k m between stop e s lt =
    let z : k ≡ n + suc (k - n - 1) = omega arith in
    rw z (run-add n (suc (k - n - 1)) m between e ∙ ap (λ r. after_step r (run (k - n - 1))) s)

-- the writes of a sum of steps are those of one run after those of the other
writes_after-add : (n k : ℕ) (r : Result Machine Stop) (between : Machine) → after_step r (run n) ≡ Ok between →
    ((m : Machine) → run n m ≡ Ok between → writes_in (n + k) m ≡ writes_in n m ++ writes_in k between) →
    writes_after r (writes_in (n + k)) ≡ writes_after r (writes_in n) ++ writes_in k between
writes_after-add n k (Ok m) between e f = f m e
writes_after-add n k (Err s) between e f = cc

pub writes_in-add : (n k : ℕ) (m between : Machine) → run n m ≡ Ok between →
    writes_in (n + k) m ≡ writes_in n m ++ writes_in k between
writes_in-add zero k m between e =
    let z : 0 + k ≡ k = omega arith in
    let same : m ≡ between = cc in
    rw (z, same) refl
writes_in-add (suc n) k m between e =
    let z : suc n + k ≡ suc (n + k) = omega arith in
    rw z (ap (λ ws. writes_by (next_effect m) ++ ws)
    (writes_after-add n k (step m) between e (λ m' e'. writes_in-add n k m' between e'))
    ∙ sym (append_assoc (writes_by (next_effect m)) (writes_after (step m) (writes_in n)) (writes_in k between)))

-- a machine that stops writes nothing
stopped_writes : (m : Machine) (r : Result Effect Stop) (stop : Stop) (k : ℕ) → stepped m r ≡ Err stop →
    writes_by r ++ writes_after (stepped m r) (writes_in k) ≡ []
stopped_writes m (Ok done) stop k e = cc
stopped_writes m (Err s) stop k e = refl

pub writes_in-stopped : (n k : ℕ) (m between : Machine) (stop : Stop) → run n m ≡ Ok between →
    step between ≡ Err stop → n < k → writes_in k m ≡ writes_in n m
writes_in-stopped n k m between stop e s lt =
    let z : k ≡ n + suc (k - n - 1) = omega arith in
    let none = stopped_writes between (next_effect between) stop (k - n - 1) s in
    rw z (writes_in-add n (suc (k - n - 1)) m between e ∙ ap (λ ws. writes_in n m ++ ws) none
    ∙ append-nil (writes_in n m))

-- ---- clock cycles

cycles_after-add : (n k : ℕ) (r : Result Machine Stop) (between : Machine) → after_step r (run n) ≡ Ok between →
    ((m : Machine) → run n m ≡ Ok between → cycles_in (n + k) m ≡ cycles_in n m + cycles_in k between) →
    cycles_after r (cycles_in (n + k)) ≡ cycles_after r (cycles_in n) + cycles_in k between
cycles_after-add n k (Ok m) between e f = f m e
cycles_after-add n k (Err s) between e f = cc

-- those of a sum of steps are those of one run and of the other
cycles_in-add : (n k : ℕ) (m between : Machine) → run n m ≡ Ok between →
    cycles_in (n + k) m ≡ cycles_in n m + cycles_in k between
cycles_in-add zero k m between e =
    let z : 0 + k ≡ k = omega arith in
    let same : m ≡ between = cc in
    rw (z, same) (omega arith)
cycles_in-add (suc n) k m between e =
    let z : suc n + k ≡ suc (n + k) = omega arith in
    let rest = cycles_after-add n k (step m) between e (λ m' e'. cycles_in-add n k m' between e') in
    rw z (omega (arith, rest))

cycles_of_one : (m : Machine) (r : Result Machine Stop) → next_cycles m + cycles_after r (cycles_in 0) ≡ next_cycles m
cycles_of_one m (Ok after) = omega arith
cycles_of_one m (Err stop) = omega arith

few_after : (n : ℕ) (r : Result Machine Stop) → ((m : Machine) → cycles_in n m ≤ 7 * n) →
    cycles_after r (cycles_in n) ≤ 7 * n
few_after n (Ok m) few = few m
few_after n (Err s) few = omega arith

-- those of so many steps are at most 7 for each
cycles_in_few : (n : ℕ) (m : Machine) → cycles_in n m ≤ 7 * n
cycles_in_few zero m = omega arith
cycles_in_few (suc n) m =
    let one = cycles_are_few (slice_index m.memory) m.cpu in
    let others = few_after n (step m) (cycles_in_few n) in
    omega (arith, one, others)

-- of one step more
pub cycles_in-suc : (n : ℕ) (m between : Machine) → run n m ≡ Ok between →
    cycles_in (n + 1) m ≡ cycles_in n m + next_cycles between
cycles_in-suc n m between e =
    cycles_in-add n 1 m between e ∙ ap (λ c. cycles_in n m + c) (cycles_of_one between (step between))

pub steps_take_few_cycles : StepsTakeFewCycles
steps_take_few_cycles machine address a steps = cycles_in_few steps (entered machine address a)
