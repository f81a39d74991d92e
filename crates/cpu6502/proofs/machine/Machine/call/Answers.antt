use Rattle.std.proofs.Common.{◌≡◌, ℕ, ◌+◌, ◌<◌, ◌≤◌, Ok, Err, ap, ◌∙◌, refl, sym, subst, slice_index, arith, rules}
use Rattle.std.proofs.lemmas.Bool.{false≢true}
use Rattle.cpu6502.specs.declared.machine.Machine.{Machine}
use Rattle.cpu6502.specs.declared.stop.Stop.{Stop}
use Rattle.cpu6502.specs.Step.{step}
use Rattle.cpu6502.specs.Call.{entered, run, HasReturned, IsOutFor, Called, MeetsStop, IsUnderWay, cycles_in}
use Rattle.cpu6502.proofs.Columns.{cycles_are_few}
use Rattle.cpu6502.proofs.Steps.{run-suc, cycles_in-suc}
use Rattle.cpu6502.proofs.Calls.{out_longer, no_stop, returned_fails, under_way_fails, stopped_fails, log-suc, log_stopped}
use Rattle.cpu6502.proofs.machine.Machine.call.Goals as goal

below : (n budget : ℕ) → n ≤ budget → (n ≡ budget → ⊥) → n + 1 ≤ budget
below n budget le apart = omega arith

-- a call that has made its whole budget of steps
used_up : (m now : Machine) (address a n budget : ℕ) → run n (entered m address a) ≡ Ok now → IsOutFor m address a n →
    (HasReturned m now → ⊥) → n ≡ budget → IsUnderWay m address a budget now
used_up m now address a n budget runs out here e =
    subst (λ k. IsUnderWay m address a k now) e
    (record { runs = runs; out = out_longer m address a n now out runs here })

-- a call that meets a stop
stopped_at : (m now : Machine) (address a n : ℕ) (stop : Stop) → run n (entered m address a) ≡ Ok now →
    IsOutFor m address a n → (HasReturned m now → ⊥) → step now ≡ Err stop → MeetsStop m address a n stop now
stopped_at m now address a n stop runs out here stops =
    record { runs = runs; stops = stops; out = out_longer m address a n now out runs here }

pub returns-then-steps-budget-clause-fails : goal.returns-then-steps-budget-clause-fails
returns-then-steps-budget-clause-fails c = λ reason after fails.
    let i = c.stepping.invariant in
    let here = λ (back : HasReturned c.args.self.now c.stepping.self). false≢true
    (c.stepping-test.ensures.1 (back.at_zero, back.same_stack)) in
    let under_way = used_up c.args.self.now c.stepping.self c.args.address c.args.a c.stepping.steps c.args.budget
    i.runs i.out here c.if-steps-budget.true in
    ap Err (under_way_fails c.args.self.now c.args.address c.args.a c.args.budget c.stepping.self after reason
    under_way fails)

pub returns-in-Err : goal.returns-in-Err
returns-in-Err c =
    let i = c.stepping.invariant in
    let here = λ (back : HasReturned c.args.self.now c.stepping.self). false≢true
    (c.stepping-test.ensures.1 (back.at_zero, back.same_stack)) in
    let stopped = stopped_at c.args.self.now c.stepping.self c.args.address c.args.a c.stepping.steps c.in-Err.stop
    i.runs i.out here c.in-Err.ensures.stopped in
    let lt : c.stepping.steps < c.args.budget =
    omega (arith, below c.stepping.steps c.args.budget i.within c.if-steps-budget.false) in
    record {
      returned = search rules;
      cycles = search rules;
      in_budget = search rules;
      failed =
          let there = subst (λ (after : Machine). MeetsStop c.args.self.now c.args.address c.args.a c.stepping.steps
          c.in-Err.stop after) (sym c.in-Err.ensures.same) stopped in
          (c.stepping.steps, lt, there);
      returns = λ steps after called le.
          absurd (no_stop c.args.self.now c.args.address c.args.a steps c.stepping.steps c.in-Err.stop after
          c.stepping.self called stopped);
      fails = λ reason after fails.
          ap Err (stopped_fails c.args.self.now c.args.address c.args.a c.args.budget c.stepping.steps c.in-Err.stop
          c.stepping.self after reason stopped lt fails);
      log = search rules;
      log_failed = c.step_noted.ensures.noted _ i.logged
          ∙ log_stopped c.stepping.steps c.args.budget (entered c.args.self.now c.args.address c.args.a)
          c.stepping.self c.in-Err.stop i.runs c.in-Err.ensures.stopped lt;
    }

pub stepping-preserved : goal.stepping-preserved
stepping-preserved c =
    let i = c.stepping.invariant in
    let here = λ (back : HasReturned c.args.self.now c.stepping.self). false≢true
    (c.stepping-test.ensures.1 (back.at_zero, back.same_stack)) in
    let taken = c.in-Ok.ensures.cycles in
    let small = cycles_are_few (slice_index c.stepping.self.memory) c.stepping.self.cpu in
    let more = ap (λ n. n + c.from-cycles.result) i.cycles
    ∙ ap (λ n. cycles_in c.stepping.steps (entered c.args.self.now c.args.address c.args.a) + n)
    (c.from-cycles.ensures ∙ taken)
    ∙ sym (cycles_in-suc c.stepping.steps (entered c.args.self.now c.args.address c.args.a) c.stepping.self i.runs) in
    record {
      home = refl;
      within = below c.stepping.steps c.args.budget i.within c.if-steps-budget.false;
      runs = run-suc c.stepping.steps (entered c.args.self.now c.args.address c.args.a) c.stepping.self i.runs
          ∙ c.in-Ok.ensures.done;
      out = out_longer c.args.self.now c.args.address c.args.a c.stepping.steps c.stepping.self i.out i.runs here;
      cycles = more;
      few = omega (arith, c.from-cycles.ensures, taken, small, i.few);
      logged = c.step_noted.ensures.noted _ i.logged
          ∙ log-suc c.stepping.steps (entered c.args.self.now c.args.address c.args.a) c.stepping.self i.runs;
    }

pub returns-clause-fails : goal.returns-clause-fails
returns-clause-fails c = λ reason after fails.
    let i = c.stepping.invariant in
    let back = c.stepping-test.ensures.0 refl in
    let called : Called c.args.self.now c.args.address c.args.a c.stepping.steps c.stepping.self =
    record { runs = i.runs; returned = record { at_zero = back.0; same_stack = back.1 }; first = i.out } in
    let never : Ok 0 ≡ Err reason =
    returned_fails c.args.self.now c.args.address c.args.a c.stepping.steps c.args.budget c.stepping.self after reason
    (Ok 0) called i.within fails in
    absurd (cc (never))
