-- What each play costs, one after the other.
use Rattle.std.proofs.Common.{◌≡◌, ℕ, suc, ◌+◌, ◌<◌, ◌≤◌, ◌^◌, List, [], ◌∷◌, ◌++◌, None, get_or, inl, inr, refl, sym}
use Rattle.std.proofs.Common.{ap, ◌∙◌}
use Rattle.std.proofs.Common.{subst, arith, length-append}
use Rattle.std.proofs.lemmas.Bool.{cases_lt}
use Rattle.std.proofs.lemmas.List.{get_or_append_left}
use Rattle.std.proofs.Math.Seq.{get_or-append_seam}
use Rattle.cpu6502.specs.declared.machine.Machine.{Machine}
use Rattle.cpu6502.specs.Call.{call_cycles}
use Rattle.cpu6502.proofs.Laws.{steps_take_few_cycles}
use Rattle.psid.specs.declared.header.Psid.{Psid}
use Rattle.sid_run.specs.State.{RunnerState, loaded, sid_registers, most_steps}
use Rattle.song_length.specs.Plays.{PlayTakes, Lead, PlayTold, Tells}
use Rattle.song_length.specs.Coming.{IsStarted}
use Rattle.song_length.specs.Told.{CostSo}

-- the cycles of a play are few
pub play_cycles_few : (machine : Machine) (play steps : ℕ) → steps ≤ most_steps →
    call_cycles machine play machine.cpu.a steps < 2 ^ 32
play_cycles_few machine play steps within =
    let few = steps_take_few_cycles machine play machine.cpu.a steps in omega (arith, few, within)

-- the first plays have been made
pub record IsCosted (psid : Psid) (song calls : ℕ) (cycles : List ℕ) (runner : RunnerState) : Type 0 where
  pub cost : CostSo psid song calls cycles
  pub led : Lead (loaded psid).play calls cost.first runner.machine
  pub address : runner.play ≡ (loaded psid).play
  pub running : runner.stopped ≡ None

pub none_costed : (psid : Psid) (song : ℕ) (runner : RunnerState) → IsStarted psid song runner →
    IsCosted psid song 0 [] runner
none_costed psid song runner is = record {
  cost = record {
    init = runner.cycles;
    first = runner.machine;
    begins = is.begins;
    costs = record { as_many = refl; each = λ i none. absurd (omega (arith, none)) };
  };
  led = refl;
  address = is.address;
  running = is.running;
}

-- one play more
pub one_costed : (psid : Psid) (song calls : ℕ) (cycles : List ℕ) (runner : RunnerState) →
    (is : IsCosted psid song calls cycles runner) → (next : RunnerState) (steps cost : ℕ) →
    PlayTakes runner.play runner.machine steps next.machine →
    cost ≡ call_cycles runner.machine runner.play runner.machine.cpu.a steps → next.play ≡ runner.play →
    next.stopped ≡ None → IsCosted psid song (calls + 1) (cycles ++ cost ∷ []) next
one_costed psid song calls cycles runner is next steps cost takes cost_is same running =
    let here = subst (λ p. PlayTakes p runner.machine steps next.machine) is.address takes in
    let p = (loaded psid).play in
    let told : PlayTold = record {
      steps = steps;
      cycles = call_cycles runner.machine p runner.machine.cpu.a steps;
      registers = sid_registers next.machine;
    } in
    let tells : Tells p is.cost.first calls told =
    record { before = runner.machine; after = next.machine; led = is.led; takes = here; cycles = refl; registers = refl } in
    let last : cost ≡ told.cycles =
    cost_is ∙ ap (λ q. call_cycles runner.machine q runner.machine.cpu.a steps) is.address in
    record {
      cost = record {
        init = is.cost.init;
        first = is.cost.first;
        begins = is.cost.begins;
        costs = record {
          as_many = (let many = is.cost.costs.as_many in let more = length-append cycles (cost ∷ []) in omega (arith, many, more));
          each = λ i few. elim (cases_lt i calls) [
            | inl less ↦
                let its = is.cost.costs.each i less in
                let many = is.cost.costs.as_many in
                (its.0, its.1, get_or_append_left cycles (cost ∷ []) 0 i (omega (arith, less, many)) ∙ its.2)
            | inr more ↦
                let place : calls ≡ i = omega (arith, few, more) in
                let many = is.cost.costs.as_many in
                let seam = get_or-append_seam cycles cost [] 0 in (
                  told,
                  subst (λ k. Tells p is.cost.first k told) place tells,
                  ap (λ k. get_or (cycles ++ cost ∷ []) k 0) (sym place ∙ sym many) ∙ seam ∙ last,
                )
          ];
        };
      };
      led = subst (λ k. Lead p k is.cost.first next.machine) (more_is calls) (runner.machine, steps, is.led, here);
      address = same ∙ is.address;
      running = running;
    }
  where
    more_is : (n : ℕ) → suc n ≡ n + 1
    more_is n = omega arith
