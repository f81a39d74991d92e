-- A call ends in one way: it returns, or meets a stop, or uses its budget up.
use Rattle.std.proofs.Common.{◌≡◌, ℕ, ◌+◌, ◌<◌, ◌≤◌, ◌++◌, Result, Ok, Err, refl, sym, ap}
use Rattle.std.proofs.Common.{◌∙◌, subst, arith, inl, inr}
use Rattle.std.proofs.lemmas.Bool.{cases_lt}
use Rattle.cpu6502.specs.declared.machine.Machine.{Machine}
use Rattle.cpu6502.specs.declared.stop.Stop.{Stop}
use Rattle.cpu6502.specs.declared.stop.CallStop.{CallStop}
use Rattle.cpu6502.specs.declared.stop.CallStop.TheVariants.{Stopped, Budget}
use Rattle.cpu6502.specs.Step.{step}
use Rattle.cpu6502.specs.Call.{run, entered, HasReturned, IsOutFor, Called, MeetsStop, IsUnderWay, FailsBy, writes_in}
use Rattle.cpu6502.specs.Log.{log_of, sid_write, sid_writes}
use Rattle.std.proofs.lemmas.List.Elements.{filter_map-append}
use Rattle.cpu6502.proofs.Steps.{run_stopped, writes_in-add, writes_in-stopped}

-- one more machine that has not returned
pub out_longer : (m : Machine) (address a n : ℕ) (now : Machine) → IsOutFor m address a n →
    run n (entered m address a) ≡ Ok now → (HasReturned m now → ⊥) → IsOutFor m address a (n + 1)
out_longer m address a n now before runs here = record {
  out = λ k between lt e back. elim (cases_lt k n) [
    | inl below ↦ before.out k between below e back
    | inr above ↦
        let same : k ≡ n = omega arith in
        let e' = subst (λ j. run j (entered m address a) ≡ Ok between) same e in
        let one : between ≡ now = cc in
        here (subst (λ b. HasReturned m b) one back)
  ];
}

-- a call returns once
pub called_once : (m : Machine) (address a n k : ℕ) (after after' : Machine) → Called m address a n after →
    Called m address a k after' → n ≡ k
called_once m address a n k after after' c c' =
    elim (cases_lt n k) [
      | inl below ↦ absurd (c'.first.out n after below c.runs c.returned)
      | inr above ↦ elim (cases_lt k n) [
        | inl below ↦ absurd (c.first.out k after' below c'.runs c'.returned)
        | inr above' ↦ omega arith
      ]
    ]

-- a call that returns has not used up a budget that allows it
pub not_under_way : (m : Machine) (address a n budget : ℕ) (after after' : Machine) → Called m address a n after →
    n ≤ budget → IsUnderWay m address a budget after' → ⊥
not_under_way m address a n budget after after' c le u = u.out.out n after (omega arith) c.runs c.returned

-- a call that returns meets no stop
pub no_stop : (m : Machine) (address a n k : ℕ) (stop : Stop) (after after' : Machine) → Called m address a n after →
    MeetsStop m address a k stop after' → ⊥
no_stop m address a n k stop after after' c s =
    elim (cases_lt k n) [
      | inl below ↦ let e =
          run_stopped k n (entered m address a) after' stop s.runs s.stops below in let r = c.runs in cc
      | inr above ↦ s.out.out n after (omega arith) c.runs c.returned
    ]

-- a call that has used up its budget has met no stop within it
pub no_stop_yet : (m : Machine) (address a budget k : ℕ) (stop : Stop) (after after' : Machine) →
    IsUnderWay m address a budget after → MeetsStop m address a k stop after' → k < budget → ⊥
no_stop_yet m address a budget k stop after after' u s lt =
    let e = run_stopped k budget (entered m address a) after' stop s.runs s.stops lt in
    let r = u.runs in
    cc

-- a call meets one stop
pub one_stop : (m : Machine) (address a n k : ℕ) (stop stop' : Stop) (after after' : Machine) →
    MeetsStop m address a n stop after → MeetsStop m address a k stop' after' → stop ≡ stop'
one_stop m address a n k stop stop' after after' s s' =
    elim (cases_lt n k) [
      | inl below ↦ let e =
          run_stopped n k (entered m address a) after stop s.runs s.stops below in let r = s'.runs in cc
      | inr above ↦ elim (cases_lt k n) [
        | inl below ↦ let e =
            run_stopped k n (entered m address a) after' stop' s'.runs s'.stops below in let r = s.runs in cc
        | inr above' ↦
            let same : n ≡ k = omega arith in
            let r = subst (λ j. run j (entered m address a) ≡ Ok after) same s.runs in
            let r' = s'.runs in
            let one : after ≡ after' = cc in
            let t = subst (λ b. step b ≡ Err stop) one s.stops in
            let t' = s'.stops in
            cc
      ]
    ]

-- what a call that returns says of the reasons not to
pub returned_fails : (m : Machine) (address a n budget : ℕ) (after after' : Machine) (reason : CallStop)
    (r : Result ℕ CallStop) → Called m address a n after → n ≤ budget → FailsBy m address a budget reason after' →
    r ≡ Err reason
returned_fails m address a n budget after after' (Stopped stop) r c le f =
    absurd (no_stop m address a n f.0 stop after after' c f.2)
returned_fails m address a n budget after after' Budget r c le f =
    absurd (not_under_way m address a n budget after after' c le f)

-- a call that has used up its budget does not return for another reason
pub under_way_fails : (m : Machine) (address a budget : ℕ) (after after' : Machine) (reason : CallStop) →
    IsUnderWay m address a budget after → FailsBy m address a budget reason after' → Budget ≡ reason
under_way_fails m address a budget after after' (Stopped stop) u f =
    absurd (no_stop_yet m address a budget f.0 stop after after' u f.2 f.1)
under_way_fails m address a budget after after' Budget u f = refl

-- a call that has met a stop does not return for another reason
pub stopped_fails : (m : Machine) (address a budget n : ℕ) (stop : Stop) (after after' : Machine)
    (reason : CallStop) → MeetsStop m address a n stop after → n < budget → FailsBy m address a budget reason after' →
    Stopped stop ≡ reason
stopped_fails m address a budget n stop after after' (Stopped stop') s lt f =
    ap Stopped (one_stop m address a n f.0 stop stop' after after' s f.2)
stopped_fails m address a budget n stop after after' Budget s lt f =
    absurd (no_stop_yet m address a budget n stop after' after f s lt)

-- the log of one step more
pub log-suc : (n : ℕ) (m between : Machine) → run n m ≡ Ok between →
    log_of (sid_writes (writes_in n m) ++ sid_writes (writes_in 1 between)) ≡ log_of
    (sid_writes (writes_in (n + 1) m))
log-suc n m between e =
    sym (ap log_of (ap sid_writes (writes_in-add n 1 m between e)
    ∙ filter_map-append sid_write (writes_in n m) (writes_in 1 between)))

-- the log up to a stop is that of the whole budget
pub log_stopped : (n budget : ℕ) (m between : Machine) (stop : Stop) → run n m ≡ Ok between →
    step between ≡ Err stop → n < budget → log_of (sid_writes (writes_in n m) ++ sid_writes (writes_in 1 between))
    ≡ log_of (sid_writes (writes_in budget m))
log_stopped n budget m between stop e s lt =
    log-suc n m between e
    ∙ ap (λ writes. log_of (sid_writes writes))
    (writes_in-stopped n (n + 1) m between stop e s (omega arith)
    ∙ sym (writes_in-stopped n budget m between stop e s lt))
