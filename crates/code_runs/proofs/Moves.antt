-- How runs on a function memory are put together, and what they leave alone.
use Rattle.std.proofs.Common.{◌≡◌, ℕ, zero, suc, ◌+◌, Bool, true, false, List, [], ◌∷◌, nat_eq, refl}
use Rattle.std.proofs.Common.{sym, ap, ◌∙◌, subst, arith}
use Rattle.std.proofs.lemmas.Bool.{eqb-true, eq-eqb}
use Rattle.cpu6502.specs.declared.cpu.Cpu.{Cpu}
use Rattle.cpu6502.specs.declared.effect.Write.{Write}
use Rattle.cpu6502.specs.declared.effect.Effect.{Effect}
use Rattle.cpu6502.specs.Effects.{quiet, storing}
use Rattle.code_runs.specs.Runs.{State, put, put_all, left, Does, Goes, Puts, Allowed, Runs, Leads}

-- no step
pub stay : {W : ℕ → Type 0} → (state : State) → Leads W 0 state state
stay state = record { runs = refl }

-- a step whose writes are at allowed places, and a run after it
pub does : {W : ℕ → Type 0} {n : ℕ} {state after : State} {done : Effect} → Does state done → Allowed W done.writes →
    Leads W n (left state done) after → Leads W (suc n) state after
does {done = done} d w l = record { runs = (done, d.is, d.away, w, l.runs) }

-- a step that writes nothing, and a run after it
pub goes : {W : ℕ → Type 0} {n : ℕ} {state after : State} {cpu : Cpu} → Goes state cpu →
    Leads W n (record { cpu = cpu; at = state.at }) after → Leads W (suc n) state after
goes {cpu = cpu} g l = record { runs = (quiet cpu, g.is, g.away, tt, l.runs) }

-- a step that writes a byte at an allowed place, and a run after it
pub puts : {W : ℕ → Type 0} {n : ℕ} {state after : State} {cpu : Cpu} {place byte : ℕ} → Puts state cpu place byte →
    W place → Leads W n (record { cpu = cpu; at = put state.at place byte }) after → Leads W (suc n) state after
puts {cpu = cpu} {place = place} {byte = byte} p w l =
    record { runs = (storing cpu place byte, p.is, p.away, (w, tt), l.runs) }

-- one step alone
pub goes_once : {W : ℕ → Type 0} {state : State} {cpu : Cpu} → Goes state cpu →
    Leads W 1 state (record { cpu = cpu; at = state.at })
goes_once g = goes g (stay _)

pub puts_once : {W : ℕ → Type 0} {state : State} {cpu : Cpu} {place byte : ℕ} → Puts state cpu place byte → W place →
    Leads W 1 state (record { cpu = cpu; at = put state.at place byte })
puts_once p w = puts p w (stay _)

-- two runs, one after the other
runs_on : (W : ℕ → Type 0) (n k : ℕ) (state between after : State) → Runs W n state between → Runs W k between after →
    Runs W (n + k) state after
runs_on W zero k state between after r s =
    let z : 0 + k ≡ k = omega arith in
    rw z (subst (λ b. Runs W k b after) (sym r) s)
runs_on W (suc n) k state between after r s =
    let z : suc n + k ≡ suc (n + k) = omega arith in
    rw z (r.0, r.1, r.2, r.3, runs_on W n k (left state r.0) between after r.4 s)

pub leads_on : {W : ℕ → Type 0} {n k : ℕ} {state between after : State} → Leads W n state between →
    Leads W k between after → Leads W (n + k) state after
leads_on {W = W} {n = n} {k = k} {state = state} {between = between} {after = after} l m =
    record { runs = runs_on W n k state between after l.runs m.runs }

-- a run with its number of steps, its end or its beginning under another name
pub in_steps : {W : ℕ → Type 0} {n k : ℕ} {state after : State} → n ≡ k → Leads W n state after →
    Leads W k state after
in_steps {W = W} {state = state} {after = after} e l = subst (λ j. Leads W j state after) e l

pub ends_at : {W : ℕ → Type 0} {n : ℕ} {state after end : State} → after ≡ end → Leads W n state after →
    Leads W n state end
ends_at {W = W} {n = n} {state = state} e l = subst (λ s. Leads W n state s) e l

pub begins_at : {W : ℕ → Type 0} {n : ℕ} {state begin after : State} → state ≡ begin → Leads W n state after →
    Leads W n begin after
begins_at {W = W} {n = n} {after = after} e l = subst (λ s. Leads W n s after) e l

-- a run that may write at more places
allowed_wider : (W V : ℕ → Type 0) (writes : List Write) → ((q : ℕ) → W q → V q) → Allowed W writes → Allowed V writes
allowed_wider W V [] wider all = tt
allowed_wider W V (write ∷ writes) wider all = (wider write.place all.0, allowed_wider W V writes wider all.1)

runs_wider : (W V : ℕ → Type 0) (n : ℕ) (state after : State) → ((q : ℕ) → W q → V q) → Runs W n state after →
    Runs V n state after
runs_wider W V zero state after wider r = r
runs_wider W V (suc n) state after wider r =
    (r.0, r.1, r.2, allowed_wider W V r.0.writes wider r.3, runs_wider W V n (left state r.0) after wider r.4)

pub leads_wider : {W V : ℕ → Type 0} {n : ℕ} {state after : State} → ((q : ℕ) → W q → V q) → Leads W n state after →
    Leads V n state after
leads_wider {W = W} {V = V} {n = n} {state = state} {after = after} wider l =
    record { runs = runs_wider W V n state after wider l.runs }

-- a byte elsewhere stays
pub put_other : (at : ℕ → ℕ) (place byte q : ℕ) → (q ≡ place → ⊥) → put at place byte q ≡ at q
put_other at place byte q apart = chosen (nat_eq q place) refl where
  chosen : (z : Bool) → nat_eq q place ≡ z → put at place byte q ≡ at q
  chosen true e = absurd (apart (eqb-true q place e))
  chosen false e = rw e refl

pub put_same : (at : ℕ → ℕ) (place byte : ℕ) → put at place byte place ≡ byte
put_same at place byte = rw (eq-eqb place place refl) refl

put_all_other : (W : ℕ → Type 0) (at : ℕ → ℕ) (writes : List Write) (q : ℕ) → Allowed W writes → (W q → ⊥) →
    put_all at writes q ≡ at q
put_all_other W at [] q all out = refl
put_all_other W at (write ∷ writes) q all out =
    put_all_other W (put at write.place write.value) writes q all.1 out
    ∙ put_other at write.place write.value q (λ e. out (subst W (sym e) all.0))

-- a run changes allowed places only
runs_stay : (W : ℕ → Type 0) (n : ℕ) (state after : State) (q : ℕ) → Runs W n state after → (W q → ⊥) →
    after.at q ≡ state.at q
runs_stay W zero state after q r out = ap (λ s. s.at q) (sym r)
runs_stay W (suc n) state after q r out =
    runs_stay W n (left state r.0) after q r.4 out ∙ put_all_other W state.at r.0.writes q r.3 out

pub leads_stay : {W : ℕ → Type 0} {n : ℕ} {state after : State} → Leads W n state after → (q : ℕ) → (W q → ⊥) →
    after.at q ≡ state.at q
leads_stay {W = W} {n = n} {state = state} {after = after} l q out = runs_stay W n state after q l.runs out
