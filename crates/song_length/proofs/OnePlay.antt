-- One play more of a song.
use Rattle.std.proofs.Common.{◌≡◌, ℕ, suc, ◌+◌, ◌-◌, ◌<◌, ◌≤◌, ◌&&◌, Bool, true, false, min, nat_le, nat_lt, inl, inr}
use Rattle.std.proofs.Common.{Option, Some, None, if◌then◌else◌, refl, sym, ap, ◌∙◌, subst, arith}
use Rattle.std.proofs.lemmas.Bool.{cases_lt, leb-true, ltb-true, both_ways, lt-ltb, le-leb}
use Rattle.cpu6502.specs.declared.machine.Machine.{Machine}
use Rattle.cpu6502.specs.Call.{call_cycles}
use Rattle.cpu6502.proofs.Laws.{called_once}
use Rattle.sid_run.specs.State.{sid_registers}
use Rattle.song_length.specs.declared.counts.Counts.{Counts}
use Rattle.song_length.specs.declared.playing.Playing.{Playing}
use Rattle.song_length.specs.Coming.{IsAt, GoesOnTo, StaysOut}
use Rattle.song_length.specs.declared.counts.Dearest.{Dearest}
use Rattle.song_length.specs.Counts.{is_dearer, noted}
use Rattle.song_length.specs.Plays.{PlayTakes, Lead, PlayTold, Tells}
use Rattle.song_length.specs.Measured.{IsDearest}
use Rattle.song_length.proofs.Repeating.{one_machine}

module _ (play : ℕ) (first : Machine) (n : ℕ) (before : Machine) (steps : ℕ) (after : Machine)
    (led : Lead play n first before) (takes : PlayTakes play before steps after) where
  abbrev cost : ℕ
  cost = call_cycles before play before.cpu.a steps

  -- what the next play tells of its cycles
  pub told_cost : (told : PlayTold) → Tells play first n told → told.cycles ≡ cost
  told_cost told tells =
      let same = one_machine play n first tells.before before tells.led led in
      let there = subst (λ m. PlayTakes play m told.steps tells.after) same tells.takes in
      let one = called_once before play before.cpu.a told.steps steps tells.after after there.called takes.called in
      tells.cycles ∙ ap (λ m. call_cycles m play m.cpu.a told.steps) same
      ∙ ap (λ k. call_cycles before play before.cpu.a k) one

  own : PlayTold
  own = record { steps = steps; cycles = cost; registers = sid_registers after }

  own_tells : Tells play first n own
  unfolding own
  own_tells = record { before = before; after = after; led = led; takes = takes; cycles = refl; registers = refl }

  -- the dearest, where the next play is dearer
  dearer : (dearest : Option Dearest) → IsDearest play first n dearest → is_dearer dearest cost ≡ true →
      IsDearest play first (n + 1) (Some (record { cycles = cost; call = n + 1 }))
  unfolding own
  dearer dearest is more = (
    omega arith,
    omega arith,
    (own, subst (λ k. Tells play first k own) (sym (the n)) own_tells, refl),
    most dearest is more,
    less dearest is more,
  )
    where
      the : (k : ℕ) → k + 1 - 1 ≡ k
      the k = omega arith

      less : (old : Option Dearest) → IsDearest play first n old → is_dearer old cost ≡ true → (i : ℕ) (told : PlayTold) →
          i + 1 < n + 1 → Tells play first i told → told.cycles < cost
      less None none e i told few tells = absurd (omega (arith, none, few))
      less (Some old) was e i told few tells =
          let above = ltb-true old.cycles cost e in
          let within = was.3 i told (omega (arith, few)) tells in
          omega (arith, above, within)

      most : (old : Option Dearest) → IsDearest play first n old → is_dearer old cost ≡ true → (i : ℕ) (told : PlayTold) →
          i < n + 1 → Tells play first i told → told.cycles ≤ cost
      most old was e i told few tells = elim (cases_lt i n) [
        | inl below ↦ let under = less old was e i told (omega (arith, below)) tells in omega (arith, under)
        | inr here ↦
            let same : i ≡ n = omega (arith, few, here) in
            let own = told_cost told (subst (λ k. Tells play first k told) same tells) in
            omega (arith, own)
      ]

  -- and where it isn't
  no_dearer : (dearest : Option Dearest) → IsDearest play first n dearest → is_dearer dearest cost ≡ false →
      IsDearest play first (n + 1) dearest
  no_dearer None is e = cc (e)
  no_dearer (Some old) is e = (
    is.0,
    (let few = is.1 in omega (arith, few)),
    is.2,
    (λ i told few tells. elim (cases_lt i n) [
      | inl below ↦ is.3 i told below tells
      | inr here ↦
          let same : i ≡ n = omega (arith, few, here) in
          let own = told_cost told (subst (λ k. Tells play first k told) same tells) in
          let within = not_less old.cycles cost e in
          omega (arith, own, within)
    ]),
    is.4,
  )
    where
      not_less : (a b : ℕ) → nat_lt a b ≡ false → b ≤ a
      not_less a b e = elim (cases_lt a b) [
        | inl less ↦ absurd (both_ways (nat_lt a b) e (lt-ltb a b less))
        | inr more ↦ more
      ]

  -- so it is with what is counted
  dearest_noted : (counts : Counts) → counts.calls ≡ n →
      IsDearest play first (min n counts.limit) counts.dearest →
      IsDearest play first (min (n + 1) counts.limit) (noted counts cost).dearest
  dearest_noted counts is dearest = by_limit (nat_le (counts.calls + 1) counts.limit) refl
    where
      by_dearer : (z : Bool) → is_dearer counts.dearest cost ≡ z → IsDearest play first n counts.dearest →
          IsDearest play first (n + 1)
          (if z then Some (record { cycles = cost; call = counts.calls + 1 }) else counts.dearest)
      by_dearer true e was =
          subst (λ k. IsDearest play first (n + 1) (Some (record { cycles = cost; call = k + 1 }))) (sym is)
          (dearer counts.dearest was e)
      by_dearer false e was = no_dearer counts.dearest was e

      by_limit : (z : Bool) → nat_le (counts.calls + 1) counts.limit ≡ z →
          IsDearest play first (min (n + 1) counts.limit)
          (if z && is_dearer counts.dearest cost then Some (record { cycles = cost; call = counts.calls + 1 })
          else counts.dearest)
      by_limit true e =
          let within = leb-true (counts.calls + 1) counts.limit e in
          let now : min (n + 1) counts.limit ≡ n + 1 = omega (arith, within, is) in
          let at_first : min n counts.limit ≡ n = omega (arith, within, is) in
          subst (λ k. IsDearest play first k (if is_dearer counts.dearest cost
          then Some (record { cycles = cost; call = counts.calls + 1 }) else counts.dearest)) (sym now)
          (by_dearer (is_dearer counts.dearest cost) refl
          (subst (λ k. IsDearest play first k counts.dearest) at_first dearest))
      by_limit false e =
          let beyond = not_within (counts.calls + 1) counts.limit e in
          let same : min n counts.limit ≡ min (n + 1) counts.limit = omega (arith, beyond, is) in
          subst (λ k. IsDearest play first k counts.dearest) same dearest
        where
          not_within : (a b : ℕ) → nat_le a b ≡ false → b < a
          not_within a b e = elim (cases_lt b a) [
            | inl less ↦ less
            | inr more ↦ absurd (both_ways (nat_le a b) e (le-leb a b more))
          ]

-- one play more
pub at_next : (first : Machine) (old new : Playing) → IsAt first old →
    PlayTakes old.runner.play old.runner.machine new.runner.spent new.runner.machine →
    new.runner.play ≡ old.runner.play → new.runner.stopped ≡ None →
    new.counts ≡ noted old.counts
    (call_cycles old.runner.machine old.runner.play old.runner.machine.cpu.a new.runner.spent) → IsAt first new
at_next first old new at takes same running counted =
    let next : Lead old.runner.play (suc old.counts.calls) first new.runner.machine =
    (old.runner.machine, new.runner.spent, at.led, takes) in
    let calls : suc old.counts.calls ≡ new.counts.calls =
    the old.counts.calls ∙ sym (ap (λ (c : Counts). c.calls) counted) in
    let limit : new.counts.limit ≡ old.counts.limit = ap (λ (c : Counts). c.limit) counted in
    let dear = dearest_noted old.runner.play first old.counts.calls old.runner.machine new.runner.spent new.runner.machine
    at.led takes old.counts refl at.dearest in
    record {
      led =
          subst (λ p. Lead p new.counts.calls first new.runner.machine) (sym same)
          (subst (λ k. Lead old.runner.play k first new.runner.machine) calls next);
      running = running;
      dearest =
          subst (λ p. IsDearest p first (min new.counts.calls new.counts.limit) new.counts.dearest) (sym same)
          (subst (λ (c : Counts). IsDearest old.runner.play first (min c.calls c.limit) c.dearest) (sym counted) dear);
    }
  where
    the : (k : ℕ) → suc k ≡ k + 1
    the k = omega arith

-- ---- several plays

pub goes_more : (old mid new : Playing) (count : ℕ) → GoesOnTo old mid count →
    ((first : Machine) → IsAt first mid → IsAt first new) → new.counts.calls ≡ mid.counts.calls + 1 →
    new.counts.limit ≡ mid.counts.limit → new.runner.play ≡ mid.runner.play → new.runner.stopped ≡ None →
    GoesOnTo old new (count + 1)
goes_more old mid new count goes on calls limit address running = record {
  on = λ first at. on first (goes.on first at);
  calls = (let before = goes.calls in omega (arith, before, calls));
  limit = limit ∙ goes.limit;
  address = address ∙ goes.address;
  running = running;
}

pub out_more : (old new : Playing) (state : Machine) (count : ℕ) → StaysOut old state count →
    GoesOnTo old new (count + 1) → (new.runner.machine ≡ state → ⊥) → StaysOut old state (count + 1)
out_more old new state count out goes other first k at some few led = elim (cases_lt k (count + 1)) [
  | inl before ↦ out first k at some (omega (arith, before)) led
  | inr here ↦
      let there = goes.on first at in
      let same : old.counts.calls + k ≡ new.counts.calls =
      (let calls = goes.calls in omega (arith, calls, here, few)) in
      let moved = subst (λ n. Lead old.runner.play n first state) same led in
      let own = subst (λ p. Lead p new.counts.calls first new.runner.machine) goes.address there.led in
      other (one_machine old.runner.play new.counts.calls first new.runner.machine state own moved)
]
