-- The first place where a state comes again, and the fewest plays after which it does.
use Rattle.std.proofs.Common.{◌≡◌, ℕ, zero, suc, ◌+◌, ◌-◌, ◌<◌, ◌≤◌, inl, inr, subst, arith}
use Rattle.std.proofs.lemmas.Bool.{cases_lt}
use Rattle.cpu6502.specs.declared.machine.Machine.{Machine}
use Rattle.song_length.specs.Plays.{Lead}
use Rattle.song_length.specs.Repeats.{Repeats}
use Rattle.song_length.specs.Measured.{IsFirstRepeat}
use Rattle.song_length.proofs.Repeating.{one_machine, shifted, leads}

-- so many times a number
times : ℕ → ℕ → ℕ
times zero length = 0
times (suc count) length = times count length + length

times_reach : (count length : ℕ) → 1 ≤ length → count ≤ times count length
unfolding times
times_reach zero length some = omega arith
times_reach (suc count) length some = (let more = times_reach count length some in omega (arith, more, some))

module _ (play : ℕ) (first : Machine) where
  -- the state after some plays comes again after any number of turns
  many : (from length : ℕ) → Repeats play first from length → (count n : ℕ) (machine : Machine) → from ≤ n →
      Lead play n first machine → Lead play (n + times count length) first machine
  unfolding times
  many from length r zero n machine above led =
      subst (λ k. Lead play k first machine) (the n) led
    where
      the : (k : ℕ) → k ≡ k + 0
      the k = omega arith
  many from length r (suc count) n machine above led =
      let more = many from length r count n machine above led in
      let further : from ≤ n + times count length = omega (arith, above) in
      subst (λ k. Lead play k first machine) (the n (times count length) length)
      (shifted play first from length r (n + times count length) machine further more)
    where
      the : (a b c : ℕ) → a + b + c ≡ a + (b + c)
      the a b c = omega arith

  -- and came before as often
  many_back : (from length : ℕ) → Repeats play first from length → (count n : ℕ) (machine : Machine) → from ≤ n →
      Lead play (n + times count length) first machine → Lead play n first machine
  many_back from length r count n machine above led =
      let here = leads play first from length r n n (omega arith) in
      let there = many from length r count n here.0 above here.1 in
      let same = one_machine play (n + times count length) first here.0 machine there led in
      subst (λ m. Lead play n first m) same here.1

  -- two places with one state
  module _ (i j : ℕ) (machine : Machine) (less : i < j) (one : Lead play i first machine) (other : Lead play j first machine)
    where
      pub between : Repeats play first i (j - i)
      between = record {
        some = omega (arith, less);
        machine = machine;
        here = one;
        again = subst (λ k. Lead play k first machine) (the i j less) other;
      }
        where
          the : (a b : ℕ) → a < b → b ≡ a + (b - a)
          the a b few = omega (arith, few)

      -- a state that comes again after the fewest plays from some place on comes again no sooner here
      pub no_sooner : (place length : ℕ) → Repeats play first place length →
          ((k : ℕ) (m : Machine) → 1 ≤ k → k < length → Lead play place first m → ¬ Lead play (place + k) first m) →
          i + length ≤ j
      no_sooner place length r least = elim (cases_lt (j - i) length) [
        | inr enough ↦ omega (arith, enough, less)
        | inl few ↦
            let some = r.some in
            let far = times_reach i length some in
            -- the state at the place, so far on that it is behind the first of the two
            let on = many place length r i place r.machine (omega arith) r.here in
            let beyond : i ≤ place + times i length = omega (arith, far) in
            let again = shifted play first i (j - i) between (place + times i length) r.machine beyond on in
            let moved : Lead play (place + (j - i) + times i length) first r.machine =
            subst (λ k. Lead play k first r.machine) (the place (times i length) (j - i)) again in
            let here = many_back place length r i (place + (j - i)) r.machine (omega arith) moved in
            absurd (least (j - i) r.machine (omega (arith, less)) few r.here here)
      ]
        where
          the : (a b c : ℕ) → a + b + c ≡ a + c + b
          the a b c = omega arith

      -- and where it comes again after so many plays somewhere, it does here
      pub comes_here : (place length : ℕ) → Repeats play first place length → Lead play (i + length) first machine
      comes_here place length r =
          let far = times_reach place (j - i) (omega (arith, less)) in
          let on = many i (j - i) between place i machine (omega arith) one in
          let beyond : place ≤ i + times place (j - i) = omega (arith, far) in
          let again = shifted play first place length r (i + times place (j - i)) machine beyond on in
          let moved : Lead play (i + length + times place (j - i)) first machine =
          subst (λ k. Lead play k first machine) (the i (times place (j - i)) length) again in
          many_back i (j - i) between place (i + length) machine (omega arith) moved
        where
          the : (a b c : ℕ) → a + b + c ≡ a + c + b
          the a b c = omega arith

  -- so the least of each is found apart
  pub first_repeat : (from length place : ℕ) → Repeats play first place length →
      ((k : ℕ) (m : Machine) → 1 ≤ k → k < length → Lead play place first m → ¬ Lead play (place + k) first m) →
      Repeats play first from length →
      ((i : ℕ) (m : Machine) → i < from → Lead play i first m → ¬ Lead play (i + length) first m) →
      IsFirstRepeat play first from length
  first_repeat from length place r fewest at earliest = record {
    repeats = at;
    least = λ i j machine less one other. (
      (elim (cases_lt i from) [
        | inl before ↦
            absurd (earliest i machine before one (comes_here i j machine less one other place length r))
        | inr behind ↦ behind
      ]),
      no_sooner i j machine less one other place length r fewest,
    );
  }
