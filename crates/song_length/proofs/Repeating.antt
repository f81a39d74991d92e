-- What comes behind a machine comes behind it again.
use Rattle.std.proofs.Common.{◌≡◌, ℕ, zero, suc, ◌+◌, ◌-◌, ◌<◌, ◌≤◌, ◌↔◌, Ok, inl, inr, refl, sym, ap, ◌∙◌, subst, arith}
use Rattle.std.proofs.lemmas.Bool.{cases_lt}
use Rattle.cpu6502.specs.declared.machine.Machine.{Machine}
use Rattle.cpu6502.specs.Call.{run, entered, call_cycles}
use Rattle.cpu6502.proofs.Laws.{called_once}
use Rattle.sid_run.specs.State.{sid_registers}
use Rattle.song_length.specs.Plays.{PlayTakes, Lead, PlayTold, Tells}
use Rattle.song_length.specs.Repeats.{Repeats, RepeatingSongsGoOn}

-- ---- plays lead to one machine

pub one_after : (play : ℕ) (before : Machine) (s t : ℕ) (one other : Machine) → PlayTakes play before s one →
    PlayTakes play before t other → one ≡ other
one_after play before s t one other p q =
    let same = called_once before play before.cpu.a s t one other p.called q.called in
    let both : Ok one ≡ Ok other =
    sym p.called.runs ∙ ap (λ n. run n (entered before play before.cpu.a)) same ∙ q.called.runs in
    cc (both)

pub one_machine : (play n : ℕ) (first one other : Machine) → Lead play n first one → Lead play n first other → one ≡ other
one_machine play zero first one other p q = p ∙ sym q
one_machine play (suc n) first one other p q =
    let same = one_machine play n first p.0 q.0 p.2 q.2 in
    one_after play q.0 p.1 q.1 one other (subst (λ m. PlayTakes play m p.1 one) same p.3) q.3

-- a sum that computes
abbrev add : ℕ → ℕ → ℕ
add zero n = n
add (suc m) n = suc (add m n)

add_is : (m n : ℕ) → add m n ≡ m + n
add_is zero n = omega arith
add_is (suc m) n = (let more = add_is m n in omega (arith, more))

-- plays behind others
plus : (play n m : ℕ) (first between last : Machine) → Lead play n first between → Lead play m between last →
    Lead play (add m n) first last
plus play n zero first between last p q = subst (λ x. Lead play n first x) (sym q) p
plus play n (suc m) first between last p q = (q.0, q.1, plus play n m first between q.0 p q.2, q.3)

-- and from a machine on the way
rest : (play n m : ℕ) (first between last : Machine) → Lead play n first between → Lead play (add m n) first last →
    Lead play m between last
rest play n zero first between last p q = one_machine play n first last between q p
rest play n (suc m) first between last p q = (q.0, q.1, rest play n m first between q.0 p q.2, q.3)

-- the machine on the way
on_way : (play n m : ℕ) (first last : Machine) → Lead play (add m n) first last → (between : Machine) × Lead play n first between
on_way play n zero first last led = (last, led)
on_way play n (suc m) first last led = on_way play n m first led.0 led.2

-- the same with sums
pub plus_by : (play n m k : ℕ) (first between last : Machine) → k ≡ m + n → Lead play n first between →
    Lead play m between last → Lead play k first last
plus_by play n m k first between last is p q =
    subst (λ j. Lead play j first last) (add_is m n ∙ sym is) (plus play n m first between last p q)

pub rest_by : (play n m k : ℕ) (first between last : Machine) → k ≡ m + n → Lead play n first between →
    Lead play k first last → Lead play m between last
rest_by play n m k first between last is p q =
    rest play n m first between last p (subst (λ j. Lead play j first last) (is ∙ sym (add_is m n)) q)

pub way_by : (play n m k : ℕ) (first last : Machine) → k ≡ m + n → Lead play k first last →
    (between : Machine) × Lead play n first between
way_by play n m k first last is led =
    on_way play n m first last (subst (λ j. Lead play j first last) (is ∙ sym (add_is m n)) led)

-- ---- what is told

told_of : (play : ℕ) (before : Machine) (steps : ℕ) (after : Machine) → PlayTold
told_of play before steps after = record {
  steps = steps;
  cycles = call_cycles before play before.cpu.a steps;
  registers = sid_registers after;
}

-- the next play tells something
tells_next : (play n : ℕ) (first last : Machine) → Lead play (suc n) first last → (told : PlayTold) × Tells play first n told
unfolding told_of
tells_next play n first last led = (
  told_of play led.0 led.1 last,
  record {
    before = led.0;
    after = last;
    led = led.2;
    takes = led.3;
    cycles = refl;
    registers = refl;
  },
)

-- from the same machine it tells the same
tells_same : (play n m : ℕ) (first machine : Machine) (told : PlayTold) → Lead play n first machine →
    Lead play m first machine → Tells play first n told → Tells play first m told
tells_same play n m first machine told one other tells =
    let same = one_machine play n first machine tells.before one tells.led in
    record {
      before = tells.before;
      after = tells.after;
      led = subst (λ x. Lead play m first x) same other;
      takes = tells.takes;
      cycles = tells.cycles;
      registers = tells.registers;
    }

-- ---- a song that repeats

module _ (play : ℕ) (first : Machine) (from length : ℕ) (r : Repeats play first from length) where
  -- behind the state that comes again
  pub shifted : (n : ℕ) (last : Machine) → from ≤ n → Lead play n first last → Lead play (n + length) first last
  shifted n last above led =
      plus_by play (from + length) (n - from) (n + length) first r.machine last (omega (arith, above)) r.again
      (rest_by play from (n - from) n first r.machine last (omega (arith, above)) r.here led)

  pub back : (n : ℕ) (last : Machine) → from ≤ n → Lead play (n + length) first last → Lead play n first last
  back n last above led =
      plus_by play from (n - from) n first r.machine last (omega (arith, above)) r.here
      (rest_by play (from + length) (n - from) (n + length) first r.machine last (omega (arith, above)) r.again led)

  -- so each number of plays leads somewhere: by as many turns as are at most the number
  leads_below : (n : ℕ) → n ≤ from + length → (last : Machine) × Lead play n first last
  leads_below n few =
      way_by play n (from + length - n) (from + length) first r.machine (omega (arith, few)) r.again

  pub leads : (turns n : ℕ) → n ≤ turns → (last : Machine) × Lead play n first last
  leads zero n few = leads_below n (omega (arith, few))
  leads (suc turns) n few = elim (cases_lt n (from + length)) [
    | inl below ↦ leads_below n (omega (arith, below))
    | inr above ↦
        let some = r.some in
        let before = leads turns (n - length) (omega (arith, few, some, above)) in
        let same : n - length + length ≡ n = omega (arith, above) in (
          before.0,
          subst (λ k. Lead play k first before.0) same
              (shifted (n - length) before.0 (omega (arith, above)) before.1),
        )
  ]

  returns : (n : ℕ) → (told : PlayTold) × Tells play first n told
  returns n = let next = leads (suc n) (suc n) (omega arith) in tells_next play n first next.0 next.1

  again : (n : ℕ) (told : PlayTold) → from ≤ n → Tells play first n told ↔ Tells play first (n + length) told
  again n told above = (
    (λ tells.
        tells_same play n (n + length) first tells.before told tells.led (shifted n tells.before above tells.led) tells),
    (λ tells.
        tells_same play (n + length) n first tells.before told tells.led (back n tells.before above tells.led) tells),
  )

  most_in : (cycles : ℕ) → ((n : ℕ) (told : PlayTold) → n < from + length → Tells play first n told →
      told.cycles ≤ cycles) → (turns n : ℕ) (told : PlayTold) → n ≤ turns → Tells play first n told → told.cycles ≤ cycles
  most_in cycles each zero n told few tells =
      let some = r.some in each n told (omega (arith, few, some)) tells
  most_in cycles each (suc turns) n told few tells = elim (cases_lt n (from + length)) [
    | inl below ↦ each n told below tells
    | inr above ↦
        let some = r.some in
        let same : n ≡ n - length + length = omega (arith, above) in
        let earlier = (again (n - length) told (omega (arith, above))).1
        (subst (λ k. Tells play first k told) same tells) in
        most_in cycles each turns (n - length) told (omega (arith, few, some, above)) earlier
  ]

pub repeating_songs_go_on : RepeatingSongsGoOn
repeating_songs_go_on play first from length r = record {
  returns = returns play first from length r;
  state = λ n machine above.
      (shifted play first from length r n machine above, back play first from length r n machine above);
  again = again play first from length r;
  most = λ cycles each n told tells. most_in play first from length r cycles each n n told (omega arith) tells;
}
