-- What is worked by hand.
use Rattle.std.proofs.Common.{◌≡◌, ℕ, zero, suc, ◌+◌, ◌<◌, ◌≤◌, List, [], ◌∷◌, Some, Result, Ok, Err, length, get_or}
use Rattle.std.proofs.Common.{slice_index}
use Rattle.std.proofs.Common.{refl, sym, ap, ◌∙◌, subst, arith}
use Rattle.cpu6502.specs.declared.machine.Machine.{Machine}
use Rattle.cpu6502.specs.declared.stop.Stop.{Stop}
use Rattle.cpu6502.specs.Call.{run, entered}
use Rattle.cpu6502.proofs.Laws.{called_once}
use Rattle.sid_run.specs.State.{sid_registers}
use Rattle.song_length.specs.Plays.{PlayTakes, Lead, PlayTold, Tells}
use Rattle.song_length.specs.Repeats.{Repeats}
use Rattle.song_length.specs.Measured.{AreCosts, IsDearest, IsFirstRepeat, NeverRepeats}
use Rattle.song_length.specs.WorkedSongs.{silent, silence, at_last, at_zero, at_one}
use Rattle.song_length.specs.WorkedSongs.{PlaysAreWorked, RepeatsAreWorked, DearestAreWorked, ToldAreWorked}
use Rattle.song_length.proofs.Repeating.{one_after, one_machine}
use Rattle.song_length.proofs.Answering.{told_once}

-- the number that a machine holds
abbrev number_of : Machine → ℕ
number_of machine = slice_index machine.memory 2

abbrev pc_of : Result Machine Stop → ℕ
pc_of (Ok m) = m.cpu.pc
pc_of (Err s) = 0

-- ---- a play that is RTS alone

silent_out : (k : ℕ) → k < 1 → pc_of (run k (entered silent 0x10 0)) ≡ 0 → ⊥
silent_out zero less e = cc (e)
silent_out (suc k) less e = omega (arith, less)

silent_returns : PlayTakes 0x10 silent 1 silent
silent_returns = record {
  called = record {
    runs = refl;
    returned = record { at_zero = refl; same_stack = refl };
    first = record { out = λ k between less runs back. silent_out k less (ap pc_of runs ∙ back.at_zero) };
  };
  within = omega arith;
}

silent_leads : (n : ℕ) → Lead 0x10 n silent silent
silent_leads zero = refl
silent_leads (suc n) = (silent, 1, silent_leads n, silent_returns)

-- ---- a play that counts

last_out : (k : ℕ) → k < 3 → pc_of (run k (entered at_last 0x10 0)) ≡ 0 → ⊥
last_out zero less e = cc (e)
last_out (suc zero) less e = cc (e)
last_out (suc (suc zero)) less e = cc (e)
last_out (suc (suc (suc k))) less e = omega (arith, less)

last_returns : PlayTakes 0x10 at_last 3 at_zero
last_returns = record {
  called = record {
    runs = refl;
    returned = record { at_zero = refl; same_stack = refl };
    first = record { out = λ k between less runs back. last_out k less (ap pc_of runs ∙ back.at_zero) };
  };
  within = omega arith;
}

zero_out : (k : ℕ) → k < 3 → pc_of (run k (entered at_zero 0x10 0)) ≡ 0 → ⊥
zero_out zero less e = cc (e)
zero_out (suc zero) less e = cc (e)
zero_out (suc (suc zero)) less e = cc (e)
zero_out (suc (suc (suc k))) less e = omega (arith, less)

zero_returns : PlayTakes 0x10 at_zero 3 at_one
zero_returns = record {
  called = record {
    runs = refl;
    returned = record { at_zero = refl; same_stack = refl };
    first = record { out = λ k between less runs back. zero_out k less (ap pc_of runs ∙ back.at_zero) };
  };
  within = omega arith;
}

to_zero : Lead 0x10 1 at_last at_zero
to_zero = (at_last, 3, refl, last_returns)

to_one : Lead 0x10 2 at_last at_one
to_one = (at_zero, 3, to_zero, zero_returns)

-- ---- plays

silent_tells : (n : ℕ) → Tells 0x10 silent n (silence 1 6)
silent_tells n = record {
  before = silent;
  after = silent;
  led = silent_leads n;
  takes = silent_returns;
  cycles = refl;
  registers = refl;
}

one_step : (steps : ℕ) (after : Machine) → PlayTakes 0x10 silent steps after → steps ≡ 1
one_step steps after p = called_once silent 0x10 0 steps 1 after silent p.called silent_returns.called

silent_after : (steps : ℕ) (after : Machine) → PlayTakes 0x10 silent steps after → after ≡ silent
silent_after steps after p = one_after 0x10 silent steps 1 after silent p silent_returns

told_takes : (told : PlayTold) (t : Tells 0x10 silent 0 told) → PlayTakes 0x10 silent told.steps t.after
told_takes told t = subst (λ m. PlayTakes 0x10 m told.steps t.after) t.led t.takes

pub plays_are_worked : PlaysAreWorked
plays_are_worked = record {
  returns = silent_returns;
  no_second_step = λ p. (let e = one_step 2 silent p in omega (arith, e));
  no_other_machine = λ p. (let e : 1 ≡ 0 = ap number_of (silent_after 1 at_one p) in omega (arith, e));
  first = last_returns;
  second = zero_returns;
  both = to_one;
  not_one = λ led.
      (let e : 1 ≡ 0 = ap number_of (one_machine 0x10 1 at_last at_one at_zero led to_zero) in omega (arith, e));
  told = silent_tells 0;
  always = silent_tells 1;
  no_other_cycles = λ t.
      (let e : 7 ≡ 6 = told_once 0x10 silent 0 (silence 1 7) (silence 1 6) t (silent_tells 0) in omega (arith, e));
  no_other_steps = λ t. (let e = one_step 2 t.after (told_takes (silence 2 6) t) in omega (arith, e));
  no_other_registers = λ t.
      let same = silent_after 1 t.after (told_takes (record (silence 1 6) { registers = 0 ∷ sid_registers silent }) t) in
      let e : suc (length (sid_registers silent)) ≡ length (sid_registers silent) =
      ap length (t.registers ∙ ap sid_registers same) in
      omega (arith, e);
}

-- ---- states that come again

silent_repeats : Repeats 0x10 silent 0 1
silent_repeats = record { some = omega arith; machine = silent; here = refl; again = silent_leads 1 }

none_in_two : NeverRepeats 0x10 at_last 2
none_in_two zero zero machine less few one other = omega (arith, less)
none_in_two zero (suc zero) machine less few one other =
    let e : 255 ≡ 0 = ap number_of (sym one ∙ one_machine 0x10 1 at_last machine at_zero other to_zero) in
    omega (arith, e)
none_in_two zero (suc (suc zero)) machine less few one other =
    let e : 255 ≡ 1 = ap number_of (sym one ∙ one_machine 0x10 2 at_last machine at_one other to_one) in
    omega (arith, e)
none_in_two zero (suc (suc (suc j))) machine less few one other = omega (arith, few)
none_in_two (suc zero) zero machine less few one other = omega (arith, less)
none_in_two (suc zero) (suc zero) machine less few one other = omega (arith, less)
none_in_two (suc zero) (suc (suc zero)) machine less few one other =
    let e : 0 ≡ 1 =
    ap number_of (one_machine 0x10 1 at_last at_zero machine to_zero one
    ∙ one_machine 0x10 2 at_last machine at_one other to_one) in
    omega (arith, e)
none_in_two (suc zero) (suc (suc (suc j))) machine less few one other = omega (arith, few)
none_in_two (suc (suc i)) j machine less few one other = omega (arith, less, few)

silent_first : IsFirstRepeat 0x10 silent 0 1
silent_first = record {
  repeats = silent_repeats;
  least = λ i j machine less one other. (omega arith, omega (arith, less));
}

pub repeats_are_worked : RepeatsAreWorked
repeats_are_worked = record {
  repeats = silent_repeats;
  not_after_none = λ r. (let some = r.some in omega (arith, some));
  at_once = silent_first;
  no_later = λ r.
      (let low = (r.least 0 1 silent (omega arith) refl (silent_leads 1)).0 in omega (arith, low));
  no_longer = λ r.
      (let high = (r.least 0 1 silent (omega arith) refl (silent_leads 1)).1 in omega (arith, high));
  none_in_none = λ i j machine less few one other. omega (arith, less, few);
  one_in_one = λ never. never 0 1 silent (omega arith) (omega arith) refl (silent_leads 1);
  counts = λ r.
      (let e : 255 ≡ 1 = ap number_of (sym r.here ∙ one_machine 0x10 2 at_last r.machine at_one r.again to_one) in
      omega (arith, e));
  none_in_two = none_in_two;
}

-- ---- dearest plays

abbrev told_zero : PlayTold
told_zero = record { steps = 3; cycles = 13; registers = sid_registers at_zero }

abbrev told_one : PlayTold
told_one = record { steps = 3; cycles = 14; registers = sid_registers at_one }

tells_zero : Tells 0x10 at_last 0 told_zero
tells_zero = record {
  before = at_last;
  after = at_zero;
  led = refl;
  takes = last_returns;
  cycles = refl;
  registers = refl;
}

tells_one : Tells 0x10 at_last 1 told_one
tells_one = record {
  before = at_zero;
  after = at_one;
  led = to_zero;
  takes = zero_returns;
  cycles = refl;
  registers = refl;
}

silent_six : (i : ℕ) (told : PlayTold) → Tells 0x10 silent i told → told.cycles ≡ 6
silent_six i told tells = told_once 0x10 silent i told (silence 1 6) tells (silent_tells i)

most_of : (i : ℕ) (told : PlayTold) → i < 2 → Tells 0x10 at_last i told → told.cycles ≤ 14
most_of zero told few tells =
    (let e : told.cycles ≡ 13 = told_once 0x10 at_last 0 told told_zero tells tells_zero in omega (arith, e))
most_of (suc zero) told few tells =
    (let e : told.cycles ≡ 14 = told_once 0x10 at_last 1 told told_one tells tells_one in omega (arith, e))
most_of (suc (suc i)) told few tells = omega (arith, few)

less_of : (i : ℕ) (told : PlayTold) → i + 1 < 2 → Tells 0x10 at_last i told → told.cycles < 14
less_of zero told few tells =
    (let e : told.cycles ≡ 13 = told_once 0x10 at_last 0 told told_zero tells tells_zero in omega (arith, e))
less_of (suc i) told few tells = omega (arith, few)

pub dearest_are_worked : DearestAreWorked
dearest_are_worked = record {
  first = (
    omega arith,
    omega arith,
    (silence 1 6, silent_tells 0, refl),
    (λ i told few tells. (let e = silent_six i told tells in omega (arith, e))),
    (λ i told few tells. omega (arith, few)),
  );
  no_equal = λ d. (let less : 6 < 6 = d.4 0 (silence 1 6) (omega arith) (silent_tells 0) in omega (arith, less));
  no_init = λ d. (let some = d.0 in omega (arith, some));
  no_other_cycles = λ d.
      (let e : d.2.0.cycles ≡ 6 = silent_six 0 d.2.0 d.2.1 in
      let other = d.2.2 in
      omega (arith, e, other));
  not_none = λ d. omega (arith, d);
  none_of_none = refl;
  second = (omega arith, omega arith, (told_one, tells_one, refl), most_of, less_of);
  no_cheaper = λ d. (let most : 14 ≤ 13 = d.3 1 told_one (omega arith) tells_one in omega (arith, most));
  not_of_one = λ d. (let within = d.1 in omega (arith, within));
}

-- ---- what is told

silent_dearest : IsDearest 0x10 silent 1 (Some (record { cycles = 6; call = 1 }))
silent_dearest = (
  omega arith,
  omega arith,
  (silence 1 6, silent_tells 0, refl),
  (λ i told few tells. (let e = silent_six i told tells in omega (arith, e))),
  (λ i told few tells. omega (arith, few)),
)

costs_of : (i : ℕ) → i < 2 → (told : PlayTold) × Tells 0x10 at_last i told × (get_or (13 ∷ 14 ∷ []) i 0 ≡ told.cycles)
costs_of zero few = (told_zero, tells_zero, refl)
costs_of (suc zero) few = (told_one, tells_one, refl)
costs_of (suc (suc i)) few = absurd (omega (arith, few))

-- the first play takes 13
first_cost : (cycles : List ℕ) → AreCosts 0x10 at_last 2 cycles → get_or cycles 0 0 ≡ 13
first_cost cycles are =
    let its = are.each 0 (omega arith) in
    its.2 ∙ told_once 0x10 at_last 0 its.0 told_zero its.1 tells_zero

pub told_are_worked : ToldAreWorked
told_are_worked = record {
  repeats = (omega arith, silent_first, silent_dearest);
  not_in_none = λ told. (let few = told.0 in omega (arith, few));
  not_unrepeated = λ told. told.1 0 1 silent (omega arith) (omega arith) refl (silent_leads 1);
  no_other_dearest = λ told.
      (let e : told.2.2.0.cycles ≡ 6 = silent_six 0 told.2.2.0 told.2.2.1 in
      let other = told.2.2.2 in
      omega (arith, e, other));
  unrepeated = ((at_one, to_one), none_in_two, (omega arith, omega arith, (told_one, tells_one, refl), most_of, less_of));
  costs = record { as_many = refl; each = costs_of };
  no_steps = λ are. (let e : 3 ≡ 13 = first_cost (3 ∷ 3 ∷ []) are in omega (arith, e));
  in_order = λ are. (let e : 14 ≡ 13 = first_cost (14 ∷ 13 ∷ []) are in omega (arith, e));
  not_fewer = λ are. (let e : 1 ≡ 2 = are.as_many in omega (arith, e));
  not_more = λ are. (let e : 3 ≡ 2 = are.as_many in omega (arith, e));
}
