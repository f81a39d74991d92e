-- From runs on a function memory to the machine and its calls.
use Rattle.std.proofs.Common.{◌≡◌, ℕ, zero, suc, ◌+◌, ◌<◌, Bool, true, false, List, [], ◌∷◌}
use Rattle.std.proofs.Common.{◌++◌, All, Ok, length, nat_eq, refl, sym, ap, ◌∙◌, subst, arith, length-set}
use Rattle.std.specs.Prelude.{slice_index, slice_set}
use Rattle.std.proofs.lemmas.Bool.{eqb-true, eq-eqb, false≢true}
use Rattle.std.proofs.lemmas.List.{get_or-set_other, get_or-set_same}
use Rattle.std.proofs.lemmas.List.Elements.{All-nil, All-cons, All-append}
use mathlib.Core.Path.{fun_ext}
use Rattle.cpu6502.specs.declared.effect.Write.{Write}
use Rattle.cpu6502.specs.declared.effect.Effect.{Effect}
use Rattle.cpu6502.specs.declared.machine.Machine.{Machine}
use Rattle.cpu6502.specs.declared.memory.TheConstants.{MEMORY_SIZE}
use Rattle.cpu6502.specs.Effects.{stack_place}
use Rattle.cpu6502.specs.Step.{written, changed, stepped, next_effect, next_cycles, step}
use Rattle.cpu6502.specs.Call.{after_step, run, return_address, entered, writes_in, cycles_after, cycles_in}
use Rattle.code_runs.specs.Runs.{State, view, put, put_all, left, Allowed, Runs, Leads, cycles_behind, cycles_from}
use Rattle.code_runs.specs.Calls.{IsBelow, Arrives, CallsTo}

-- a byte written to the list is a byte put to the function
slice_set_byte : (memory : List ℕ) (place byte q : ℕ) → place < length memory →
    slice_index (slice_set memory place byte) q ≡ put (slice_index memory) place byte q
slice_set_byte memory place byte q within = chosen (nat_eq q place) refl where
  chosen : (z : Bool) → nat_eq q place ≡ z →
      slice_index (slice_set memory place byte) q ≡ put (slice_index memory) place byte q
  chosen true e =
      let same = eqb-true q place e in
      rw e (subst (λ p. slice_index (slice_set memory place byte) p ≡ byte) (sym same)
      (get_or-set_same memory place byte 0 within))
  chosen false e = rw e (get_or-set_other memory place q byte 0 (λ same. false≢true (sym e ∙ eq-eqb q place same)))

pub slice_set_view : (memory : List ℕ) (place byte : ℕ) → place < length memory →
    slice_index (slice_set memory place byte) ≡ put (slice_index memory) place byte
slice_set_view memory place byte within = fun_ext (λ q. slice_set_byte memory place byte q within)

-- the same of a list of writes
pub length-written : (memory : List ℕ) (writes : List Write) → length (written memory writes) ≡ length memory
length-written memory [] = refl
length-written memory (write ∷ writes) =
    length-written (slice_set memory write.place write.value) writes ∙ length-set memory write.place write.value

pub written_view : (W : ℕ → Type 0) (below : (q : ℕ) → W q → q < MEMORY_SIZE) (memory : List ℕ) (writes : List Write) →
    length memory ≡ MEMORY_SIZE → Allowed W writes →
    slice_index (written memory writes) ≡ put_all (slice_index memory) writes
written_view W below memory [] size all = refl
written_view W below memory (write ∷ writes) size all =
    let within : write.place < length memory = omega (arith, below write.place all.0) in
    let size' : length (slice_set memory write.place write.value) ≡ MEMORY_SIZE =
    length-set memory write.place write.value ∙ size in
    written_view W below (slice_set memory write.place write.value) writes size' all.1
    ∙ ap (λ at. put_all at writes) (slice_set_view memory write.place write.value within)

-- the writes of a step are inside
all_allowed : (W : ℕ → Type 0) (writes : List Write) → Allowed W writes →
    All (λ (write : Write). W write.place) writes
all_allowed W [] all = All-nil (λ (write : Write). W write.place)
all_allowed W (write ∷ writes) all =
    All-cons (λ (write : Write). W write.place) write writes all.0 (all_allowed W writes all.1)

-- the first of the steps, and the way of the others
one_on : (W : ℕ → Type 0) (n : ℕ) (m m1 : Machine) (done : Effect) (end : State) → next_effect m ≡ Ok done →
    m1 ≡ changed m done → view m1 ≡ left (view m) done → 0 < m.cpu.pc → Allowed W done.writes → Arrives W n m1 end →
    Arrives W (suc n) m end
one_on W n m m1 done end e is seen away allowed rest = record {
  after = rest.after;
  runs = rw first rest.runs;
  seen = rest.seen;
  size = rest.size;
  away = later;
  inside = subst (All (λ (write : Write). W write.place)) (sym writes)
      (All-append (λ (write : Write). W write.place) done.writes (writes_in n m1) (all_allowed W done.writes allowed)
      rest.inside);
  takes = ap (λ r. next_cycles m + cycles_after r (cycles_in n)) first
      ∙ (ap (λ c. next_cycles m + c) (rest.takes ∙ ap (cycles_from n) seen)
      ∙ sym (ap (λ r. next_cycles m + cycles_behind r (λ d. cycles_from n (left (view m) d))) e));
} where
  first : step m ≡ Ok m1
  first = ap (stepped m) e ∙ ap Ok (sym is)

  writes : writes_in (suc n) m ≡ done.writes ++ writes_in n m1
  writes = rw (first, e) refl

  later : (k : ℕ) (between : Machine) → k < suc n → run k m ≡ Ok between → 0 < between.cpu.pc
  later zero between lt r =
      let same : m ≡ between = cc in
      subst (λ (b : Machine). 0 < b.cpu.pc) same away
  later (suc k) between lt r =
      let r' : after_step (Ok m1) (run k) ≡ Ok between = rw first at r in
      rest.away k between (omega arith) r'

follow : (W : ℕ → Type 0) → IsBelow W → (n : ℕ) (m : Machine) (end : State) → length m.memory ≡ MEMORY_SIZE →
    Runs W n (view m) end → Arrives W n m end
follow W below zero m end size r = record {
  after = m;
  runs = refl;
  seen = r;
  size = size;
  away = λ k between lt e. absurd (omega arith);
  inside = All-nil (λ (write : Write). W write.place);
  takes = refl;
}
follow W below (suc n) m end size r =
    let m1 = changed m r.0 in
    let seen : view m1 ≡ left (view m) r.0 =
    ap (λ (at : ℕ → ℕ). record { cpu = r.0.cpu; at = at })
    (written_view W below.below m.memory r.0.writes size r.3) in
    let size' = length-written m.memory r.0.writes ∙ size in
    one_on W n m m1 r.0 end r.1 refl seen r.2 r.3 (follow W below n m1 end size'
    (subst (λ s. Runs W n s end) (sym seen) r.4))

pub machines_follow : (W : ℕ → Type 0) → IsBelow W → (n : ℕ) (m : Machine) (end : State) →
    length m.memory ≡ MEMORY_SIZE → Leads W n (view m) end → Arrives W n m end
machines_follow W below n m end size leads = follow W below n m end size leads.runs

-- a run from the entry to the return is a call
pub call_returns : (W : ℕ → Type 0) → IsBelow W → (m : Machine) (address a n : ℕ) (end : State) →
    length m.memory ≡ MEMORY_SIZE → Leads W n (view (entered m address a)) end → end.cpu.pc ≡ 0 →
    end.cpu.sp ≡ m.cpu.sp → CallsTo W m address a n end
call_returns W below m address a n end size leads at_zero same_stack =
    let there = machines_follow W below n (entered m address a) end
    (length-written m.memory (return_address m.cpu.sp) ∙ size) leads in
    record {
      after = there.after;
      called = record {
        runs = there.runs;
        returned = record {
          at_zero = ap (λ s. s.cpu.pc) there.seen ∙ at_zero;
          same_stack = ap (λ s. s.cpu.sp) there.seen ∙ same_stack;
        };
        first = record {
          out = λ k between lt e back. away_not_back between.cpu.pc (there.away k between lt e)
              back.at_zero;
        };
      };
      seen = there.seen;
      size = there.size;
      inside = there.inside;
      takes = there.takes;
    } where
      away_not_back : (pc : ℕ) → 0 < pc → pc ≡ 0 → ⊥
      away_not_back pc away e = omega arith

-- the memory of a call as it begins
pub entered_view : (m : Machine) → length m.memory ≡ MEMORY_SIZE →
    slice_index (written m.memory (return_address m.cpu.sp)) ≡ put_all (slice_index m.memory)
    (return_address m.cpu.sp)
entered_view m size =
    written_view (λ q. q < MEMORY_SIZE) (λ q lt. lt) m.memory (return_address m.cpu.sp) size
    (stack_below m.cpu.sp, (stack_below (m.cpu.sp + 255), tt)) where
      stack_below : (sp : ℕ) → stack_place sp < MEMORY_SIZE
      stack_below sp = omega arith
