-- What a call leaves as it was.
use Rattle.std.proofs.Common.{◌≡◌, ◌≢◌, ℕ, zero, suc, ◌+◌, ◌≤◌, ◌⊎◌, List, [], ◌∷◌}
use Rattle.std.proofs.Common.{◌++◌, All, Result, Ok, Err, inl, inr, refl, sym, ap, ◌∙◌, subst, arith}
use Rattle.std.specs.Prelude.{slice_index, slice_set}
use Rattle.std.proofs.lemmas.List.{get_or-set_other}
use Rattle.std.proofs.lemmas.List.Elements.{All-nil, All-cons, All-head, All-tail}
use Rattle.cpu6502.specs.declared.effect.Write.{Write}
use Rattle.cpu6502.specs.declared.effect.Effect.{Effect}
use Rattle.cpu6502.specs.declared.machine.Machine.{Machine}
use Rattle.cpu6502.specs.declared.machine.TheConstants.{RETURN_BYTE}
use Rattle.cpu6502.specs.declared.stop.Stop.{Stop}
use Rattle.cpu6502.specs.Registers.{stack_place}
use Rattle.cpu6502.specs.Step.{written, changed, next_effect}
use Rattle.cpu6502.specs.Call.{run, return_address, entered, writes_in}
use Rattle.scope_calls.specs.Listed.{Listed, InListing, IsCode, IsWellEntered, MayStore, AsBlock, AsCall}
use Rattle.scope_calls.specs.EntranceLaws.{Returns, IsApart, OthersStay, ListingsStay, CodeStays, CodeIsShared}
use Rattle.scope_calls.proofs.Places.{lines_in_listing}
use Rattle.scope_calls.proofs.Whole.{code_carried, code_above}

-- the two lists of which all are so, where all of both are
front_all : (P : Write → Type 0) (xs ys : List Write) → All P (xs ++ ys) → All P xs
front_all P [] ys all = All-nil P
front_all P (x ∷ xs) ys all =
    All-cons P x xs (All-head P x (xs ++ ys) all) (front_all P xs ys (All-tail P x (xs ++ ys) all))

back_all : (P : Write → Type 0) (xs ys : List Write) → All P (xs ++ ys) → All P ys
back_all P [] ys all = all
back_all P (x ∷ xs) ys all = back_all P xs ys (All-tail P x (xs ++ ys) all)

-- writes leave a byte at which none of them is
written_stays : (W : ℕ → Type 0) (memory : List ℕ) (writes : List Write) (q : ℕ) →
    All (λ (write : Write). W write.place) writes → (W q → ⊥) →
    slice_index (written memory writes) q ≡ slice_index memory q
written_stays W memory [] q all out = refl
written_stays W memory (write ∷ writes) q all out =
    written_stays W (slice_set memory write.place write.value) writes q
    (All-tail (λ (write : Write). W write.place) write writes all) out
    ∙ get_or-set_other memory write.place q write.value 0
    (λ e. out (subst W (sym e) (All-head (λ (write : Write). W write.place) write writes all)))

-- so does a step, and what comes after it
first_then : (W : ℕ → Type 0) (n : ℕ) (m after : Machine) (q : ℕ) (done : Result Effect Stop) →
    next_effect m ≡ done → run (suc n) m ≡ Ok after → All (λ (write : Write). W write.place) (writes_in (suc n) m) → (W q → ⊥) →
    ((next : Machine) → run n next ≡ Ok after → All (λ (write : Write). W write.place) (writes_in n next) →
    slice_index after.memory q ≡ slice_index next.memory q) → slice_index after.memory q ≡ slice_index m.memory q
first_then W n m after q (Ok done) e r all out rest =
    let P : Write → Type 0 = λ write. W write.place in
    let next = changed m done in
    let r' : run n next ≡ Ok after = rw e at r in
    let all' : All P (done.writes ++ writes_in n next) = rw e at all in
    rest next r' (back_all P done.writes (writes_in n next) all')
    ∙ written_stays W m.memory done.writes q (front_all P done.writes (writes_in n next) all') out
first_then W n m after q (Err stop) e r all out rest =
    let r' : Err stop ≡ Ok after = rw e at r in
    absurd (cc)

-- so do steps
pub run_stays : (W : ℕ → Type 0) (n : ℕ) (m after : Machine) (q : ℕ) → run n m ≡ Ok after →
    All (λ (write : Write). W write.place) (writes_in n m) → (W q → ⊥) →
    slice_index after.memory q ≡ slice_index m.memory q
run_stays W zero m after q r all out =
    let same : m ≡ after = cc in
    ap (λ (b : Machine). slice_index b.memory q) (sym same)
run_stays W (suc n) m after q r all out =
    first_then W n m after q (next_effect m) refl r all out (λ next rest more. run_stays W n next after q rest more out)

-- the pushes of a call leave each other byte
pub entered_same : (machine : Machine) (address a q : ℕ) → q ≢ stack_place machine.cpu.sp →
    q ≢ stack_place (machine.cpu.sp + 255) →
    slice_index (entered machine address a).memory q ≡ slice_index machine.memory q
entered_same machine address a q first second =
    let W : ℕ → Type 0 = λ p. (p ≡ stack_place machine.cpu.sp) ⊎ (p ≡ stack_place (machine.cpu.sp + 255)) in
    let P : Write → Type 0 = λ write. W write.place in
    let upper : Write = record { place = stack_place machine.cpu.sp; value = RETURN_BYTE } in
    let lower : Write = record { place = stack_place (machine.cpu.sp + 255); value = RETURN_BYTE } in
    written_stays W machine.memory (return_address machine.cpu.sp) q
    (All-cons P upper (lower ∷ []) (inl refl) (All-cons P lower [] (inr refl) (All-nil P)))
    (λ at. neither at) where
      neither : (q ≡ stack_place machine.cpu.sp) ⊎ (q ≡ stack_place (machine.cpu.sp + 255)) → ⊥
      neither (inl e) = first e
      neither (inr e) = second e

-- ---- laws

pub others_stay : OthersStay
others_stay e machine number r place unwritten first second =
    run_stays (MayStore e machine.cpu.sp) r.steps (entered machine e.entry number) r.after place r.called.runs r.writes
    unwritten
    ∙ entered_same machine e.entry number place first second

above_stack : (sp place : ℕ) → 0x0800 ≤ place → place ≢ stack_place sp
above_stack sp place from e = omega (arith, from, e)

-- a call doesn't write a byte above the stack that is apart
apart_unwritten : (e : Listed) (sp place : ℕ) → 0x0800 ≤ place → IsApart e place → MayStore e sp place → ⊥
apart_unwritten e sp place from apart (AsBlock may) = apart may
apart_unwritten e sp place from apart (AsCall block voice (inl is)) = above_stack (sp + 254) place from is
apart_unwritten e sp place from apart (AsCall block voice (inr is)) = above_stack (sp + 253) place from is

apart_stays : (e : Listed) (machine : Machine) (number : ℕ) → (r : Returns e machine number) → (place : ℕ) →
    0x0800 ≤ place → IsApart e place → slice_index r.after.memory place ≡ slice_index machine.memory place
apart_stays e machine number r place from apart =
    others_stay e machine number r place (apart_unwritten e machine.cpu.sp place from apart)
    (above_stack machine.cpu.sp place from) (above_stack (machine.cpu.sp + 255) place from)

pub listings_stay : ListingsStay
listings_stay e machine number well r place within apart =
    apart_stays e machine number r place (omega (arith, well.begins, within.0)) apart

pub code_stays : CodeStays
code_stays e other machine number well well' r apart has =
    code_carried other (slice_index machine.memory) (slice_index r.after.memory) well'
    (record {
      same = λ place is. apart_stays e machine number r place (code_above other place well' is)
          (apart place is);
    })
    has

-- the code is in the listing
code_listed : (e : Listed) (place : ℕ) → IsWellEntered e → IsCode e place → InListing e place
code_listed e place well (inl at) =
    (omega (arith, well.jump_begins, at.0), omega (arith, well.jump_ends, at.1))
code_listed e place well (inr at) =
    (let within = lines_in_listing e in (omega (arith, at.0), omega (arith, within, at.1)))

pub code_is_shared : CodeIsShared
code_is_shared e one two well agree has =
    code_carried e (slice_index one.memory) (slice_index two.memory) well
    (record { same = λ place is. sym (agree.at place (code_listed e place well is)) }) has
