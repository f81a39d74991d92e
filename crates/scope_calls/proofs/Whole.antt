-- Calls of entrances return.
use Rattle.std.proofs.Common.{◌≡◌, ℕ, ◌+◌, ◌%◌, ◌<◌, ◌≤◌, length, inl, inr, refl, sym}
use Rattle.std.proofs.Common.{◌∙◌, subst, arith}
use Rattle.std.proofs.lemmas.Bool.{and_parts}
use Rattle.std.specs.Prelude.{slice_index}
use Rattle.cpu6502.specs.declared.machine.Machine.{Machine}
use Rattle.cpu6502.specs.declared.memory.TheConstants.{MEMORY_SIZE}
use Rattle.cpu6502.specs.declared.mnemonic.Mnemonic.TheVariants.{Jmp}
use Rattle.cpu6502.specs.declared.mnemonic.Mode.TheVariants.{Absolute}
use Rattle.cpu6502.specs.Registers.{stack_place}
use Rattle.cpu6502.specs.Manual.{cycles_of}
use Rattle.cpu6502.specs.Call.{entered}
use Rattle.code_runs.specs.Runs.{view}
use Rattle.code_runs.specs.Code.{Stands}
use Rattle.code_runs.proofs.Laws.{goes_once, call_returns, entry_pulls, entry_kept, works}
use Rattle.code_runs.proofs.Laws.{Lasts, lasts_once, lasts_on, lasts_in}
use Rattle.code_runs.proofs.Laws.{jump_steps, stands_stay}
use Rattle.asm6502.specs.Lines.{kept, size_of}
use Rattle.asm6502.specs.Standing.{LinesAt}
use Rattle.scopes.specs.Desk.{Desk}
use Rattle.scopes.specs.Meaning.{Done}
use Rattle.scope_lines.specs.Reach.{nothing_around, has_lines}
use Rattle.scope_lines.specs.Lowered.{spot}
use Rattle.scope_calls.specs.Entrances.{entrance_lines, voice_has_lines}
use Rattle.scope_calls.specs.Listed.{Listed, low_at, layout_at, HasCode, IsCode, IsWellEntered, entrance_desk, meant}
use Rattle.scope_calls.specs.Listed.{MayStore, AsBlock, AsCall}
use Rattle.scope_calls.specs.Cycles.{entrance_cycles, meant_cycles}
use Rattle.scope_calls.specs.EntranceLaws.{EntrancesReturn}
use Rattle.scope_calls.proofs.Sizing.{parts_stand}
use Rattle.scope_calls.proofs.Places.{bounds_of, ground_of, code_stands, store_below, store_outside, block_off_stack}
use Rattle.scope_calls.proofs.Places.{return_unwritten}
use Rattle.scope_calls.proofs.Calling.{Call, Ends, entrance_ends}

-- ---- the code in memories that have the same bytes of it

pub record SameCode (e : Listed) (at at' : ℕ → ℕ) : Type 0 where
  pub same : (place : ℕ) → IsCode e place → at' place ≡ at place

pub code_carried : (e : Listed) (at at' : ℕ → ℕ) → IsWellEntered e → SameCode e at at' → HasCode e at → HasCode e at'
code_carried e at at' well code has =
    let bounds = bounds_of e well in
    let front = size_of (kept e.set e.front) in
    record {
      jump = stands_stay at at' e.entry (e.entry + 3) (low_at e) Jmp Absolute (omega arith)
          (omega (arith, bounds.entry_high)) (record { same = λ q from to. code.same q (inl (from, to)) }) has.jump;
      bytes = record {
        byte = λ k few.
            code.same (e.origin + (front + k)) (inr (within e.origin front k few)) ∙ has.bytes.byte k few;
      };
    }
  where
    within : (origin front k : ℕ) {size : ℕ} → k < size →
        (origin + front ≤ origin + (front + k)) × (origin + (front + k) < origin + front + size)
    within origin front k few = (omega arith, omega (arith, few))

-- the code is above the stack
pub code_above : (e : Listed) (place : ℕ) → IsWellEntered e → IsCode e place → 0x0800 ≤ place
code_above e place well (inl at) = (let bounds = bounds_of e well in omega (arith, bounds.entry_low, at.0))
code_above e place well (inr at) = (let bounds = bounds_of e well in omega (arith, bounds.low, at.0))

pub code_entered : (e : Listed) (machine : Machine) (number : ℕ) → IsWellEntered e →
    length machine.memory ≡ MEMORY_SIZE → HasCode e (slice_index machine.memory) →
    HasCode e (slice_index (entered machine e.entry number).memory)
code_entered e machine number well size has =
    code_carried e (slice_index machine.memory) (slice_index (entered machine e.entry number).memory) well
    (record { same = λ place is. entry_kept machine place size (above (code_above e place well is)) }) has
  where
    above : {n : ℕ} → 0x0800 ≤ n → 512 ≤ n
    above h = omega arith

-- ---- a call

-- the jump leads to the first line
jump_lasts : (e : Listed) (at : ℕ → ℕ) (desk : Desk) {W : ℕ → Type 0} → IsWellEntered e → HasCode e at → desk.at ≡ at →
    Lasts W 1 (cycles_of Jmp Absolute) (spot e.entry desk) (spot ((layout_at e).address e.entrance.label) desk)
jump_lasts e at desk well has is =
    let bounds = bounds_of e well in
    let s : Stands desk.at e.entry Jmp Absolute (low_at e) = rw is has.jump in
    lasts_once s
    (goes_once
    (jump_steps.jmp
    (works ((layout_at e).address e.entrance.label) (e.entry + 3) s refl (sym well.named)
    (fits e.entry bounds.entry_high) (omega (arith, bounds.entry_low)))))
  where
    fits : (n : ℕ) → n + 3 ≤ 0xD000 → (n + 3) % 65536 ≡ n + 3
    fits n h = omega arith

-- what is behind it, on its ground
call_of : (e : Listed) (at : ℕ → ℕ) (sp : ℕ) (well : IsWellEntered e) → HasCode e at →
    Call e.entrance (ground_of e at well) (MayStore e sp) ((sp + 254) % 256)
call_of e at sp well has =
    let lines = and_parts (has_lines nothing_around e.entrance.first) (voice_has_lines e.entrance.voice) well.lines in
    let named = well.named in
    record {
      inside = record { blocks = λ place may. AsBlock may; apart = λ place may. store_outside e sp place well may };
      off = record { off = λ n may. block_off_stack e n well may };
      labelled = refl;
      pointed = refl;
      held = refl;
      has_first = lines.0;
      has_voice = lines.1;
      low = omega (arith, named);
      high = omega (arith, named);
      parts = parts_stand e.entrance (layout_at e).address at ((layout_at e).address e.entrance.label)
          (subst (λ p. LinesAt (layout_at e).address at p (entrance_lines e.entrance)) (sym named)
          (code_stands e at well has));
      may_call = λ block is. (AsCall block is (inl (upper sp)), AsCall block is (inr (lower sp)));
      few = less sp;
    }
  where
    upper : (sp : ℕ) → stack_place ((sp + 254) % 256) ≡ stack_place (sp + 254)
    upper sp = omega arith

    lower : (sp : ℕ) → stack_place ((sp + 254) % 256 + 255) ≡ stack_place (sp + 253)
    lower sp = omega arith

    less : (sp : ℕ) → (sp + 254) % 256 < 256
    less sp = omega arith

-- where the return address of the call is
low_place : (sp : ℕ) → stack_place ((sp + 254) % 256 + 1) ≡ stack_place (sp + 255)
low_place sp = omega arith

high_place : (sp : ℕ) → stack_place ((sp + 254) % 256 + 2) ≡ stack_place sp
high_place sp = omega arith

again : (sp : ℕ) → sp < 256 → ((sp + 254) % 256 + 2) % 256 ≡ sp
again sp few = omega (arith, few)

call_ends : (e : Listed) (machine : Machine) (number : ℕ) (well : IsWellEntered e) →
    length machine.memory ≡ MEMORY_SIZE → HasCode e (slice_index (entered machine e.entry number).memory) →
    (meant e machine number).outcome ≡ Done →
    Ends (ground_of e (slice_index (entered machine e.entry number).memory) well) (MayStore e machine.cpu.sp)
    (entrance_desk e machine number) (meant e machine number)
    (entrance_cycles (layout_at e) e.entrance (entrance_desk e machine number))
call_ends e machine number well size has done =
    let sp = machine.cpu.sp in
    let unwritten = return_unwritten e sp well in
    entrance_ends e.entrance (ground_of e (slice_index (entered machine e.entry number).memory) well)
    (entrance_desk e machine number)
    (call_of e (slice_index (entered machine e.entry number).memory) sp well has) (record { same = λ q low high. refl })
    (entry_pulls machine size) (λ may. unwritten.1 (subst (MayStore e sp) (low_place sp) may))
    (λ may. unwritten.0 (subst (MayStore e sp) (high_place sp) may)) done refl

pub entrances_return : EntrancesReturn
entrances_return e machine number well size few has done =
    let code = code_entered e machine number well size has in
    let ends = call_ends e machine number well size code done in
    let r = meant e machine number in
    let way : Lasts (MayStore e machine.cpu.sp) (r.cost + 1) (meant_cycles e machine number)
    (view (entered machine e.entry number)) (spot 0 r.desk) =
    lasts_in (one_more r.cost)
    (lasts_on
    (jump_lasts e (slice_index (entered machine e.entry number).memory) (entrance_desk e machine number) well code refl)
    ends.lasts) in
    let calls =
    call_returns (MayStore e machine.cpu.sp) (record { below = λ q may. store_below e machine.cpu.sp q well may })
    machine
    e.entry number (r.cost + 1) (spot 0 r.desk) size way.leads refl (ends.sp ∙ again machine.cpu.sp few) in
    record {
      steps = r.cost + 1;
      after = calls.after;
      called = calls.called;
      seen = calls.seen;
      steps_are = refl;
      cycles_are = calls.takes ∙ way.takes;
      writes = calls.inside;
      size = calls.size;
    }
  where
    one_more : (n : ℕ) → 1 + n ≡ n + 1
    one_more n = omega arith
