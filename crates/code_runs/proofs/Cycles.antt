-- The clock cycles of runs: of one step, and of two runs one behind the other.
use Rattle.std.proofs.Common.{◌≡◌, ◌≢◌, ℕ, zero, suc, ◌+◌, ◌%◌, Option, Some, None, Ok, refl, sym, ap, ◌∙◌, subst, arith}
use Rattle.std.specs.Option.{option_map}
use Rattle.cpu6502.specs.declared.cpu.Cpu.{Cpu}
use Rattle.cpu6502.specs.declared.effect.Effect.{Effect}
use Rattle.cpu6502.specs.declared.memory.TheConstants.{MEMORY_SIZE}
use Rattle.cpu6502.specs.declared.mnemonic.Mnemonic.{Mnemonic}
use Rattle.cpu6502.specs.declared.mnemonic.Mode.{Mode}
use Rattle.cpu6502.specs.declared.stop.Stop.{Stop}
use Rattle.cpu6502.specs.declared.table.Row.{Row}
use Rattle.cpu6502.specs.Opcodes.{Meaning, row_of, meaning_in, meaning_of}
use Rattle.cpu6502.specs.Branches.{is_taken}
use Rattle.cpu6502.specs.Effects.{address_of, effect, stop_of}
use Rattle.cpu6502.specs.Cycles.{index_cycles, branch_cycles, unless_stopped, row_cycles, cycles_by, cycles}
use Rattle.cpu6502.specs.Manual.{cycles_of}
use Rattle.cpu6502.proofs.Laws.{has_row, rows_have_these_cycles, effects_take_cycles}
use Rattle.code_runs.specs.Runs.{State, left, Runs, Leads, cycles_behind, cycles_from, Lasts}
use Rattle.code_runs.specs.Code.{operand_at, Stands}
use Rattle.code_runs.specs.Cycles.{unindexed, standing_cycles, StepsTakeCycles, CyclesAdd}
use Rattle.code_runs.proofs.Modes.{address_is}
use Rattle.code_runs.proofs.Moves.{stay, leads_on, ends_at, leads_wider}

-- ---- one step

-- the row of an instruction that is decoded
record HasRow (opcode : ℕ) (mnemonic : Mnemonic) (mode : Mode) : Type 0 where
  row : Row
  is : row_of opcode ≡ Some row
  mnemonic_is : row.mnemonic ≡ mnemonic
  mode_is : row.mode ≡ mode

same_pair : (one other : Meaning) → Some one ≡ Some other → one ≡ other
same_pair one other e = cc

decoded_row : (opcode : ℕ) (mnemonic : Mnemonic) (mode : Mode) → meaning_of opcode ≡ Some (mnemonic, mode) →
    HasRow opcode mnemonic mode
decoded_row opcode mnemonic mode e = by_row (row_of opcode) refl
  where
    by_row : (r : Option Row) → row_of opcode ≡ r → HasRow opcode mnemonic mode
    by_row None is = (let no : None ≡ Some (mnemonic, mode) = sym (ap (option_map meaning_in) is) ∙ e in absurd (cc))
    by_row (Some row) is =
        let same =
        same_pair (row.mnemonic, row.mode) (mnemonic, mode) (sym (ap (option_map meaning_in) is) ∙ e) in
        record { row = row; is = is; mnemonic_is = ap (λ (m : Meaning). m.0) same; mode_is = ap (λ (m : Meaning). m.1) same }

-- its cycles, where it has an effect
standing_row : (at : ℕ → ℕ) (cpu : Cpu) (row : Row) (operand : ℕ) → row_of (at cpu.pc) ≡ Some row →
    operand_at row.mode at cpu.pc ≡ operand → cycles at cpu ≢ 0 →
    cycles at cpu ≡ standing_cycles row.mnemonic row.mode operand (record { cpu = cpu; at = at })
standing_row at cpu row operand is holds some = ap (λ r. cycles_by r at cpu) is ∙ by_stop (stop_of row.mnemonic cpu.pc cpu) refl
  where
    own : ℕ
    own =
        cycles_of row.mnemonic row.mode
        + index_cycles row.mnemonic row.mode (address_of row.mode at cpu.pc 0 0)
        (address_of row.mode at cpu.pc cpu.x cpu.y)
        + branch_cycles (is_taken row.mnemonic cpu) ((cpu.pc + 2) % MEMORY_SIZE)
        (address_of row.mode at cpu.pc cpu.x cpu.y)

    by_place : (p q : ℕ) → address_of row.mode at cpu.pc 0 0 ≡ p → address_of row.mode at cpu.pc cpu.x cpu.y ≡ q →
        own
        ≡ cycles_of row.mnemonic row.mode + index_cycles row.mnemonic row.mode p q
        + branch_cycles (is_taken row.mnemonic cpu) ((cpu.pc + 2) % MEMORY_SIZE) q
    by_place p q e f = rw (e, f) refl

    by_stop : (s : Option Stop) → stop_of row.mnemonic cpu.pc cpu ≡ s →
        unless_stopped (stop_of row.mnemonic cpu.pc cpu) (row_cycles row at cpu)
        ≡ standing_cycles row.mnemonic row.mode operand (record { cpu = cpu; at = at })
    by_stop None free =
        ap (λ s. unless_stopped s (row_cycles row at cpu)) free
        ∙ (ap (λ n. n
        + index_cycles row.mnemonic row.mode (address_of row.mode at cpu.pc 0 0)
        (address_of row.mode at cpu.pc cpu.x cpu.y)
        + branch_cycles (is_taken row.mnemonic cpu) ((cpu.pc + 2) % MEMORY_SIZE)
        (address_of row.mode at cpu.pc cpu.x cpu.y)) (rows_have_these_cycles (at cpu.pc) row is)
        ∙ by_place _ _ (address_is at (unindexed cpu) row.mode operand holds) (address_is at cpu row.mode operand holds))
    by_stop (Some stop) stops =
        absurd (some (ap (λ r. cycles_by r at cpu) is ∙ ap (λ s. unless_stopped s (row_cycles row at cpu)) stops))

standing_takes : (at : ℕ → ℕ) (cpu : Cpu) (mnemonic : Mnemonic) (mode : Mode) (operand : ℕ) (done : Effect) →
    Stands at cpu.pc mnemonic mode operand → effect at cpu ≡ Ok done →
    cycles at cpu ≡ standing_cycles mnemonic mode operand (record { cpu = cpu; at = at })
standing_takes at cpu mnemonic mode operand done s e =
    let here = decoded_row (at cpu.pc) mnemonic mode s.decoded in
    let some = (effects_take_cycles at cpu (has_row (at cpu.pc) here.row here.is)).1 (done, e) in
    let own =
    standing_row at cpu here.row operand here.is
    (subst (λ m. operand_at m at cpu.pc ≡ operand) (sym here.mode_is) s.operand_is) some in
    subst (λ m. cycles at cpu ≡ standing_cycles mnemonic m operand (record { cpu = cpu; at = at })) here.mode_is
    (subst (λ n. cycles at cpu ≡ standing_cycles n here.row.mode operand (record { cpu = cpu; at = at }))
    here.mnemonic_is own)

one_step : (state : State) (done : Effect) → effect state.at state.cpu ≡ Ok done →
    cycles_from 1 state ≡ cycles state.at state.cpu
one_step state done e =
    ap (λ r. cycles state.at state.cpu + cycles_behind r (λ d. cycles_from 0 (left state d))) e ∙ none
  where
    none : cycles state.at state.cpu + 0 ≡ cycles state.at state.cpu
    none = omega arith

pub step_takes : {W : ℕ → Type 0} {state after : State} {mnemonic : Mnemonic} {mode : Mode} {operand : ℕ} →
    Stands state.at state.cpu.pc mnemonic mode operand → Leads W 1 state after →
    cycles_from 1 state ≡ standing_cycles mnemonic mode operand state
step_takes {state = state} {mnemonic = mnemonic} {mode = mode} {operand = operand} s l =
    let r = l.runs in
    one_step state r.0 r.1 ∙ standing_takes state.at state.cpu mnemonic mode operand r.0 s r.1

pub steps_take_cycles : StepsTakeCycles
steps_take_cycles places state after mnemonic mode operand s l = step_takes s l

-- ---- one run behind another

runs_add : (W : ℕ → Type 0) (n more : ℕ) (state between : State) → Runs W n state between →
    cycles_from (n + more) state ≡ cycles_from n state + cycles_from more between
runs_add W zero more state between r =
    let z : 0 + more ≡ more = omega arith in
    let y : 0 + cycles_from more between ≡ cycles_from more between = omega arith in
    rw z (ap (cycles_from more) r ∙ sym y)
runs_add W (suc n) more state between r =
    let z : suc n + more ≡ suc (n + more) = omega arith in
    let first = cycles state.at state.cpu in
    let rest = runs_add W n more (left state r.0) between r.4 in
    let all : cycles_from (suc (n + more)) state ≡ first + cycles_from (n + more) (left state r.0) =
    ap (λ e. first + cycles_behind e (λ d. cycles_from (n + more) (left state d))) r.1 in
    let some : cycles_from (suc n) state ≡ first + cycles_from n (left state r.0) =
    ap (λ e. first + cycles_behind e (λ d. cycles_from n (left state d))) r.1 in
    rw z (all ∙ omega (arith, rest, some))

pub cycles_on : {W : ℕ → Type 0} {n : ℕ} {state between : State} (more : ℕ) → Leads W n state between →
    cycles_from (n + more) state ≡ cycles_from n state + cycles_from more between
cycles_on {W = W} {n = n} {state = state} {between = between} more l = runs_add W n more state between l.runs

pub cycles_add : CyclesAdd
cycles_add places n more state between l = cycles_on more l

-- runs that last
pub lasts_none : {W : ℕ → Type 0} (state : State) → Lasts W 0 0 state state
lasts_none state = record { leads = stay state; takes = refl }

pub lasts_on : {W : ℕ → Type 0} {n k c d : ℕ} {state between after : State} → Lasts W n c state between →
    Lasts W k d between after → Lasts W (n + k) (c + d) state after
lasts_on {k = k} {c = c} {between = between} l m = record {
  leads = leads_on l.leads m.leads;
  takes = cycles_on k l.leads ∙ (ap (λ x. x + cycles_from k between) l.takes ∙ ap (λ y. c + y) m.takes);
}

pub lasts_to : {W : ℕ → Type 0} {n c : ℕ} {state after end : State} → after ≡ end → Lasts W n c state after →
    Lasts W n c state end
lasts_to e l = record { leads = ends_at e l.leads; takes = l.takes }

pub lasts_as : {W : ℕ → Type 0} {n c d : ℕ} {state after : State} → c ≡ d → Lasts W n c state after →
    Lasts W n d state after
lasts_as e l = record { leads = l.leads; takes = l.takes ∙ e }

pub lasts_wider : {W V : ℕ → Type 0} {n c : ℕ} {state after : State} → ((q : ℕ) → W q → V q) →
    Lasts W n c state after → Lasts V n c state after
lasts_wider wider l = record { leads = leads_wider wider l.leads; takes = l.takes }

pub lasts_in : {W : ℕ → Type 0} {n k c : ℕ} {state after : State} → n ≡ k → Lasts W n c state after →
    Lasts W k c state after
lasts_in {W = W} {c = c} {state = state} {after = after} e l = subst (λ j. Lasts W j c state after) e l

-- an instruction that stands there
pub lasts_once : {W : ℕ → Type 0} {state after : State} {mnemonic : Mnemonic} {mode : Mode} {operand : ℕ} →
    Stands state.at state.cpu.pc mnemonic mode operand → Leads W 1 state after →
    Lasts W 1 (standing_cycles mnemonic mode operand state) state after
lasts_once s l = record { leads = l; takes = step_takes s l }
