-- Where the code of lines stands, what is around them, and what single lines do.
use Rattle.std.proofs.Common.{◌≡◌, ◌≢◌, ℕ, ◌+◌, ◌-◌, ◌%◌, ◌<◌, ◌≤◌, ◌⊎◌, true}
use Rattle.std.proofs.Common.{false, nat_eq, nat_lt}
use Rattle.std.proofs.Common.{Option, Some, None, inl, inr, refl, sym, ap, ◌∙◌, arith, ◌||◌, Bool, if◌then◌else◌}
use Rattle.std.proofs.lemmas.Bool.{lt-ltb, le-ltb, or_left, or_right}
use Rattle.cpu6502.specs.declared.mnemonic.Mnemonic.{Mnemonic}
use Rattle.cpu6502.specs.declared.mnemonic.Mnemonic.TheVariants.{Jmp}
use Rattle.cpu6502.specs.declared.mnemonic.Mode.{Mode}
use Rattle.cpu6502.specs.declared.mnemonic.Mode.TheVariants.{Absolute, Relative}
use Rattle.cpu6502.specs.Opcodes.{length_of}
use Rattle.cpu6502.specs.Effects.{displacement}
use Rattle.code_runs.specs.Runs.{State, Leads}
use Rattle.code_runs.specs.Code.{Stands, SameFrom}
use Rattle.code_runs.specs.Calls.{In}
use Rattle.code_runs.proofs.Laws.{goes_once, Works, works, jump_steps, branch_steps, stands_stay, leads_stay, ends_at}
use Rattle.code_runs.proofs.Laws.{Lasts, lasts_to}
use Rattle.scopes.specs.declared.line.Test.{Test}
use Rattle.scopes.specs.Desk.{Desk, Layout}
use Rattle.scopes.specs.declared.line.Operand.{Operand}
use Rattle.scopes.specs.declared.line.Operand.TheVariants.{Number, Var, Own, Entry, Pointed, Pointer, Register}
use Rattle.scopes.specs.declared.line.Operand.TheVariants.{OwnRegister, Timer}
use Rattle.scopes.specs.declared.line.Half.TheVariants.{Low, High}
use Rattle.scopes.specs.Steps.{may_change}
use Rattle.scopes.specs.Meaning.{Outcome, Done, Left, Again, Stuck, Ran, is_met, stepped, behind}
use Rattle.scope_lines.specs.Instructions.{branch_of}
use Rattle.scope_lines.specs.Lines.{Around, forwards, backwards}
use Rattle.scope_lines.specs.Reach.{Reach}
use Rattle.scope_lines.specs.Lowered.{writes_at, spot}
use Rattle.scope_lines.specs.Cycles.{test_cycles, leave_cycles}
use Rattle.scope_lines.proofs.Stepping.{IsLaid}
use Rattle.scope_lines.proofs.Timing.{taken_is, jump_lasts, branch_lasts}
use Rattle.scope_lines.proofs.Nearing.{IsNear}

-- ---- where the code stands

-- the code's memory, its first byte, where it begins and ends; where it is written nothing else is
pub record Ground : Type 0 where
  pub layout : Layout
  pub code : ℕ → ℕ
  pub start : ℕ
  pub low : ℕ
  pub high : ℕ
  pub laid : IsLaid layout
  pub away : 0 < low
  pub ends : high < 65536
  pub apart : (place : ℕ) → writes_at layout place ≡ true → (place < low) ⊎ (high ≤ place)

-- a memory that has the code
abbrev pub HasCode : Ground → (ℕ → ℕ) → Type 0
HasCode g at = SameFrom g.low g.high g.code at

-- what is around the lines is where it says: the label is the start, and scopes end in the code
pub record IsAround (g : Ground) (around : Around) (reach : Reach) (place end : ℕ) : Type 0 where
  pub label : g.layout.address around.label ≡ g.start
  pub pointer : around.pointer ≡ g.layout.pointer
  pub holds : around.holds ≡ g.layout.holds
  pub near : IsNear around reach place end
  pub inside : (name far : ℕ) → reach.ends name ≡ Some far → g.start + around.ends name ≤ g.high

-- where an outcome comes to
abbrev pub target : Around → ℕ → Outcome → ℕ
target around end Done = end
target around end (Left name) = around.ends name
target around end Again = around.head
target around end Stuck = 0

-- in so many cycles
pub record Comes (g : Ground) (around : Around) (place end : ℕ) (desk : Desk) (r : Ran) (cycles : ℕ) : Type 0 where
  pub lasts : Lasts (In (writes_at g.layout)) r.cost cycles (spot (g.start + place) desk)
      (spot (g.start + target around end r.outcome) r.desk)

-- the code stays where nothing writes into it
pub kept : (g : Ground) (n : ℕ) (state after : State) → HasCode g state.at →
    Leads (In (writes_at g.layout)) n state after →
    HasCode g after.at
kept g n state after has l = record {
  same = λ q low high.
      leads_stay l q
      (λ w.
      elim (g.apart q w) [
        | inl before ↦ omega (arith, low, before)
        | inr behind ↦ omega (arith, high, behind)
      ])
      ∙ has.same q low high;
}

-- one instruction stands as it does in the code
pub stands_here : (g : Ground) (at : ℕ → ℕ) (pc operand : ℕ) (mnemonic : Mnemonic) (mode : Mode) → HasCode g at →
    g.low ≤ pc →
    pc + length_of mode ≤ g.high → Stands g.code pc mnemonic mode operand → Stands at pc mnemonic mode operand
stands_here g at pc operand mnemonic mode has low high s =
    let ends = g.ends in
    stands_stay g.code at pc g.high operand mnemonic mode high (omega arith)
    (record { same = λ q l h. has.same q (omega arith) h }) s

-- ---- single lines

small : (n : ℕ) → n < 65536 → n % 65536 ≡ n
small n h = omega arith

-- an instruction
pub step_comes : (g : Ground) (around : Around) (place bytes cycles : ℕ) (desk : Desk) (result : Option Desk) →
    (stepped result desk 1).outcome ≢ Stuck →
    ((after : Desk) → result ≡ Some after →
    Lasts (In (writes_at g.layout)) 1 cycles (spot (g.start + place) desk) (spot (g.start + place + bytes) after)) →
    Comes g around place (place + bytes) desk (stepped result desk 1) cycles
step_comes g around place bytes cycles desk None runs lasts = absurd (runs refl)
step_comes g around place bytes cycles desk (Some after) runs lasts =
    let same : g.start + place + bytes ≡ g.start + (place + bytes) = omega arith in
    record { lasts = lasts_to (ap (λ n. spot n after) same) (lasts after refl) }

-- a jump
pub jumps : (g : Ground) (at : ℕ → ℕ) (desk : Desk) (place label to : ℕ) → HasCode g desk.at → g.low ≤ g.start + place →
    g.start + (place + 3) ≤ g.high → g.layout.address label ≡ g.start → g.start + to < 65536 →
    Stands g.code (g.start + place) Jmp Absolute ((g.layout.address label + to) % 65536) →
    Lasts (In (writes_at g.layout)) 1 leave_cycles (spot (g.start + place) desk) (spot (g.start + to) desk)
jumps g at desk place label to has low high is fits s =
    let ends = g.ends in
    let away = g.away in
    let goal : (g.layout.address label + to) % 65536 ≡ g.start + to = rw is (small (g.start + to) fits) in
    let here = stands_here g desk.at (g.start + place) _ Jmp Absolute has low (omega arith) s in
    jump_lasts desk (g.start + place) _ (g.start + to) here
    (goes_once
    (jump_steps.jmp
    (works (g.start + to) (g.start + place + 3) here refl goal (small (g.start + place + 3) (omega arith))
    (omega arith))))

-- a branch, taken or passed
pub branches : (g : Ground) (desk : Desk) (place to displaced : ℕ) (test : Test) → HasCode g desk.at →
    g.low ≤ g.start + place → g.start + (place + 2) ≤ g.high →
    (g.start + place + 2 + displacement displaced) % 65536 ≡ g.start + to →
    Stands g.code (g.start + place) (branch_of test) Relative ((g.start + place + 2 + displacement displaced) % 65536) →
    Lasts (In (writes_at g.layout)) 1
    (test_cycles (is_met test desk) (g.start + (place + 2)) (g.start + to)) (spot (g.start + place) desk)
    (spot (g.start + (if is_met test desk then to else place + 2)) desk)
branches g desk place to displaced test has low high goal s =
    let ends = g.ends in
    let away = g.away in
    let here = stands_here g desk.at (g.start + place) _ (branch_of test) Relative has low (omega arith) s in
    let next : (g.start + place + 2) % 65536 ≡ g.start + (place + 2) = omega arith in
    let w = works (g.start + to) (g.start + (place + 2)) here refl goal next (omega arith) in
    branch_lasts desk (g.start + place) (g.start + (place + 2)) _ (g.start + to)
    (g.start + (if is_met test desk then to else place + 2)) test here next goal (by_test w (is_met test desk) refl)
  where
    by_test : Works (spot (g.start + place) desk) (branch_of test) (g.start + to) (g.start + (place + 2)) → (z : Bool) →
        is_met test desk ≡ z →
        Leads (In (writes_at g.layout)) 1 (spot (g.start + place) desk)
        (spot (g.start + (if is_met test desk then to else place + 2)) desk)
    by_test w true met =
        ends_at (ap (λ z. spot (g.start + (if z then to else place + 2)) desk) (sym met))
        (goes_once (branch_steps.taken w (taken_is test (g.start + place) desk ∙ ap Some met)))
    by_test w false unmet =
        ends_at (ap (λ z. spot (g.start + (if z then to else place + 2)) desk) (sym unmet))
        (goes_once (branch_steps.passed w (taken_is test (g.start + place) desk ∙ ap Some unmet)))

-- displacements
pub forwards_goes : (start place to : ℕ) → place + 2 ≤ to → to ≤ place + 2 + 127 → start + to < 65536 →
    (start + place + 2 + displacement (forwards place to)) % 65536 ≡ start + to
forwards_goes start place to low high fits =
    let less : nat_lt (to - (place + 2)) 128 ≡ true = lt-ltb _ _ (omega arith) in
    rw less (omega arith)

pub backwards_goes : (start place to : ℕ) → to ≤ place → place ≤ to + 126 → start + place + 2 < 65536 →
    (start + place + 2 + displacement (backwards place to)) % 65536 ≡ start + to
backwards_goes start place to low high fits =
    let more : nat_lt (254 + to - place) 128 ≡ false = le-ltb _ _ (omega arith) in
    rw more (omega arith)

-- ---- where instructions write

pub own_writes : (layout : Layout) (place : ℕ) → layout.may_write place ≡ true → writes_at layout place ≡ true
own_writes layout place e =
    or_left (layout.may_write place || nat_eq place layout.pointer) (nat_eq place (layout.pointer + 1))
    (or_left (layout.may_write place) (nat_eq place layout.pointer) e)

pub change_writes : (layout : Layout) (operand : Operand) (place : ℕ) → may_change layout operand place ≡ true →
    writes_at layout place ≡ true
change_writes layout (Pointer Low) place e =
    or_left (layout.may_write place || nat_eq place layout.pointer) (nat_eq place (layout.pointer + 1))
    (or_right (layout.may_write place) (nat_eq place layout.pointer) e)
change_writes layout (Pointer High) place e =
    or_right (layout.may_write place || nat_eq place layout.pointer) (nat_eq place (layout.pointer + 1)) e
change_writes layout (Number number) place e = own_writes layout place e
change_writes layout (Var label) place e = own_writes layout place e
change_writes layout (Own label) place e = own_writes layout place e
change_writes layout (Entry label) place e = own_writes layout place e
change_writes layout Pointed place e = own_writes layout place e
change_writes layout (Register register) place e = own_writes layout place e
change_writes layout (OwnRegister register) place e = own_writes layout place e
change_writes layout (Timer half) place e = own_writes layout place e
