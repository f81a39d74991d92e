-- How many clock cycles one instruction takes where it stands.
use Rattle.std.proofs.Common.{◌≡◌, ℕ, ◌+◌, ◌*◌, ◌%◌, ◌<◌, ◌≤◌, Bool, true, false, Some}
use Rattle.std.proofs.Common.{refl, sym, ap, ◌∙◌, arith}
use Rattle.std.proofs.lemmas.Bool.{false≢true}
use Rattle.cpu6502.specs.declared.mnemonic.Mnemonic.{Mnemonic}
use Rattle.cpu6502.specs.declared.mnemonic.Mode.{Mode}
use Rattle.cpu6502.specs.declared.mnemonic.Mode.TheVariants.{Absolute, Relative}
use Rattle.cpu6502.specs.declared.mnemonic.Mnemonic.TheVariants.{Jmp}
use Rattle.cpu6502.specs.Branches.{is_taken}
use Rattle.cpu6502.specs.Cycles.{is_paged, index_cycles, branch_cycles}
use Rattle.cpu6502.specs.Manual.{read_cycles, cycles_of}
use Rattle.code_runs.specs.Runs.{Leads}
use Rattle.code_runs.specs.Code.{place_of, Stands}
use Rattle.code_runs.specs.Cycles.{unindexed, standing_cycles}
use Rattle.code_runs.proofs.Laws.{Lasts, lasts_as, lasts_once}
use Rattle.asm6502.specs.Operands.{number_of}
use Rattle.scopes.specs.declared.line.Operand.{Operand}
use Rattle.scopes.specs.declared.line.Operand.TheVariants.{Number, Var, Own, Entry, Pointed, Pointer, Register}
use Rattle.scopes.specs.declared.line.Operand.TheVariants.{OwnRegister, Timer}
use Rattle.scopes.specs.declared.line.Test.{Test}
use Rattle.scopes.specs.declared.line.Test.TheVariants.{On, Off}
use Rattle.scopes.specs.declared.line.Flag.TheVariants.{Zero, Minus, Carry}
use Rattle.scopes.specs.Desk.{Desk, Layout, operand_place}
use Rattle.scopes.specs.Meaning.{is_met}
use Rattle.scope_lines.specs.Instructions.{mode_of, argument_of, alone_mode, is_spelled, branch_of}
use Rattle.scope_lines.specs.Lowered.{spot}
use Rattle.scope_lines.specs.Cycles.{with_cycles, test_cycles, leave_cycles}
use Rattle.scope_lines.proofs.Plain.{plain_is_no_branch, alone_unpaged}
use Rattle.scope_lines.proofs.Stepping.{IsLaid, spelled_plain}

-- ---- pages

no_more : (n : ℕ) → n + 0 ≡ n
no_more n = omega arith

-- an instruction that has no index crosses none
unpaged_takes : (mnemonic : Mnemonic) (mode : Mode) (from to : ℕ) → is_paged mode ≡ false →
    index_cycles mnemonic mode from to ≡ 0
unpaged_takes mnemonic mode from to none = rw none refl

-- ---- with an operand

-- the place of its byte, where that has an index
place_is : (layout : Layout) (operand : Operand) (desk : Desk) (pc : ℕ) → IsLaid layout →
    is_paged (mode_of operand) ≡ true →
    place_of (mode_of operand)
    (number_of layout.address pc (mode_of operand) (argument_of layout.pointer operand)) desk.at
    (record desk.cpu { pc = pc })
    ≡ operand_place layout operand desk
place_is layout (Own label) desk pc laid paged =
    ap (λ n. (n + desk.cpu.x) % 65536) (below (layout.address label) (laid.labels label))
  where
    below : (n : ℕ) → n < 65536 → (n + 0) % 65536 ≡ n
    below n h = omega arith
place_is layout (Entry label) desk pc laid paged =
    ap (λ n. (n + desk.cpu.y) % 65536) (below (layout.address label) (laid.labels label))
  where
    below : (n : ℕ) → n < 65536 → (n + 0) % 65536 ≡ n
    below n h = omega arith
place_is layout Pointed desk pc laid paged =
    ap (λ n. (desk.at layout.pointer + 256 * desk.at n + desk.cpu.y) % 65536) (next layout.pointer laid.pointer)
  where
    next : (n : ℕ) → n ≤ 254 → (n + 1) % 256 ≡ n + 1
    next n h = omega arith
place_is layout (OwnRegister register) desk pc laid paged = refl
place_is layout (Number number) desk pc laid paged = absurd (false≢true paged)
place_is layout (Var label) desk pc laid paged = absurd (false≢true paged)
place_is layout (Pointer half) desk pc laid paged = absurd (false≢true paged)
place_is layout (Register register) desk pc laid paged = absurd (false≢true paged)
place_is layout (Timer half) desk pc laid paged = absurd (false≢true paged)

-- where an operand has no index its place is no matter
pub index_same : (mnemonic : Mnemonic) (mode : Mode) (from to from' to' : ℕ) →
    (is_paged mode ≡ true → from ≡ from') → (is_paged mode ≡ true → to ≡ to') →
    index_cycles mnemonic mode from to ≡ index_cycles mnemonic mode from' to'
index_same mnemonic mode from to from' to' e f = by_mode (is_paged mode) refl
  where
    by_mode : (z : Bool) → is_paged mode ≡ z →
        index_cycles mnemonic mode from to ≡ index_cycles mnemonic mode from' to'
    by_mode true paged =
        ap (λ n. index_cycles mnemonic mode n to) (e paged) ∙ ap (λ n. index_cycles mnemonic mode from' n) (f paged)
    by_mode false none = unpaged_takes mnemonic mode from to none ∙ sym (unpaged_takes mnemonic mode from' to' none)

-- a plain instruction is no branch
plain_takes : (mnemonic : Mnemonic) (mode : Mode) (operand pc : ℕ) (desk : Desk) → is_spelled mnemonic mode ≡ true →
    standing_cycles mnemonic mode operand (spot pc desk)
    ≡ cycles_of mnemonic mode
    + index_cycles mnemonic mode (place_of mode operand desk.at (unindexed (record desk.cpu { pc = pc })))
    (place_of mode operand desk.at (record desk.cpu { pc = pc }))
plain_takes mnemonic mode operand pc desk spelled =
    ap (λ t. cycles_of mnemonic mode
    + index_cycles mnemonic mode (place_of mode operand desk.at (unindexed (record desk.cpu { pc = pc })))
    (place_of mode operand desk.at (record desk.cpu { pc = pc }))
    + branch_cycles t ((pc + 2) % 65536) (place_of mode operand desk.at (record desk.cpu { pc = pc })))
    (plain_is_no_branch mnemonic (record desk.cpu { pc = pc }) (spelled_plain mnemonic mode spelled))
    ∙ no_more _

pub with_lasts : {W : ℕ → Type 0} (layout : Layout) (desk after : Desk) (pc next : ℕ) (mnemonic : Mnemonic)
    (operand : Operand) → IsLaid layout → is_spelled mnemonic (mode_of operand) ≡ true →
    Stands desk.at pc mnemonic (mode_of operand)
    (number_of layout.address pc (mode_of operand) (argument_of layout.pointer operand)) →
    Leads W 1 (spot pc desk) (spot next after) →
    Lasts W 1 (with_cycles layout mnemonic operand desk) (spot pc desk) (spot next after)
with_lasts layout desk after pc next mnemonic operand laid spelled s l =
    let number = number_of layout.address pc (mode_of operand) (argument_of layout.pointer operand) in
    let bare : Desk = record desk { cpu = unindexed desk.cpu } in
    lasts_as
    (plain_takes mnemonic (mode_of operand) number pc desk spelled
    ∙ ap (λ n. cycles_of mnemonic (mode_of operand) + n)
    (index_same mnemonic (mode_of operand) _ _ _ _ (place_is layout operand bare pc laid)
    (place_is layout operand desk pc laid)))
    (lasts_once s l)

-- ---- without an operand

pub alone_lasts : {W : ℕ → Type 0} (desk after : Desk) (pc next : ℕ) (mnemonic : Mnemonic) →
    is_spelled mnemonic (alone_mode mnemonic) ≡ true → Stands desk.at pc mnemonic (alone_mode mnemonic) 0 →
    Leads W 1 (spot pc desk) (spot next after) →
    Lasts W 1 (cycles_of mnemonic (alone_mode mnemonic)) (spot pc desk) (spot next after)
alone_lasts desk after pc next mnemonic spelled s l =
    lasts_as
    (plain_takes mnemonic (alone_mode mnemonic) 0 pc desk spelled
    ∙ (ap (λ n. cycles_of mnemonic (alone_mode mnemonic) + n)
    (unpaged_takes mnemonic (alone_mode mnemonic) _ _ (alone_unpaged mnemonic)) ∙ no_more _))
    (lasts_once s l)

-- ---- jumps and branches

pub jump_lasts : {W : ℕ → Type 0} (desk : Desk) (pc operand to : ℕ) → Stands desk.at pc Jmp Absolute operand →
    Leads W 1 (spot pc desk) (spot to desk) → Lasts W 1 leave_cycles (spot pc desk) (spot to desk)
jump_lasts desk pc operand to s l = lasts_once s l

-- which branch a test is, and that it reads no byte
pub taken_is : (test : Test) (pc : ℕ) (desk : Desk) →
    is_taken (branch_of test) (record desk.cpu { pc = pc }) ≡ Some (is_met test desk)
taken_is (On Zero) pc desk = refl
taken_is (Off Zero) pc desk = refl
taken_is (On Minus) pc desk = refl
taken_is (Off Minus) pc desk = refl
taken_is (On Carry) pc desk = refl
taken_is (Off Carry) pc desk = refl

branch_reads : (test : Test) → cycles_of (branch_of test) Relative ≡ read_cycles Relative
branch_reads (On Zero) = refl
branch_reads (Off Zero) = refl
branch_reads (On Minus) = refl
branch_reads (Off Minus) = refl
branch_reads (On Carry) = refl
branch_reads (Off Carry) = refl

pub branch_lasts : {W : ℕ → Type 0} (desk : Desk) (pc next operand to end : ℕ) (test : Test) →
    Stands desk.at pc (branch_of test) Relative operand → (pc + 2) % 65536 ≡ next → operand ≡ to →
    Leads W 1 (spot pc desk) (spot end desk) →
    Lasts W 1 (test_cycles (is_met test desk) next to) (spot pc desk) (spot end desk)
branch_lasts desk pc next operand to end test s e goal l = lasts_as takes (lasts_once s l)
  where
    takes : standing_cycles (branch_of test) Relative operand (spot pc desk)
        ≡ test_cycles (is_met test desk) next to
    takes =
        ap (λ t. cycles_of (branch_of test) Relative + 0 + branch_cycles t ((pc + 2) % 65536) operand)
        (taken_is test pc desk)
        ∙ (ap (λ n. n + 0 + branch_cycles (Some (is_met test desk)) ((pc + 2) % 65536) operand) (branch_reads test)
        ∙ (ap (λ n. 2 + 0 + branch_cycles (Some (is_met test desk)) n operand) e
        ∙ ap (λ n. 2 + 0 + branch_cycles (Some (is_met test desk)) next n) goal))
