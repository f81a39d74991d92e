-- What a tree means leaves the stack pointer, the decimal flag and the interrupt flag as they are.
use Rattle.std.proofs.Common.{◌≡◌, ℕ, zero, suc, Bool, true, false, Option, Some, None, refl, ◌∙◌}
use Rattle.std.proofs.Common.{if◌then◌else◌, ◌||◌}
use Rattle.std.proofs.lemmas.Bool.{and_parts, false≢true}
use Rattle.std.specs.Option.{is_some}
use Rattle.cpu6502.specs.declared.cpu.Cpu.{Cpu}
use Rattle.cpu6502.specs.declared.effect.Effect.{Effect}
use Rattle.cpu6502.specs.declared.mnemonic.Mnemonic.{Mnemonic}
use Rattle.cpu6502.specs.declared.mnemonic.Mnemonic.TheVariants.{Adc, And, Asl, Bit, Clc, Clv, Cmp, Cpx, Cpy}
use Rattle.cpu6502.specs.declared.mnemonic.Mnemonic.TheVariants.{Dec, Dex, Dey, Eor, Inc, Inx, Iny, Lda, Ldx, Ldy, Lsr, Nop, Ora}
use Rattle.cpu6502.specs.declared.mnemonic.Mnemonic.TheVariants.{Rol, Ror, Sbc, Sec, Sta, Stx, Sty, Tax, Tay, Txa, Tya}
use Rattle.cpu6502.specs.Opcodes.{opcode_of}
use Rattle.cpu6502.specs.Shifts.{accumulator_effect}
use Rattle.cpu6502.specs.Effects.{effect_of, or_effect}
use Rattle.scopes.specs.declared.line.Operand.{Operand}
use Rattle.scopes.specs.Desk.{Desk, Layout, operand_place, operand_read}
use Rattle.scopes.specs.Steps.{all_may, effected, unless_stopped, is_store, may_see, may_change, done_with}
use Rattle.scopes.specs.Trees.{Tree, DoTree, WithTree, NoneTree, ThenTree, ScopeTree, LeaveTree, LeaveIfTree, LoopTree}
use Rattle.scopes.specs.Trees.{AgainTree, AgainIfTree, WhenTree, ChooseTree, NeverTree}
use Rattle.scopes.specs.Meaning.{Outcome, Done, Left, Again, Stuck, Ran, Prices, is_met, ended, stepped, behind, turns_in}
use Rattle.scopes.specs.Meaning.{and_then, next_turn, turns, ran}
use Rattle.scopes.specs.Plain.{is_plain}
use Rattle.scope_lines.specs.Instructions.{mode_of, alone_mode, is_spelled}
use Rattle.scope_lines.specs.Sizes.{most}
use Rattle.scope_lines.specs.Reach.{Reach, before_bytes, behind_bytes, in_scope, in_loop, is_operand, has_lines}

-- what is left as it is
abbrev pub control : Cpu → ℕ × Bool × Bool
control cpu = (cpu.sp, cpu.d, cpu.i)

abbrev Keeps : Desk → Ran → Type 0
Keeps desk r = control r.desk.cpu ≡ control desk.cpu

-- ---- instructions

abbrev KeepsIn : Cpu → Option Effect → Type 0
KeepsIn cpu None = Unit {0}
KeepsIn cpu (Some effect) = control effect.cpu ≡ control cpu

plain_keeps : (mnemonic : Mnemonic) (place : ℕ) (at : ℕ → ℕ) (cpu : Cpu) → is_plain mnemonic ≡ true →
    KeepsIn cpu (unless_stopped (effect_of mnemonic 0 place at cpu))
plain_keeps Adc place at cpu plain = by_decimal cpu.d refl
  where
    by_decimal : (d : Bool) → cpu.d ≡ d → KeepsIn cpu (unless_stopped (effect_of Adc 0 place at cpu))
    by_decimal true e = rw e tt
    by_decimal false e = rw e refl
plain_keeps And place at cpu plain = refl
plain_keeps Asl place at cpu plain = refl
plain_keeps Bit place at cpu plain = refl
plain_keeps Clc place at cpu plain = refl
plain_keeps Clv place at cpu plain = refl
plain_keeps Cmp place at cpu plain = refl
plain_keeps Cpx place at cpu plain = refl
plain_keeps Cpy place at cpu plain = refl
plain_keeps Dec place at cpu plain = refl
plain_keeps Dex place at cpu plain = refl
plain_keeps Dey place at cpu plain = refl
plain_keeps Eor place at cpu plain = refl
plain_keeps Inc place at cpu plain = refl
plain_keeps Inx place at cpu plain = refl
plain_keeps Iny place at cpu plain = refl
plain_keeps Lda place at cpu plain = refl
plain_keeps Ldx place at cpu plain = refl
plain_keeps Ldy place at cpu plain = refl
plain_keeps Lsr place at cpu plain = refl
plain_keeps Nop place at cpu plain = refl
plain_keeps Ora place at cpu plain = refl
plain_keeps Rol place at cpu plain = refl
plain_keeps Ror place at cpu plain = refl
plain_keeps Sbc place at cpu plain = by_decimal cpu.d refl
  where
    by_decimal : (d : Bool) → cpu.d ≡ d → KeepsIn cpu (unless_stopped (effect_of Sbc 0 place at cpu))
    by_decimal true e = rw e tt
    by_decimal false e = rw e refl
plain_keeps Sec place at cpu plain = refl
plain_keeps Sta place at cpu plain = refl
plain_keeps Stx place at cpu plain = refl
plain_keeps Sty place at cpu plain = refl
plain_keeps Tax place at cpu plain = refl
plain_keeps Tay place at cpu plain = refl
plain_keeps Txa place at cpu plain = refl
plain_keeps Tya place at cpu plain = refl
plain_keeps _ place at cpu plain = absurd (false≢true plain)

accumulator_keeps : (mnemonic : Mnemonic) (cpu : Cpu) → KeepsIn cpu (unless_stopped (accumulator_effect mnemonic 0 cpu))
accumulator_keeps Asl cpu = refl
accumulator_keeps Lsr cpu = refl
accumulator_keeps Rol cpu = refl
accumulator_keeps Ror cpu = refl
accumulator_keeps _ cpu = tt

or_keeps : (cpu : Cpu) (one other : Option Effect) → KeepsIn cpu one → KeepsIn cpu other →
    KeepsIn cpu (or_effect one other)
or_keeps cpu None other h k = k
or_keeps cpu (Some effect) other h k = h

effect_keeps : (may : ℕ → Bool) (desk : Desk) (cost : ℕ) (effect : Option Effect) → KeepsIn desk.cpu effect →
    Keeps desk (stepped (effected may desk effect) desk cost)
effect_keeps may desk cost None h = refl
effect_keeps may desk cost (Some effect) h = by_test (all_may may effect.writes) refl
  where
    by_test : (z : Bool) → all_may may effect.writes ≡ z →
        Keeps desk (stepped (effected may desk (Some effect)) desk cost)
    by_test true e = rw e h
    by_test false e = rw e refl

with_keeps : (layout : Layout) (mnemonic : Mnemonic) (operand : Operand) (desk : Desk) (cost : ℕ) →
    is_plain mnemonic ≡ true → Keeps desk (stepped (done_with layout mnemonic operand desk) desk cost)
with_keeps layout mnemonic operand desk cost plain =
    by_test (is_store mnemonic || may_see layout operand (operand_place layout operand desk)) refl
  where
    by_test : (z : Bool) → (is_store mnemonic || may_see layout operand (operand_place layout operand desk)) ≡ z →
        Keeps desk (stepped (done_with layout mnemonic operand desk) desk cost)
    by_test true e =
        rw e (effect_keeps (may_change layout operand) desk cost
        (unless_stopped
        (effect_of mnemonic 0 (operand_place layout operand desk) (operand_read operand desk) desk.cpu))
        (plain_keeps mnemonic (operand_place layout operand desk) (operand_read operand desk) desk.cpu plain))
    by_test false e = rw e refl

-- ---- kinds

then_keeps : (desk : Desk) (one : Ran) (next : Desk → Ran) → Keeps desk one → Keeps one.desk (next one.desk) →
    Keeps desk (and_then one next)
then_keeps desk one next first rest = by_outcome one.outcome
  where
    by_outcome : (o : Outcome) → Keeps desk (behind o one next)
    by_outcome Done = rest ∙ first
    by_outcome (Left name) = first
    by_outcome Again = first
    by_outcome Stuck = first

turn_keeps : (desk : Desk) (one : Ran) (next : Desk → Ran) → Keeps desk one → Keeps one.desk (next one.desk) →
    Keeps desk (next_turn one.outcome one next)
turn_keeps desk one next first rest = by_outcome one.outcome
  where
    by_outcome : (o : Outcome) → Keeps desk (next_turn o one next)
    by_outcome Done = first
    by_outcome (Left name) = first
    by_outcome Again = rest ∙ first
    by_outcome Stuck = first

turns_keep : (body : Desk → Ran) → ((desk : Desk) → Keeps desk (body desk)) → (count : ℕ) (desk : Desk) →
    Keeps desk (turns count body desk)
turns_keep body keeps zero desk = refl
turns_keep body keeps (suc more) desk =
    turn_keeps desk (body desk) (turns more body) (keeps desk) (turns_keep body keeps more (body desk).desk)

if_keeps : (desk : Desk) (z : Bool) (this other : Ran) → Keeps desk this → Keeps desk other →
    Keeps desk (if z then this else other)
if_keeps desk true this other h k = h
if_keeps desk false this other h k = k

pub ran_keeps : (prices : Prices) (layout : Layout) (reach : Reach) (tree : Tree) (desk : Desk) →
    has_lines reach tree ≡ true → control (ran prices layout tree desk).desk.cpu ≡ control desk.cpu
ran_keeps prices layout reach (DoTree mnemonic) desk has =
    effect_keeps layout.may_write desk (prices.alone mnemonic desk)
    (or_effect (unless_stopped (accumulator_effect mnemonic 0 desk.cpu))
    (unless_stopped (effect_of mnemonic 0 0 desk.at desk.cpu)))
    (or_keeps desk.cpu (unless_stopped (accumulator_effect mnemonic 0 desk.cpu))
    (unless_stopped (effect_of mnemonic 0 0 desk.at desk.cpu)) (accumulator_keeps mnemonic desk.cpu)
    (plain_keeps mnemonic 0 desk.at desk.cpu
    (and_parts (is_plain mnemonic) (is_some (opcode_of mnemonic (alone_mode mnemonic))) has).0))
ran_keeps prices layout reach (WithTree mnemonic operand) desk has =
    with_keeps layout mnemonic operand desk (prices.operand mnemonic operand desk)
    (and_parts (is_plain mnemonic) (is_some (opcode_of mnemonic (mode_of operand)))
    (and_parts (is_spelled mnemonic (mode_of operand)) (is_operand operand) has).0).0
ran_keeps prices layout reach NoneTree desk has = refl
ran_keeps prices layout reach (ThenTree first rest) desk has =
    let parts =
    and_parts (has_lines (before_bytes (most rest) reach) first) (has_lines (behind_bytes (most first) reach) rest) has
    in
    then_keeps desk (ran prices layout first desk) (ran prices layout rest)
    (ran_keeps prices layout (before_bytes (most rest) reach) first desk parts.0)
    (ran_keeps prices layout (behind_bytes (most first) reach) rest (ran prices layout first desk).desk parts.1)
ran_keeps prices layout reach (ScopeTree name body) desk has =
    ran_keeps prices layout (in_scope name reach) body desk has
ran_keeps prices layout reach (LeaveTree name) desk has = refl
ran_keeps prices layout reach (LeaveIfTree name test) desk has =
    if_keeps desk (is_met test desk) (ended (Left name) desk prices.left) (ended Done desk prices.stayed) refl refl
ran_keeps prices layout reach (LoopTree count body) desk has =
    turns_keep (ran prices layout body) (λ more. ran_keeps prices layout (in_loop reach) body more has)
    (turns_in layout.open_turns count) desk
ran_keeps prices layout reach AgainTree desk has = refl
ran_keeps prices layout reach (AgainIfTree test) desk has =
    if_keeps desk (is_met test desk) (ended Again desk prices.taken) (ended Done desk prices.passed) refl refl
ran_keeps prices layout reach (WhenTree condition body) desk has =
    if_keeps desk (layout.holds condition) (ran prices layout body desk) (ended Done desk 0)
    (ran_keeps prices layout reach body desk has) refl
ran_keeps prices layout reach (ChooseTree condition this other) desk has =
    let parts = and_parts (has_lines reach this) (has_lines reach other) has in
    if_keeps desk (layout.holds condition) (ran prices layout this desk) (ran prices layout other desk)
    (ran_keeps prices layout reach this desk parts.0) (ran_keeps prices layout reach other desk parts.1)
ran_keeps prices layout reach NeverTree desk has = refl
