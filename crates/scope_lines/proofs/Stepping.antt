-- One instruction, where it stands, does what it does on the desk.
use Rattle.std.proofs.Common.{◌≡◌, ℕ, ◌+◌, ◌*◌, ◌%◌, ◌<◌, ◌≤◌, ◌||◌, Bool, true}
use Rattle.std.proofs.Common.{false, List, [], ◌∷◌, Option, Some, None}
use Rattle.std.proofs.Common.{Result, Ok, Err, refl, ap, ◌∙◌, subst, arith, if◌then◌else◌}
use Rattle.std.proofs.lemmas.Bool.{false≢true, and_parts}
use Rattle.std.specs.Option.{is_some, option_map}
use Rattle.cpu6502.specs.declared.cpu.Cpu.{Cpu}
use Rattle.cpu6502.specs.declared.effect.Write.{Write}
use Rattle.cpu6502.specs.declared.effect.Effect.{Effect}
use Rattle.cpu6502.specs.declared.mnemonic.Mnemonic.{Mnemonic}
use Rattle.cpu6502.specs.declared.mnemonic.Mnemonic.TheVariants.{Asl, Dec, Inc, Lsr, Rol, Ror, Sta, Stx, Sty}
use Rattle.cpu6502.specs.declared.mnemonic.Mode.{Mode}
use Rattle.cpu6502.specs.declared.mnemonic.Mode.TheVariants.{Immediate}
use Rattle.cpu6502.specs.declared.stop.Stop.{Stop}
use Rattle.cpu6502.specs.Opcodes.{opcode_of, length_of, is_accumulator}
use Rattle.cpu6502.specs.Shifts.{accumulator_effect}
use Rattle.cpu6502.specs.Effects.{effect_of, or_effect, effect}
use Rattle.code_runs.specs.Code.{place_of, Stands}
use Rattle.code_runs.specs.Runs.{put_all, Allowed, Leads}
use Rattle.code_runs.specs.Calls.{In}
use Rattle.code_runs.proofs.Laws.{stay, does}
use Rattle.code_runs.proofs.Laws.{standing_has_effect}
use Rattle.asm6502.specs.Operands.{number_of}
use Rattle.scopes.specs.declared.line.Operand.{Operand}
use Rattle.scopes.specs.declared.line.Operand.TheVariants.{Number, Var, Own, Entry, Pointed, Pointer, Register}
use Rattle.scopes.specs.declared.line.Operand.TheVariants.{OwnRegister, Timer}
use Rattle.scopes.specs.Desk.{Desk, Layout, operand_place, operand_read}
use Rattle.scopes.specs.Steps.{all_may, effected, unless_stopped, is_store, may_see, may_change, done, done_with}
use Rattle.scopes.specs.Plain.{is_plain}
use Rattle.scope_lines.specs.Instructions.{mode_of, argument_of, alone_mode, is_spelled}
use Rattle.scope_lines.specs.Lowered.{spot}
use Rattle.scope_lines.proofs.Plain.{at_pc, writes_byte, plain_effect, alone_is, shift_is, alone_one, alone_nowhere}

-- ---- effects

may_allowed : (may_write : ℕ → Bool) (writes : List Write) → all_may may_write writes ≡ true →
    Allowed (In may_write) writes
may_allowed may_write [] all = tt
may_allowed may_write (write ∷ writes) all =
    let parts = and_parts (may_write write.place) (all_may may_write writes) all in
    (parts.0, may_allowed may_write writes parts.1)

is_ok : (result : Result Effect Stop) (done : Effect) → unless_stopped result ≡ Some done → result ≡ Ok done
is_ok (Ok other) done e = (let same : other ≡ done = cc in ap Ok same)
is_ok (Err stop) done e = absurd (cc)

-- the desk behind an effect
abbrev behind : Desk → Effect → Desk
behind desk done = record { cpu = done.cpu; at = put_all desk.at done.writes }

abbrev if_may : Bool → Desk → Option Desk
if_may z desk = if z then Some desk else None

-- what the desk comes to by an effect, the machine comes to by the same effect at its place
runs_effect : (may : ℕ → Bool) (desk after : Desk) (pc next : ℕ) (result : Option Effect) →
    effected may desk result ≡ Some after → 0 < pc →
    unless_stopped (effect desk.at (record desk.cpu { pc = pc })) ≡ option_map (at_pc next) result →
    Leads (In may) 1 (spot pc desk) (spot next after)
runs_effect may desk after pc next None e away is = absurd (cc)
runs_effect may desk after pc next (Some done) e away is = by_test (all_may may done.writes) refl
  where
    by_test : (z : Bool) → all_may may done.writes ≡ z →
        Leads (In may) 1 (spot pc desk) (spot next after)
    by_test true all =
        let found : if_may true (behind desk done) ≡ Some after =
        subst (λ b. if_may b (behind desk done) ≡ Some after) all e in
        let is_after : behind desk done ≡ after = cc in
        does (record { is = is_ok (effect desk.at (record desk.cpu { pc = pc })) (at_pc next done) is; away = away })
        (may_allowed may done.writes all)
        (subst (λ d. Leads (In may) 0 (spot next (behind desk done)) (spot next d)) is_after (stay _))
    by_test false none =
        let found : if_may false (behind desk done) ≡ Some after =
        subst (λ b. if_may b (behind desk done) ≡ Some after) none e in
        absurd (cc)

-- ---- with an operand

-- in any mode but the accumulator's
in_memory : (may : ℕ → Bool) (desk after : Desk) (pc : ℕ) (mnemonic : Mnemonic) (mode : Mode) (operand place place' : ℕ)
    (read : ℕ → ℕ) → Stands desk.at pc mnemonic mode operand → is_accumulator mode ≡ false →
    is_plain mnemonic ≡ true → place_of mode operand desk.at (record desk.cpu { pc = pc }) ≡ place →
    desk.at place ≡ read place' → (writes_byte mnemonic ≡ true → place ≡ place') → 0 < pc →
    pc + length_of mode < 65536 →
    effected may desk (unless_stopped (effect_of mnemonic 0 place' read desk.cpu)) ≡ Some after →
    Leads (In may) 1 (spot pc desk) (spot (pc + length_of mode) after)
in_memory may desk after pc mnemonic mode operand place place' read s memory plain p byte same away fits e =
    let cpu : Cpu = record desk.cpu { pc = pc } in
    let next : (pc + length_of mode) % 65536 ≡ pc + length_of mode = small (pc + length_of mode) fits in
    runs_effect may desk after pc (pc + length_of mode)
    (unless_stopped (effect_of mnemonic 0 place' read desk.cpu)) e away
    (ap unless_stopped
    (standing_has_effect desk.at cpu mnemonic mode operand s ∙ rw (memory, p, next) refl)
    ∙ plain_effect mnemonic pc (pc + length_of mode) place place' desk.at read desk.cpu plain byte same)
  where
    small : (n : ℕ) → n < 65536 → n % 65536 ≡ n
    small n h = omega arith

-- no instruction writes a number
no_number_written : (mnemonic : Mnemonic) → is_spelled mnemonic Immediate ≡ true → writes_byte mnemonic ≡ true → ⊥
no_number_written Asl spelled writes = false≢true spelled
no_number_written Dec spelled writes = false≢true spelled
no_number_written Inc spelled writes = false≢true spelled
no_number_written Lsr spelled writes = false≢true spelled
no_number_written Rol spelled writes = false≢true spelled
no_number_written Ror spelled writes = false≢true spelled
no_number_written Sta spelled writes = false≢true spelled
no_number_written Stx spelled writes = false≢true spelled
no_number_written Sty spelled writes = false≢true spelled
no_number_written _ spelled writes = false≢true writes

-- where labels and the pointer are
pub record IsLaid (layout : Layout) : Type 0 where
  pub labels : (label : ℕ) → layout.address label < 65536
  pub pointer : layout.pointer ≤ 254

below : (n : ℕ) → n < 65536 → (n + 0) % 65536 ≡ n
below n h = omega arith

-- what an instruction with its operand does, and that it sees its byte where it may or stores alone
pub record IsMet (layout : Layout) (mnemonic : Mnemonic) (operand : Operand) (desk after : Desk) : Type 0 where
  pub sees : (is_store mnemonic || may_see layout operand (operand_place layout operand desk)) ≡ true
  pub does : effected (may_change layout operand) desk
      (unless_stopped
      (effect_of mnemonic 0 (operand_place layout operand desk) (operand_read operand desk) desk.cpu)) ≡ Some after

pub meant_is : (layout : Layout) (mnemonic : Mnemonic) (operand : Operand) (desk after : Desk) →
    done_with layout mnemonic operand desk ≡ Some after → IsMet layout mnemonic operand desk after
meant_is layout mnemonic operand desk after e = by_test (is_store mnemonic || may_see layout operand place) refl
  where
    place : ℕ
    place = operand_place layout operand desk

    result : Option Desk
    result =
        effected (may_change layout operand) desk
        (unless_stopped (effect_of mnemonic 0 place (operand_read operand desk) desk.cpu))

    by_test : (z : Bool) → (is_store mnemonic || may_see layout operand place) ≡ z →
        IsMet layout mnemonic operand desk after
    by_test true sees =
        record { sees = sees; does = subst (λ b. (if b then result else None) ≡ Some after) sees e }
    by_test false sees =
        let found : (if false then result else None) ≡ Some after =
        subst (λ b. (if b then result else None) ≡ Some after) sees e in
        absurd (cc)

-- one that is spelled is plain
pub spelled_plain : (mnemonic : Mnemonic) (mode : Mode) → is_spelled mnemonic mode ≡ true → is_plain mnemonic ≡ true
spelled_plain mnemonic mode spelled = (and_parts (is_plain mnemonic) (is_some (opcode_of mnemonic mode)) spelled).0

-- where the operand's byte stands in memory
at_place : (layout : Layout) (desk after : Desk) (pc : ℕ) (mnemonic : Mnemonic) (operand : Operand) (number : ℕ) →
    is_spelled mnemonic (mode_of operand) ≡ true → Stands desk.at pc mnemonic (mode_of operand) number → 0 < pc →
    pc + length_of (mode_of operand) < 65536 → done_with layout mnemonic operand desk ≡ Some after →
    is_accumulator (mode_of operand) ≡ false →
    desk.at (operand_place layout operand desk) ≡ operand_read operand desk (operand_place layout operand desk) →
    place_of (mode_of operand) number desk.at (record desk.cpu { pc = pc }) ≡ operand_place layout operand desk →
    Leads (In (may_change layout operand)) 1 (spot pc desk) (spot (pc + length_of (mode_of operand)) after)
at_place layout desk after pc mnemonic operand number spelled s away fits e memory byte place =
    in_memory (may_change layout operand) desk after pc mnemonic (mode_of operand) number
    (operand_place layout operand desk) (operand_place layout operand desk) (operand_read operand desk) s memory
    (spelled_plain mnemonic (mode_of operand) spelled) place byte (λ writes. refl) away fits
    (meant_is layout mnemonic operand desk after e).does

pub with_does : (layout : Layout) (desk after : Desk) (pc : ℕ) (mnemonic : Mnemonic) (operand : Operand) →
    IsLaid layout → is_spelled mnemonic (mode_of operand) ≡ true →
    Stands desk.at pc mnemonic (mode_of operand)
    (number_of layout.address pc (mode_of operand) (argument_of layout.pointer operand)) → 0 < pc →
    pc + length_of (mode_of operand) < 65536 → done_with layout mnemonic operand desk ≡ Some after →
    Leads (In (may_change layout operand)) 1 (spot pc desk) (spot (pc + length_of (mode_of operand)) after)
with_does layout desk after pc mnemonic (Number number) laid spelled s away fits e =
    in_memory (may_change layout (Number number)) desk after pc mnemonic Immediate number ((pc + 1) % 65536) 0
    (λ place. number) s refl (spelled_plain mnemonic Immediate spelled) refl s.operand_is
    (λ writes. absurd (no_number_written mnemonic spelled writes)) away fits
    (meant_is layout mnemonic (Number number) desk after e).does
with_does layout desk after pc mnemonic (Var label) laid spelled s away fits e =
    at_place layout desk after pc mnemonic (Var label) _ spelled s away fits e refl refl
    (below (layout.address label) (laid.labels label))
with_does layout desk after pc mnemonic (Own label) laid spelled s away fits e =
    at_place layout desk after pc mnemonic (Own label) _ spelled s away fits e refl refl
    (ap (λ n. (n + desk.cpu.x) % 65536) (below (layout.address label) (laid.labels label)))
with_does layout desk after pc mnemonic (Entry label) laid spelled s away fits e =
    at_place layout desk after pc mnemonic (Entry label) _ spelled s away fits e refl refl
    (ap (λ n. (n + desk.cpu.y) % 65536) (below (layout.address label) (laid.labels label)))
with_does layout desk after pc mnemonic Pointed laid spelled s away fits e =
    at_place layout desk after pc mnemonic Pointed _ spelled s away fits e refl refl
    (ap (λ n. (desk.at layout.pointer + 256 * desk.at n + desk.cpu.y) % 65536) (next layout.pointer laid.pointer))
  where
    next : (n : ℕ) → n ≤ 254 → (n + 1) % 256 ≡ n + 1
    next n h = omega arith
with_does layout desk after pc mnemonic (Pointer half) laid spelled s away fits e =
    at_place layout desk after pc mnemonic (Pointer half) _ spelled s away fits e refl refl refl
with_does layout desk after pc mnemonic (Register register) laid spelled s away fits e =
    at_place layout desk after pc mnemonic (Register register) _ spelled s away fits e refl refl refl
with_does layout desk after pc mnemonic (OwnRegister register) laid spelled s away fits e =
    at_place layout desk after pc mnemonic (OwnRegister register) _ spelled s away fits e refl refl refl
with_does layout desk after pc mnemonic (Timer half) laid spelled s away fits e =
    at_place layout desk after pc mnemonic (Timer half) _ spelled s away fits e refl refl refl

-- ---- without an operand

pub alone_does : (layout : Layout) (desk after : Desk) (pc : ℕ) (mnemonic : Mnemonic) →
    is_spelled mnemonic (alone_mode mnemonic) ≡ true →
    Stands desk.at pc mnemonic (alone_mode mnemonic) 0 → 0 < pc → pc + 1 < 65536 →
    done layout mnemonic desk ≡ Some after → Leads (In layout.may_write) 1 (spot pc desk) (spot (pc + 1) after)
alone_does layout desk after pc mnemonic spelled s away fits e = by_mode (is_accumulator (alone_mode mnemonic)) refl
  where
    other : Option Effect
    other = unless_stopped (effect_of mnemonic 0 0 desk.at desk.cpu)

    one : length_of (alone_mode mnemonic) ≡ 1
    one = alone_one mnemonic

    small : (pc + length_of (alone_mode mnemonic)) % 65536 ≡ pc + 1
    small = rw one (omega arith)

    by_mode : (z : Bool) → is_accumulator (alone_mode mnemonic) ≡ z →
        Leads (In layout.may_write) 1 (spot pc desk) (spot (pc + 1) after)
    by_mode true memory =
        runs_effect layout.may_write desk after pc (pc + 1)
        (or_effect (unless_stopped (accumulator_effect mnemonic 0 desk.cpu)) other) e away
        (ap unless_stopped
        (standing_has_effect desk.at (record desk.cpu { pc = pc }) mnemonic (alone_mode mnemonic) 0 s
        ∙ rw (memory, small) refl) ∙ shift_is mnemonic pc (pc + 1) desk.cpu other memory)
    by_mode false memory =
        let way =
        in_memory layout.may_write desk after pc mnemonic (alone_mode mnemonic) 0 0 0 desk.at s memory
        (spelled_plain mnemonic (alone_mode mnemonic) spelled)
        (alone_nowhere mnemonic memory desk.at (record desk.cpu { pc = pc })) refl (λ writes. refl) away (rw one fits)
        (subst (λ done. effected layout.may_write desk done ≡ Some after)
        (alone_is mnemonic 0 desk.cpu other memory) e) in
        subst (λ n. Leads (In layout.may_write) 1 (spot pc desk) (spot (pc + n) after)) one way
