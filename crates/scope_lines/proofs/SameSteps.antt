-- An instruction that reads what is known alone leaves desks with the same in what is known.
use Rattle.std.proofs.Common.{◌≡◌, ℕ, ◌+◌, ◌*◌, ◌%◌, ◌||◌, Bool, true, false, nat_eq, List, [], ◌∷◌}
use Rattle.std.proofs.Common.{Option, Some, None, ◌⊎◌, inl, inr, refl, sym, ap, ◌∙◌, subst, if◌then◌else◌}
use Rattle.std.proofs.lemmas.Bool.{false≢true, eq-eqb}
use Rattle.base.proofs.Laws.{same_some}
use Rattle.cpu6502.specs.declared.cpu.Cpu.{Cpu}
use Rattle.cpu6502.specs.declared.effect.Write.{Write}
use Rattle.cpu6502.specs.declared.effect.Effect.{Effect}
use Rattle.cpu6502.specs.declared.mnemonic.Mnemonic.{Mnemonic}
use Rattle.cpu6502.specs.declared.mnemonic.Mnemonic.TheVariants.{Adc}
use Rattle.cpu6502.specs.declared.mnemonic.Mnemonic.TheVariants.{Sta, Stx, Sty}
use Rattle.cpu6502.specs.Opcodes.{is_accumulator}
use Rattle.cpu6502.specs.Registers.{storing}
use Rattle.cpu6502.specs.Shifts.{accumulator_effect}
use Rattle.cpu6502.specs.Effects.{effect_of, or_effect}
use Rattle.code_runs.specs.Runs.{put, put_all}
use Rattle.scopes.specs.declared.line.Half.TheVariants.{Low, High}
use Rattle.scopes.specs.declared.line.Operand.{Operand}
use Rattle.scopes.specs.declared.line.Operand.TheVariants.{Number, Var, Own, Entry, Pointed, Pointer, Register}
use Rattle.scopes.specs.declared.line.Operand.TheVariants.{OwnRegister, Timer}
use Rattle.scopes.specs.Desk.{Desk, Layout, operand_place, operand_read}
use Rattle.scopes.specs.Steps.{all_may, effected, unless_stopped, is_store, may_see, may_change, done, done_with}
use Rattle.scope_lines.specs.Instructions.{mode_of, alone_mode, is_spelled}
use Rattle.scope_lines.specs.Known.{Known, nothing, the_a, either, is_within, reads, sets, shifts}
use Rattle.scope_lines.specs.Known.{alone_reads, alone_sets, finds, half_of, with_reads, with_sets, known}
use Rattle.scope_lines.specs.Isolation.{SameRegisters, Alike}
use Rattle.scope_lines.proofs.Knowing.{IsWithin, within, either_left}
use Rattle.scope_lines.proofs.Knowing.{either_right, within_more}
use Rattle.scope_lines.proofs.Plain.{alone_is}
use Rattle.scope_lines.proofs.Stepping.{spelled_plain, meant_is}
use Rattle.scope_lines.proofs.SameEffects.{SameEffects, reads_byte, effects_same, shifts_same, alone_reads_no_byte}

-- ---- operands

pub place_same : {layout : Layout} {before : Known} {one two : Desk} → (operand : Operand) →
    IsWithin (finds operand) before → Alike layout before one two →
    operand_place layout operand one ≡ operand_place layout operand two
place_same (Number number) w s = refl
place_same (Var label) w s = refl
place_same {layout = layout} (Own label) w s = ap (λ n. (layout.address label + n) % 65536) (s.registers.x (w.x refl))
place_same {layout = layout} (Entry label) w s = ap (λ n. (layout.address label + n) % 65536) (s.registers.y (w.y refl))
place_same {layout = layout} {one = one} {two = two} Pointed w s =
    ap (λ n. (n + 256 * one.at (layout.pointer + 1) + one.cpu.y) % 65536) (s.low (w.low refl))
    ∙ ap (λ n. (two.at layout.pointer + 256 * n + one.cpu.y) % 65536) (s.high (w.high refl))
    ∙ ap (λ n. (two.at layout.pointer + 256 * two.at (layout.pointer + 1) + n) % 65536) (s.registers.y (w.y refl))
place_same (Pointer half) w s = refl
place_same (Register register) w s = refl
place_same (OwnRegister register) w s = ap (λ n. (0xD400 + register + n) % 65536) (s.registers.x (w.x refl))
place_same (Timer half) w s = refl

byte_same : {layout : Layout} {before : Known} {one two : Desk} → (operand : Operand) (place : ℕ) →
    operand_place layout operand one ≡ place →
    may_see layout operand place ≡ true → IsWithin (half_of operand) before → Alike layout before one two →
    operand_read operand one place ≡ operand_read operand two place
byte_same (Number number) place e may w s = refl
byte_same (Var label) place e may w s = s.bytes place may
byte_same (Own label) place e may w s = s.bytes place may
byte_same (Entry label) place e may w s = s.bytes place may
byte_same Pointed place e may w s = s.bytes place may
byte_same {one = one} {two = two} (Pointer Low) place e may w s =
    subst (λ p. one.at p ≡ two.at p) e (s.low (w.low refl))
byte_same {one = one} {two = two} (Pointer High) place e may w s =
    subst (λ p. one.at p ≡ two.at p) e (s.high (w.high refl))
byte_same (Register register) place e may w s = s.bytes place may
byte_same (OwnRegister register) place e may w s = s.bytes place may
byte_same (Timer half) place e may w s = s.bytes place may

-- ---- desks

-- what an effect leaves
record IsBehind (desk after : Desk) (done : Effect) : Type 0 where
  pub cpu : done.cpu ≡ after.cpu
  pub at : put_all desk.at done.writes ≡ after.at

was_allowed : (desk after : Desk) (done : Effect) (z : Bool) →
    (let behind : Desk = record { cpu = done.cpu; at = put_all desk.at done.writes } in
    (if z then Some behind else None) ≡ Some after) → IsBehind desk after done
was_allowed desk after done true e =
    let behind : Desk = record { cpu = done.cpu; at = put_all desk.at done.writes } in
    let is = same_some behind after e in
    record { cpu = ap (λ d. d.cpu) is; at = ap (λ d. d.at) is }
was_allowed desk after done false e = absurd (cc)

has_effect : (may : ℕ → Bool) (desk after : Desk) (result : Option Effect) → effected may desk result ≡ Some after →
    (done : Effect) × (result ≡ Some done) × IsBehind desk after done
has_effect may desk after None e = absurd (cc)
has_effect may desk after (Some done) e = (done, refl, was_allowed desk after done (all_may may done.writes) e)

-- the same writes keep what is the same
put_same : (writes : List Write) (at at' : ℕ → ℕ) (place : ℕ) → at place ≡ at' place →
    put_all at writes place ≡ put_all at' writes place
put_same [] at at' place e = e
put_same (write ∷ writes) at at' place e =
    put_same writes (put at write.place write.value) (put at' write.place write.value) place
    (one (nat_eq place write.place))
  where
    one : (z : Bool) → (if z then write.value else at place) ≡ (if z then write.value else at' place)
    one true = refl
    one false = e

put_there : (at at' : ℕ → ℕ) (place byte : ℕ) → put at place byte place ≡ put at' place byte place
put_there at at' place byte = rw (eq-eqb place place refl) refl

behind_same : {one two after after' : Desk} {done done' : Effect} (place : ℕ) → IsBehind one after done →
    IsBehind two after' done' → done.writes ≡ done'.writes →
    put_all one.at done.writes place ≡ put_all two.at done.writes place → after.at place ≡ after'.at place
behind_same {two = two} place p q writes e =
    ap (λ f. f place) (sym p.at) ∙ (e ∙ (ap (λ ws. put_all two.at ws place) writes ∙ ap (λ f. f place) q.at))

-- behind an instruction, where no more of the pointer is known than before
desks_same : {layout : Layout} {before known : Known} {one two after after' : Desk} {done done' : Effect} →
    (known.low ≡ true → after.at layout.pointer ≡ after'.at layout.pointer) →
    (known.high ≡ true → after.at (layout.pointer + 1) ≡ after'.at (layout.pointer + 1)) →
    Alike layout before one two → IsBehind one after done → IsBehind two after' done' →
    SameRegisters known done.cpu done'.cpu → done.writes ≡ done'.writes → Alike layout known after after'
desks_same {layout = layout} {known = known} {one = one} {two = two} {after = after} {after' = after'} {done = done}
    {done' = done'} low high s p q registers writes = record {
      registers = subst (λ c. SameRegisters known c after'.cpu) p.cpu
          (subst (λ c. SameRegisters known done.cpu c) q.cpu registers);
      low = low;
      high = high;
      bytes = λ place may. behind_same place p q writes (put_same done.writes one.at two.at place (s.bytes place may));
    }

-- ---- with an operand

unless_first : (x y : Bool) → (x || y) ≡ true → x ≡ false → y ≡ true
unless_first true y e is = absurd (false≢true (sym is))
unless_first false y e is = e

reader_stores_not : (mnemonic : Mnemonic) → reads_byte mnemonic ≡ true → is_store mnemonic ≡ false
reader_stores_not Sta e = absurd (false≢true e)
reader_stores_not Stx e = absurd (false≢true e)
reader_stores_not Sty e = absurd (false≢true e)
reader_stores_not _ e = refl

sets_no_low : (mnemonic : Mnemonic) → (sets mnemonic).low ≡ false
sets_no_low Adc = refl
sets_no_low _ = refl

sets_no_high : (mnemonic : Mnemonic) → (sets mnemonic).high ≡ false
sets_no_high Adc = refl
sets_no_high _ = refl

-- a store writes there
record IsStored (place : ℕ) (done : Effect) : Type 0 where
  pub byte : ℕ
  pub is : done.writes ≡ record { place = place; value = byte } ∷ []

one_stored : (place byte : ℕ) (cpu : Cpu) (done : Effect) → Some (storing cpu place byte) ≡ Some done →
    IsStored place done
one_stored place byte cpu done e =
    record { byte = byte; is = ap (λ d. d.writes) (sym (same_some (storing cpu place byte) done e)) }

is_stored : (mnemonic : Mnemonic) (place : ℕ) (at : ℕ → ℕ) (cpu : Cpu) (done : Effect) → is_store mnemonic ≡ true →
    unless_stopped (effect_of mnemonic 0 place at cpu) ≡ Some done → IsStored place done
is_stored Sta place at cpu done store e = one_stored place cpu.a cpu done e
is_stored Stx place at cpu done store e = one_stored place cpu.x cpu done e
is_stored Sty place at cpu done store e = one_stored place cpu.y cpu done e
is_stored _ place at cpu done store e = absurd (false≢true store)

-- the pointer's bytes are no registers
no_registers : (before set : Known) {one two : Cpu} → (operand : Operand) → SameRegisters (either set before) one two →
    SameRegisters (either (either (half_of operand) set) before) one two
no_registers before set (Pointer Low) s =
    record { a = s.a; x = s.x; y = s.y; carry = s.carry; zero = s.zero; minus = s.minus }
no_registers before set (Pointer High) s =
    record { a = s.a; x = s.x; y = s.y; carry = s.carry; zero = s.zero; minus = s.minus }
no_registers before set _ s = record { a = s.a; x = s.x; y = s.y; carry = s.carry; zero = s.zero; minus = s.minus }

-- what is known of the pointer: it was known, or the operand is it
half_known : (half set before : Bool) → set ≡ false → (half || set || before) ≡ true → (half ≡ true) ⊎ (before ≡ true)
half_known true set before e known = inl refl
half_known false true before e known = absurd (false≢true (sym e))
half_known false false before e known = inr known

low_operand : (layout : Layout) (operand : Operand) (desk : Desk) → (half_of operand).low ≡ true →
    operand_place layout operand desk ≡ layout.pointer
low_operand layout (Pointer Low) desk e = refl
low_operand layout (Pointer High) desk e = absurd (false≢true e)
low_operand layout _ desk e = absurd (false≢true e)

high_operand : (layout : Layout) (operand : Operand) (desk : Desk) → (half_of operand).high ≡ true →
    operand_place layout operand desk ≡ layout.pointer + 1
high_operand layout (Pointer Low) desk e = absurd (false≢true e)
high_operand layout (Pointer High) desk e = refl
high_operand layout _ desk e = absurd (false≢true e)

pub with_same : (layout : Layout) (mnemonic : Mnemonic) (operand : Operand) (before : Known)
    (one two after after' : Desk) →
    is_spelled mnemonic (mode_of operand) ≡ true → is_within (with_reads mnemonic operand) before ≡ true →
    Alike layout before one two → done_with layout mnemonic operand one ≡ Some after →
    done_with layout mnemonic operand two ≡ Some after' →
    Alike layout (either (with_sets mnemonic operand) before) after after'
with_same layout mnemonic operand before one two after after' spelled has s e f =
    by_store (is_store mnemonic) refl
  where
    place : ℕ
    place = operand_place layout operand one

    halves : Known
    halves = if is_store mnemonic then nothing else half_of operand

    w : IsWithin (with_reads mnemonic operand) before
    w = within (with_reads mnemonic operand) before has

    w_rest : IsWithin (either halves (reads mnemonic)) before
    w_rest = within_more (either_right (finds operand) (either halves (reads mnemonic))) w

    places : place ≡ operand_place layout operand two
    places = place_same operand (within_more (either_left (finds operand) (either halves (reads mnemonic))) w) s

    w_half : is_store mnemonic ≡ false → IsWithin (half_of operand) before
    w_half reader =
        subst (λ z. IsWithin (if z then nothing else half_of operand) before) reader
        (within_more (either_left halves (reads mnemonic)) w_rest)

    byte : reads_byte mnemonic ≡ true → operand_read operand one place ≡ operand_read operand two place
    byte read =
        let reader = reader_stores_not mnemonic read in
        byte_same operand place refl
        (unless_first (is_store mnemonic) (may_see layout operand place)
        (meant_is layout mnemonic operand one after e).sees reader)
        (w_half reader) s

    result : Desk → Option Effect
    result desk = unless_stopped (effect_of mnemonic 0 place (operand_read operand desk) desk.cpu)

    one_has : (done : Effect) × (result one ≡ Some done) × IsBehind one after done
    one_has = has_effect (may_change layout operand) one after (result one)
        (meant_is layout mnemonic operand one after e).does

    two_has : (done : Effect) × (result two ≡ Some done) × IsBehind two after' done
    two_has =
        has_effect (may_change layout operand) two after' (result two)
        (subst (λ p. effected (may_change layout operand) two
        (unless_stopped (effect_of mnemonic 0 p (operand_read operand two) two.cpu)) ≡ Some after') (sym places)
        (meant_is layout mnemonic operand two after' f).does)

    are : SameRegisters (either (sets mnemonic) before) one_has.0.cpu two_has.0.cpu
        × (one_has.0.writes ≡ two_has.0.writes)
    are =
        (effects_same mnemonic place (operand_read operand one) (operand_read operand two) one.cpu two.cpu before
        (spelled_plain mnemonic (mode_of operand) spelled) byte
        (within_more (either_right halves
        (reads mnemonic)) w_rest) s.registers).are one_has.0 two_has.0 one_has.1 two_has.1

    -- a place that was the same, and the one that is stored
    kept : (p : ℕ) → one.at p ≡ two.at p → after.at p ≡ after'.at p
    kept p same = behind_same p one_has.2 two_has.2 are.1 (put_same one_has.0.writes one.at two.at p same)

    stored : is_store mnemonic ≡ true → (p : ℕ) → place ≡ p → after.at p ≡ after'.at p
    stored store p here =
        let it = is_stored mnemonic place (operand_read operand one) one.cpu one_has.0 store one_has.1 in
        subst (λ q. after.at q ≡ after'.at q) here
        (behind_same place one_has.2 two_has.2 are.1
        (subst (λ ws. put_all one.at ws place ≡ put_all two.at ws place) (sym it.is)
        (put_there one.at two.at place it.byte)))

    by_store : (z : Bool) → is_store mnemonic ≡ z →
        Alike layout (either (either (if z then half_of operand else nothing) (sets mnemonic)) before) after after'
    by_store true store =
        desks_same
        (λ low.
        elim (half_known (half_of operand).low (sets mnemonic).low before.low (sets_no_low mnemonic) low) [
          | inl half ↦ stored store layout.pointer (low_operand layout operand one half)
          | inr old ↦ kept layout.pointer (s.low old)
        ])
        (λ high.
        elim (half_known (half_of operand).high (sets mnemonic).high before.high (sets_no_high mnemonic) high) [
          | inl half ↦ stored store (layout.pointer + 1) (high_operand layout operand one half)
          | inr old ↦ kept (layout.pointer + 1) (s.high old)
        ])
        s one_has.2 two_has.2 (no_registers before (sets mnemonic) operand are.0) are.1
    by_store false store =
        desks_same
        (λ low.
        elim (half_known false (sets mnemonic).low before.low (sets_no_low mnemonic) low) [
          | inl half ↦ absurd (false≢true half)
          | inr old ↦ kept layout.pointer (s.low old)
        ])
        (λ high.
        elim (half_known false (sets mnemonic).high before.high (sets_no_high mnemonic) high) [
          | inl half ↦ absurd (false≢true half)
          | inr old ↦ kept (layout.pointer + 1) (s.high old)
        ])
        s one_has.2 two_has.2 are.0 are.1

-- ---- without one

pub alone_same : (layout : Layout) (mnemonic : Mnemonic) (before : Known) (one two after after' : Desk) →
    is_spelled mnemonic (alone_mode mnemonic) ≡ true → is_within (alone_reads mnemonic) before ≡ true →
    Alike layout before one two → done layout mnemonic one ≡ Some after → done layout mnemonic two ≡ Some after' →
    Alike layout (either (alone_sets mnemonic) before) after after'
alone_same layout mnemonic before one two after after' spelled has s e f = ends
  where
    other : Desk → Option Effect
    other desk = unless_stopped (effect_of mnemonic 0 0 desk.at desk.cpu)

    result : Desk → Option Effect
    result desk = or_effect (unless_stopped (accumulator_effect mnemonic 0 desk.cpu)) (other desk)

    w : IsWithin (alone_reads mnemonic) before
    w = within (alone_reads mnemonic) before has

    by_mode : (z : Bool) → is_accumulator (alone_mode mnemonic) ≡ z →
        SameEffects (either (alone_sets mnemonic) before) (result one) (result two)
    by_mode true shift = shifts_same mnemonic one.cpu two.cpu before (other one) (other two) shift w s.registers
    by_mode false memory =
        subst (λ z. SameEffects (either (either (if z then the_a else nothing) (sets mnemonic)) before) (result one)
        (result two))
        (sym memory)
        (subst (λ r. SameEffects (either (sets mnemonic) before) r (result two))
        (sym (alone_is mnemonic 0 one.cpu (other one) memory))
        (subst (λ r. SameEffects (either (sets mnemonic) before) (other one) r)
        (sym (alone_is mnemonic 0 two.cpu (other two) memory))
        (effects_same mnemonic 0 one.at two.at one.cpu two.cpu before
        (spelled_plain mnemonic (alone_mode mnemonic) spelled)
        (λ byte. absurd (alone_reads_no_byte mnemonic spelled memory byte))
        (within_more (either_right (shifts mnemonic) (reads mnemonic)) w) s.registers)))

    no_low : (z : Bool) → (if z then the_a else nothing).low ≡ false
    no_low true = refl
    no_low false = refl

    no_high : (z : Bool) → (if z then the_a else nothing).high ≡ false
    no_high true = refl
    no_high false = refl

    ends : Alike layout (either (alone_sets mnemonic) before) after after'
    ends =
        let one_has = has_effect layout.may_write one after (result one) e in
        let two_has = has_effect layout.may_write two after' (result two) f in
        let are = (by_mode (is_accumulator (alone_mode mnemonic)) refl).are one_has.0 two_has.0 one_has.1 two_has.1 in
        let kept = λ (p : ℕ) (same : one.at p ≡ two.at p).
        behind_same p one_has.2 two_has.2 are.1 (put_same one_has.0.writes one.at two.at p same) in
        desks_same
        (λ low.
        elim (half_known (shifts mnemonic).low (sets mnemonic).low before.low (sets_no_low mnemonic) low) [
          | inl half ↦ absurd (false≢true (sym (no_low (is_accumulator (alone_mode mnemonic))) ∙ half))
          | inr old ↦ kept layout.pointer (s.low old)
        ])
        (λ high.
        elim (half_known (shifts mnemonic).high (sets mnemonic).high before.high (sets_no_high mnemonic) high) [
          | inl half ↦ absurd (false≢true (sym (no_high (is_accumulator (alone_mode mnemonic))) ∙ half))
          | inr old ↦ kept (layout.pointer + 1) (s.high old)
        ])
        s one_has.2 two_has.2 are.0 are.1
