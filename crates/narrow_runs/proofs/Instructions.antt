-- What an instruction does in two layouts that have more places, it does where neither has more than the other.
use Rattle.std.proofs.Common.{◌≡◌, ℕ, ◌+◌, ◌*◌, ◌%◌, ◌||◌, Bool, true, false, nat_eq, List, [], ◌∷◌}
use Rattle.std.proofs.Common.{Option, Some, None, refl, sym, ap, ◌∙◌, subst, if◌then◌else◌}
use Rattle.std.proofs.lemmas.Bool.{and_parts, false≢true, eq-eqb}
use Rattle.base.proofs.Laws.{same_some}
use Rattle.cpu6502.specs.declared.cpu.Cpu.{Cpu}
use Rattle.cpu6502.specs.declared.effect.Write.{Write}
use Rattle.cpu6502.specs.declared.effect.Effect.{Effect}
use Rattle.cpu6502.specs.declared.mnemonic.Mnemonic.{Mnemonic}
use Rattle.cpu6502.specs.declared.mnemonic.Mnemonic.TheVariants.{Adc, And, Asl, Bit, Clc, Clv, Cmp, Cpx, Cpy, Dec, Dex}
use Rattle.cpu6502.specs.declared.mnemonic.Mnemonic.TheVariants.{Dey, Eor, Inc, Inx, Iny, Lda, Ldx, Ldy, Lsr, Nop, Ora}
use Rattle.cpu6502.specs.declared.mnemonic.Mnemonic.TheVariants.{Rol, Ror, Sbc, Sec, Sta, Stx, Sty, Tax, Tay, Txa, Tya}
use Rattle.cpu6502.specs.declared.memory.TheConstants.{MEMORY_SIZE}
use Rattle.cpu6502.specs.Shifts.{accumulator_effect}
use Rattle.cpu6502.specs.Effects.{effect_of, or_effect}
use Rattle.code_runs.specs.Runs.{put, put_all}
use Rattle.scopes.specs.declared.line.Half.TheVariants.{Low, High}
use Rattle.scopes.specs.declared.line.Operand.{Operand}
use Rattle.scopes.specs.declared.line.Operand.TheVariants.{Number, Var, Own, Entry, Pointed, Pointer, Register}
use Rattle.scopes.specs.declared.line.Operand.TheVariants.{OwnRegister, Timer}
use Rattle.scopes.specs.Desk.{Desk, Layout, half_place, operand_place, operand_read}
use Rattle.scopes.specs.Steps.{all_may, effected, unless_stopped, is_store, may_see, may_change, done_with, done}
use Rattle.scopes.specs.Plain.{is_plain}
use Rattle.scope_lines.specs.Instructions.{alone_mode, is_spelled}
use Rattle.narrow_runs.specs.Named.{operand_names}
use Rattle.narrow_runs.specs.Narrow.{AgreesOn, IsNarrow, IsSameBut}

-- ---- effects

-- with an operand, an effect is that of the operand's byte, and a store's of none
plain_same : (mnemonic : Mnemonic) (place : ℕ) (at at' : ℕ → ℕ) (cpu : Cpu) → is_plain mnemonic ≡ true →
    (is_store mnemonic ≡ false → at place ≡ at' place) →
    unless_stopped (effect_of mnemonic 0 place at cpu) ≡ unless_stopped (effect_of mnemonic 0 place at' cpu)
plain_same Adc place at at' cpu plain byte = rw (byte refl) refl
plain_same And place at at' cpu plain byte = rw (byte refl) refl
plain_same Asl place at at' cpu plain byte = rw (byte refl) refl
plain_same Bit place at at' cpu plain byte = rw (byte refl) refl
plain_same Clc place at at' cpu plain byte = refl
plain_same Clv place at at' cpu plain byte = refl
plain_same Cmp place at at' cpu plain byte = rw (byte refl) refl
plain_same Cpx place at at' cpu plain byte = rw (byte refl) refl
plain_same Cpy place at at' cpu plain byte = rw (byte refl) refl
plain_same Dec place at at' cpu plain byte = rw (byte refl) refl
plain_same Dex place at at' cpu plain byte = refl
plain_same Dey place at at' cpu plain byte = refl
plain_same Eor place at at' cpu plain byte = rw (byte refl) refl
plain_same Inc place at at' cpu plain byte = rw (byte refl) refl
plain_same Inx place at at' cpu plain byte = refl
plain_same Iny place at at' cpu plain byte = refl
plain_same Lda place at at' cpu plain byte = rw (byte refl) refl
plain_same Ldx place at at' cpu plain byte = rw (byte refl) refl
plain_same Ldy place at at' cpu plain byte = rw (byte refl) refl
plain_same Lsr place at at' cpu plain byte = rw (byte refl) refl
plain_same Nop place at at' cpu plain byte = refl
plain_same Ora place at at' cpu plain byte = rw (byte refl) refl
plain_same Rol place at at' cpu plain byte = rw (byte refl) refl
plain_same Ror place at at' cpu plain byte = rw (byte refl) refl
plain_same Sbc place at at' cpu plain byte = rw (byte refl) refl
plain_same Sec place at at' cpu plain byte = refl
plain_same Sta place at at' cpu plain byte = refl
plain_same Stx place at at' cpu plain byte = refl
plain_same Sty place at at' cpu plain byte = refl
plain_same Tax place at at' cpu plain byte = refl
plain_same Tay place at at' cpu plain byte = refl
plain_same Txa place at at' cpu plain byte = refl
plain_same Tya place at at' cpu plain byte = refl
plain_same _ place at at' cpu plain byte = absurd (false≢true plain)

-- without one, it is that of the registers alone
abbrev alone_effect : Mnemonic → (ℕ → ℕ) → Cpu → Option Effect
alone_effect mnemonic at cpu =
    or_effect (unless_stopped (accumulator_effect mnemonic 0 cpu)) (unless_stopped (effect_of mnemonic 0 0 at cpu))

alone_same : (mnemonic : Mnemonic) (at at' : ℕ → ℕ) (cpu : Cpu) →
    is_spelled mnemonic (alone_mode mnemonic) ≡ true →
    alone_effect mnemonic at cpu ≡ alone_effect mnemonic at' cpu
alone_same Asl at at' cpu spelled = refl
alone_same Clc at at' cpu spelled = refl
alone_same Clv at at' cpu spelled = refl
alone_same Dex at at' cpu spelled = refl
alone_same Dey at at' cpu spelled = refl
alone_same Inx at at' cpu spelled = refl
alone_same Iny at at' cpu spelled = refl
alone_same Lsr at at' cpu spelled = refl
alone_same Nop at at' cpu spelled = refl
alone_same Rol at at' cpu spelled = refl
alone_same Ror at at' cpu spelled = refl
alone_same Sec at at' cpu spelled = refl
alone_same Tax at at' cpu spelled = refl
alone_same Tay at at' cpu spelled = refl
alone_same Txa at at' cpu spelled = refl
alone_same Tya at at' cpu spelled = refl
alone_same _ at at' cpu spelled = absurd (false≢true spelled)

-- ---- desks

-- the same byte is put at the same place
pub put_alike : (more : ℕ → Bool) (at at' : ℕ → ℕ) (place byte : ℕ) →
    ((q : ℕ) → more q ≡ false → at q ≡ at' q) → (q : ℕ) → more q ≡ false → put at place byte q ≡ put at' place byte q
put_alike more at at' place byte same q e = by_test (nat_eq q place)
  where
    by_test : (z : Bool) → (if z then byte else at q) ≡ (if z then byte else at' q)
    by_test true = refl
    by_test false = same q e

put_all_alike : (more : ℕ → Bool) (writes : List Write) (at at' : ℕ → ℕ) →
    ((q : ℕ) → more q ≡ false → at q ≡ at' q) → (q : ℕ) → more q ≡ false →
    put_all at writes q ≡ put_all at' writes q
put_all_alike more [] at at' same = same
put_all_alike more (write ∷ writes) at at' same =
    put_all_alike more writes (put at write.place write.value) (put at' write.place write.value)
    (put_alike more at at' write.place write.value same)

-- a result is a desk that is as two others but for their places
pub record Comes (more other : ℕ → Bool) (result : Option Desk) (after after' : Desk) : Type 0 where
  pub desk : Desk
  pub is : result ≡ Some desk
  pub first : IsSameBut more desk after
  pub second : IsSameBut other desk after'

-- what both may, the narrow one may
record BothMay (may may' may'' : ℕ → Bool) : Type 0 where
  all : (place : ℕ) → may' place ≡ true → may'' place ≡ true → may place ≡ true

all_allowed : {may may' may'' : ℕ → Bool} → BothMay may may' may'' → (writes : List Write) →
    all_may may' writes ≡ true → all_may may'' writes ≡ true → all_may may writes ≡ true
all_allowed both [] e f = refl
all_allowed {may = may} {may' = may'} {may'' = may''} both (write ∷ writes) e f =
    let p = and_parts (may' write.place) (all_may may' writes) e in
    let q = and_parts (may'' write.place) (all_may may'' writes) f in
    let here = both.all write.place p.0 q.0 in
    let rest = all_allowed both writes p.1 q.1 in
    rw (here, rest) refl

abbrev behind_effect : Desk → Effect → Desk
behind_effect desk effect = record { cpu = effect.cpu; at = put_all desk.at effect.writes }

effect_alike : {more : ℕ → Bool} {desk first : Desk} (effect : Effect) → IsSameBut more desk first →
    IsSameBut more (behind_effect desk effect) (behind_effect first effect)
effect_alike {more = more} {desk = desk} {first = first} effect same =
    record { cpu = refl; at = put_all_alike more effect.writes desk.at first.at same.at }

effected_narrow : (more other may may' may'' : ℕ → Bool) (desk first second : Desk) (effect : Option Effect)
    (after after' : Desk) → BothMay may may' may'' → IsSameBut more desk first → IsSameBut other desk second →
    effected may' first effect ≡ Some after → effected may'' second effect ≡ Some after' →
    Comes more other (effected may desk effect) after after'
effected_narrow more other may may' may'' desk first second None after after' both same same' e f =
    (let no : None ≡ Some after = e in absurd (cc))
effected_narrow more other may may' may'' desk first second (Some effect) after after' both same same' e f =
    by_test (all_may may' effect.writes) (all_may may'' effect.writes) refl refl e f
  where
    by_test : (z w : Bool) → all_may may' effect.writes ≡ z → all_may may'' effect.writes ≡ w →
        (if z then Some (behind_effect first effect) else None) ≡ Some after →
        (if w then Some (behind_effect second effect) else None) ≡ Some after' →
        Comes more other (effected may desk (Some effect)) after after'
    by_test true true g h e f = record {
      desk = behind_effect desk effect;
      is = ap (λ z. if z then Some (behind_effect desk effect) else None) (all_allowed both effect.writes g h);
      first = subst (λ d. IsSameBut more (behind_effect desk effect) d)
          (same_some (behind_effect first effect) after e) (effect_alike effect same);
      second = subst (λ d. IsSameBut other (behind_effect desk effect) d)
          (same_some (behind_effect second effect) after' f) (effect_alike effect same');
    }
    by_test false w g h e f = (let no : None ≡ Some after = e in absurd (cc))
    by_test true false g h e f = (let no : None ≡ Some after' = f in absurd (cc))

-- ---- operands

-- an operand's place is the same
place_same : {more : ℕ → Bool} {narrow wide : Layout} {desk first : Desk} (operand : Operand) →
    AgreesOn (operand_names operand) narrow wide → IsSameBut more desk first →
    more narrow.pointer ≡ false → more (narrow.pointer + 1) ≡ false →
    operand_place wide operand first ≡ operand_place narrow operand desk
place_same (Number number) agrees same low high = refl
place_same (Var label) agrees same low high = agrees.addresses label (eq-eqb label label refl)
place_same {narrow = narrow} {first = first} (Own label) agrees same low high =
    ap (λ n. (n + first.cpu.x) % MEMORY_SIZE) (agrees.addresses label (eq-eqb label label refl))
    ∙ ap (λ c. (narrow.address label + c.x) % MEMORY_SIZE) (sym same.cpu)
place_same {narrow = narrow} {first = first} (Entry label) agrees same low high =
    ap (λ n. (n + first.cpu.y) % MEMORY_SIZE) (agrees.addresses label (eq-eqb label label refl))
    ∙ ap (λ c. (narrow.address label + c.y) % MEMORY_SIZE) (sym same.cpu)
place_same {narrow = narrow} {desk = desk} {first = first} Pointed agrees same low high =
    ap (λ p. (first.at p + 256 * first.at (p + 1) + first.cpu.y) % MEMORY_SIZE) agrees.pointer
    ∙ (ap (λ n. (n + 256 * first.at (narrow.pointer + 1) + first.cpu.y) % MEMORY_SIZE)
    (sym (same.at narrow.pointer low))
    ∙ (ap (λ n. (desk.at narrow.pointer + 256 * n + first.cpu.y) % MEMORY_SIZE)
    (sym (same.at (narrow.pointer + 1) high))
    ∙ ap (λ c. (desk.at narrow.pointer + 256 * desk.at (narrow.pointer + 1) + c.y) % MEMORY_SIZE) (sym same.cpu)))
place_same (Pointer half) agrees same low high = ap (λ p. half_place p half) agrees.pointer
place_same (Register register) agrees same low high = refl
place_same (OwnRegister register) agrees same low high =
    ap (λ c. (0xD400 + register + c.x) % MEMORY_SIZE) (sym same.cpu)
place_same (Timer half) agrees same low high = refl

-- what both may read, the narrow one may, and it is the same byte
record SeenAlike (store : Bool) (narrow : Layout) (operand : Operand) (place : ℕ)
    (desk first second : Desk) : Type 0 where
  sees : (store || may_see narrow operand place) ≡ true
  one : store ≡ false → operand_read operand desk place ≡ operand_read operand first place
  two : store ≡ false → operand_read operand desk place ≡ operand_read operand second place

seen_alike : {more other : ℕ → Bool} {narrow one two : Layout} {desk first second : Desk} (operand : Operand) →
    IsNarrow narrow one two more other → IsSameBut more desk first → IsSameBut other desk second → (store : Bool) →
    (store || may_see one operand (operand_place narrow operand desk)) ≡ true →
    (store || may_see two operand (operand_place narrow operand desk)) ≡ true →
    SeenAlike store narrow operand (operand_place narrow operand desk) desk first second
seen_alike operand is same same' true e f = record {
  sees = refl;
  one = λ no. absurd (false≢true (sym no));
  two = λ no. absurd (false≢true (sym no));
}
seen_alike {narrow = narrow} {one = one} {two = two} {desk = desk} {first = first} {second = second} operand is same
    same' false e f = by_operand operand e f
  where
    read : (place : ℕ) → one.may_read place ≡ true → two.may_read place ≡ true →
        (narrow.may_read place ≡ true) × (desk.at place ≡ first.at place) × (desk.at place ≡ second.at place)
    read place e f =
        let may = is.reads place e f in
        (may.0, same.at place may.1, same'.at place may.2)

    by_operand : (operand : Operand) → may_see one operand (operand_place narrow operand desk) ≡ true →
        may_see two operand (operand_place narrow operand desk) ≡ true →
        SeenAlike false narrow operand (operand_place narrow operand desk) desk first second
    by_operand (Number number) e f = record { sees = refl; one = λ n. refl; two = λ n. refl }
    by_operand (Pointer Low) e f = record {
      sees = refl;
      one = λ n. same.at narrow.pointer is.low.0;
      two = λ n. same'.at narrow.pointer is.low.1;
    }
    by_operand (Pointer High) e f = record {
      sees = refl;
      one = λ n. same.at (narrow.pointer + 1) is.high.0;
      two = λ n. same'.at (narrow.pointer + 1) is.high.1;
    }
    by_operand (Var label) e f =
        (let r = read (narrow.address label) e f in record { sees = r.0; one = λ n. r.1; two = λ n. r.2 })
    by_operand (Own label) e f =
        let r = read ((narrow.address label + desk.cpu.x) % MEMORY_SIZE) e f in
        record { sees = r.0; one = λ n. r.1; two = λ n. r.2 }
    by_operand (Entry label) e f =
        let r = read ((narrow.address label + desk.cpu.y) % MEMORY_SIZE) e f in
        record { sees = r.0; one = λ n. r.1; two = λ n. r.2 }
    by_operand Pointed e f =
        let r = read (operand_place narrow Pointed desk) e f in
        record { sees = r.0; one = λ n. r.1; two = λ n. r.2 }
    by_operand (Register register) e f =
        (let r = read (0xD400 + register) e f in record { sees = r.0; one = λ n. r.1; two = λ n. r.2 })
    by_operand (OwnRegister register) e f =
        let r = read ((0xD400 + register + desk.cpu.x) % MEMORY_SIZE) e f in
        record { sees = r.0; one = λ n. r.1; two = λ n. r.2 }
    by_operand (Timer half) e f =
        (let r = read (half_place 0xDC04 half) e f in record { sees = r.0; one = λ n. r.1; two = λ n. r.2 })

-- and so it is with what both may write
both_write : {more other : ℕ → Bool} {narrow one two : Layout} → IsNarrow narrow one two more other →
    BothMay narrow.may_write one.may_write two.may_write
both_write is = record { all = λ place e f. (is.writes place e f).0 }

both_change : {more other : ℕ → Bool} {narrow one two : Layout} (operand : Operand) → one.pointer ≡ narrow.pointer →
    IsNarrow narrow one two more other →
    BothMay (may_change narrow operand) (may_change one operand) (may_change two operand)
both_change (Number number) pointer is = record { all = (both_write is).all }
both_change (Var label) pointer is = record { all = (both_write is).all }
both_change (Own label) pointer is = record { all = (both_write is).all }
both_change (Entry label) pointer is = record { all = (both_write is).all }
both_change Pointed pointer is = record { all = (both_write is).all }
both_change (Pointer half) pointer is = record {
  all = λ place e f. ap (λ p. nat_eq place (half_place p half)) (sym pointer) ∙ e;
}
both_change (Register register) pointer is = record { all = (both_write is).all }
both_change (OwnRegister register) pointer is = record { all = (both_write is).all }
both_change (Timer half) pointer is = record { all = (both_write is).all }

-- ---- instructions

guarded : (z : Bool) (result : Option Desk) (after : Desk) → (if z then result else None) ≡ Some after →
    (z ≡ true) × (result ≡ Some after)
guarded true result after e = (refl, e)
guarded false result after e = (let no : None ≡ Some after = e in absurd (cc))

-- what an operand's instruction does where its place is this one
abbrev with_at : Layout → Mnemonic → Operand → Desk → ℕ → Option Desk
with_at layout mnemonic operand desk place =
    if is_store mnemonic || may_see layout operand place then effected (may_change layout operand) desk
    (unless_stopped (effect_of mnemonic 0 place (operand_read operand desk) desk.cpu)) else None

pub with_narrow : (mnemonic : Mnemonic) (operand : Operand) (narrow one two : Layout) (more other : ℕ → Bool)
    (desk first second after after' : Desk) → is_plain mnemonic ≡ true →
    AgreesOn (operand_names operand) narrow one → AgreesOn (operand_names operand) narrow two →
    IsNarrow narrow one two more other → IsSameBut more desk first → IsSameBut other desk second →
    done_with one mnemonic operand first ≡ Some after → done_with two mnemonic operand second ≡ Some after' →
    Comes more other (done_with narrow mnemonic operand desk) after after'
with_narrow mnemonic operand narrow one two more other desk first second after after' plain agrees agrees' is same same'
    e f =
    subst (λ z. Comes more other (if z then result else None) after after') (sym seen.sees)
    (effected_narrow more other (may_change narrow operand) (may_change one operand) (may_change two operand) desk first
    second effect after after' (both_change operand agrees.pointer is) same same'
    (subst (λ d. effected (may_change one operand) first d ≡ Some after) (sym as_first) here.1)
    (subst (λ d. effected (may_change two operand) second d ≡ Some after') (sym as_second) there.1))
  where
    place : ℕ
    place = operand_place narrow operand desk

    effect : Option Effect
    effect = unless_stopped (effect_of mnemonic 0 place (operand_read operand desk) desk.cpu)

    result : Option Desk
    result = effected (may_change narrow operand) desk effect

    effect_in : Desk → Option Effect
    effect_in d = unless_stopped (effect_of mnemonic 0 place (operand_read operand d) d.cpu)

    here : ((is_store mnemonic || may_see one operand place) ≡ true)
        × (effected (may_change one operand) first (effect_in first) ≡ Some after)
    here = guarded (is_store mnemonic || may_see one operand place)
        (effected (may_change one operand) first (effect_in first)) after
        (subst (λ p. with_at one mnemonic operand first p ≡ Some after)
        (place_same operand agrees same is.low.0 is.high.0) e)

    there : ((is_store mnemonic || may_see two operand place) ≡ true)
        × (effected (may_change two operand) second (effect_in second) ≡ Some after')
    there = guarded (is_store mnemonic || may_see two operand place)
        (effected (may_change two operand) second (effect_in second)) after'
        (subst (λ p. with_at two mnemonic operand second p ≡ Some after')
        (place_same operand agrees' same' is.low.1 is.high.1) f)

    seen : SeenAlike (is_store mnemonic) narrow operand place desk first second
    seen = seen_alike operand is same same' (is_store mnemonic) here.0 there.0

    as_first : effect ≡ effect_in first
    as_first =
        plain_same mnemonic place (operand_read operand desk) (operand_read operand first) desk.cpu plain seen.one
        ∙ ap (λ c. unless_stopped (effect_of mnemonic 0 place (operand_read operand first) c)) same.cpu

    as_second : effect ≡ effect_in second
    as_second =
        plain_same mnemonic place (operand_read operand desk) (operand_read operand second) desk.cpu plain seen.two
        ∙ ap (λ c. unless_stopped (effect_of mnemonic 0 place (operand_read operand second) c)) same'.cpu

pub alone_narrow : (mnemonic : Mnemonic) (narrow one two : Layout) (more other : ℕ → Bool)
    (desk first second after after' : Desk) → is_spelled mnemonic (alone_mode mnemonic) ≡ true →
    IsNarrow narrow one two more other → IsSameBut more desk first → IsSameBut other desk second →
    done one mnemonic first ≡ Some after → done two mnemonic second ≡ Some after' →
    Comes more other (done narrow mnemonic desk) after after'
alone_narrow mnemonic narrow one two more other desk first second after after' spelled is same same' e f =
    effected_narrow more other narrow.may_write one.may_write two.may_write desk first second
    (alone_effect mnemonic desk.at desk.cpu) after after' (both_write is) same same'
    (subst (λ d. effected one.may_write first d ≡ Some after) (sym as_first) e)
    (subst (λ d. effected two.may_write second d ≡ Some after') (sym as_second) f)
  where
    as_first : alone_effect mnemonic desk.at desk.cpu ≡ alone_effect mnemonic first.at first.cpu
    as_first = alone_same mnemonic desk.at first.at desk.cpu spelled
        ∙ ap (λ c. alone_effect mnemonic first.at c) same.cpu

    as_second : alone_effect mnemonic desk.at desk.cpu ≡ alone_effect mnemonic second.at second.cpu
    as_second = alone_same mnemonic desk.at second.at desk.cpu spelled
        ∙ ap (λ c. alone_effect mnemonic second.at c) same'.cpu
