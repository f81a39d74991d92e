-- An instruction that reads what is known alone does the same from both, and makes known what it sets.
use Rattle.std.proofs.Common.{◌≡◌, ℕ, ◌+◌, ◌*◌, ◌/◌, ◌%◌, ◌-◌, Bool, true, false, Option}
use Rattle.std.proofs.Common.{Some, None, refl, sym, ap, ◌∙◌, subst, if◌then◌else◌}
use Rattle.std.specs.Prelude.{bit_and, bit_or, bit_xor, nat_eq, nat_le}
use Rattle.std.proofs.lemmas.Bool.{false≢true}
use Rattle.base.proofs.Laws.{same_some}
use Rattle.cpu6502.specs.declared.cpu.Cpu.{Cpu}
use Rattle.cpu6502.specs.declared.effect.Effect.{Effect}
use Rattle.cpu6502.specs.declared.mnemonic.Mnemonic.{Mnemonic}
use Rattle.cpu6502.specs.declared.mnemonic.Mnemonic.TheVariants.{Adc, And, Asl, Bit, Clc, Clv, Cmp, Cpx, Cpy, Dec, Dex, Dey}
use Rattle.cpu6502.specs.declared.mnemonic.Mnemonic.TheVariants.{Eor, Inc, Inx, Iny, Lda, Ldx, Ldy, Lsr, Nop, Ora, Rol, Ror}
use Rattle.cpu6502.specs.declared.mnemonic.Mnemonic.TheVariants.{Sbc, Sec, Sta, Stx, Sty, Tax, Tay, Txa, Tya}
use Rattle.cpu6502.specs.Registers.{one_if, with_sign_and_zero, with_a, with_x, with_y, quiet, storing}
use Rattle.cpu6502.specs.Arithmetic.{added}
use Rattle.cpu6502.specs.Compares.{compared}
use Rattle.cpu6502.specs.Logic.{tested}
use Rattle.cpu6502.specs.Shifts.{accumulator_effect}
use Rattle.cpu6502.specs.Effects.{effect_of, or_effect}
use Rattle.cpu6502.specs.Opcodes.{is_accumulator}
use Rattle.cpu6502.specs.Effects.{unless_stopped as stopped_or}
use Rattle.cpu6502.specs.declared.stop.Stop.TheVariants.{Decimal}
use Rattle.scopes.specs.Steps.{unless_stopped}
use Rattle.scopes.specs.Plain.{is_plain}
use Rattle.scope_lines.specs.Instructions.{is_spelled, alone_mode}
use Rattle.scope_lines.specs.Known.{Known, the_a, the_x, the_y, the_carry, shown, either, reads, sets, alone_reads, alone_sets}
use Rattle.scope_lines.specs.Isolation.{SameRegisters}
use Rattle.scope_lines.proofs.Knowing.{IsWithin}

-- ---- registers

-- a byte is shown, or put into a register and shown
shows : {before : Known} {one two : Cpu} {b c : ℕ} → SameRegisters before one two → b ≡ c →
    SameRegisters (either shown before) (with_sign_and_zero one b) (with_sign_and_zero two c)
shows s e = record {
  a = s.a;
  x = s.x;
  y = s.y;
  carry = s.carry;
  zero = λ k. ap (λ n. nat_eq n 0) e;
  minus = λ k. ap (λ n. nat_le 128 n) e;
}

puts_a : {before : Known} {one two : Cpu} {b c : ℕ} → SameRegisters before one two → b ≡ c →
    SameRegisters (either (either the_a shown) before) (with_a one b) (with_a two c)
puts_a s e = record {
  a = λ k. e;
  x = s.x;
  y = s.y;
  carry = s.carry;
  zero = λ k. ap (λ n. nat_eq n 0) e;
  minus = λ k. ap (λ n. nat_le 128 n) e;
}

puts_x : {before : Known} {one two : Cpu} {b c : ℕ} → SameRegisters before one two → b ≡ c →
    SameRegisters (either (either the_x shown) before) (with_x one b) (with_x two c)
puts_x s e = record {
  a = s.a;
  x = λ k. e;
  y = s.y;
  carry = s.carry;
  zero = λ k. ap (λ n. nat_eq n 0) e;
  minus = λ k. ap (λ n. nat_le 128 n) e;
}

puts_y : {before : Known} {one two : Cpu} {b c : ℕ} → SameRegisters before one two → b ≡ c →
    SameRegisters (either (either the_y shown) before) (with_y one b) (with_y two c)
puts_y s e = record {
  a = s.a;
  x = s.x;
  y = λ k. e;
  carry = s.carry;
  zero = λ k. ap (λ n. nat_eq n 0) e;
  minus = λ k. ap (λ n. nat_le 128 n) e;
}

-- the carry is set, and the overflow flag
carries : {before : Known} {one two : Cpu} {p q : Bool} → SameRegisters before one two → p ≡ q →
    SameRegisters (either the_carry before) (record one { c = p }) (record two { c = q })
carries s e = record {
  a = s.a;
  x = s.x;
  y = s.y;
  carry = λ k. e;
  zero = s.zero;
  minus = s.minus;
}

overflows : {before : Known} {one two : Cpu} (p q : Bool) → SameRegisters before one two →
    SameRegisters before (record one { v = p }) (record two { v = q })
overflows p q s = record { a = s.a; x = s.x; y = s.y; carry = s.carry; zero = s.zero; minus = s.minus }

-- sums, comparisons and tests of bits
adds : {before : Known} {one two : Cpu} {b c : ℕ} → SameRegisters before one two → before.a ≡ true →
    before.carry ≡ true → b ≡ c →
    SameRegisters (either (either the_a (either the_carry shown)) before) (added one b) (added two c)
adds {one = one} {two = two} {b = b} {c = c} s a carry e = record {
  a = λ k. ap (λ n. n % 256) sum;
  x = s.x;
  y = s.y;
  carry = λ k. ap (λ n. nat_le 256 n) sum;
  zero = λ k. ap (λ n. nat_eq (n % 256) 0) sum;
  minus = λ k. ap (λ n. nat_le 128 (n % 256)) sum;
}
  where
    sum : one.a + b + one_if one.c ≡ two.a + c + one_if two.c
    sum = ap (λ n. n + b + one_if one.c) (s.a a) ∙ ap (λ n. two.a + n + one_if one.c) e
        ∙ ap (λ p. two.a + c + one_if p) (s.carry carry)

compares : {before : Known} {one two : Cpu} {m n b c : ℕ} → SameRegisters before one two → m ≡ n → b ≡ c →
    SameRegisters (either (either the_carry shown) before) (compared one m b) (compared two n c)
compares {m = m} {n = n} {b = b} {c = c} s r e = record {
  a = s.a;
  x = s.x;
  y = s.y;
  carry = λ k. ap (λ q. nat_le b q) r ∙ ap (λ q. nat_le q n) e;
  zero = λ k. ap (λ q. nat_eq (q % 256) 0) difference;
  minus = λ k. ap (λ q. nat_le 128 (q % 256)) difference;
}
  where
    difference : m + (256 - b) ≡ n + (256 - c)
    difference = ap (λ q. q + (256 - b)) r ∙ ap (λ q. n + (256 - q)) e

tests : {before : Known} {one two : Cpu} {b c : ℕ} → SameRegisters before one two → before.a ≡ true → b ≡ c →
    SameRegisters (either shown before) (tested one b) (tested two c)
tests {one = one} {two = two} {b = b} {c = c} s a e = record {
  a = s.a;
  x = s.x;
  y = s.y;
  carry = s.carry;
  zero = λ k. ap (λ n. nat_eq (bit_and n b) 0) (s.a a) ∙ ap (λ n. nat_eq (bit_and two.a n) 0) e;
  minus = λ k. ap (λ n. nat_le 128 n) e;
}

-- ---- effects

-- where both have an effect, they have the same in what is known, and write the same
pub record SameEffects (known : Known) (one two : Option Effect) : Type 0 where
  pub are : (done other : Effect) → one ≡ Some done → two ≡ Some other → SameRegisters known done.cpu other.cpu
      × (done.writes ≡ other.writes)

quiets : {known : Known} {one two : Cpu} → SameRegisters known one two →
    SameEffects known (Some (quiet one)) (Some (quiet two))
quiets {known = known} {one = one} {two = two} s = record {
  are = λ done other e f.
      let p = same_some (quiet one) done e in
      let q = same_some (quiet two) other f in (
        subst (λ d. SameRegisters known d.cpu other.cpu) p (subst (λ d. SameRegisters known one d.cpu) q s),
        ap (λ d. d.writes) (sym p) ∙ ap (λ d. d.writes) q,
      );
}

stores : {known : Known} {one two : Cpu} {b c : ℕ} → (place : ℕ) → SameRegisters known one two → b ≡ c →
    SameEffects known (Some (storing one place b)) (Some (storing two place c))
stores {known = known} {one = one} {two = two} {b = b} {c = c} place s same = record {
  are = λ done other e f.
      let p = same_some (storing one place b) done e in
      let q = same_some (storing two place c) other f in (
        subst (λ d. SameRegisters known d.cpu other.cpu) p (subst (λ d. SameRegisters known one d.cpu) q s),
        ap (λ d. d.writes) (sym p)
            ∙ (ap (λ n. (storing two place n).writes) same ∙ ap (λ d. d.writes) q),
      );
}

-- a sum or a difference, which has none with the decimal flag on
abbrev unless_decimal : Bool → Effect → Option Effect
unless_decimal d done = unless_stopped (stopped_or (if d then Some (Decimal 0) else None) 0 (Some done))

sums : {known : Known} {one two : Cpu} (d e : Bool) → SameRegisters known one two →
    SameEffects known (unless_decimal d (quiet one)) (unless_decimal e (quiet two))
sums {one = one} {two = two} true e s = record {
  are = λ done other f g. (let no : None ≡ Some done = f in absurd (cc));
}
sums {one = one} {two = two} false true s = record {
  are = λ done other f g. (let no : None ≡ Some other = g in absurd (cc));
}
sums false false s = quiets s

-- whether it reads the byte of its operand
abbrev pub reads_byte : Mnemonic → Bool
reads_byte Adc = true
reads_byte And = true
reads_byte Asl = true
reads_byte Bit = true
reads_byte Cmp = true
reads_byte Cpx = true
reads_byte Cpy = true
reads_byte Dec = true
reads_byte Eor = true
reads_byte Inc = true
reads_byte Lda = true
reads_byte Ldx = true
reads_byte Ldy = true
reads_byte Lsr = true
reads_byte Ora = true
reads_byte Rol = true
reads_byte Ror = true
reads_byte Sbc = true
reads_byte _ = false

abbrev at_place : Mnemonic → ℕ → (ℕ → ℕ) → Cpu → Option Effect
at_place mnemonic place at cpu = unless_stopped (effect_of mnemonic 0 place at cpu)

pub effects_same : (mnemonic : Mnemonic) (place : ℕ) (at at' : ℕ → ℕ) (one two : Cpu) (before : Known) →
    is_plain mnemonic ≡ true → (reads_byte mnemonic ≡ true → at place ≡ at' place) → IsWithin (reads mnemonic) before →
    SameRegisters before one two →
    SameEffects (either (sets mnemonic) before) (at_place mnemonic place at one) (at_place mnemonic place at' two)
effects_same Adc place at at' one two before plain byte has s =
    sums one.d two.d (adds s (has.a refl) (has.carry refl) (byte refl))
effects_same And place at at' one two before plain byte has s =
    quiets (puts_a s (ap (λ n. bit_and n (at place)) (s.a (has.a refl)) ∙ ap (bit_and two.a) (byte refl)))
effects_same Asl place at at' one two before plain byte has s =
    let e : 2 * at place % 256 ≡ 2 * at' place % 256 = ap (λ n. 2 * n % 256) (byte refl) in
    stores place (shows (carries s (ap (λ n. nat_le 128 n) (byte refl))) e) e
effects_same Bit place at at' one two before plain byte has s = quiets (tests s (has.a refl) (byte refl))
effects_same Clc place at at' one two before plain byte has s = quiets (carries s refl)
effects_same Clv place at at' one two before plain byte has s = quiets (overflows false false s)
effects_same Cmp place at at' one two before plain byte has s = quiets (compares s (s.a (has.a refl)) (byte refl))
effects_same Cpx place at at' one two before plain byte has s = quiets (compares s (s.x (has.x refl)) (byte refl))
effects_same Cpy place at at' one two before plain byte has s = quiets (compares s (s.y (has.y refl)) (byte refl))
effects_same Dec place at at' one two before plain byte has s =
    let e : (at place + 255) % 256 ≡ (at' place + 255) % 256 = ap (λ n. (n + 255) % 256) (byte refl) in
    stores place (shows s e) e
effects_same Dex place at at' one two before plain byte has s =
    quiets (puts_x s (ap (λ n. (n + 255) % 256) (s.x (has.x refl))))
effects_same Dey place at at' one two before plain byte has s =
    quiets (puts_y s (ap (λ n. (n + 255) % 256) (s.y (has.y refl))))
effects_same Eor place at at' one two before plain byte has s =
    quiets (puts_a s (ap (λ n. bit_xor n (at place)) (s.a (has.a refl)) ∙ ap (bit_xor two.a) (byte refl)))
effects_same Inc place at at' one two before plain byte has s =
    let e : (at place + 1) % 256 ≡ (at' place + 1) % 256 = ap (λ n. (n + 1) % 256) (byte refl) in
    stores place (shows s e) e
effects_same Inx place at at' one two before plain byte has s =
    quiets (puts_x s (ap (λ n. (n + 1) % 256) (s.x (has.x refl))))
effects_same Iny place at at' one two before plain byte has s =
    quiets (puts_y s (ap (λ n. (n + 1) % 256) (s.y (has.y refl))))
effects_same Lda place at at' one two before plain byte has s = quiets (puts_a s (byte refl))
effects_same Ldx place at at' one two before plain byte has s = quiets (puts_x s (byte refl))
effects_same Ldy place at at' one two before plain byte has s = quiets (puts_y s (byte refl))
effects_same Lsr place at at' one two before plain byte has s =
    let e : at place / 2 ≡ at' place / 2 = ap (λ n. n / 2) (byte refl) in
    stores place (shows (carries s (ap (λ n. nat_eq (n % 2) 1) (byte refl))) e) e
effects_same Nop place at at' one two before plain byte has s = quiets s
effects_same Ora place at at' one two before plain byte has s =
    quiets (puts_a s (ap (λ n. bit_or n (at place)) (s.a (has.a refl)) ∙ ap (bit_or two.a) (byte refl)))
effects_same Rol place at at' one two before plain byte has s =
    let e : (2 * at place + one_if one.c) % 256 ≡ (2 * at' place + one_if two.c) % 256 =
    ap (λ n. (2 * n + one_if one.c) % 256) (byte refl)
    ∙ ap (λ p. (2 * at' place + one_if p) % 256) (s.carry (has.carry refl)) in
    stores place (shows (carries s (ap (λ n. nat_le 128 n) (byte refl))) e) e
effects_same Ror place at at' one two before plain byte has s =
    let e : at place / 2 + 128 * one_if one.c ≡ at' place / 2 + 128 * one_if two.c =
    ap (λ n. n / 2 + 128 * one_if one.c) (byte refl)
    ∙ ap (λ p. at' place / 2 + 128 * one_if p) (s.carry (has.carry refl)) in
    stores place (shows (carries s (ap (λ n. nat_eq (n % 2) 1) (byte refl))) e) e
effects_same Sbc place at at' one two before plain byte has s =
    sums one.d two.d (adds s (has.a refl) (has.carry refl) (ap (λ n. 255 - n) (byte refl)))
effects_same Sec place at at' one two before plain byte has s = quiets (carries s refl)
effects_same Sta place at at' one two before plain byte has s = stores place s (s.a (has.a refl))
effects_same Stx place at at' one two before plain byte has s = stores place s (s.x (has.x refl))
effects_same Sty place at at' one two before plain byte has s = stores place s (s.y (has.y refl))
effects_same Tax place at at' one two before plain byte has s = quiets (puts_x s (s.a (has.a refl)))
effects_same Tay place at at' one two before plain byte has s = quiets (puts_y s (s.a (has.a refl)))
effects_same Txa place at at' one two before plain byte has s = quiets (puts_a s (s.x (has.x refl)))
effects_same Tya place at at' one two before plain byte has s = quiets (puts_a s (s.y (has.y refl)))
effects_same _ place at at' one two before plain byte has s = absurd (false≢true plain)

-- ---- without an operand

-- a shift works on A
pub shifts_same : (mnemonic : Mnemonic) (one two : Cpu) (before : Known) (other other' : Option Effect) →
    is_accumulator (alone_mode mnemonic) ≡ true → IsWithin (alone_reads mnemonic) before →
    SameRegisters before one two →
    SameEffects (either (alone_sets mnemonic) before)
    (or_effect (unless_stopped (accumulator_effect mnemonic 0 one)) other)
    (or_effect (unless_stopped (accumulator_effect mnemonic 0 two)) other')
shifts_same Asl one two before other other' shift has s =
    let a = s.a (has.a refl) in
    quiets (puts_a (carries s (ap (λ n. nat_le 128 n) a)) (ap (λ n. 2 * n % 256) a))
shifts_same Lsr one two before other other' shift has s =
    let a = s.a (has.a refl) in
    quiets (puts_a (carries s (ap (λ n. nat_eq (n % 2) 1) a)) (ap (λ n. n / 2) a))
shifts_same Rol one two before other other' shift has s =
    let a = s.a (has.a refl) in
    quiets (puts_a (carries s (ap (λ n. nat_le 128 n) a)) (ap (λ n. (2 * n + one_if one.c) % 256) a
    ∙ ap (λ p. (2 * two.a + one_if p) % 256) (s.carry (has.carry refl))))
shifts_same Ror one two before other other' shift has s =
    let a = s.a (has.a refl) in
    quiets (puts_a (carries s (ap (λ n. nat_eq (n % 2) 1) a)) (ap (λ n. n / 2 + 128 * one_if one.c) a
    ∙ ap (λ p. two.a / 2 + 128 * one_if p) (s.carry (has.carry refl))))
shifts_same _ one two before other other' shift has s = absurd (cc)

-- and what is no shift reads no byte
pub alone_reads_no_byte : (mnemonic : Mnemonic) → is_spelled mnemonic (alone_mode mnemonic) ≡ true →
    is_accumulator (alone_mode mnemonic) ≡ false → reads_byte mnemonic ≡ true → ⊥
alone_reads_no_byte Adc spelled memory byte = false≢true spelled
alone_reads_no_byte And spelled memory byte = false≢true spelled
alone_reads_no_byte Asl spelled memory byte = false≢true (sym memory)
alone_reads_no_byte Bit spelled memory byte = false≢true spelled
alone_reads_no_byte Cmp spelled memory byte = false≢true spelled
alone_reads_no_byte Cpx spelled memory byte = false≢true spelled
alone_reads_no_byte Cpy spelled memory byte = false≢true spelled
alone_reads_no_byte Dec spelled memory byte = false≢true spelled
alone_reads_no_byte Eor spelled memory byte = false≢true spelled
alone_reads_no_byte Inc spelled memory byte = false≢true spelled
alone_reads_no_byte Lda spelled memory byte = false≢true spelled
alone_reads_no_byte Ldx spelled memory byte = false≢true spelled
alone_reads_no_byte Ldy spelled memory byte = false≢true spelled
alone_reads_no_byte Lsr spelled memory byte = false≢true (sym memory)
alone_reads_no_byte Ora spelled memory byte = false≢true spelled
alone_reads_no_byte Rol spelled memory byte = false≢true (sym memory)
alone_reads_no_byte Ror spelled memory byte = false≢true (sym memory)
alone_reads_no_byte Sbc spelled memory byte = false≢true spelled
alone_reads_no_byte _ spelled memory byte = false≢true byte
