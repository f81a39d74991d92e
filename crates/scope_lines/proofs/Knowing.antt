-- Sets of registers, and two runs that have the same in them.
use Rattle.std.proofs.Common.{◌≡◌, ◌&&◌, ◌||◌, Bool, true, false, not, refl, ap}
use Rattle.std.proofs.lemmas.Bool.{and_parts, or_left, or_right, false≢true}
use Rattle.cpu6502.specs.declared.cpu.Cpu.{Cpu}
use Rattle.scopes.specs.declared.line.Flag.{Flag}
use Rattle.scopes.specs.declared.line.Flag.TheVariants.{Zero, Minus, Carry}
use Rattle.scopes.specs.declared.line.Test.{Test}
use Rattle.scopes.specs.declared.line.Test.TheVariants.{On, Off}
use Rattle.scopes.specs.Desk.{Desk, Layout}
use Rattle.scopes.specs.Meaning.{Outcome, Ran, flag_of, is_met}
use Rattle.scope_lines.specs.Known.{Known, Ways, either, both, is_within, flag_read, test_reads}
use Rattle.scope_lines.specs.Isolation.{SameRegisters, Alike, known_at, RanAlike}

-- all of the one set are in the other
pub record IsWithin (one two : Known) : Type 0 where
  pub a : one.a ≡ true → two.a ≡ true
  pub x : one.x ≡ true → two.x ≡ true
  pub y : one.y ≡ true → two.y ≡ true
  pub carry : one.carry ≡ true → two.carry ≡ true
  pub zero : one.zero ≡ true → two.zero ≡ true
  pub minus : one.minus ≡ true → two.minus ≡ true
  pub low : one.low ≡ true → two.low ≡ true
  pub high : one.high ≡ true → two.high ≡ true

implied : (p q : Bool) → (not p || q) ≡ true → p ≡ true → q ≡ true
implied true q e is = e
implied false q e is = absurd (false≢true is)

pub within : (one two : Known) → is_within one two ≡ true → IsWithin one two
within one two e =
    let p = λ (x y : Bool). not x || y in
    let to_x = p one.a two.a && p one.x two.x in
    let to_y = to_x && p one.y two.y in
    let to_carry = to_y && p one.carry two.carry in
    let to_zero = to_carry && p one.zero two.zero in
    let to_minus = to_zero && p one.minus two.minus in
    let high = and_parts (to_minus && p one.low two.low) (p one.high two.high) e in
    let low = and_parts to_minus (p one.low two.low) high.0 in
    let minus = and_parts to_zero (p one.minus two.minus) low.0 in
    let zero = and_parts to_carry (p one.zero two.zero) minus.0 in
    let carry = and_parts to_y (p one.carry two.carry) zero.0 in
    let y = and_parts to_x (p one.y two.y) carry.0 in
    let x = and_parts (p one.a two.a) (p one.x two.x) y.0 in
    record {
      a = implied one.a two.a x.0;
      x = implied one.x two.x x.1;
      y = implied one.y two.y y.1;
      carry = implied one.carry two.carry carry.1;
      zero = implied one.zero two.zero zero.1;
      minus = implied one.minus two.minus minus.1;
      low = implied one.low two.low low.1;
      high = implied one.high two.high high.1;
    }

pub within_itself : (one : Known) → IsWithin one one
within_itself one = record {
  a = λ e. e;
  x = λ e. e;
  y = λ e. e;
  carry = λ e. e;
  zero = λ e. e;
  minus = λ e. e;
  low = λ e. e;
  high = λ e. e;
}

pub both_left : (one two : Known) → IsWithin (both one two) one
both_left one two = record {
  a = λ e. (and_parts one.a two.a e).0;
  x = λ e. (and_parts one.x two.x e).0;
  y = λ e. (and_parts one.y two.y e).0;
  carry = λ e. (and_parts one.carry two.carry e).0;
  zero = λ e. (and_parts one.zero two.zero e).0;
  minus = λ e. (and_parts one.minus two.minus e).0;
  low = λ e. (and_parts one.low two.low e).0;
  high = λ e. (and_parts one.high two.high e).0;
}

pub both_right : (one two : Known) → IsWithin (both one two) two
both_right one two = record {
  a = λ e. (and_parts one.a two.a e).1;
  x = λ e. (and_parts one.x two.x e).1;
  y = λ e. (and_parts one.y two.y e).1;
  carry = λ e. (and_parts one.carry two.carry e).1;
  zero = λ e. (and_parts one.zero two.zero e).1;
  minus = λ e. (and_parts one.minus two.minus e).1;
  low = λ e. (and_parts one.low two.low e).1;
  high = λ e. (and_parts one.high two.high e).1;
}

pub either_left : (one two : Known) → IsWithin one (either one two)
either_left one two = record {
  a = or_left one.a two.a;
  x = or_left one.x two.x;
  y = or_left one.y two.y;
  carry = or_left one.carry two.carry;
  zero = or_left one.zero two.zero;
  minus = or_left one.minus two.minus;
  low = or_left one.low two.low;
  high = or_left one.high two.high;
}

pub either_right : (one two : Known) → IsWithin two (either one two)
either_right one two = record {
  a = or_right one.a two.a;
  x = or_right one.x two.x;
  y = or_right one.y two.y;
  carry = or_right one.carry two.carry;
  zero = or_right one.zero two.zero;
  minus = or_right one.minus two.minus;
  low = or_right one.low two.low;
  high = or_right one.high two.high;
}

pub within_more : {one two three : Known} → IsWithin one two → IsWithin two three → IsWithin one three
within_more p q = record {
  a = λ e. q.a (p.a e);
  x = λ e. q.x (p.x e);
  y = λ e. q.y (p.y e);
  carry = λ e. q.carry (p.carry e);
  zero = λ e. q.zero (p.zero e);
  minus = λ e. q.minus (p.minus e);
  low = λ e. q.low (p.low e);
  high = λ e. q.high (p.high e);
}

-- ---- what is the same

pub fewer_registers : {less more : Known} {one two : Cpu} → IsWithin less more → SameRegisters more one two →
    SameRegisters less one two
fewer_registers w s = record {
  a = λ e. s.a (w.a e);
  x = λ e. s.x (w.x e);
  y = λ e. s.y (w.y e);
  carry = λ e. s.carry (w.carry e);
  zero = λ e. s.zero (w.zero e);
  minus = λ e. s.minus (w.minus e);
}

pub fewer : {layout : Layout} {less more : Known} {one two : Desk} → IsWithin less more → Alike layout more one two →
    Alike layout less one two
fewer w s = record {
  registers = fewer_registers w s.registers;
  low = λ e. s.low (w.low e);
  high = λ e. s.high (w.high e);
  bytes = s.bytes;
}

-- a test whose flag is known
flag_same : {layout : Layout} {before : Known} {one two : Desk} → (flag : Flag) → IsWithin (flag_read flag) before →
    Alike layout before one two → flag_of flag one ≡ flag_of flag two
flag_same Zero w s = s.registers.zero (w.zero refl)
flag_same Minus w s = s.registers.minus (w.minus refl)
flag_same Carry w s = s.registers.carry (w.carry refl)

pub test_same : {layout : Layout} {before : Known} {one two : Desk} → (test : Test) →
    IsWithin (test_reads test) before → Alike layout before one two → is_met test one ≡ is_met test two
test_same (On flag) w s = flag_same flag w s
test_same (Off flag) w s = ap not (flag_same flag w s)

-- ---- ways

-- where one tree comes to more may be known than where the other does
pub record Fewer (less more : Ways) : Type 0 where
  pub at : (outcome : Outcome) → IsWithin (known_at less outcome) (known_at more outcome)

pub fewer_ways : {layout : Layout} {less more : Ways} {one two : Ran} → Fewer less more → RanAlike layout more one two →
    RanAlike layout less one two
fewer_ways {one = one} w s = record { outcome = s.outcome; cost = s.cost; desk = fewer (w.at one.outcome) s.desk }
