-- Which registers are known where a tree comes to: they are the same whatever was in those that weren't known before.
-- Of an instruction it is known by what it reads and sets. Source: the MOS 6502 programming manual.
use Rattle.std.specs.Prelude.{ℕ, ◌&&◌, ◌||◌, Bool, true, false, not, nat_eq, if◌then◌else◌}
use Rattle.cpu6502.specs.declared.mnemonic.Mnemonic.{Mnemonic}
use Rattle.cpu6502.specs.declared.mnemonic.Mnemonic.TheVariants.{Adc, And, Asl, Bit, Clc, Cmp, Cpx, Cpy, Dec, Dex, Dey, Eor}
use Rattle.cpu6502.specs.declared.mnemonic.Mnemonic.TheVariants.{Inc, Inx, Iny, Lda, Ldx, Ldy, Lsr, Ora, Rol, Ror, Sbc, Sec}
use Rattle.cpu6502.specs.declared.mnemonic.Mnemonic.TheVariants.{Sta, Stx, Sty, Tax, Tay, Txa, Tya}
use Rattle.cpu6502.specs.Opcodes.{is_accumulator}
use Rattle.scopes.specs.declared.line.Half.TheVariants.{Low, High}
use Rattle.scopes.specs.declared.line.Operand.{Operand}
use Rattle.scopes.specs.declared.line.Operand.TheVariants.{Own, Entry, Pointed, Pointer, OwnRegister}
use Rattle.scopes.specs.declared.line.Flag.{Flag}
use Rattle.scopes.specs.declared.line.Flag.TheVariants.{Zero, Minus, Carry}
use Rattle.scopes.specs.declared.line.Test.{Test}
use Rattle.scopes.specs.declared.line.Test.TheVariants.{On, Off}
use Rattle.scopes.specs.Steps.{is_store}
use Rattle.scopes.specs.Trees.{Tree, DoTree, WithTree, NoneTree, ThenTree, ScopeTree, LeaveTree, LeaveIfTree, LoopTree}
use Rattle.scopes.specs.Trees.{AgainTree, AgainIfTree, WhenTree, ChooseTree, NeverTree}
use Rattle.scope_lines.specs.Instructions.{alone_mode}

-- a set of registers: A, X, Y, the flags that a branch looks at, and the two bytes of the pointer
pub record Known : Type 0 where
  pub a : Bool
  pub x : Bool
  pub y : Bool
  pub carry : Bool
  pub zero : Bool
  pub minus : Bool
  pub low : Bool
  pub high : Bool

-- none of them, all of them, one, and the flags that show a byte
abbrev pub nothing : Known
nothing = record {
  a = false;
  x = false;
  y = false;
  carry = false;
  zero = false;
  minus = false;
  low = false;
  high = false;
}

abbrev pub everything : Known
everything = record {
  a = true;
  x = true;
  y = true;
  carry = true;
  zero = true;
  minus = true;
  low = true;
  high = true;
}

abbrev pub the_a : Known
the_a = record nothing { a = true }

abbrev pub the_x : Known
the_x = record nothing { x = true }

abbrev pub the_y : Known
the_y = record nothing { y = true }

abbrev pub the_carry : Known
the_carry = record nothing { carry = true }

abbrev pub shown : Known
shown = record nothing { zero = true; minus = true }

abbrev pub the_low : Known
the_low = record nothing { low = true }

abbrev pub the_high : Known
the_high = record nothing { high = true }

-- those of one set and of the other, those of both, and whether all of the one are in the other
abbrev pub either : Known → Known → Known
either one two = record {
  a = one.a || two.a;
  x = one.x || two.x;
  y = one.y || two.y;
  carry = one.carry || two.carry;
  zero = one.zero || two.zero;
  minus = one.minus || two.minus;
  low = one.low || two.low;
  high = one.high || two.high;
}

abbrev pub both : Known → Known → Known
both one two = record {
  a = one.a && two.a;
  x = one.x && two.x;
  y = one.y && two.y;
  carry = one.carry && two.carry;
  zero = one.zero && two.zero;
  minus = one.minus && two.minus;
  low = one.low && two.low;
  high = one.high && two.high;
}

abbrev pub is_within : Known → Known → Bool
is_within one two =
    (not one.a || two.a) && (not one.x || two.x) && (not one.y || two.y) && (not one.carry || two.carry)
    && (not one.zero || two.zero) && (not one.minus || two.minus) && (not one.low || two.low)
    && (not one.high || two.high)

-- ---- instructions

-- what an instruction reads and sets of A, X, Y and the flags, beside the byte of its operand; the overflow flag isn't
-- looked at, and with the decimal flag on a sum or a difference is stuck
abbrev pub reads : Mnemonic → Known
reads Adc = either the_a the_carry
reads And = the_a
reads Bit = the_a
reads Cmp = the_a
reads Cpx = the_x
reads Cpy = the_y
reads Dex = the_x
reads Dey = the_y
reads Eor = the_a
reads Inx = the_x
reads Iny = the_y
reads Ora = the_a
reads Rol = the_carry
reads Ror = the_carry
reads Sbc = either the_a the_carry
reads Sta = the_a
reads Stx = the_x
reads Sty = the_y
reads Tax = the_a
reads Tay = the_a
reads Txa = the_x
reads Tya = the_y
reads _ = nothing

abbrev pub sets : Mnemonic → Known
sets Adc = either the_a (either the_carry shown)
sets And = either the_a shown
sets Asl = either the_carry shown
sets Bit = shown
sets Clc = the_carry
sets Cmp = either the_carry shown
sets Cpx = either the_carry shown
sets Cpy = either the_carry shown
sets Dec = shown
sets Dex = either the_x shown
sets Dey = either the_y shown
sets Eor = either the_a shown
sets Inc = shown
sets Inx = either the_x shown
sets Iny = either the_y shown
sets Lda = either the_a shown
sets Ldx = either the_x shown
sets Ldy = either the_y shown
sets Lsr = either the_carry shown
sets Ora = either the_a shown
sets Rol = either the_carry shown
sets Ror = either the_carry shown
sets Sbc = either the_a (either the_carry shown)
sets Sec = the_carry
sets Tax = either the_x shown
sets Tay = either the_y shown
sets Txa = either the_a shown
sets Tya = either the_a shown
sets _ = nothing

-- a shift without an operand reads and sets A
abbrev pub shifts : Mnemonic → Known
shifts mnemonic = if is_accumulator (alone_mode mnemonic) then the_a else nothing

abbrev pub alone_reads : Mnemonic → Known
alone_reads mnemonic = either (shifts mnemonic) (reads mnemonic)

abbrev pub alone_sets : Mnemonic → Known
alone_sets mnemonic = either (shifts mnemonic) (sets mnemonic)

-- by which registers the place of an operand is found, and which byte of the pointer it is
abbrev pub finds : Operand → Known
finds (Own label) = the_x
finds (Entry label) = the_y
finds Pointed = either the_y (either the_low the_high)
finds (OwnRegister register) = the_x
finds _ = nothing

abbrev pub half_of : Operand → Known
half_of (Pointer Low) = the_low
half_of (Pointer High) = the_high
half_of _ = nothing

-- a store sets its operand, others read it
abbrev pub with_reads : Mnemonic → Operand → Known
with_reads mnemonic operand =
    either (finds operand) (either (if is_store mnemonic then nothing else half_of operand) (reads mnemonic))

abbrev pub with_sets : Mnemonic → Operand → Known
with_sets mnemonic operand = either (if is_store mnemonic then half_of operand else nothing) (sets mnemonic)

-- the flag that a test looks at
abbrev pub flag_read : Flag → Known
flag_read Zero = record nothing { zero = true }
flag_read Minus = record nothing { minus = true }
flag_read Carry = the_carry

abbrev pub test_reads : Test → Known
test_reads (On flag) = flag_read flag
test_reads (Off flag) = flag_read flag

-- ---- trees

-- what is known on the ways out of a tree: at its end, where a scope is left by its name, and at the next turn of the
-- loop around it; and whether each instruction and each test in it reads what is known alone. Where no way goes
-- everything is known, so that what several ways know is what all of them know.
pub record Ways : Type 0 where
  pub done : Known
  pub left : ℕ → Known
  pub again : Known
  pub reads_known : Bool

-- it comes to its end alone
abbrev pub goes_on : Bool → Known → Ways
goes_on reads_known known = record {
  done = known;
  left = λ name. everything;
  again = everything;
  reads_known = reads_known;
}

-- it leaves a scope, or goes to the next turn, and comes to its end as this is known
abbrev pub leaves : Bool → ℕ → Known → Known → Ways
leaves reads_known name known done = record {
  done = done;
  left = λ other. if nat_eq other name then known else everything;
  again = everything;
  reads_known = reads_known;
}

abbrev pub turns_again : Bool → Known → Known → Ways
turns_again reads_known known done = record {
  done = done;
  left = λ name. everything;
  again = known;
  reads_known = reads_known;
}

-- the one, or the other
abbrev pub one_of : Ways → Ways → Ways
one_of one two = record {
  done = both one.done two.done;
  left = λ name. both (one.left name) (two.left name);
  again = both one.again two.again;
  reads_known = one.reads_known && two.reads_known;
}

-- one behind the other
abbrev pub joined : Ways → Ways → Ways
joined one two = record {
  done = two.done;
  left = λ name. both (one.left name) (two.left name);
  again = both one.again two.again;
  reads_known = one.reads_known && two.reads_known;
}

abbrev pub followed : Ways → (Known → Ways) → Ways
followed one rest = joined one (rest one.done)

-- at the end of a scope is known what is known on each way to it
abbrev pub closed : ℕ → Ways → Ways
closed name body = record {
  done = both body.done (body.left name);
  left = λ other. if nat_eq other name then everything else body.left other;
  again = body.again;
  reads_known = body.reads_known;
}

-- Nothing becomes unknown on the way, so each turn of a loop begins with what is known before the first one, at least.
abbrev pub looped : Ways → Ways
looped body = record body { again = everything }

-- what is known behind a tree, from what is known before it
abbrev pub known : Tree → Known → Ways
known (DoTree mnemonic) before =
    goes_on (is_within (alone_reads mnemonic) before) (either (alone_sets mnemonic) before)
known (WithTree mnemonic operand) before =
    goes_on (is_within (with_reads mnemonic operand) before) (either (with_sets mnemonic operand) before)
known NoneTree before = goes_on true before
known (ThenTree first rest) before = followed (known first before) (known rest)
known (ScopeTree name body) before = closed name (known body before)
known (LeaveTree name) before = leaves true name before everything
known (LeaveIfTree name test) before = leaves (is_within (test_reads test) before) name before before
known (LoopTree count body) before = looped (known body before)
known AgainTree before = turns_again true before everything
known (AgainIfTree test) before = turns_again (is_within (test_reads test) before) before before
known (WhenTree condition body) before = one_of (known body before) (goes_on true before)
known (ChooseTree condition this other) before = one_of (known this before) (known other before)
known NeverTree before = goes_on true everything

-- whether a tree rests on no register that it found
abbrev pub is_known : Tree → Bool
is_known tree = (known tree nothing).reads_known
