-- A line spells at most one statement, and what it spells is what is read.
use Rattle.std.proofs.Common.{◌≡◌, ℕ, ◌+◌, ◌*◌, ◌/◌, ◌%◌, ◌<◌, Bool, true, false, ◌&&◌}
use Rattle.std.proofs.Common.{List, ◌∷◌, ◌++◌, length, nat_eq, nat_lt, if◌then◌else◌, slice_index}
use Rattle.std.proofs.Common.{Option, Some, None, refl, sym, ap, ◌∙◌, subst, arith}
use Rattle.std.specs.Option.{option_map, is_some}
use Rattle.std.proofs.lemmas.Bool.{and_parts, ltb-true, false≢true}
use Rattle.base.proofs.Laws.{same_some}
use Rattle.cpu6502.specs.declared.mnemonic.Mnemonic.{Mnemonic}
use Rattle.cpu6502.specs.declared.mnemonic.Mode.{Mode}
use Rattle.cpu6502.specs.declared.mnemonic.Mode.TheVariants.{Implied, Accumulator, Immediate, ZeroPage, ZeroPageX}
use Rattle.cpu6502.specs.declared.mnemonic.Mode.TheVariants.{ZeroPageY, Absolute, AbsoluteX, AbsoluteY, IndirectX}
use Rattle.cpu6502.specs.declared.mnemonic.Mode.TheVariants.{IndirectY, Indirect, Relative}
use Rattle.cpu6502.specs.Opcodes.{opcode_of, length_of}
use Rattle.asm6502.specs.Operands.{takes_label}
use Rattle.asm_text.specs.declared.statements.Operand.{Operand}
use Rattle.asm_text.specs.declared.statements.Operand.TheVariants.{Nothing, Number, Label as LabelOf}
use Rattle.asm_text.specs.declared.statements.Statement.{Statement}
use Rattle.asm_text.specs.declared.statements.Statement.TheVariants.{Label, Byte, Code}
use Rattle.asm_text.specs.Names.{named}
use Rattle.asm_text.specs.Numbers.{digit}
use Rattle.asm_text.specs.Statements.{before, operand_text, spelling, suits, is_right, OperandInRange, InRange}
use Rattle.asm_text.specs.Reading.{digit_value, byte_value, word_value, mode_shown, mode_for, operand_shown, code_shown, shown}
use Rattle.asm_text.specs.Lines.{Spells, IsOriginLine}
use Rattle.asm_text.proofs.Digits.{no_comma, no_bracket, high_half, low_byte, byte_again, word_again, byte_small, word_small}
use Rattle.asm_text.proofs.NameLaws.{letter, three_letters, named_again, no_point, one_of_two}

-- ---- an instruction's line shows its mode and its operand

-- the mode that is shown: a branch shows an address
abbrev plain : Mode → Mode
plain Relative = Absolute
plain mode = mode

-- the line of an instruction with these letters shows this mode and this operand
record Back (line : List ℕ) (mode : Mode) (operand : Operand) : Type 0 where
  long : nat_eq (length line) 6 ≡ false
  mode_is : mode_shown line ≡ plain mode
  operand_is : operand_shown mode line ≡ operand

-- a number of two digits
two_again : (number : ℕ) → nat_lt number 256 ≡ true →
    digit_value (digit (number % 256 / 16)) * 16 + digit_value (digit (number % 256 % 16)) ≡ number
two_again number small =
    byte_again (number % 256) (low_byte number) ∙ low number (ltb-true number 256 small)
  where
    low : (number : ℕ) → number < 256 → number % 256 ≡ number
    low number lt = omega arith

nothing_back : (a b c : ℕ) (mode : Mode) → suits mode Nothing ≡ true →
    Back (a ∷ b ∷ c ∷ before mode) mode Nothing
nothing_back a b c Implied h = record { long = refl; mode_is = refl; operand_is = refl }
nothing_back a b c Accumulator h = record { long = refl; mode_is = refl; operand_is = refl }
nothing_back a b c mode h = absurd (cc)

number_back : (a b c : ℕ) (mode : Mode) (n : ℕ) → suits mode (Number n) ≡ true → n < 65536 →
    Back (a ∷ b ∷ c ∷ operand_text mode (Number n)) mode (Number n)
number_back a b c Immediate n h lt =
    record { long = refl; mode_is = refl; operand_is = ap Number (two_again n h) }
number_back a b c ZeroPage n h lt =
    record { long = refl; mode_is = refl; operand_is = ap Number (two_again n h) }
number_back a b c ZeroPageX n h lt =
    record { long = refl; mode_is = refl; operand_is = ap Number (two_again n h) }
number_back a b c ZeroPageY n h lt =
    record { long = refl; mode_is = refl; operand_is = ap Number (two_again n h) }
number_back a b c IndirectX n h lt =
    record { long = refl; mode_is = refl; operand_is = ap Number (two_again n h) }
number_back a b c IndirectY n h lt =
    record { long = refl; mode_is = refl; operand_is = ap Number (two_again n h) }
number_back a b c Absolute n h lt =
    let comma = no_comma (n % 256 / 16) (high_half (n % 256) (low_byte n)) in
    record { long = refl; mode_is = rw comma refl; operand_is = ap Number (word_again n lt) }
number_back a b c Relative n h lt =
    let comma = no_comma (n % 256 / 16) (high_half (n % 256) (low_byte n)) in
    record { long = refl; mode_is = rw comma refl; operand_is = ap Number (word_again n lt) }
number_back a b c AbsoluteX n h lt =
    record { long = refl; mode_is = refl; operand_is = ap Number (word_again n lt) }
number_back a b c AbsoluteY n h lt =
    record { long = refl; mode_is = refl; operand_is = ap Number (word_again n lt) }
number_back a b c Indirect n h lt =
    let comma = no_comma (n % 256 / 16) (high_half (n % 256) (low_byte n)) in
    let bracket = no_bracket (n % 256 / 16) (high_half (n % 256) (low_byte n)) in
    record { long = refl; mode_is = rw (comma, bracket) refl; operand_is = ap Number (word_again n lt) }
number_back a b c Implied n h lt = absurd (cc)
number_back a b c Accumulator n h lt = absurd (cc)

label_back : (a b c : ℕ) (mode : Mode) (n : ℕ) → suits mode (LabelOf n) ≡ true → n < 65536 →
    Back (a ∷ b ∷ c ∷ operand_text mode (LabelOf n)) mode (LabelOf n)
label_back a b c Absolute n h lt =
    let comma = no_comma (n % 256 / 16) (high_half (n % 256) (low_byte n)) in
    record { long = refl; mode_is = rw comma refl; operand_is = ap LabelOf (word_again n lt) }
label_back a b c Relative n h lt =
    let comma = no_comma (n % 256 / 16) (high_half (n % 256) (low_byte n)) in
    record { long = refl; mode_is = rw comma refl; operand_is = ap LabelOf (word_again n lt) }
label_back a b c AbsoluteX n h lt =
    record { long = refl; mode_is = refl; operand_is = ap LabelOf (word_again n lt) }
label_back a b c AbsoluteY n h lt =
    record { long = refl; mode_is = refl; operand_is = ap LabelOf (word_again n lt) }
label_back a b c Indirect n h lt =
    let comma = no_comma (n % 256 / 16) (high_half (n % 256) (low_byte n)) in
    let bracket = no_bracket (n % 256 / 16) (high_half (n % 256) (low_byte n)) in
    record { long = refl; mode_is = rw (comma, bracket) refl; operand_is = ap LabelOf (word_again n lt) }
label_back a b c mode n h lt = absurd (cc)

back : (a b c : ℕ) (mode : Mode) (operand : Operand) → suits mode operand ≡ true → OperandInRange operand →
    Back (a ∷ b ∷ c ∷ operand_text mode operand) mode operand
back a b c mode Nothing h range = nothing_back a b c mode h
back a b c mode (Number n) h range = number_back a b c mode n h range
back a b c mode (LabelOf n) h range = label_back a b c mode n h range

-- ---- the mode of an instruction is the one that is shown

not_both : (x y : Bool) → (x && y) ≡ false → x ≡ true → y ≡ false
not_both true y e h = e
not_both false y e h = absurd (false≢true h)

mode_again : (mnemonic : Mnemonic) (mode : Mode) → is_some (opcode_of mnemonic mode) ≡ true →
    mode_for mnemonic (plain mode) ≡ mode
mode_again mnemonic Relative h = rw h refl
mode_again mnemonic Absolute h =
    let never =
    not_both (is_some (opcode_of mnemonic Absolute)) (is_some (opcode_of mnemonic Relative)) (one_of_two mnemonic) h
    in rw never refl
mode_again mnemonic mode h = refl

-- ---- a statement's text is read as the statement

pub code_line : (mnemonic : Mnemonic) (mode : Mode) (operand : Operand) →
    spelling (Code mnemonic mode operand)
    ≡ letter mnemonic 0 ∷ letter mnemonic 1 ∷ letter mnemonic 2 ∷ operand_text mode operand
code_line mnemonic mode operand =
    ap (λ (letters : List ℕ). letters ++ operand_text mode operand) (three_letters mnemonic)

shown_code : (mnemonic : Mnemonic) (mode : Mode) (operand : Operand) (a b c : ℕ) (rest : List ℕ) →
    Back (a ∷ b ∷ c ∷ rest) mode operand → nat_eq a 46 ≡ false → named a b c ≡ Some mnemonic →
    mode_for mnemonic (plain mode) ≡ mode → shown (a ∷ b ∷ c ∷ rest) ≡ Some (Code mnemonic mode operand)
shown_code mnemonic mode operand a b c rest read point name same =
    let long = read.long in
    let shows = read.mode_is in
    let one = ap (λ (m : Mode). code_shown mnemonic (mode_for mnemonic m) (a ∷ b ∷ c ∷ rest)) shows in
    let two = ap (λ (m : Mode). code_shown mnemonic m (a ∷ b ∷ c ∷ rest)) same in
    let three = ap (Code mnemonic mode) read.operand_is in
    rw (long, point, name) (ap Some (one ∙ two ∙ three))

pub shown_again : (statement : Statement) → is_right statement ≡ true → InRange statement →
    shown (spelling statement) ≡ Some statement
shown_again (Label label) h range = ap (λ n. Some (Label n)) (word_again label range)
shown_again (Byte byte) h range = ap (λ n. Some (Byte n)) (byte_again byte range)
shown_again (Code mnemonic mode operand) h range =
    let parts = and_parts (is_some (opcode_of mnemonic mode)) (suits mode operand) h in
    ap shown (code_line mnemonic mode operand)
    ∙ shown_code mnemonic mode operand (letter mnemonic 0) (letter mnemonic 1) (letter mnemonic 2)
    (operand_text mode operand)
    (back (letter mnemonic 0) (letter mnemonic 1) (letter mnemonic 2) mode operand parts.1 range)
    (no_point mnemonic) (named_again mnemonic) (mode_again mnemonic mode parts.0)

pub spells_shown : (line : List ℕ) (statement : Statement) → Spells line statement → shown line ≡ Some statement
spells_shown line statement spells =
    ap shown spells.text ∙ shown_again statement spells.right spells.range

-- a line spells at most one statement
pub spells_one : (line : List ℕ) (one other : Statement) → Spells line one → Spells line other → one ≡ other
spells_one line one other p q =
    same_some one other (sym (spells_shown line one p) ∙ spells_shown line other q)

-- ---- what is shown is in range

operand_range : (mode : Mode) (line : List ℕ) (sign : ℕ) (x y z : Bool) → OperandInRange
    (if x then Nothing
    else if y then (if z then LabelOf (word_value line (sign + 1)) else Number (word_value line (sign + 1)))
    else Number (byte_value line (sign + 1)))
operand_range mode line sign true y z = tt
operand_range mode line sign false true true = word_small line (sign + 1)
operand_range mode line sign false true false = word_small line (sign + 1)
operand_range mode line sign false false z =
    let small = byte_small line (sign + 1) in wide (byte_value line (sign + 1)) small
  where
    wide : (n : ℕ) → n < 256 → n < 65536
    wide n lt = omega arith

shown_by : (line : List ℕ) (x y : Bool) (name : Option Mnemonic) (statement : Statement) →
    (if x then Some (Label (word_value line 1)) else if y then Some (Byte (byte_value line 7))
    else option_map (λ mnemonic. code_shown mnemonic (mode_for mnemonic (mode_shown line)) line) name)
    ≡ Some statement → InRange statement
shown_by line true y name statement e =
    subst InRange (same_some (Label (word_value line 1)) statement e) (word_small line 1)
shown_by line false true name statement e =
    subst InRange (same_some (Byte (byte_value line 7)) statement e) (byte_small line 7)
shown_by line false false None statement e = absurd (cc)
shown_by line false false (Some mnemonic) statement e =
    let mode = mode_for mnemonic (mode_shown line) in
    subst InRange
    (same_some (code_shown mnemonic (mode_for mnemonic (mode_shown line)) line) statement e)
    (operand_range (mode_for mnemonic (mode_shown line)) line
    (3 + length (before (mode_for mnemonic (mode_shown line))))
    (nat_eq (length_of (mode_for mnemonic (mode_shown line))) 1)
    (takes_label (mode_for mnemonic (mode_shown line)))
    (nat_eq (slice_index line (3 + length (before (mode_for mnemonic (mode_shown line))))) 76))

pub shown_range : (line : List ℕ) (statement : Statement) → shown line ≡ Some statement → InRange statement
shown_range line statement e =
    shown_by line (nat_eq (length line) 6) (nat_eq (slice_index line 0) 46)
    (named (slice_index line 0) (slice_index line 1) (slice_index line 2)) statement e

-- ---- the first line

pub origin_again : (origin : ℕ) (line : List ℕ) → IsOriginLine origin line → word_value line 5 ≡ origin
origin_again origin line is =
    ap (λ (bytes : List ℕ). word_value bytes 5) is.text ∙ word_again origin is.range
