-- The listing of an image: the steps of the loop that prints it, and how long it is.
use Rattle.std.proofs.Common.{◌≡◌, ℕ, zero, suc, ◌+◌, ◌-◌, ◌*◌, ◌%◌, ◌<◌, ◌≤◌, Bool}
use Rattle.std.proofs.Common.{true, false, List, [], ◌∷◌, ◌++◌, length, drop, nat_eq, if◌then◌else◌}
use Rattle.std.proofs.Common.{Option, Some, None, refl, sym, ap, ◌∙◌, subst, append_assoc, length-append}
use Rattle.std.proofs.Common.{length-drop, arith}
use Rattle.std.specs.Option.{option_map, option_and_then}
use Rattle.std.proofs.lemmas.Bool.{eqb-false}
use Rattle.std.proofs.lemmas.List.{append-nil, nil_from_length}
use Rattle.base.proofs.Laws.{same_some}
use Rattle.cpu6502.specs.declared.mnemonic.Mnemonic.{Mnemonic}
use Rattle.cpu6502.specs.declared.mnemonic.Mode.{Mode}
use Rattle.cpu6502.specs.declared.mnemonic.Mode.TheVariants.{Implied, Accumulator, Immediate, ZeroPage, ZeroPageX}
use Rattle.cpu6502.specs.declared.mnemonic.Mode.TheVariants.{ZeroPageY, Absolute, AbsoluteX, AbsoluteY, IndirectX}
use Rattle.cpu6502.specs.declared.mnemonic.Mode.TheVariants.{IndirectY, Indirect, Relative}
use Rattle.cpu6502.specs.Opcodes.{Meaning, meaning_of, length_of}
use Rattle.asm6502.specs.declared.instructions.Instr.{Instr}
use Rattle.asm6502.specs.Instructions.{byte_from, word_from, operand_from, decoding_as, decoding}
use Rattle.asm6502.specs.Operands.{takes_label}
use Rattle.asm_text.specs.declared.statements.Operand.{Operand}
use Rattle.asm_text.specs.declared.statements.Operand.TheVariants.{Nothing, Number, Label as LabelOf}
use Rattle.asm_text.specs.declared.statements.Statement.{Statement}
use Rattle.asm_text.specs.declared.statements.Statement.TheVariants.{Label, Byte, Code}
use Rattle.asm_text.specs.Numbers.{byte_digits, word_digits}
use Rattle.asm_text.specs.Statements.{before, behind, digits, operand_text, spelling, origin_text, size}
use Rattle.asm_text.specs.Printing.{operand_written, statement_for, statement_of, statements_of, lines_of, listing_of}
use Rattle.asm_text.proofs.WordLaws.{code_line}

-- ---- what is decoded has its bytes

two_bytes : (rest : List ℕ) (operand : ℕ) → byte_from rest ≡ Some operand → 2 ≤ 1 + length rest
two_bytes [] operand e = absurd (cc)
two_bytes (byte ∷ rest) operand e = omega arith

three_bytes : (rest : List ℕ) (operand : ℕ) → word_from rest ≡ Some operand → 3 ≤ 1 + length rest
three_bytes [] operand e = absurd (cc)
three_bytes (low ∷ []) operand e = absurd (cc)
three_bytes (low ∷ high ∷ rest) operand e = omega arith

operand_there : (mode : Mode) (rest : List ℕ) (operand : ℕ) → operand_from mode rest ≡ Some operand →
    length_of mode ≤ 1 + length rest
operand_there Implied rest operand e = omega arith
operand_there Accumulator rest operand e = omega arith
operand_there Immediate rest operand e = two_bytes rest operand e
operand_there ZeroPage rest operand e = two_bytes rest operand e
operand_there ZeroPageX rest operand e = two_bytes rest operand e
operand_there ZeroPageY rest operand e = two_bytes rest operand e
operand_there Absolute rest operand e = three_bytes rest operand e
operand_there AbsoluteX rest operand e = three_bytes rest operand e
operand_there AbsoluteY rest operand e = three_bytes rest operand e
operand_there IndirectX rest operand e = two_bytes rest operand e
operand_there IndirectY rest operand e = two_bytes rest operand e
operand_there Indirect rest operand e = three_bytes rest operand e
operand_there Relative rest operand e = two_bytes rest operand e

-- an instruction and its length
pub record IsDecoded (found : Instr × ℕ) (bytes : List ℕ) : Type 0 where
  pub size : found.1 ≡ length_of found.0.mode
  pub there : length_of found.0.mode ≤ length bytes

decoded_as : (meaning : Meaning) (opcode : ℕ) (rest : List ℕ) (found : Instr × ℕ) (o : Option ℕ) →
    operand_from meaning.1 rest ≡ o →
    option_map (λ operand. (
      record { mnemonic = meaning.0; mode = meaning.1; operand = operand },
      length_of
          meaning.1,
    )) o ≡ Some found → IsDecoded found (opcode ∷ rest)
decoded_as meaning opcode rest found None e h = absurd (cc)
decoded_as meaning opcode rest found (Some operand) e h =
    subst (λ f. IsDecoded f (opcode ∷ rest)) (same_some _ found h)
    (record { size = refl; there = omega (arith, operand_there meaning.1 rest operand e) })

decoded_by : (opcode : ℕ) (rest : List ℕ) (found : Instr × ℕ) (o : Option Meaning) →
    option_and_then (λ meaning. decoding_as meaning rest) o ≡ Some found → IsDecoded found (opcode ∷ rest)
decoded_by opcode rest found None h = absurd (cc)
decoded_by opcode rest found (Some meaning) h =
    decoded_as meaning opcode rest found (operand_from meaning.1 rest) refl h

pub is_decoded : (bytes : List ℕ) (found : Instr × ℕ) → decoding bytes ≡ Some found → IsDecoded found bytes
is_decoded [] found h = absurd (cc)
is_decoded (opcode ∷ rest) found h = decoded_by opcode rest found (meaning_of opcode) h

size_some : (mode : Mode) → 1 ≤ length_of mode
size_some Implied = omega arith
size_some mode = omega arith

-- a statement of an image takes a byte at least, and no more than there are
pub record IsInside (statement : Statement) (bytes : List ℕ) : Type 0 where
  pub some : 1 ≤ size statement
  pub there : size statement ≤ length bytes

inside_by : (pc : ℕ) (bytes : List ℕ) (o : Option (Instr × ℕ)) → 0 < length bytes → decoding bytes ≡ o →
    IsInside (statement_for pc bytes o) bytes
inside_by pc bytes None some e = record { some = omega arith; there = omega (arith, some) }
inside_by pc bytes (Some found) some e =
    let d = is_decoded bytes found e in
    record { some = size_some found.0.mode; there = d.there }

pub is_inside : (pc : ℕ) (bytes : List ℕ) → 0 < length bytes → IsInside (statement_of pc bytes) bytes
is_inside pc bytes some = inside_by pc bytes (decoding bytes) some refl

-- ---- the loop

-- what was printed, with the lines of what is left, is the listing
pub record IsPrinted (origin : ℕ) (image left : List ℕ) (pc : ℕ) (text : List ℕ) : Type 0 where
  pub most : ℕ
  pub enough : length left ≤ most
  pub whole : text ++ lines_of (statements_of most pc left) ≡ listing_of origin image
  pub place : pc + length left ≡ origin + length image

pub printed_none : (origin : ℕ) (image text : List ℕ) → text ≡ origin_text origin ++ 10 ∷ [] →
    IsPrinted origin image image origin text
printed_none origin image text e = record {
  most = length image;
  enough = omega arith;
  whole = ap (λ front. front ++ lines_of (statements_of (length image) origin image)) e;
  place = refl;
}

more_by : (most pc : ℕ) (left : List ℕ) → 0 < length left → length left ≤ most → (less : ℕ)
    × (suc less ≡ most)
    × (lines_of (statements_of most pc left)
    ≡ (spelling (statement_of pc left) ++ 10 ∷ [])
    ++ lines_of (statements_of less (pc + size (statement_of pc left)) (drop (size (statement_of pc left)) left)))
more_by zero pc left some enough = absurd (omega (arith, some, enough))
more_by (suc less) pc [] some enough = absurd (omega (arith, some))
more_by (suc less) pc (byte ∷ rest) some enough = (less, refl, refl)

pub printed_more : (origin : ℕ) (image left : List ℕ) (pc next : ℕ) (text after : List ℕ) (statement : Statement)
    (rest : List ℕ) → IsPrinted origin image left pc text → 0 < length left → statement ≡ statement_of pc left →
    rest ≡ drop (size statement) left → after ≡ text ++ (spelling statement ++ 10 ∷ []) →
    next ≡ pc + size statement → IsPrinted origin image rest next after
printed_more origin image left pc next text after statement rest p some is rest_is after_is next_is =
    subst (λ n. IsPrinted origin image rest n after) (sym (next_is ∙ ap (λ s. pc + size s) is))
    (step (more_by p.most pc left some p.enough) (rest_is ∙ ap (λ s. drop (size s) left) is)
    (after_is ∙ ap (λ s. text ++ (spelling s ++ 10 ∷ [])) is))
  where
    step : (less : ℕ) × (suc less ≡ p.most)
        × (lines_of (statements_of p.most pc left)
        ≡ (spelling (statement_of pc left) ++ 10 ∷ [])
        ++ lines_of (statements_of less (pc + size (statement_of pc left))
        (drop (size (statement_of pc left)) left))) →
        rest ≡ drop (size (statement_of pc left)) left →
        after ≡ text ++ (spelling (statement_of pc left) ++ 10 ∷ []) →
        IsPrinted origin image rest (pc + size (statement_of pc left)) after
    step m r a =
        let inside = is_inside pc left some in
        let long : length rest ≡ length left - size (statement_of pc left) =
        ap (λ bytes. length bytes) r ∙ length-drop (size (statement_of pc left)) left in
        record {
          most = m.0;
          enough = omega (arith, long, m.1, p.enough, inside.some, inside.there);
          whole =
              ap (λ front. front ++ lines_of (statements_of m.0 (pc + size (statement_of pc left)) rest)) a
              ∙ append_assoc text (spelling (statement_of pc left) ++ 10 ∷ [])
              (lines_of (statements_of m.0 (pc + size (statement_of pc left)) rest))
              ∙ ap
              (λ bytes. text ++ ((spelling (statement_of pc left) ++ 10 ∷ [])
              ++ lines_of (statements_of m.0 (pc + size (statement_of pc left)) bytes))) r
              ∙ ap (λ bytes. text ++ bytes) (sym m.2) ∙ p.whole;
          place = omega (arith, long, p.place, inside.there);
        }

none_left : (most pc : ℕ) → lines_of (statements_of most pc []) ≡ []
none_left zero pc = refl
none_left (suc most) pc = refl

pub printed_all : (origin : ℕ) (image left : List ℕ) (pc : ℕ) (text : List ℕ) →
    IsPrinted origin image left pc text → length left ≡ 0 → text ≡ listing_of origin image
printed_all origin image left pc text p ended =
    let nil = nil_from_length left ended in
    sym (append-nil text)
    ∙ ap (λ lines. text ++ lines)
    (sym (ap (λ bytes. lines_of (statements_of p.most pc bytes)) nil ∙ none_left p.most pc))
    ∙ p.whole

-- ---- how long it is

before_short : (mode : Mode) → length (before mode) ≤ 2
before_short Implied = omega arith
before_short mode = omega arith

behind_short : (mode : Mode) → length (behind mode) ≤ 3
behind_short Implied = omega arith
behind_short mode = omega arith

digits_short : (y : Bool) (number : ℕ) → length (if y then word_digits number else byte_digits (number % 256)) ≤ 4
digits_short true number = omega arith
digits_short false number = omega arith

three_parts : (a b c d : List ℕ) → length (a ++ b ++ c ++ d) ≡ length a + length b + length c + length d
three_parts a b c d =
    let one = length-append (a ++ b ++ c) d in
    let two = length-append (a ++ b) c in
    let three = length-append a b in
    omega (arith, one, two, three)

operand_short : (mode : Mode) (operand : Operand) → length (operand_text mode operand) ≤ 10
operand_short mode Nothing = omega (arith, before_short mode)
operand_short mode (Number number) =
    omega (
      arith,
      three_parts (before mode) (36 ∷ []) (digits mode number) (behind mode),
      before_short mode,
      digits_short (takes_label mode) number,
      behind_short mode,
    )
operand_short mode (LabelOf label) =
    omega (
      arith,
      three_parts (before mode) (76 ∷ []) (word_digits label) (behind mode),
      before_short mode,
      behind_short mode,
    )

code_short : (mnemonic : Mnemonic) (mode : Mode) (operand : Operand) →
    length (spelling (Code mnemonic mode operand)) ≤ 13
code_short mnemonic mode operand =
    let same = ap (λ (text : List ℕ). length text) (code_line mnemonic mode operand) in
    omega (arith, same, operand_short mode operand)

pub spelling_short : (statement : Statement) → length (spelling statement) ≤ 13
spelling_short (Label label) = omega arith
spelling_short (Byte byte) = omega arith
spelling_short (Code mnemonic mode operand) = code_short mnemonic mode operand

-- the line of a statement takes 10 bytes at most for each byte of the image that the statement has
code_line_short : (pc : ℕ) (instr : Instr) (y : Bool) → nat_eq (length_of instr.mode) 1 ≡ y →
    1 + length (spelling (Code instr.mnemonic instr.mode (operand_written pc instr))) ≤ 10 * length_of instr.mode
code_line_short pc instr true e =
    let none : operand_written pc instr ≡ Nothing = rw e refl in
    let same =
    ap (λ operand. length (spelling (Code instr.mnemonic instr.mode operand))) none
    ∙ ap (λ (text : List ℕ). length text) (code_line instr.mnemonic instr.mode Nothing) in
    omega (arith, same, before_short instr.mode, size_some instr.mode)
code_line_short pc instr false e =
    omega (
      arith,
      eqb-false (length_of instr.mode) 1 e,
      size_some instr.mode,
      spelling_short (Code instr.mnemonic instr.mode (operand_written pc instr)),
    )

line_by : (pc : ℕ) (bytes : List ℕ) (o : Option (Instr × ℕ)) →
    1 + length (spelling (statement_for pc bytes o)) ≤ 10 * size (statement_for pc bytes o)
line_by pc bytes None = omega arith
line_by pc bytes (Some found) = code_line_short pc found.0 (nat_eq (length_of found.0.mode) 1) refl

line_short : (pc : ℕ) (bytes : List ℕ) →
    1 + length (spelling (statement_of pc bytes)) ≤ 10 * size (statement_of pc bytes)
line_short pc bytes = line_by pc bytes (decoding bytes)

lines_short : (most pc : ℕ) (bytes : List ℕ) → length (lines_of (statements_of most pc bytes)) ≤ 10 * length bytes
lines_short zero pc bytes = omega arith
lines_short (suc most) pc [] = omega arith
lines_short (suc most) pc (byte ∷ rest) =
    let statement = statement_of pc (byte ∷ rest) in
    let inside = is_inside pc (byte ∷ rest) (omega arith) in
    let one = length-append (spelling (statement_of pc (byte ∷ rest)) ++ 10 ∷ [])
    (lines_of (statements_of most (pc + size (statement_of pc (byte ∷ rest)))
    (drop (size (statement_of pc (byte ∷ rest))) (byte ∷ rest)))) in
    let two = length-append (spelling (statement_of pc (byte ∷ rest))) (10 ∷ []) in
    let three = lines_short most (pc + size (statement_of pc (byte ∷ rest)))
    (drop (size (statement_of pc (byte ∷ rest))) (byte ∷ rest)) in
    let four = length-drop (size (statement_of pc (byte ∷ rest))) (byte ∷ rest) in
    omega (arith, one, two, three, four, inside.there, line_short pc (byte ∷ rest))

pub listing_short : (origin : ℕ) (image : List ℕ) → length (listing_of origin image) ≤ 10 + 10 * length image
listing_short origin image =
    let one = length-append (origin_text origin ++ 10 ∷ [])
    (lines_of (statements_of (length image) origin image)) in
    omega (arith, one, lines_short (length image) origin image)
