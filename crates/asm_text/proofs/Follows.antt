-- The statements of an image, one behind the other, give its bytes.
use Rattle.std.proofs.lemmas.List.{take-append-drop}
use Rattle.std.proofs.Common.{◌≡◌, ℕ, zero, suc, ◌+◌, ◌*◌, ◌/◌, ◌%◌, ◌<◌, ◌≤◌, Bool}
use Rattle.std.proofs.Common.{true, false, ◌&&◌, not, List, [], ◌∷◌, ◌++◌, length, take, drop, get_or}
use Rattle.std.proofs.Common.{nat_eq, nat_lt, if◌then◌else◌, Option, Some, None, unwrap_or, refl, sym, ap}
use Rattle.std.proofs.Common.{◌∙◌, subst, length-drop, arith}
use Rattle.std.specs.Option.{option_map, option_and_then, is_some}
use Rattle.std.proofs.lemmas.Bool.{eqb-true, ltb-true, lt-ltb, false≢true}
use Rattle.std.proofs.lemmas.List.Elements.{All-nil, All-cons}
use Rattle.base.specs.Bytes.{IsByte, AreBytes}
use Rattle.base.proofs.Laws.{same_some}
use Rattle.cpu6502.specs.declared.memory.TheConstants.{MEMORY_SIZE}
use Rattle.cpu6502.specs.declared.mnemonic.Mnemonic.{Mnemonic}
use Rattle.cpu6502.specs.declared.mnemonic.Mode.{Mode}
use Rattle.cpu6502.specs.declared.mnemonic.Mode.TheVariants.{Implied, Accumulator, Absolute, AbsoluteX, AbsoluteY}
use Rattle.cpu6502.specs.declared.mnemonic.Mode.TheVariants.{Indirect, Relative}
use Rattle.cpu6502.specs.Opcodes.{opcode_of, length_of}
use Rattle.cpu6502.specs.Effects.{displacement}
use Rattle.cpu6502.proofs.Laws.{rows_have_opcodes}
use Rattle.asm6502.specs.declared.instructions.Instr.{Instr}
use Rattle.asm6502.specs.Branches.{branch_byte}
use Rattle.asm6502.specs.Instructions.{operand_bytes, encoding, decoding}
use Rattle.asm6502.specs.Operands.{is_relative, operand_of as laid_operand}
use Rattle.asm6502.specs.Assembly.{item_bytes, item_fixes}
use Rattle.asm6502.proofs.Laws.{nothing_else_decodes, branches_reach, far_is_out_of_reach}
use Rattle.asm_text.specs.declared.statements.Operand.{Operand}
use Rattle.asm_text.specs.declared.statements.Operand.TheVariants.{Nothing, Number, Label as LabelOf}
use Rattle.asm_text.specs.declared.statements.Statement.{Statement}
use Rattle.asm_text.specs.declared.statements.Statement.TheVariants.{Label, Byte, Code}
use Rattle.asm_text.specs.declared.statements.Written.{Written}
use Rattle.asm_text.specs.Statements.{suits, is_right, OperandInRange, InRange, size}
use Rattle.asm_text.specs.Laying.{operand_at, item_at}
use Rattle.asm_text.specs.Printing.{target_of, operand_written, statement_for, statement_of, statements_of}
use Rattle.asm_text.specs.Faults.{is_out_of_reach, is_far_at}
use Rattle.asm_text.proofs.Printed.{is_decoded, is_inside}

-- ---- a branch's byte, from its target

-- the displacement of a byte is that of no other
same_by : (a b : ℕ) (y z : Bool) → a < 256 → b < 256 → nat_lt a 128 ≡ y → nat_lt b 128 ≡ z →
    (if y then a else a + 65280) ≡ (if z then b else b + 65280) → a ≡ b
same_by a b true true p q e f h = h
same_by a b true false p q e f h = absurd (omega (arith, ltb-true a 128 e, h))
same_by a b false true p q e f h = absurd (omega (arith, ltb-true b 128 f, h))
same_by a b false false p q e f h = omega (arith, h)

displaced : (byte : ℕ) (y : Bool) → byte < 256 → (if y then byte else byte + 65280) < MEMORY_SIZE
displaced byte true lt = omega arith
displaced byte false lt = omega arith

same_way : (n a b : ℕ) → a < MEMORY_SIZE → b < MEMORY_SIZE → (n + a) % MEMORY_SIZE ≡ (n + b) % MEMORY_SIZE → a ≡ b
same_way n a b p q h =
    parts n a b ((n + a) / MEMORY_SIZE) ((n + b) / MEMORY_SIZE) ((n + a) % MEMORY_SIZE) ((n + b) % MEMORY_SIZE) p q h
    (omega arith) (omega arith)
  where
    parts : (n a b x y r s : ℕ) → a < MEMORY_SIZE → b < MEMORY_SIZE → r ≡ s → n + a ≡ MEMORY_SIZE * x + r →
        n + b ≡ MEMORY_SIZE * y + s → a ≡ b
    parts n a b x y r s p q h e f = omega arith

branch_by : (pc byte : ℕ) (o : Option ℕ) → pc ≤ MEMORY_SIZE → byte < 256 →
    branch_byte pc (target_of pc byte) ≡ o → branch_byte pc (target_of pc byte) ≡ Some byte
branch_by pc byte None l lt e =
    absurd (far_is_out_of_reach pc (target_of pc byte) byte l (omega arith) e lt refl)
branch_by pc byte (Some other) l lt e =
    let reach = branches_reach pc (target_of pc byte) other l (omega arith) e in
    let same : displacement other ≡ displacement byte =
    same_way (pc + 2) (displacement other) (displacement byte) (displaced other (nat_lt other 128) reach.0)
    (displaced byte (nat_lt byte 128) lt) reach.1 in
    e ∙ ap Some (same_by other byte (nat_lt other 128) (nat_lt byte 128) reach.0 lt refl refl same)

branch_again : (pc byte : ℕ) → pc ≤ MEMORY_SIZE → byte < 256 → branch_byte pc (target_of pc byte) ≡ Some byte
branch_again pc byte l lt = branch_by pc byte (branch_byte pc (target_of pc byte)) l lt refl

-- ---- an instruction that is written is laid as it was

-- what an encoding says of its operand
operand_by : (n : ℕ) (x y z w : Bool) (bytes : List ℕ) → AreBytes bytes →
    nat_eq n 0 ≡ z → nat_lt n 256 ≡ w →
    (if x then (if z then Some [] else None)
    else if y then (if w then Some (n ∷ []) else None) else Some (n % 256 ∷ n / 256 ∷ [])) ≡ Some bytes →
    (x ≡ true → n ≡ 0) × (y ≡ true → x ≡ false → n < 256) × (n < 65536)
operand_by n true y true w bytes are e f h =
    let zero : n ≡ 0 = eqb-true n 0 e in
    ((λ t. zero), (λ t u. omega (arith, zero)), omega (arith, zero))
operand_by n true y false w bytes are e f h = absurd (cc)
operand_by n false true z true bytes are e f h =
    let small = ltb-true n 256 f in
    ((λ t. absurd (false≢true t)), (λ t u. small), omega (arith, small))
operand_by n false true z false bytes are e f h = absurd (cc)
operand_by n false false z w bytes are e f h =
    let same : n % 256 ∷ n / 256 ∷ [] ≡ bytes = same_some (n % 256 ∷ n / 256 ∷ []) bytes h in
    let high : n / 256 < 256 =
    subst (λ bs. get_or bs 1 0 < 256) (sym same) (are 1 0 (omega (arith, ap (λ bs. length bs) same))) in
    ((λ t. absurd (false≢true t)), (λ t u. absurd (false≢true t)), omega (arith, high))

-- the opcode and the operand's bytes of an encoding
record IsEncoded (instr : Instr) (bytes : List ℕ) : Type 0 where
  opcode : ℕ
  rest : List ℕ
  has : opcode_of instr.mnemonic instr.mode ≡ Some opcode
  operand : operand_bytes instr.mode instr.operand ≡ Some rest
  are : bytes ≡ opcode ∷ rest

encoded_by : (instr : Instr) (bytes : List ℕ) (o : Option ℕ) (p : Option (List ℕ)) →
    opcode_of instr.mnemonic instr.mode ≡ o → operand_bytes instr.mode instr.operand ≡ p →
    option_and_then (λ opcode. option_map (λ rest. opcode ∷ rest) p) o ≡ Some bytes → IsEncoded instr bytes
encoded_by instr bytes None p e f h = absurd (cc)
encoded_by instr bytes (Some opcode) None e f h = absurd (cc)
encoded_by instr bytes (Some opcode) (Some rest) e f h = record {
  opcode = opcode;
  rest = rest;
  has = e;
  operand = f;
  are = sym (same_some (opcode ∷ rest) bytes h);
}

is_encoded : (instr : Instr) (bytes : List ℕ) → encoding instr ≡ Some bytes → IsEncoded instr bytes
is_encoded instr bytes h =
    encoded_by instr bytes (opcode_of instr.mnemonic instr.mode) (operand_bytes instr.mode instr.operand) refl refl h

-- what stands for an instruction at pc suits its mode, is in range, and is laid as its operand
record IsOperandFor (pc : ℕ) (instr : Instr) : Type 0 where
  suited : suits instr.mode (operand_written pc instr) ≡ true
  range : OperandInRange (operand_written pc instr)
  laid : (address : ℕ → ℕ) →
      laid_operand address pc instr.mode (operand_at pc instr.mode (operand_written pc instr)) ≡ instr.operand

suited_by : (pc : ℕ) (mnemonic : Mnemonic) (mode : Mode) (n : ℕ) → pc ≤ MEMORY_SIZE →
    (nat_eq (length_of mode) 1 ≡ true → n ≡ 0)
    × (nat_eq (length_of mode) 2 ≡ true → nat_eq (length_of mode) 1 ≡ false → n < 256) × (n < 65536) →
    IsOperandFor pc (record { mnemonic = mnemonic; mode = mode; operand = n })
suited_by pc mnemonic Implied n l h = record { suited = refl; range = tt; laid = λ address. sym (h.0 refl) }
suited_by pc mnemonic Accumulator n l h = record { suited = refl; range = tt; laid = λ address. sym (h.0 refl) }
suited_by pc mnemonic Absolute n l h = record { suited = refl; range = h.2; laid = λ address. refl }
suited_by pc mnemonic AbsoluteX n l h = record { suited = refl; range = h.2; laid = λ address. refl }
suited_by pc mnemonic AbsoluteY n l h = record { suited = refl; range = h.2; laid = λ address. refl }
suited_by pc mnemonic Indirect n l h = record { suited = refl; range = h.2; laid = λ address. refl }
suited_by pc mnemonic Relative n l h = record {
  suited = refl;
  range = omega arith;
  laid = λ address. ap (λ o. unwrap_or o 0) (branch_again pc n l (h.1 refl refl));
}
suited_by pc mnemonic mode n l h =
    record { suited = lt-ltb n 256 (h.1 refl refl); range = h.2; laid = λ address. refl }

is_operand_for : (pc : ℕ) (instr : Instr) (bytes : List ℕ) → pc ≤ MEMORY_SIZE → AreBytes bytes →
    operand_bytes instr.mode instr.operand ≡ Some bytes → IsOperandFor pc instr
is_operand_for pc instr bytes l are h =
    suited_by pc instr.mnemonic instr.mode instr.operand l
    (operand_by instr.operand (nat_eq (length_of instr.mode) 1) (nat_eq (length_of instr.mode) 2)
    (nat_eq instr.operand 0) (nat_lt instr.operand 256) bytes are refl refl h)

-- ---- the statements of an image, one behind the other

-- a statement has no label
abbrev pub is_plain : Statement → Bool
is_plain (Label label) = false
is_plain (Byte byte) = true
is_plain (Code mnemonic mode (LabelOf label)) = false
is_plain (Code mnemonic mode operand) = true

-- a statement at pc may stand in a listing, reaches its target, and gives these bytes
pub record IsNext (pc : ℕ) (statement : Statement) (bytes : List ℕ) : Type 0 where
  pub right : is_right statement ≡ true
  pub range : InRange statement
  pub plain : is_plain statement ≡ true
  pub near : (address : ℕ → ℕ) → is_far_at address pc statement ≡ false
  pub laid : (address : ℕ → ℕ) → item_bytes address pc (item_at pc statement) ≡ bytes
  pub free : (place : ℕ → ℕ) (at : ℕ) → item_fixes place at (item_at pc statement) ≡ []
  pub long : length bytes ≡ size statement

-- statements from pc on, whose first line has this number, give these bytes
pub data Follow : ℕ → ℕ → List Written → List ℕ → Type 0 where
  ended : {pc number : ℕ} → Follow pc number [] []
  next : {pc number : ℕ} {statement : Statement} {here rest : List ℕ} {script : List Written} →
      IsNext pc statement here → Follow (pc + size statement) (number + 1) script rest →
      Follow pc number (record { line = number; statement = statement } ∷ script) (here ++ rest)

operand_plain : (pc : ℕ) (mnemonic : Mnemonic) (mode : Mode) (n : ℕ) (x y : Bool) →
    is_plain (Code mnemonic mode (if x then Nothing else if y then Number (target_of pc n) else Number n)) ≡ true
operand_plain pc mnemonic mode n true y = refl
operand_plain pc mnemonic mode n false true = refl
operand_plain pc mnemonic mode n false false = refl

free_by : (pc : ℕ) (mnemonic : Mnemonic) (mode : Mode) (n at : ℕ) (place : ℕ → ℕ) (x y : Bool) →
    item_fixes place at
    (item_at pc (Code mnemonic mode (if x then Nothing else if y then Number (target_of pc n) else Number n))) ≡ []
free_by pc mnemonic mode n at place true y = refl
free_by pc mnemonic mode n at place false true = refl
free_by pc mnemonic mode n at place false false = refl

reached : (pc n : ℕ) → pc ≤ MEMORY_SIZE → n < 256 → is_out_of_reach pc (target_of pc n) ≡ false
reached pc n l lt = ap (λ o. not (is_some o)) (branch_again pc n l lt)

near_by : (pc : ℕ) (mnemonic : Mnemonic) (mode : Mode) (n : ℕ) (address : ℕ → ℕ) → pc ≤ MEMORY_SIZE →
    (nat_eq (length_of mode) 2 ≡ true → nat_eq (length_of mode) 1 ≡ false → n < 256) →
    is_far_at address pc
    (Code mnemonic mode (operand_written pc (record { mnemonic = mnemonic; mode = mode; operand = n }))) ≡ false
near_by pc mnemonic Relative n address l h = reached pc n l (h refl refl)
near_by pc mnemonic mode n address l h = refl

code_next : (pc : ℕ) (bytes : List ℕ) (instr : Instr) (taken : ℕ) → pc ≤ MEMORY_SIZE → AreBytes (take taken bytes) →
    encoding instr ≡ Some (take taken bytes) → length (take taken bytes) ≡ taken → taken ≡ length_of instr.mode →
    IsNext pc (Code instr.mnemonic instr.mode (operand_written pc instr)) (take taken bytes)
code_next pc bytes instr taken l are e long t =
    let coded = is_encoded instr (take taken bytes) e in
    let tail : AreBytes coded.rest = rest_bytes coded.opcode coded.rest (subst AreBytes coded.are are) in
    let facts =
    operand_by instr.operand (nat_eq (length_of instr.mode) 1) (nat_eq (length_of instr.mode) 2)
    (nat_eq instr.operand 0) (nat_lt instr.operand 256) coded.rest tail refl refl coded.operand in
    let operand = suited_by pc instr.mnemonic instr.mode instr.operand l facts in
    record {
      right =
          right_by instr.mode (operand_written pc instr) (opcode_of instr.mnemonic instr.mode) coded.opcode coded.has
          operand.suited;
      range = operand.range;
      plain =
          operand_plain pc instr.mnemonic instr.mode instr.operand (nat_eq (length_of instr.mode) 1)
          (is_relative instr.mode);
      near = λ address. near_by pc instr.mnemonic instr.mode instr.operand address l facts.1;
      laid = λ address.
          ap
          (λ n. unwrap_or
          (encoding (record { mnemonic = instr.mnemonic; mode = instr.mode; operand = n })) [])
          (operand.laid address)
          ∙ ap (λ o. unwrap_or o []) e;
      free = λ place at.
          free_by pc instr.mnemonic instr.mode instr.operand at place (nat_eq (length_of instr.mode) 1)
          (is_relative instr.mode);
      long = long ∙ t;
    }
  where
    rest_bytes : (opcode : ℕ) (rest : List ℕ) → AreBytes (opcode ∷ rest) → AreBytes rest
    rest_bytes opcode rest are = λ k d lt. are (suc k) d (omega (arith, lt))

    right_by : (mode : Mode) (operand : Operand) (o : Option ℕ) (opcode : ℕ) → o ≡ Some opcode →
        suits mode operand ≡ true → (is_some o && suits mode operand) ≡ true
    right_by mode operand None opcode e h = absurd (cc)
    right_by mode operand (Some other) opcode e h = h

byte_next : (pc byte : ℕ) → byte < 256 → IsNext pc (Byte byte) (byte ∷ [])
byte_next pc byte lt = record {
  right = refl;
  range = lt;
  plain = refl;
  near = λ address. refl;
  laid = λ address. refl;
  free = λ place at. refl;
  long = refl;
}

take_bytes : (n : ℕ) (bytes : List ℕ) → AreBytes bytes → AreBytes (take n bytes)
take_bytes zero bytes are = All-nil IsByte
take_bytes (suc n) [] are = All-nil IsByte
take_bytes (suc n) (byte ∷ rest) are =
    All-cons IsByte byte (take n rest) (are 0 0 (omega arith)) (take_bytes n rest (λ k d lt. are (suc k) d (omega (arith, lt))))

drop_bytes : (n : ℕ) (bytes : List ℕ) → AreBytes bytes → AreBytes (drop n bytes)
drop_bytes zero bytes are = are
drop_bytes (suc n) [] are = All-nil IsByte
drop_bytes (suc n) (byte ∷ rest) are = drop_bytes n rest (λ k d lt. are (suc k) d (omega (arith, lt)))

next_by : (pc : ℕ) (bytes : List ℕ) (o : Option (Instr × ℕ)) → pc ≤ MEMORY_SIZE → AreBytes bytes → 0 < length bytes →
    decoding bytes ≡ o → IsNext pc (statement_for pc bytes o) (take (size (statement_for pc bytes o)) bytes)
next_by pc [] None l are some e = absurd (omega (arith, some))
next_by pc (byte ∷ rest) None l are some e = byte_next pc byte (are 0 0 (omega arith))
next_by pc bytes (Some found) l are some e =
    let d = is_decoded bytes found e in
    let n = nothing_else_decodes rows_have_opcodes bytes found.0 found.1 are e in
    subst (λ t. IsNext pc (Code found.0.mnemonic found.0.mode (operand_written pc found.0)) (take t bytes)) d.size
    (code_next pc bytes found.0 found.1 l (take_bytes found.1 bytes are) n.0 n.1 d.size)

is_next : (pc : ℕ) (bytes : List ℕ) → pc ≤ MEMORY_SIZE → AreBytes bytes → 0 < length bytes →
    IsNext pc (statement_of pc bytes) (take (size (statement_of pc bytes)) bytes)
is_next pc bytes l are some = next_by pc bytes (decoding bytes) l are some refl

-- the statements of an image, with the numbers of their lines
abbrev pub numbered : ℕ → List Statement → List Written
numbered number [] = []
numbered number (statement ∷ rest) = record { line = number; statement = statement } ∷ numbered (number + 1) rest

pub follows : (most number pc : ℕ) (bytes : List ℕ) → length bytes ≤ most → pc + length bytes ≤ MEMORY_SIZE →
    AreBytes bytes → Follow pc number (numbered number (statements_of most pc bytes)) bytes
follows zero number pc [] enough fits are = ended
follows zero number pc (byte ∷ rest) enough fits are = absurd (omega (arith, enough))
follows (suc most) number pc [] enough fits are = ended
follows (suc most) number pc (byte ∷ rest) enough fits are =
    let statement = statement_of pc (byte ∷ rest) in
    let inside = is_inside pc (byte ∷ rest) (omega arith) in
    let long = length-drop (size (statement_of pc (byte ∷ rest))) (byte ∷ rest) in
    let here = is_next pc (byte ∷ rest) (omega (arith, fits)) are (omega arith) in
    let more = follows most (number + 1) (pc + size (statement_of pc (byte ∷ rest)))
    (drop (size (statement_of pc (byte ∷ rest))) (byte ∷ rest))
    (omega (arith, long, enough, inside.some, inside.there)) (omega (arith, long, fits, inside.there))
    (drop_bytes (size (statement_of pc (byte ∷ rest))) (byte ∷ rest) are) in
    subst
    (λ all. Follow pc number
    (numbered number
    (statement_of pc (byte ∷ rest) ∷ statements_of most (pc + size (statement_of pc (byte ∷ rest)))
    (drop (size (statement_of pc (byte ∷ rest))) (byte ∷ rest)))) all)
    (take-append-drop (size (statement_of pc (byte ∷ rest))) (byte ∷ rest)) (next here more)
