-- Lines that are assembled at one origin and moved to another are the lines assembled there.
use Rattle.std.proofs.Common.{◌≡◌, ℕ, ◌+◌, ◌-◌, ◌*◌, ◌/◌, ◌%◌, ◌<◌, ◌≤◌, true}
use Rattle.std.proofs.Common.{List, [], ◌∷◌, ◌++◌, length, set, Option, Some, None, unwrap_or, nat_lt}
use Rattle.std.proofs.Common.{if◌then◌else◌, refl, ap, sym, ◌∙◌, arith, append_assoc, length-append}
use Rattle.std.specs.Option.{is_some}
use Rattle.std.proofs.lemmas.Bool.{and_parts, lt-ltb}
use Rattle.base.proofs.Laws.{half_small, set-append_add}
use Rattle.cpu6502.specs.declared.memory.TheConstants.{MEMORY_SIZE}
use Rattle.cpu6502.specs.declared.mnemonic.Mnemonic.{Mnemonic}
use Rattle.cpu6502.specs.declared.mnemonic.Mode.{Mode}
use Rattle.cpu6502.specs.declared.mnemonic.Mode.TheVariants.{Implied, Accumulator, Immediate, ZeroPage, ZeroPageX}
use Rattle.cpu6502.specs.declared.mnemonic.Mode.TheVariants.{ZeroPageY, Absolute, AbsoluteX, AbsoluteY, IndirectX}
use Rattle.cpu6502.specs.declared.mnemonic.Mode.TheVariants.{IndirectY, Indirect, Relative}
use Rattle.cpu6502.specs.Opcodes.{opcode_of, length_of}
use Rattle.asm6502.specs.declared.lines.Operand.{Operand}
use Rattle.asm6502.specs.declared.lines.Operand.TheVariants.{Nothing, Number, Label, Low as LowOf, High as HighOf}
use Rattle.asm6502.specs.declared.lines.Item.{Item}
use Rattle.asm6502.specs.declared.lines.Item.TheVariants.{Label as Named, Code, Bytes}
use Rattle.asm6502.specs.declared.lines.Line.{Line}
use Rattle.asm6502.specs.declared.fixes.Fix.{Fix}
use Rattle.asm6502.specs.declared.fixes.FixKind.{FixKind}
use Rattle.asm6502.specs.declared.fixes.FixKind.TheVariants.{Word, Low, High}
use Rattle.asm6502.specs.Branches.{way_from, branch_byte}
use Rattle.asm6502.specs.Instructions.{operand_bytes, encoding}
use Rattle.asm6502.specs.Operands.{suits}
use Rattle.asm6502.specs.Lines.{item_size, size_of, is_sound}
use Rattle.asm6502.specs.Assembly.{item_bytes, bytes_of, item_fixes, fixes_of}
use Rattle.asm6502.specs.Fixes.{operand_fixes, width_of, with_number, with_numbers, InOrder}
use Rattle.asm6502.proofs.Sound.{item_length, AllSound}

-- labels with addresses at two origins, and with places
pub record AreShifted (origin other : ℕ) (address address' place : ℕ → ℕ) : Type 0 where
  pub here : (label : ℕ) → address label ≡ origin + place label
  pub there : (label : ℕ) → address' label ≡ other + place label

-- a number of the new origin, from the place
number_shifts : (origin p d : ℕ) → (origin + (p + d) % MEMORY_SIZE) % MEMORY_SIZE ≡ (origin + p + d) % MEMORY_SIZE
number_shifts origin p d =
    let q = (p + d) / MEMORY_SIZE in
    let s : p + d ≡ MEMORY_SIZE * ((p + d) / MEMORY_SIZE) + (p + d) % MEMORY_SIZE = omega arith in
    wrap origin (p + d) ((p + d) / MEMORY_SIZE) ((p + d) % MEMORY_SIZE) s
    ∙ ap (λ (n : ℕ). n % MEMORY_SIZE) (plus origin p d)
  where
    wrap : (o n q r : ℕ) → n ≡ MEMORY_SIZE * q + r → (o + r) % MEMORY_SIZE ≡ (o + n) % MEMORY_SIZE
    wrap o n q r e = omega arith

    plus : (o p d : ℕ) → o + (p + d) ≡ o + p + d
    plus o p d = omega arith

-- the way of a branch is the same at each origin
way_part : (o at n q r : ℕ) → n ≡ MEMORY_SIZE * q + r → r < MEMORY_SIZE → o + at ≤ MEMORY_SIZE →
    (r + 2 * MEMORY_SIZE - (o + at + 2)) % MEMORY_SIZE ≡ (n + 2 * MEMORY_SIZE - (o + at + 2)) % MEMORY_SIZE
way_part o at n q r e s l =
    let whole : n + 2 * MEMORY_SIZE - (o + at + 2) ≡ MEMORY_SIZE * q + (r + 2 * MEMORY_SIZE - (o + at + 2)) =
    omega arith in
    rw whole (omega arith)

way_is : (o at p d : ℕ) → o + at ≤ MEMORY_SIZE →
    way_from (o + at) ((o + p + d) % MEMORY_SIZE) ≡ (p + d + 2 * MEMORY_SIZE - (at + 2)) % MEMORY_SIZE
way_is o at p d l =
    let split : o + p + d ≡ MEMORY_SIZE * ((o + p + d) / MEMORY_SIZE) + (o + p + d) % MEMORY_SIZE = omega arith in
    let same : o + p + d + 2 * MEMORY_SIZE - (o + at + 2) ≡ p + d + 2 * MEMORY_SIZE - (at + 2) = omega arith in
    way_part o at (o + p + d) ((o + p + d) / MEMORY_SIZE) ((o + p + d) % MEMORY_SIZE) split (omega arith) l
    ∙ ap (λ (n : ℕ). n % MEMORY_SIZE) same

abbrev byte_of_way : ℕ → Option ℕ
byte_of_way way = if nat_lt way 128 then Some way else if nat_lt way 65408 then None else Some (way - 65280)

pub branch_shifts : (origin other at p d : ℕ) → origin + at ≤ MEMORY_SIZE → other + at ≤ MEMORY_SIZE →
    branch_byte (origin + at) ((origin + p + d) % MEMORY_SIZE)
    ≡ branch_byte (other + at) ((other + p + d) % MEMORY_SIZE)
branch_shifts origin other at p d l m = ap byte_of_way (way_is origin at p d l ∙ sym (way_is other at p d m))

-- the same for labels with addresses
pub label_shifts : (origin other at l d : ℕ) (address address' place : ℕ → ℕ) →
    AreShifted origin other address address' place → origin + at ≤ MEMORY_SIZE → other + at ≤ MEMORY_SIZE →
    branch_byte (origin + at) ((address l + d) % MEMORY_SIZE)
    ≡ branch_byte (other + at) ((address' l + d) % MEMORY_SIZE)
label_shifts origin other at l d address address' place s h k =
    let a = s.here l in
    let b = s.there l in
    rw (a, b) (branch_shifts origin other at (place l) d h k)

put_word : (pre tail : List ℕ) (at op a b v : ℕ) → length pre ≡ at →
    set (set (pre ++ (op ∷ a ∷ b ∷ tail)) (at + 1) (v % 256)) (at + 1 + 1) (v / 256)
    ≡ pre ++ (op ∷ v % 256 ∷ v / 256 ∷ tail)
put_word pre tail at op a b v e =
    let i : at + 1 + 1 ≡ at + 2 = omega arith in
    ap (λ (bs : List ℕ). set bs (at + 1 + 1) (v / 256)) (set-append_add pre (op ∷ a ∷ b ∷ tail) at 1 (v % 256) e)
    ∙ ap (λ (k : ℕ). set (pre ++ (op ∷ v % 256 ∷ b ∷ tail)) k (v / 256)) i
    ∙ set-append_add pre (op ∷ v % 256 ∷ b ∷ tail) at 2 (v / 256) e

-- the bytes of an instruction from its opcode and operand bytes
coded : (mn : Mnemonic) (mode : Mode) (n op : ℕ) (following : List ℕ) → opcode_of mn mode ≡ Some op →
    operand_bytes mode n ≡ Some following → unwrap_or (encoding (record { mnemonic = mn; mode = mode; operand = n }))
    [] ≡ op ∷ following
coded mn mode n op following e f = rw (e, f) refl

word_item : (mn : Mnemonic) (mode : Mode) (op n n' at other to : ℕ) (pre tail : List ℕ) →
    opcode_of mn mode ≡ Some op → operand_bytes mode n ≡ Some (n % 256 ∷ n / 256 ∷ []) →
    operand_bytes mode n' ≡ Some (n' % 256 ∷ n' / 256 ∷ []) → length pre ≡ at → (other + to) % MEMORY_SIZE ≡ n' →
    with_numbers other (pre ++ (unwrap_or (encoding (record { mnemonic = mn; mode = mode; operand = n })) [] ++ tail))
    (record { at = at + 1; kind = Word; to = to } ∷ [])
    ≡ pre ++ (unwrap_or (encoding (record { mnemonic = mn; mode = mode; operand = n' })) [] ++ tail)
word_item mn mode op n n' at other to pre tail e f g l v =
    ap (λ (bs : List ℕ). with_numbers other (pre ++ (bs ++ tail)) (record { at = at + 1; kind = Word; to = to } ∷ []))
    (coded mn mode n op (n % 256 ∷ n / 256 ∷ []) e f)
    ∙ put_word pre tail at op (n % 256) (n / 256) ((other + to) % MEMORY_SIZE) l
    ∙ ap (λ (w : ℕ). pre ++ (op ∷ w % 256 ∷ w / 256 ∷ tail)) v
    ∙ ap (λ (bs : List ℕ). pre ++ (bs ++ tail)) (sym (coded mn mode n' op (n' % 256 ∷ n' / 256 ∷ []) e g))

byte_item : (mn : Mnemonic) (mode : Mode) (kind : FixKind) (op n n' at other to y : ℕ) (pre tail : List ℕ) →
    opcode_of mn mode ≡ Some op → operand_bytes mode n ≡ Some (n ∷ []) → operand_bytes mode n' ≡ Some (n' ∷ []) →
    length pre ≡ at → ((bs : List ℕ) → with_number kind bs (at + 1) ((other + to) % MEMORY_SIZE) ≡ set bs (at + 1) y) →
    y ≡ n' → with_numbers other
    (pre ++ (unwrap_or (encoding (record { mnemonic = mn; mode = mode; operand = n })) [] ++ tail))
    (record { at = at + 1; kind = kind; to = to } ∷ [])
    ≡ pre ++ (unwrap_or (encoding (record { mnemonic = mn; mode = mode; operand = n' })) [] ++ tail)
byte_item mn mode kind op n n' at other to y pre tail e f g l w v =
    ap (λ (bs : List ℕ). with_number kind (pre ++ (bs ++ tail)) (at + 1) ((other + to) % MEMORY_SIZE))
    (coded mn mode n op (n ∷ []) e f)
    ∙ w (pre ++ (op ∷ n ∷ tail))
    ∙ set-append_add pre (op ∷ n ∷ tail) at 1 y l
    ∙ ap (λ (b : ℕ). pre ++ (op ∷ b ∷ tail)) v
    ∙ ap (λ (bs : List ℕ). pre ++ (bs ++ tail)) (sym (coded mn mode n' op (n' ∷ []) e g))

byte_bytes : (n : ℕ) → n < 256 → operand_bytes Immediate n ≡ Some (n ∷ [])
byte_bytes n h = let t : nat_lt n 256 ≡ true = lt-ltb n 256 h in rw t refl

-- the number of a label at the new origin
there_number : (origin other l d : ℕ) (address address' place : ℕ → ℕ) →
    AreShifted origin other address address' place →
    (other + (place l + d) % MEMORY_SIZE) % MEMORY_SIZE ≡ (address' l + d) % MEMORY_SIZE
there_number origin other l d address address' place s =
    number_shifts other (place l) d ∙ ap (λ (n : ℕ). (n + d) % MEMORY_SIZE) (sym (s.there l))

-- where an instruction with a label moves
pub record Place (origin other at : ℕ) (address address' place : ℕ → ℕ) (pre : List ℕ) : Type 0 where
  pub shifted : AreShifted origin other address address' place
  pub here : origin + at ≤ MEMORY_SIZE
  pub there : other + at ≤ MEMORY_SIZE
  pub front : length pre ≡ at

label_item : (origin other at : ℕ) (address address' place : ℕ → ℕ) (pre tail : List ℕ) (mn : Mnemonic) (mode : Mode)
    (op l d : ℕ) → Place origin other at address address' place pre → opcode_of mn mode ≡ Some op →
    suits mode (Label l d) ≡ true →
    with_numbers other (pre ++ (item_bytes address (origin + at) (Code mn mode (Label l d)) ++ tail))
    (operand_fixes place (at + 1) mode (Label l d))
    ≡ pre ++ (item_bytes address' (other + at) (Code mn mode (Label l d)) ++ tail)
label_item origin other at address address' place pre tail mn Absolute op l d p e h =
    word_item mn Absolute op ((address l + d) % MEMORY_SIZE) ((address' l + d) % MEMORY_SIZE) at other
    ((place l + d) % MEMORY_SIZE) pre
    tail e refl refl p.front (there_number origin other l d address address' place p.shifted)
label_item origin other at address address' place pre tail mn AbsoluteX op l d p e h =
    word_item mn AbsoluteX op ((address l + d) % MEMORY_SIZE) ((address' l + d) % MEMORY_SIZE) at other
    ((place l + d) % MEMORY_SIZE)
    pre tail e refl refl p.front (there_number origin other l d address address' place p.shifted)
label_item origin other at address address' place pre tail mn AbsoluteY op l d p e h =
    word_item mn AbsoluteY op ((address l + d) % MEMORY_SIZE) ((address' l + d) % MEMORY_SIZE) at other
    ((place l + d) % MEMORY_SIZE)
    pre tail e refl refl p.front (there_number origin other l d address address' place p.shifted)
label_item origin other at address address' place pre tail mn Indirect op l d p e h =
    word_item mn Indirect op ((address l + d) % MEMORY_SIZE) ((address' l + d) % MEMORY_SIZE) at other
    ((place l + d) % MEMORY_SIZE) pre
    tail e refl refl p.front (there_number origin other l d address address' place p.shifted)
label_item origin other at address address' place pre tail mn Relative op l d p e h =
    ap (λ (o : Option ℕ).
    pre ++ (unwrap_or (encoding (record { mnemonic = mn; mode = Relative; operand = unwrap_or o 0 })) [] ++ tail))
    (label_shifts origin other at l d address address' place p.shifted p.here p.there)
label_item origin other at address address' place pre tail mn Implied op l d p e h = absurd (cc)
label_item origin other at address address' place pre tail mn Accumulator op l d p e h = absurd (cc)
label_item origin other at address address' place pre tail mn Immediate op l d p e h = absurd (cc)
label_item origin other at address address' place pre tail mn ZeroPage op l d p e h = absurd (cc)
label_item origin other at address address' place pre tail mn ZeroPageX op l d p e h = absurd (cc)
label_item origin other at address address' place pre tail mn ZeroPageY op l d p e h = absurd (cc)
label_item origin other at address address' place pre tail mn IndirectX op l d p e h = absurd (cc)
label_item origin other at address address' place pre tail mn IndirectY op l d p e h = absurd (cc)

-- the immediate mode is the only one of its kind
pub immediate_is : (mode : Mode) → suits mode (LowOf 0 0) ≡ true → mode ≡ Immediate
immediate_is Immediate h = refl
immediate_is Implied h = absurd (cc)
immediate_is Accumulator h = absurd (cc)
immediate_is ZeroPage h = absurd (cc)
immediate_is ZeroPageX h = absurd (cc)
immediate_is ZeroPageY h = absurd (cc)
immediate_is Absolute h = absurd (cc)
immediate_is AbsoluteX h = absurd (cc)
immediate_is AbsoluteY h = absurd (cc)
immediate_is IndirectX h = absurd (cc)
immediate_is IndirectY h = absurd (cc)
immediate_is Indirect h = absurd (cc)
immediate_is Relative h = absurd (cc)

low_item : (origin other at : ℕ) (address address' place : ℕ → ℕ) (pre tail : List ℕ) (mn : Mnemonic) (op l d : ℕ) →
    Place origin other at address address' place pre → opcode_of mn Immediate ≡ Some op →
    with_numbers other (pre ++ (item_bytes address (origin + at) (Code mn Immediate (LowOf l d)) ++ tail))
    (operand_fixes place (at + 1) Immediate (LowOf l d))
    ≡ pre ++ (item_bytes address' (other + at) (Code mn Immediate (LowOf l d)) ++ tail)
low_item origin other at address address' place pre tail mn op l d p e =
    byte_item mn Immediate Low op ((address l + d) % MEMORY_SIZE % 256) ((address' l + d) % MEMORY_SIZE % 256) at other
    ((place l + d) % MEMORY_SIZE) ((other + (place l + d) % MEMORY_SIZE) % MEMORY_SIZE % 256) pre tail e
    (byte_bytes ((address l + d) % MEMORY_SIZE % 256) (omega arith))
    (byte_bytes ((address' l + d) % MEMORY_SIZE % 256) (omega arith)) p.front (λ bs. refl)
    (ap (λ (n : ℕ). n % 256) (there_number origin other l d address address' place p.shifted))

high_item : (origin other at : ℕ) (address address' place : ℕ → ℕ) (pre tail : List ℕ) (mn : Mnemonic) (op l d : ℕ) →
    Place origin other at address address' place pre → opcode_of mn Immediate ≡ Some op →
    with_numbers other (pre ++ (item_bytes address (origin + at) (Code mn Immediate (HighOf l d)) ++ tail))
    (operand_fixes place (at + 1) Immediate (HighOf l d))
    ≡ pre ++ (item_bytes address' (other + at) (Code mn Immediate (HighOf l d)) ++ tail)
high_item origin other at address address' place pre tail mn op l d p e =
    byte_item mn Immediate High op ((address l + d) % MEMORY_SIZE / 256) ((address' l + d) % MEMORY_SIZE / 256) at other
    ((place l + d) % MEMORY_SIZE) ((other + (place l + d) % MEMORY_SIZE) % MEMORY_SIZE / 256) pre tail e
    (byte_bytes ((address l + d) % MEMORY_SIZE / 256) (half_small ((address l + d) % MEMORY_SIZE) (omega arith)))
    (byte_bytes ((address' l + d) % MEMORY_SIZE / 256) (half_small ((address' l + d) % MEMORY_SIZE) (omega arith)))
    p.front
    (λ bs. refl) (ap (λ (n : ℕ). n / 256) (there_number origin other l d address address' place p.shifted))

some_of : (o : Option ℕ) → is_some o ≡ true → (x : ℕ) × (o ≡ Some x)
some_of None h = absurd (cc)
some_of (Some x) h = (x, refl)

code_item : (origin other at : ℕ) (address address' place : ℕ → ℕ) (pre tail : List ℕ) (mn : Mnemonic) (mode : Mode)
    (x : Operand) (op : ℕ) → Place origin other at address address' place pre → opcode_of mn mode ≡ Some op →
    suits mode x ≡ true → with_numbers other (pre ++ (item_bytes address (origin + at) (Code mn mode x) ++ tail))
    (operand_fixes place (at + 1) mode x) ≡ pre ++ (item_bytes address' (other + at) (Code mn mode x) ++ tail)
code_item origin other at address address' place pre tail mn mode Nothing op p e h = refl
code_item origin other at address address' place pre tail mn mode (Number n) op p e h = refl
code_item origin other at address address' place pre tail mn mode (Label l d) op p e h =
    label_item origin other at address address' place pre tail mn mode op l d p e h
code_item origin other at address address' place pre tail mn mode (LowOf l d) op p e h =
    let m = immediate_is mode h in
    let i : opcode_of mn Immediate ≡ Some op = ap (opcode_of mn) (sym m) ∙ e in
    rw m (low_item origin other at address address' place pre tail mn op l d p i)
code_item origin other at address address' place pre tail mn mode (HighOf l d) op p e h =
    let m = immediate_is mode h in
    let i : opcode_of mn Immediate ≡ Some op = ap (opcode_of mn) (sym m) ∙ e in
    rw m (high_item origin other at address address' place pre tail mn op l d p i)

item_shift : (origin other at : ℕ) (address address' place : ℕ → ℕ) (pre tail : List ℕ) (item : Item) →
    Place origin other at address address' place pre → is_sound item ≡ true →
    with_numbers other (pre ++ (item_bytes address (origin + at) item ++ tail)) (item_fixes place at item)
    ≡ pre ++ (item_bytes address' (other + at) item ++ tail)
item_shift origin other at address address' place pre tail (Named l) p h = refl
item_shift origin other at address address' place pre tail (Bytes bs) p h = refl
item_shift origin other at address address' place pre tail (Code mn mode x) p h =
    let b = and_parts (is_some (opcode_of mn mode)) (suits mode x) h in
    let o = some_of (opcode_of mn mode) b.0 in
    code_item origin other at address address' place pre tail mn mode x o.0 p o.1 b.1

with_numbers-append : (origin : ℕ) (bytes : List ℕ) (front back : List Fix) →
    with_numbers origin bytes (front ++ back) ≡ with_numbers origin (with_numbers origin bytes front) back
with_numbers-append origin bytes [] back = refl
with_numbers-append origin bytes (fix ∷ front) back =
    with_numbers-append origin (with_number fix.kind bytes fix.at ((origin + fix.to) % MEMORY_SIZE)) front back

-- lines after a front, moved to another origin
pub lines_shift : (origin other : ℕ) (address address' place : ℕ → ℕ) →
    AreShifted origin other address address' place → (lines : List Line) → AllSound lines → (pre : List ℕ) (at : ℕ) →
    length pre ≡ at → origin + at + size_of lines ≤ MEMORY_SIZE → other + at + size_of lines ≤ MEMORY_SIZE →
    with_numbers other (pre ++ bytes_of address (origin + at) lines) (fixes_of place at lines) ≡ pre ++ bytes_of
    address' (other + at) lines
lines_shift origin other address address' place s [] sound pre at l h t = refl
lines_shift origin other address address' place s (x ∷ lines) sound pre at l h t =
    let p : Place origin other at address address' place pre =
    record { shifted = s; here = omega arith; there = omega arith; front = l } in
    let e : origin + at + item_size x.item ≡ origin + (at + item_size x.item) = omega arith in
    let f : other + at + item_size x.item ≡ other + (at + item_size x.item) = omega arith in
    let size = item_length address' (other + at) x.item sound.0 in
    let front : length (pre ++ item_bytes address' (other + at) x.item) ≡ at + item_size x.item =
    length-append pre (item_bytes address' (other + at) x.item) ∙ (omega arith) in
    with_numbers-append other
    (pre ++ (item_bytes address (origin + at) x.item ++ bytes_of address (origin + at + item_size x.item) lines))
    (item_fixes place at x.item) (fixes_of place (at + item_size x.item) lines)
    ∙ ap (λ (bs : List ℕ). with_numbers other bs (fixes_of place (at + item_size x.item) lines))
    (item_shift origin other at address address' place pre
    (bytes_of address (origin + at + item_size x.item) lines) x.item p sound.0
    ∙ sym (append_assoc pre (item_bytes address' (other + at) x.item)
    (bytes_of address (origin + at + item_size x.item) lines)))
    ∙ ap (λ (n : ℕ). with_numbers other ((pre ++ item_bytes address' (other + at) x.item) ++ bytes_of address n lines)
    (fixes_of place (at + item_size x.item) lines)) e
    ∙ lines_shift origin other address address' place s lines sound.1 (pre ++ item_bytes address' (other + at) x.item)
    (at + item_size x.item) front (omega arith) (omega arith)
    ∙ append_assoc pre (item_bytes address' (other + at) x.item)
    (bytes_of address' (other + (at + item_size x.item)) lines)
    ∙ ap (λ (n : ℕ). pre ++ (item_bytes address' (other + at) x.item ++ bytes_of address' n lines)) (sym f)

-- the fixes of lines stand in ascending places within their bytes
in_order_low : (low lower n : ℕ) (fixes : List Fix) → lower ≤ low → InOrder low n fixes → InOrder lower n fixes
in_order_low low lower n [] l o = tt
in_order_low low lower n (fix ∷ rest) l o = let a = o.0 in (omega arith, o.1)

word_order : (at n to : ℕ) (rest : List Fix) → InOrder (at + 3) n rest → at + 3 ≤ n →
    InOrder at n (record { at = at + 1; kind = Word; to = to } ∷ rest)
word_order at n to rest o l = (omega arith, (omega arith, in_order_low (at + 3) (at + 1 + 2) n rest (omega arith) o))

label_order : (place : ℕ → ℕ) (at n : ℕ) (mode : Mode) (l d : ℕ) (rest : List Fix) → suits mode (Label l d) ≡ true →
    InOrder (at + length_of mode) n rest → at + length_of mode ≤ n →
    InOrder at n (operand_fixes place (at + 1) mode (Label l d) ++ rest)
label_order place at n Absolute l d rest h o k = word_order at n ((place l + d) % MEMORY_SIZE) rest o k
label_order place at n AbsoluteX l d rest h o k = word_order at n ((place l + d) % MEMORY_SIZE) rest o k
label_order place at n AbsoluteY l d rest h o k = word_order at n ((place l + d) % MEMORY_SIZE) rest o k
label_order place at n Indirect l d rest h o k = word_order at n ((place l + d) % MEMORY_SIZE) rest o k
label_order place at n Relative l d rest h o k = in_order_low (at + 2) at n rest (omega arith) o
label_order place at n Implied l d rest h o k = absurd (cc)
label_order place at n Accumulator l d rest h o k = absurd (cc)
label_order place at n Immediate l d rest h o k = absurd (cc)
label_order place at n ZeroPage l d rest h o k = absurd (cc)
label_order place at n ZeroPageX l d rest h o k = absurd (cc)
label_order place at n ZeroPageY l d rest h o k = absurd (cc)
label_order place at n IndirectX l d rest h o k = absurd (cc)
label_order place at n IndirectY l d rest h o k = absurd (cc)

byte_order : (at n : ℕ) (mode : Mode) (fix : Fix) (rest : List Fix) → suits mode (LowOf 0 0) ≡ true →
    fix.at ≡ at + 1 → width_of fix.kind ≡ 1 → InOrder (at + length_of mode) n rest → at + length_of mode ≤ n →
    InOrder at n (fix ∷ rest)
byte_order at n mode fix rest h e w o k =
    let m : length_of mode ≡ 2 = ap length_of (immediate_is mode h) in (
      omega arith,
      (
        omega arith,
        in_order_low (at + length_of mode) (fix.at + width_of fix.kind) n rest (omega arith)
            o,
      ),
    )

item_order : (place : ℕ → ℕ) (at n : ℕ) (item : Item) (rest : List Fix) → is_sound item ≡ true →
    InOrder (at + item_size item) n rest → at + item_size item ≤ n → InOrder at n (item_fixes place at item ++ rest)
item_order place at n (Named l) rest h o k = in_order_low (at + 0) at n rest (omega arith) o
item_order place at n (Bytes bs) rest h o k = in_order_low (at + length bs) at n rest (omega arith) o
item_order place at n (Code mn mode Nothing) rest h o k = in_order_low (at + length_of mode) at n rest (omega arith) o
item_order place at n (Code mn mode (Number m)) rest h o k =
    in_order_low (at + length_of mode) at n rest (omega arith) o
item_order place at n (Code mn mode (Label l d)) rest h o k =
    label_order place at n mode l d rest (and_parts (is_some (opcode_of mn mode)) (suits mode (Label l d)) h).1 o k
item_order place at n (Code mn mode (LowOf l d)) rest h o k =
    byte_order at n mode (record { at = at + 1; kind = Low; to = (place l + d) % MEMORY_SIZE }) rest
    (and_parts (is_some (opcode_of mn mode)) (suits mode (LowOf l d)) h).1 refl refl o k
item_order place at n (Code mn mode (HighOf l d)) rest h o k =
    byte_order at n mode (record { at = at + 1; kind = High; to = (place l + d) % MEMORY_SIZE }) rest
    (and_parts (is_some (opcode_of mn mode)) (suits mode (HighOf l d)) h).1 refl refl o k

pub fixes_in_order : (place : ℕ → ℕ) (at n : ℕ) (lines : List Line) → AllSound lines → at + size_of lines ≤ n →
    InOrder at n (fixes_of place at lines)
fixes_in_order place at n [] sound k = tt
fixes_in_order place at n (x ∷ lines) sound k =
    item_order place at n x.item (fixes_of place (at + item_size x.item) lines) sound.0
    (fixes_in_order place (at + item_size x.item) n lines sound.1 (omega arith)) (omega arith)
