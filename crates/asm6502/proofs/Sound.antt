-- What can stand in a listing has an encoding of the length that its mode says.
use Rattle.std.proofs.Common.{◌≡◌, ℕ, zero, suc, ◌+◌, ◌-◌, ◌/◌, ◌%◌, ◌<◌, Bool, true, false}
use Rattle.std.proofs.Common.{◌&&◌, ◌||◌, not, List, [], ◌∷◌, ◌++◌, length, Option, Some, None}
use Rattle.std.proofs.Common.{unwrap_or, nat_eq, nat_lt, if◌then◌else◌, refl, ap, sym, ◌∙◌, get_or, arith}
use Rattle.std.specs.Option.{option_or, is_some}
use Rattle.std.proofs.lemmas.Bool.{and_parts, ltb-true, lt-ltb}
use Rattle.base.proofs.Laws.{half_small}
use Rattle.cpu6502.specs.declared.memory.TheConstants.{MEMORY_SIZE}
use Rattle.cpu6502.specs.declared.mnemonic.Mnemonic.{Mnemonic}
use Rattle.cpu6502.specs.declared.mnemonic.Mode.{Mode}
use Rattle.cpu6502.specs.declared.mnemonic.Mode.TheVariants.{Implied, Accumulator, Immediate, ZeroPage, ZeroPageX}
use Rattle.cpu6502.specs.declared.mnemonic.Mode.TheVariants.{ZeroPageY, Absolute, AbsoluteX, AbsoluteY, IndirectX}
use Rattle.cpu6502.specs.declared.mnemonic.Mode.TheVariants.{IndirectY, Indirect, Relative}
use Rattle.cpu6502.specs.Opcodes.{opcode_of, length_of}
use Rattle.asm6502.specs.declared.lines.Operand.{Operand}
use Rattle.asm6502.specs.declared.lines.Operand.TheVariants.{Nothing, Number, Label, Low, High}
use Rattle.asm6502.specs.declared.lines.Item.{Item}
use Rattle.asm6502.specs.declared.lines.Item.TheVariants.{Label as Named, Code, Bytes}
use Rattle.asm6502.specs.declared.lines.Line.{Line}
use Rattle.asm6502.specs.declared.faults.AsmFault.{AsmFault}
use Rattle.asm6502.specs.Branches.{way_from, branch_byte}
use Rattle.asm6502.specs.Instructions.{operand_bytes, encoding}
use Rattle.asm6502.specs.Operands.{fits, suits, operand_of}
use Rattle.asm6502.specs.Lines.{is_kept, kept, item_size, is_sound, is_no_part}
use Rattle.asm6502.specs.Assembly.{instr_at, item_bytes}
use Rattle.asm6502.specs.Faults.{first_fault, bad_line}
use Rattle.asm6502.proofs.Rounds.{operand_read}

-- a displacement byte is a byte
byte_small : (way : ℕ) (y z : Bool) → way < MEMORY_SIZE → nat_lt way 128 ≡ y → nat_lt way 65408 ≡ z →
    unwrap_or (if y then Some way else if z then None else Some (way - 65280)) 0 < 256
byte_small way true z w e f = omega (arith, ltb-true way 128 e)
byte_small way false true w e f = omega arith
byte_small way false false w e f = omega arith

pub branch_byte-lt : (pc target : ℕ) → unwrap_or (branch_byte pc target) 0 < 256
branch_byte-lt pc target =
    byte_small (way_from pc target) (nat_lt (way_from pc target) 128) (nat_lt (way_from pc target) 65408)
    (omega arith) refl refl

-- an operand that suits a mode has bytes
byte_some : (n : ℕ) → nat_lt n 256 ≡ true → is_some (if nat_lt n 256 then Some (n ∷ []) else None) ≡ true
byte_some n h = rw h refl

number_some : (mode : Mode) (n : ℕ) → fits mode n ≡ true → is_some (operand_bytes mode n) ≡ true
number_some Implied n h = cc
number_some Accumulator n h = cc
number_some Immediate n h = byte_some n h
number_some ZeroPage n h = byte_some n h
number_some ZeroPageX n h = byte_some n h
number_some ZeroPageY n h = byte_some n h
number_some IndirectX n h = byte_some n h
number_some IndirectY n h = byte_some n h
number_some Relative n h = byte_some n h
number_some Absolute n h = refl
number_some AbsoluteX n h = refl
number_some AbsoluteY n h = refl
number_some Indirect n h = refl

nothing_some : (mode : Mode) → nat_eq (length_of mode) 1 ≡ true → is_some (operand_bytes mode 0) ≡ true
nothing_some mode h = rw h refl

label_some : (address : ℕ → ℕ) (pc : ℕ) (mode : Mode) (label offset : ℕ) → suits mode (Label label offset) ≡ true →
    is_some (operand_bytes mode (operand_of address pc mode (Label label offset))) ≡ true
label_some address pc Absolute label offset h = refl
label_some address pc AbsoluteX label offset h = refl
label_some address pc AbsoluteY label offset h = refl
label_some address pc Indirect label offset h = refl
label_some address pc Relative label offset h =
    let target = (address label + offset) % MEMORY_SIZE in
    byte_some (unwrap_or (branch_byte pc ((address label + offset) % MEMORY_SIZE)) 0)
    (lt-ltb (unwrap_or (branch_byte pc ((address label + offset) % MEMORY_SIZE)) 0) 256
    (branch_byte-lt pc ((address label + offset) % MEMORY_SIZE)))
label_some address pc Implied label offset h = cc
label_some address pc Accumulator label offset h = cc
label_some address pc Immediate label offset h = cc
label_some address pc ZeroPage label offset h = cc
label_some address pc ZeroPageX label offset h = cc
label_some address pc ZeroPageY label offset h = cc
label_some address pc IndirectX label offset h = cc
label_some address pc IndirectY label offset h = cc

-- one byte in the immediate mode
immediate_some : (mode : Mode) (n : ℕ) → suits mode (Low 0 0) ≡ true → n < 256 → is_some (operand_bytes mode n) ≡ true
immediate_some Immediate n h l = byte_some n (lt-ltb n 256 l)
immediate_some Implied n h l = cc
immediate_some Accumulator n h l = cc
immediate_some ZeroPage n h l = cc
immediate_some ZeroPageX n h l = cc
immediate_some ZeroPageY n h l = cc
immediate_some IndirectX n h l = cc
immediate_some IndirectY n h l = cc
immediate_some Relative n h l = cc
immediate_some Absolute n h l = cc
immediate_some AbsoluteX n h l = cc
immediate_some AbsoluteY n h l = cc
immediate_some Indirect n h l = cc

operand_some : (address : ℕ → ℕ) (pc : ℕ) (mode : Mode) (x : Operand) → suits mode x ≡ true →
    is_some (operand_bytes mode (operand_of address pc mode x)) ≡ true
operand_some address pc mode Nothing h = nothing_some mode h
operand_some address pc mode (Number n) h = number_some mode n h
operand_some address pc mode (Label l d) h = label_some address pc mode l d h
operand_some address pc mode (Low l d) h = immediate_some mode ((address l + d) % MEMORY_SIZE % 256) h (omega arith)
operand_some address pc mode (High l d) h =
    immediate_some mode ((address l + d) % MEMORY_SIZE / 256) h
    (half_small ((address l + d) % MEMORY_SIZE) (omega arith))

-- the bytes of an instruction that can stand in a listing
pub record Encodes (address : ℕ → ℕ) (pc : ℕ) (mn : Mnemonic) (mode : Mode) (x : Operand) : Type 0 where
  pub bytes : List ℕ
  pub is : encoding (instr_at address pc mn mode x) ≡ Some bytes
  pub size : length bytes ≡ length_of mode

encodes_as : (address : ℕ → ℕ) (pc : ℕ) (mn : Mnemonic) (mode : Mode) (x : Operand) (op : Option ℕ)
    (following : Option (List ℕ)) → opcode_of mn mode ≡ op →
    operand_bytes mode (operand_of address pc mode x) ≡ following → is_some op ≡ true → is_some following ≡ true →
    Encodes address pc mn mode x
encodes_as address pc mn mode x None following e f g h = absurd (cc)
encodes_as address pc mn mode x (Some op) None e f g h = absurd (cc)
encodes_as address pc mn mode x (Some op) (Some following) e f g h =
    let r = operand_read mode (operand_of address pc mode x) following [] f in
    record { bytes = op ∷ following; is = rw (e, f) refl; size = sym r.size }

pub encodes : (address : ℕ → ℕ) (pc : ℕ) (mn : Mnemonic) (mode : Mode) (x : Operand) →
    is_sound (Code mn mode x) ≡ true → Encodes address pc mn mode x
encodes address pc mn mode x h =
    let b = and_parts (is_some (opcode_of mn mode)) (suits mode x) h in
    encodes_as address pc mn mode x (opcode_of mn mode) (operand_bytes mode (operand_of address pc mode x))
    refl refl b.0 (operand_some address pc mode x b.1)

-- the bytes of an item are as many as its size says
code_size : (address : ℕ → ℕ) (pc : ℕ) (mn : Mnemonic) (mode : Mode) (x : Operand) → Encodes address pc mn mode x →
    length (item_bytes address pc (Code mn mode x)) ≡ length_of mode
code_size address pc mn mode x e = let i = e.is in ap (λ (o : Option (List ℕ)). length (unwrap_or o [])) i ∙ e.size

pub item_length : (address : ℕ → ℕ) (pc : ℕ) (item : Item) → is_sound item ≡ true →
    length (item_bytes address pc item) ≡ item_size item
item_length address pc (Named l) h = refl
item_length address pc (Code mn mode x) h = code_size address pc mn mode x (encodes address pc mn mode x h)
item_length address pc (Bytes bs) h = refl

-- lines that aren't refused as bad
not_bad : (p k s : Bool) (fault : AsmFault) → (if p || k && not s then Some fault else None) ≡ None → k ≡ true →
    s ≡ true
not_bad true k s fault h e = absurd (cc)
not_bad false true true fault h e = refl
not_bad false true false fault h e = absurd (cc)
not_bad false false s fault h e = absurd (cc)

pub sound_line : (set : ℕ) (before : List Line) (x : Line) → bad_line set before x ≡ None → is_kept set x ≡ true →
    is_sound x.item ≡ true
sound_line set before x h k = not_bad (is_no_part x.part) (is_kept set x) (is_sound x.item) _ h k

-- a test that finds nothing first finds nothing here, and nothing after
pub or_parts : (o p : Option AsmFault) → option_or o p ≡ None → (o ≡ None) × (p ≡ None)
or_parts None p h = (refl, h)
or_parts (Some x) p h = absurd (cc)

pub first_parts : (test : List Line → Line → Option AsmFault) (before : List Line) (x : Line) (rest : List Line) →
    first_fault test before (x ∷ rest) ≡ None → (test before x ≡ None)
    × (first_fault test (before ++ x ∷ []) rest ≡ None)
first_parts test before x rest h = or_parts (test before x) (first_fault test (before ++ x ∷ []) rest) h

pub sound_at : (set : ℕ) (before lines : List Line) (k : ℕ) (x : Line) →
    first_fault (bad_line set) before lines ≡ None → k < length lines → x ≡ get_or lines k x → is_kept set x ≡ true →
    is_sound x.item ≡ true
sound_at set before [] k x h l e kept = absurd (omega arith)
sound_at set before (y ∷ lines) zero x h l e kept =
    let p = first_parts (bad_line set) before y lines h in
    sound_line set before x (ap (λ (line : Line). bad_line set before line) e ∙ p.0) kept
sound_at set before (y ∷ lines) (suc k) x h l e kept =
    let p = first_parts (bad_line set) before y lines h in
    sound_at set (before ++ y ∷ []) lines k x p.1 (omega arith) e kept

-- each of these lines can stand in a listing
abbrev pub AllSound : List Line → Type 0
AllSound [] = Unit {0}
AllSound (x ∷ lines) = (is_sound x.item ≡ true) × AllSound lines

sound_cons : (x : Line) (lines : List Line) (z : Bool) → (z ≡ true → is_sound x.item ≡ true) → AllSound lines →
    AllSound (if z then x ∷ lines else lines)
sound_cons x lines true h all = (h refl, all)
sound_cons x lines false h all = all

pub all_sound : (set : ℕ) (before lines : List Line) → first_fault (bad_line set) before lines ≡ None →
    AllSound (kept set lines)
all_sound set before [] h = tt
all_sound set before (x ∷ lines) h =
    let p = first_parts (bad_line set) before x lines h in
    sound_cons x (kept set lines) (is_kept set x) (sound_line set before x p.0)
    (all_sound set (before ++ x ∷ []) lines p.1)
