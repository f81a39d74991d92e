-- The listing that statements name: its sizes, its labels, and that each of its lines can stand in a listing.
use Rattle.std.proofs.Common.{◌≡◌, ℕ, zero, suc, ◌+◌, ◌-◌, ◌*◌, ◌<◌, ◌≤◌, Bool, true}
use Rattle.std.proofs.Common.{false, ◌||◌, List, [], ◌∷◌, ◌++◌, length, take, get_or, nat_lt}
use Rattle.std.proofs.Common.{if◌then◌else◌, Option, Some, None, unwrap_or, refl, sym, ap, ◌∙◌, add-zero}
use Rattle.std.proofs.Common.{arith}
use Rattle.std.specs.Option.{option_map, option_or, is_some}
use Rattle.std.proofs.lemmas.Bool.{and_parts, ltb-true, lt-ltb, and_from}
use Rattle.std.proofs.lemmas.List.{take_more, get_or_default}
use Rattle.cpu6502.specs.declared.memory.TheConstants.{MEMORY_SIZE}
use Rattle.cpu6502.specs.declared.mnemonic.Mode.{Mode}
use Rattle.cpu6502.specs.declared.mnemonic.Mode.TheVariants.{Implied, Accumulator, Absolute, AbsoluteX, AbsoluteY}
use Rattle.cpu6502.specs.declared.mnemonic.Mode.TheVariants.{Indirect, Relative}
use Rattle.cpu6502.specs.Opcodes.{opcode_of, length_of}
use Rattle.asm6502.specs.declared.lines.Line.{Line}
use Rattle.asm6502.specs.Branches.{way_from, branch_byte}
use Rattle.asm6502.specs.Operands.{suits as suits_laid}
use Rattle.asm6502.specs.Lines as asm
use Rattle.asm6502.specs.Faults.{first_fault, bad_line}
use Rattle.asm_text.specs.declared.statements.Operand.{Operand}
use Rattle.asm_text.specs.declared.statements.Operand.TheVariants.{Nothing, Number, Label as LabelOf}
use Rattle.asm_text.specs.declared.statements.Statement.{Statement}
use Rattle.asm_text.specs.declared.statements.Statement.TheVariants.{Label, Byte, Code}
use Rattle.asm_text.specs.declared.statements.Written.{Written}
use Rattle.asm_text.specs.Statements.{suits, is_right, size}
use Rattle.asm_text.specs.Laying.{operand_at, item_at, line_at, listing_at, size_of}
use Rattle.asm_text.specs.Faults.{names, is_named}
use Rattle.asm_text.specs.Searching.{AreRight}

-- ---- one list of statements behind another

pub size_of-append : (front behind : List Written) → size_of (front ++ behind) ≡ size_of front + size_of behind
size_of-append [] behind = omega arith
size_of-append (written ∷ front) behind = omega (arith, size_of-append front behind)

pub size_one_more : (front : List Written) (written : Written) →
    size_of (front ++ written ∷ []) ≡ size_of front + size written.statement
size_one_more front written = size_of-append front (written ∷ []) ∙ last
  where
    last : size_of front + (size written.statement + 0) ≡ size_of front + size written.statement
    last = omega arith

pub listing-append : (pc : ℕ) (front behind : List Written) →
    listing_at pc (front ++ behind) ≡ listing_at pc front ++ listing_at (pc + size_of front) behind
listing-append pc [] behind = ap (λ n. listing_at n behind) (sym (add-zero pc))
listing-append pc (written ∷ front) behind =
    let n = size written.statement in
    let place : pc + size written.statement + size_of front ≡ pc + (size written.statement + size_of front) =
    omega arith in
    ap (λ (ls : List Line). line_at pc written.statement ∷ ls)
    (listing-append (pc + size written.statement) front behind
    ∙ ap (λ m. listing_at (pc + size written.statement) front ++ listing_at m behind) place)

pub length-listing : (pc : ℕ) (script : List Written) → length (listing_at pc script) ≡ length script
length-listing pc [] = refl
length-listing pc (written ∷ rest) = ap suc (length-listing (pc + size written.statement) rest)

-- ---- all lines are kept, and take the bytes of the statements

pub kept_all : (pc : ℕ) (script : List Written) → asm.kept 0 (listing_at pc script) ≡ listing_at pc script
kept_all pc [] = refl
kept_all pc (written ∷ rest) =
    ap (λ (ls : List Line). line_at pc written.statement ∷ ls) (kept_all (pc + size written.statement) rest)

item_same : (pc : ℕ) (statement : Statement) → asm.item_size (item_at pc statement) ≡ size statement
item_same pc (Label label) = refl
item_same pc (Byte byte) = refl
item_same pc (Code mnemonic mode operand) = refl

pub size_same : (pc : ℕ) (script : List Written) → asm.size_of (listing_at pc script) ≡ size_of script
size_same pc [] = refl
size_same pc (written ∷ rest) =
    let here = item_same pc written.statement in
    let later = size_same (pc + size written.statement) rest in
    omega (arith, here, later)

data_by : (pc : ℕ) (statement : Statement) → asm.item_data (item_at pc statement) ≤ 1
data_by pc (Label label) = omega arith
data_by pc (Byte byte) = omega arith
data_by pc (Code mnemonic mode operand) = omega arith

pub data_small : (pc : ℕ) (script : List Written) → asm.data_size (listing_at pc script) ≤ length script
data_small pc [] = omega arith
data_small pc (written ∷ rest) =
    omega (arith, data_by pc written.statement, data_small (pc + size written.statement) rest)

size_three : (mode : Mode) → length_of mode ≤ 3
size_three Implied = omega arith
size_three Accumulator = omega arith
size_three Absolute = omega arith
size_three AbsoluteX = omega arith
size_three AbsoluteY = omega arith
size_three Indirect = omega arith
size_three mode = omega arith

pub size_small : (statement : Statement) → size statement ≤ 3
size_small (Label label) = omega arith
size_small (Byte byte) = omega arith
size_small (Code mnemonic mode operand) = size_three mode

pub sizes_small : (script : List Written) → size_of script ≤ 3 * length script
sizes_small [] = omega arith
sizes_small (written ∷ rest) = omega (arith, size_small written.statement, sizes_small rest)

-- ---- labels are named where the statements name them

map_some : (n : ℕ) (o : Option ℕ) → is_some (option_map (λ place. n + place) o) ≡ is_some o
map_some n None = refl
map_some n (Some place) = refl

named_by : (n : ℕ) (y : Bool) (o : Option ℕ) →
    is_some (if y then Some 0 else option_map (λ place. n + place) o) ≡ (y || is_some o)
named_by n true o = refl
named_by n false o = map_some n o

names_same : (pc label : ℕ) (statement : Statement) → asm.names label (item_at pc statement) ≡ names label statement
names_same pc label (Label other) = refl
names_same pc label (Byte byte) = refl
names_same pc label (Code mnemonic mode operand) = refl

pub named_same : (pc : ℕ) (script : List Written) (label : ℕ) →
    is_some (asm.place_of (listing_at pc script) label) ≡ is_named script label
named_same pc [] label = refl
named_same pc (written ∷ rest) label =
    let n = asm.item_size (item_at pc written.statement) in
    named_by (asm.item_size (item_at pc written.statement)) (asm.names label (item_at pc written.statement))
    (asm.place_of (listing_at (pc + size written.statement) rest) label)
    ∙ ap (λ y. y || is_some (asm.place_of (listing_at (pc + size written.statement) rest) label))
    (names_same pc label written.statement)
    ∙ ap (λ y. names label written.statement || y) (named_same (pc + size written.statement) rest label)

-- ---- no line is bad

byte_by : (way : ℕ) (y z : Bool) → way < MEMORY_SIZE → nat_lt way 128 ≡ y → nat_lt way 65408 ≡ z →
    unwrap_or (if y then Some way else if z then None else Some (way - 65280)) 0 < 256
byte_by way true z w e f = omega (arith, ltb-true way 128 e)
byte_by way false true w e f = omega arith
byte_by way false false w e f = omega arith

byte_small : (pc target : ℕ) → nat_lt (unwrap_or (branch_byte pc target) 0) 256 ≡ true
byte_small pc target =
    lt-ltb (unwrap_or (branch_byte pc target) 0) 256
    (byte_by (way_from pc target) (nat_lt (way_from pc target) 128) (nat_lt (way_from pc target) 65408) (omega arith)
    refl refl)

number_suits : (pc : ℕ) (mode : Mode) (n : ℕ) → suits mode (Number n) ≡ true →
    suits_laid mode (operand_at pc mode (Number n)) ≡ true
number_suits pc Relative n h = byte_small pc n
number_suits pc Absolute n h = refl
number_suits pc AbsoluteX n h = refl
number_suits pc AbsoluteY n h = refl
number_suits pc Indirect n h = refl
number_suits pc mode n h = h

operand_suits : (pc : ℕ) (mode : Mode) (operand : Operand) → suits mode operand ≡ true →
    suits_laid mode (operand_at pc mode operand) ≡ true
operand_suits pc mode Nothing h = h
operand_suits pc mode (Number n) h = number_suits pc mode n h
operand_suits pc mode (LabelOf label) h = h

item_sound : (pc : ℕ) (statement : Statement) → is_right statement ≡ true →
    asm.is_sound (item_at pc statement) ≡ true
item_sound pc (Label label) h = refl
item_sound pc (Byte byte) h = refl
item_sound pc (Code mnemonic mode operand) h =
    let parts = and_parts (is_some (opcode_of mnemonic mode)) (suits mode operand) h in
    and_from (is_some (opcode_of mnemonic mode)) (suits_laid mode (operand_at pc mode operand)) parts.0
    (operand_suits pc mode operand parts.1)

line_good : (pc : ℕ) (before : List Line) (statement : Statement) → is_right statement ≡ true →
    bad_line 0 before (line_at pc statement) ≡ None
line_good pc before statement h = rw (item_sound pc statement h) refl

pub right_head : (written : Written) (rest : List Written) → AreRight (written ∷ rest) →
    is_right written.statement ≡ true
right_head written rest are = are.right 0 written (omega arith)

pub right_tail : (written : Written) (rest : List Written) → AreRight (written ∷ rest) → AreRight rest
right_tail written rest are = record { right = λ k d lt. are.right (suc k) d (omega (arith, lt)) }

pub none_bad : (pc : ℕ) (before : List Line) (script : List Written) → AreRight script →
    first_fault (bad_line 0) before (listing_at pc script) ≡ None
none_bad pc before [] are = refl
none_bad pc before (written ∷ rest) are =
    ap
    (λ o. option_or o
    (first_fault (bad_line 0) (before ++ line_at pc written.statement ∷ [])
    (listing_at (pc + size written.statement) rest)))
    (line_good pc before written.statement (right_head written rest are))
    ∙ none_bad (pc + size written.statement) (before ++ line_at pc written.statement ∷ []) rest
    (right_tail written rest are)

-- ---- the loop that lays them

-- the lines of statements from an origin on, and where the next one stands
pub record IsLaid (origin : ℕ) (script : List Written) (listing : List Line) (pc : ℕ) : Type 0 where
  pub lines : listing ≡ listing_at origin script
  pub place : pc ≡ origin + size_of script

take_small : (k : ℕ) (script : List Written) → length (take k script) ≤ length script
take_small zero script = omega arith
take_small (suc k) [] = omega arith
take_small (suc k) (written ∷ rest) = omega (arith, take_small k rest)

pub front_small : (script : List Written) (k : ℕ) → size_of (take k script) ≤ 3 * length script
front_small script k = omega (arith, sizes_small (take k script), take_small k script)

pub laid_small : (origin : ℕ) (script : List Written) (k : ℕ) (listing : List Line) (pc : ℕ) → origin < 65536 →
    length script ≤ 262144 → IsLaid origin (take k script) listing pc → pc ≤ 1000000
laid_small origin script k listing pc low few laid = omega (arith, low, few, laid.place, front_small script k)

pub laid_more : (origin : ℕ) (script : List Written) (k : ℕ) (x : Written) (listing after : List Line) (pc next : ℕ) →
    k < length script → x ≡ get_or script k x → IsLaid origin (take k script) listing pc →
    after ≡ listing ++ line_at pc x.statement ∷ [] → next ≡ pc + size x.statement →
    IsLaid origin (take (k + 1) script) after next
laid_more origin script k x listing after pc next lt e laid added moved =
    let front : take (k + 1) script ≡ take k script ++ x ∷ [] =
    take_more script k x lt ∙ ap (λ (y : Written). take k script ++ y ∷ []) (sym e) in
    record {
      lines =
          added ∙ ap (λ ls. ls ++ line_at pc x.statement ∷ []) laid.lines
          ∙ ap (λ n. listing_at origin (take k script) ++ line_at n x.statement ∷ []) laid.place
          ∙ sym (listing-append origin (take k script) (x ∷ [])) ∙ ap (listing_at origin) (sym front);
      place = moved ∙ ap (λ n. n + size x.statement) laid.place ∙ after_place (size_one_more (take k script) x) front;
    }
  where
    after_place : size_of (take k script ++ x ∷ []) ≡ size_of (take k script) + size x.statement →
        take (k + 1) script ≡ take k script ++ x ∷ [] →
        origin + size_of (take k script) + size x.statement ≡ origin + size_of (take (k + 1) script)
    after_place more front = let same = ap size_of front in omega (arith, more, same)

-- the same where the statement is read from its place
pub laid_at : (origin : ℕ) (script : List Written) (k : ℕ) (d : Written) (listing after : List Line) (pc next : ℕ) →
    k < length script → IsLaid origin (take k script) listing pc →
    after ≡ listing ++ line_at pc (get_or script k d).statement ∷ [] → next ≡ pc + size (get_or script k d).statement →
    IsLaid origin (take (k + 1) script) after next
laid_at origin script k d listing after pc next lt laid added moved =
    laid_more origin script k (get_or script k d) listing after pc next lt
    (get_or_default script k d (get_or script k d) lt) laid added moved
