-- Lines that stand in memory: from their bytes, and the tools of those who stand on them.
use Rattle.std.proofs.Common.{◌≡◌, ℕ, ◌+◌, ◌-◌, ◌*◌, ◌/◌, ◌%◌, ◌<◌, ◌≤◌, Bool}
use Rattle.std.proofs.Common.{true, false, ◌&&◌, not, List, [], ◌∷◌, ◌++◌, length, Option, Some, None}
use Rattle.std.proofs.Common.{unwrap_or, nat_eq, nat_lt, if◌then◌else◌, refl, ap, sym, ◌∙◌, subst, arith}
use Rattle.std.proofs.Common.{inl, inr, append_assoc, length-append}
use Rattle.std.specs.Option.{option_or, option_map, is_some}
use Rattle.std.proofs.lemmas.Bool.{and_parts, eqb-true, eq-eqb, cases_lt}
use Rattle.std.proofs.lemmas.List.{get_or_append_left, get_or-append-add, get_or-append_right}
use Rattle.cpu6502.specs.declared.memory.TheConstants.{MEMORY_SIZE}
use Rattle.cpu6502.specs.declared.mnemonic.Mnemonic.{Mnemonic}
use Rattle.cpu6502.specs.declared.mnemonic.Mode.{Mode}
use Rattle.cpu6502.specs.declared.mnemonic.Mode.TheVariants.{Implied, Accumulator, Immediate, ZeroPage, ZeroPageX}
use Rattle.cpu6502.specs.declared.mnemonic.Mode.TheVariants.{ZeroPageY, Absolute, AbsoluteX, AbsoluteY, IndirectX}
use Rattle.cpu6502.specs.declared.mnemonic.Mode.TheVariants.{IndirectY, Indirect, Relative}
use Rattle.cpu6502.specs.Opcodes.{meaning_of, opcode_of, length_of, OpcodesHaveRows}
use Rattle.cpu6502.specs.Effects.{displacement, word_at}
use Rattle.code_runs.specs.Code.{operand_at, Stands}
use Rattle.asm6502.specs.declared.lines.Operand.{Operand}
use Rattle.asm6502.specs.declared.lines.Operand.TheVariants.{Nothing, Number, Label, Low, High}
use Rattle.asm6502.specs.declared.lines.Item.{Item}
use Rattle.asm6502.specs.declared.lines.Item.TheVariants.{Label as Named, Code, Bytes}
use Rattle.asm6502.specs.declared.lines.Line.{Line}
use Rattle.asm6502.specs.declared.faults.AsmFault.{AsmFault}
use Rattle.asm6502.specs.declared.faults.AsmFault.TheVariants.{DoubleLabel}
use Rattle.asm6502.specs.Branches.{branch_byte}
use Rattle.asm6502.specs.Instructions.{operand_bytes}
use Rattle.asm6502.specs.Operands.{is_relative, suits, operand_of, number_of, is_far}
use Rattle.asm6502.specs.Lines.{is_kept, kept, item_size, size_of, place_of, address_in, is_sound}
use Rattle.asm6502.specs.Assembly.{item_bytes, bytes_of}
use Rattle.asm6502.specs.Faults.{first_fault, bad_line, double_label, far_by, is_far_item}
use Rattle.asm6502.specs.Standing.{BytesStand, ItemAt, LinesAt}
use Rattle.code_runs.proofs.Laws.{stands_stay}
use Rattle.asm6502.proofs.Rounds.{encoding_parts}
use Rattle.asm6502.proofs.Naming.{kept-append, kept_more, kept_same, size_of-append, place_of-append}
use Rattle.asm6502.proofs.Sound.{encodes, item_length, sound_line, first_parts}
use Rattle.asm6502.proofs.Reaches.{branches_reach}

-- ---- from bytes

-- the front and the back of bytes that stand
front_stands : (at : ℕ → ℕ) (pc : ℕ) (front back : List ℕ) → BytesStand at pc (front ++ back) → BytesStand at pc front
front_stands at pc front back s = record {
  byte = λ k l. s.byte k (omega (arith, length-append front back)) ∙ get_or_append_left front back 0 k l;
}

back_stands : (at : ℕ → ℕ) (pc n : ℕ) (front back : List ℕ) → length front ≡ n → BytesStand at pc (front ++ back) →
    BytesStand at (pc + n) back
back_stands at pc n front back e s = record {
  byte = λ k l.
      let i : pc + n + k ≡ pc + (length front + k) = omega arith in
      ap at i ∙ s.byte (length front + k) (omega (arith, length-append front back))
      ∙ get_or-append-add front back k 0;
}

-- what is read as the operand, where the operand bytes stand
abbrev pub read_as : Mode → ℕ → ℕ → ℕ
read_as mode pc n = if is_relative mode then (pc + 2 + displacement n) % MEMORY_SIZE else n

none_at : (n : ℕ) (following : List ℕ) (z : Bool) → nat_eq n 0 ≡ z → (if z then Some [] else None) ≡ Some following →
    0 ≡ n
none_at n following true e h = sym (eqb-true n 0 e)
none_at n following false e h = absurd (cc)

byte_at : (at : ℕ → ℕ) (pc n : ℕ) (following : List ℕ) (z : Bool) →
    (if z then Some (n ∷ []) else None) ≡ Some following → BytesStand at (pc + 1) following → pc + 2 ≤ MEMORY_SIZE →
    at ((pc + 1) % MEMORY_SIZE) ≡ n
byte_at at pc n following true h s l =
    let b : following ≡ n ∷ [] = cc in
    let i : (pc + 1) % MEMORY_SIZE ≡ pc + 1 + 0 = omega arith in
    ap at i ∙ (subst (λ (bs : List ℕ). BytesStand at (pc + 1) bs) b s).byte 0 (omega arith)
byte_at at pc n following false h s l = absurd (cc)

word_is_at : (at : ℕ → ℕ) (pc n : ℕ) (following : List ℕ) → Some (n % 256 ∷ n / 256 ∷ []) ≡ Some following →
    BytesStand at (pc + 1) following → pc + 3 ≤ MEMORY_SIZE → word_at at ((pc + 1) % MEMORY_SIZE) ≡ n
word_is_at at pc n following h s l =
    let b : following ≡ n % 256 ∷ n / 256 ∷ [] = cc in
    let t = subst (λ (bs : List ℕ). BytesStand at (pc + 1) bs) b s in
    let i : (pc + 1) % MEMORY_SIZE ≡ pc + 1 + 0 = omega arith in
    let j : ((pc + 1) % MEMORY_SIZE + 1) % MEMORY_SIZE ≡ pc + 1 + 1 = omega arith in
    let low : at ((pc + 1) % MEMORY_SIZE) ≡ n % 256 = ap at i ∙ t.byte 0 (omega arith) in
    let high : at (((pc + 1) % MEMORY_SIZE + 1) % MEMORY_SIZE) ≡ n / 256 = ap at j ∙ t.byte 1 (omega arith) in
    joined (at ((pc + 1) % MEMORY_SIZE)) (at (((pc + 1) % MEMORY_SIZE + 1) % MEMORY_SIZE)) n low high
  where
    joined : (a b n : ℕ) → a ≡ n % 256 → b ≡ n / 256 → a + 256 * b ≡ n
    joined a b n e f = omega arith

read_operand : (at : ℕ → ℕ) (pc n : ℕ) (mode : Mode) (following : List ℕ) → operand_bytes mode n ≡ Some following →
    BytesStand at (pc + 1) following → pc + length_of mode ≤ MEMORY_SIZE → operand_at mode at pc ≡ read_as mode pc n
read_operand at pc n Implied following h s l = none_at n following (nat_eq n 0) refl h
read_operand at pc n Accumulator following h s l = none_at n following (nat_eq n 0) refl h
read_operand at pc n Immediate following h s l = byte_at at pc n following (nat_lt n 256) h s l
read_operand at pc n ZeroPage following h s l = byte_at at pc n following (nat_lt n 256) h s l
read_operand at pc n ZeroPageX following h s l = byte_at at pc n following (nat_lt n 256) h s l
read_operand at pc n ZeroPageY following h s l = byte_at at pc n following (nat_lt n 256) h s l
read_operand at pc n IndirectX following h s l = byte_at at pc n following (nat_lt n 256) h s l
read_operand at pc n IndirectY following h s l = byte_at at pc n following (nat_lt n 256) h s l
read_operand at pc n Relative following h s l =
    ap (λ (d : ℕ). (pc + 2 + displacement d) % MEMORY_SIZE) (byte_at at pc n following (nat_lt n 256) h s l)
read_operand at pc n Absolute following h s l = word_is_at at pc n following h s l
read_operand at pc n AbsoluteX following h s l = word_is_at at pc n following h s l
read_operand at pc n AbsoluteY following h s l = word_is_at at pc n following h s l
read_operand at pc n Indirect following h s l = word_is_at at pc n following h s l

-- the number that an operand names is the one that is read
reached : (pc target : ℕ) (o : Option ℕ) → branch_byte pc target ≡ o → pc ≤ MEMORY_SIZE → target < MEMORY_SIZE →
    not (is_some o) ≡ false → (pc + 2 + displacement (unwrap_or o 0)) % MEMORY_SIZE ≡ target
reached pc target None e l t h = absurd (cc)
reached pc target (Some b) e l t h = (branches_reach pc target b l t e).1

named_label : (address : ℕ → ℕ) (pc l d : ℕ) (mode : Mode) → pc ≤ MEMORY_SIZE →
    is_far address pc mode (Label l d) ≡ false →
    read_as mode pc (operand_of address pc mode (Label l d)) ≡ number_of address pc mode (Label l d)
named_label address pc l d Relative k f =
    reached pc ((address l + d) % MEMORY_SIZE) (branch_byte pc ((address l + d) % MEMORY_SIZE)) refl k (omega arith) f
named_label address pc l d _ k f = refl

named_nothing : (pc : ℕ) (mode : Mode) → nat_eq (length_of mode) 1 ≡ true → read_as mode pc 0 ≡ 0
named_nothing pc Relative h = absurd (cc)
named_nothing pc _ h = refl

named_byte : (pc n : ℕ) (mode : Mode) → suits mode (Low 0 0) ≡ true → read_as mode pc n ≡ n
named_byte pc n Relative h = absurd (cc)
named_byte pc n _ h = refl

named : (address : ℕ → ℕ) (pc : ℕ) (mode : Mode) (x : Operand) → pc ≤ MEMORY_SIZE → suits mode x ≡ true →
    is_far address pc mode x ≡ false → read_as mode pc (operand_of address pc mode x) ≡ number_of address pc mode x
named address pc mode Nothing k h f = named_nothing pc mode h
named address pc mode (Number n) k h f = refl
named address pc mode (Label l d) k h f = named_label address pc l d mode k f
named address pc mode (Low l d) k h f = named_byte pc ((address l + d) % MEMORY_SIZE % 256) mode h
named address pc mode (High l d) k h f = named_byte pc ((address l + d) % MEMORY_SIZE / 256) mode h

-- an instruction stands where its bytes do
code_stands : OpcodesHaveRows → (address at : ℕ → ℕ) (pc : ℕ) (mn : Mnemonic) (mode : Mode) (x : Operand) →
    is_sound (Code mn mode x) ≡ true → is_far address pc mode x ≡ false → pc + length_of mode ≤ MEMORY_SIZE →
    BytesStand at pc (item_bytes address pc (Code mn mode x)) → Stands at pc mn mode (number_of address pc mode x)
code_stands rows address at pc mn mode x h f l s =
    let e = encodes address pc mn mode x h in
    let p = encoding_parts (record { mnemonic = mn; mode = mode; operand = operand_of address pc mode x }) e.bytes
    e.is in
    let all : item_bytes address pc (Code mn mode x) ≡ p.opcode ∷ p.following =
    ap (λ (o : Option (List ℕ)). unwrap_or o []) e.is ∙ p.is in
    let t = subst (λ (bs : List ℕ). BytesStand at pc bs) all s in
    let i : pc ≡ pc + 0 = omega arith in
    let first : at pc ≡ p.opcode = ap at i ∙ t.byte 0 (omega arith) in
    let rest = back_stands at pc 1 (p.opcode ∷ []) p.following refl t in
    let suit = (and_parts (is_some (opcode_of mn mode)) (suits mode x) h).1 in
    record {
      decoded = ap meaning_of first ∙ rows mn mode p.opcode p.row;
      operand_is = read_operand at pc (operand_of address pc mode x) mode p.following p.operand rest l
          ∙ named address pc mode x (omega arith) suit f;
    }

-- an item stands where its bytes do, and its label has this address
item_stands : OpcodesHaveRows → (address at : ℕ → ℕ) (pc : ℕ) (item : Item) → is_sound item ≡ true →
    is_far_item address pc item ≡ false → ((l : ℕ) → item ≡ Named l → address l ≡ pc) →
    pc + item_size item ≤ MEMORY_SIZE → BytesStand at pc (item_bytes address pc item) → ItemAt address at pc item
item_stands rows address at pc (Named l) h f n k s = n l refl
item_stands rows address at pc (Code mn mode x) h f n k s = code_stands rows address at pc mn mode x h f k s
item_stands rows address at pc (Bytes bs) h f n k s = s

-- a line, kept or not, and the lines after it
line_stands : (address at : ℕ → ℕ) (pc : ℕ) (x : Line) (rest : List Line) (z : Bool) →
    (z ≡ true → is_sound x.item ≡ true) → (z ≡ true → BytesStand at pc (item_bytes address pc x.item) →
    ItemAt address at pc x.item) → (z ≡ true → BytesStand at (pc + item_size x.item)
    (bytes_of address (pc + item_size x.item) rest) → LinesAt address at (pc + item_size x.item) rest) →
    (z ≡ false → BytesStand at pc (bytes_of address pc rest) → LinesAt address at pc rest) →
    BytesStand at pc (bytes_of address pc (if z then x ∷ rest else rest)) →
    LinesAt address at pc (if z then x ∷ rest else rest)
line_stands address at pc x rest true h item tail other s =
    let size = item_length address pc x.item (h refl) in (
      item refl (front_stands at pc (item_bytes address pc x.item) (bytes_of address (pc + item_size x.item) rest) s),
      tail refl (back_stands at pc (item_size x.item) (item_bytes address pc x.item)
          (bytes_of address (pc + item_size x.item) rest) size s),
    )
line_stands address at pc x rest false h item tail other s = other refl s

-- the label of a line that isn't a double has the address of the line
or_first : (o : Option ℕ) (n : ℕ) → is_some o ≡ false → option_or o (Some (n + 0)) ≡ Some n
or_first None n h = ap Some (omega arith)
or_first (Some v) n h = absurd (cc)

not_named_before : (set : ℕ) (before : List Line) (x : Line) (l : ℕ) (z : Bool) → is_kept set x ≡ true →
    x.item ≡ Named l → is_some (place_of (kept set before) l) ≡ z → double_label set before x ≡ None → z ≡ false
not_named_before set before x l false k e p h = refl
not_named_before set before x l true k e p h =
    let d : double_label set before x ≡ Some (DoubleLabel l) = rw (k, e, p) refl in
    absurd (none_some (sym h ∙ d))
  where
    none_some : {f : AsmFault} → None ≡ Some f → ⊥
    none_some e = absurd (cc)

pub label_address : (set origin : ℕ) (before : List Line) (x : Line) (rest : List Line) (l : ℕ) →
    is_kept set x ≡ true → x.item ≡ Named l → double_label set before x ≡ None →
    address_in (kept set before ++ (x ∷ rest)) origin l ≡ origin + size_of (kept set before)
label_address set origin before x rest l k e h =
    let free = not_named_before set before x l (is_some (place_of (kept set before) l)) k e refl h in
    let here : place_of (x ∷ rest) l ≡ Some 0 = rw (e, eq-eqb l l refl) refl in
    let place : place_of (kept set before ++ (x ∷ rest)) l ≡ Some (size_of (kept set before)) =
    place_of-append (kept set before) (x ∷ rest) l
    ∙ ap (λ (o : Option ℕ). option_or (place_of (kept set before) l)
    (option_map (λ (p : ℕ). size_of (kept set before) + p) o)) here
    ∙ or_first (place_of (kept set before) l) (size_of (kept set before)) free in
    ap (λ (o : Option ℕ). origin + unwrap_or o 0) place

-- a kept line that isn't refused as too far
near_line : (address : ℕ → ℕ) (set origin : ℕ) (before : List Line) (x : Line) (y z : Bool) (f : AsmFault) →
    (if y && z then Some f else None) ≡ None → y ≡ true → z ≡ false
near_line address set origin before x true true f h e = absurd (cc)
near_line address set origin before x true false f h e = refl
near_line address set origin before x false true f h e = absurd (cc)
near_line address set origin before x false false f h e = refl

-- what is known of a listing in which nothing is wrong, from a line on
pub record NothingWrong (set origin : ℕ) (address : ℕ → ℕ) (before rest : List Line) : Type 0 where
  pub sound : first_fault (bad_line set) before rest ≡ None
  pub single : first_fault (double_label set) before rest ≡ None
  pub near : first_fault (far_by address set origin) before rest ≡ None

pub all_split : (set : ℕ) (lines before : List Line) (x : Line) (rest : List Line) → lines ≡ before ++ (x ∷ rest) →
    is_kept set x ≡ true → kept set lines ≡ kept set before ++ (x ∷ kept set rest)
all_split set lines before x rest e k =
    ap (kept set) e ∙ kept-append set before (x ∷ rest)
    ∙ ap (λ (z : Bool). kept set before ++ (if z then x ∷ kept set rest else kept set rest)) k

size_split : (set origin : ℕ) (lines before : List Line) (x : Line) (rest : List Line) →
    lines ≡ before ++ (x ∷ rest) → is_kept set x ≡ true → origin + size_of (kept set lines) ≤ MEMORY_SIZE →
    origin + size_of (kept set before) + item_size x.item ≤ MEMORY_SIZE
size_split set origin lines before x rest e k l =
    let s : size_of (kept set lines) ≡ size_of (kept set before) + (item_size x.item + size_of (kept set rest)) =
    ap size_of (all_split set lines before x rest e k) ∙ size_of-append (kept set before) (x ∷ kept set rest) in
    omega arith

pub lines_stand : OpcodesHaveRows → (set origin : ℕ) (at : ℕ → ℕ) (lines rest before : List Line) →
    lines ≡ before ++ rest → origin + size_of (kept set lines) ≤ MEMORY_SIZE →
    NothingWrong set origin (address_in (kept set lines) origin) before rest →
    BytesStand at (origin + size_of (kept set before))
    (bytes_of (address_in (kept set lines) origin) (origin + size_of (kept set before)) (kept set rest)) →
    LinesAt (address_in (kept set lines) origin) at (origin + size_of (kept set before)) (kept set rest)
lines_stand rows set origin at lines [] before e l w s = tt
lines_stand rows set origin at lines (x ∷ rest) before e l w s =
    let address = address_in (kept set lines) origin in
    let pc = origin + size_of (kept set before) in
    let bad = first_parts (bad_line set) before x rest w.sound in
    let double = first_parts (double_label set) before x rest w.single in
    let far = first_parts (far_by (address_in (kept set lines) origin) set origin) before x rest w.near in
    let wrong : NothingWrong set origin (address_in (kept set lines) origin) (before ++ x ∷ []) rest =
    record { sound = bad.1; single = double.1; near = far.1 } in
    let split : lines ≡ (before ++ x ∷ []) ++ rest = e ∙ sym (append_assoc before (x ∷ []) rest) in
    let tail = lines_stand rows set origin at lines rest (before ++ x ∷ []) split l wrong in
    line_stands (address_in (kept set lines) origin) at (origin + size_of (kept set before)) x (kept set rest)
    (is_kept set x)
    (sound_line set before x bad.0)
    (λ k b. item_stands rows (address_in (kept set lines) origin) at (origin + size_of (kept set before)) x.item
    (sound_line set before x bad.0 k)
    (near_line (address_in (kept set lines) origin) set origin before x (is_kept set x)
    (is_far_item (address_in (kept set lines) origin) (origin + size_of (kept set before)) x.item) _ far.0 k)
    (λ n i. ap (λ (ls : List Line). address_in ls origin n) (all_split set lines before x rest e k)
    ∙ label_address set origin before x (kept set rest) n k i double.0)
    (size_split set origin lines before x rest e k l) b)
    (λ k b.
    let size : origin + size_of (kept set (before ++ x ∷ [])) ≡ origin + size_of (kept set before) + item_size
    x.item = grown set origin before x k in
    subst (λ (p : ℕ). LinesAt (address_in (kept set lines) origin) at p (kept set rest)) size
    (tail (subst (λ (p : ℕ). BytesStand at p (bytes_of (address_in (kept set lines) origin) p (kept set rest)))
    (sym size) b)))
    (λ k b.
    let size : origin + size_of (kept set (before ++ x ∷ [])) ≡ origin + size_of (kept set before) =
    ap (λ (ls : List Line). origin + size_of ls) (kept_same set before x k) in
    subst (λ (p : ℕ). LinesAt (address_in (kept set lines) origin) at p (kept set rest)) size
    (tail (subst (λ (p : ℕ). BytesStand at p (bytes_of (address_in (kept set lines) origin) p (kept set rest)))
    (sym size) b)))
    s
  where
    grown : (set origin : ℕ) (before : List Line) (x : Line) → is_kept set x ≡ true →
        origin + size_of (kept set (before ++ x ∷ [])) ≡ origin + size_of (kept set before) + item_size x.item
    grown set origin before x k =
        let s : size_of (kept set (before ++ x ∷ [])) ≡ size_of (kept set before) + (item_size x.item + 0) =
        ap size_of (kept_more set before x k) ∙ size_of-append (kept set before) (x ∷ []) in
        omega arith

-- ---- the tools

pub fronts_stand : (address at : ℕ → ℕ) (pc : ℕ) (front back : List Line) → LinesAt address at pc (front ++ back) →
    LinesAt address at pc front
fronts_stand address at pc [] back s = tt
fronts_stand address at pc (x ∷ front) back s = (s.0, fronts_stand address at (pc + item_size x.item) front back s.1)

pub backs_stand : (address at : ℕ → ℕ) (pc : ℕ) (front back : List Line) → LinesAt address at pc (front ++ back) →
    LinesAt address at (pc + size_of front) back
backs_stand address at pc [] back s =
    let e : pc ≡ pc + 0 = omega arith in subst (λ (p : ℕ). LinesAt address at p back) e s
backs_stand address at pc (x ∷ front) back s =
    let e : pc + item_size x.item + size_of front ≡ pc + (item_size x.item + size_of front) = omega arith in
    subst (λ (p : ℕ). LinesAt address at p back) e (backs_stand address at (pc + item_size x.item) front back s.1)

pub both_stand : (address at : ℕ → ℕ) (pc : ℕ) (front back : List Line) → LinesAt address at pc front →
    LinesAt address at (pc + size_of front) back → LinesAt address at pc (front ++ back)
both_stand address at pc [] back s t =
    let e : pc + 0 ≡ pc = omega arith in subst (λ (p : ℕ). LinesAt address at p back) e t
both_stand address at pc (x ∷ front) back s t =
    let e : pc + (item_size x.item + size_of front) ≡ pc + item_size x.item + size_of front = omega arith in (
      s.0,
      both_stand address at (pc + item_size x.item) front back s.1
          (subst (λ (p : ℕ). LinesAt address at p back) e t),
    )

item_stays : (address at at' : ℕ → ℕ) (pc : ℕ) (item : Item) → pc + item_size item ≤ MEMORY_SIZE →
    ((place : ℕ) → pc ≤ place → place < pc + item_size item → at' place ≡ at place) → ItemAt address at pc item →
    ItemAt address at' pc item
item_stays address at at' pc (Named l) k same s = s
item_stays address at at' pc (Code mn mode x) k same s =
    stands_stay at at' pc (pc + length_of mode) (number_of address pc mode x) mn mode (omega arith) k
    (record { same = same }) s
item_stays address at at' pc (Bytes bs) k same s =
    record { byte = λ i l. same (pc + i) (omega arith) (omega arith) ∙ s.byte i l }

pub lines_stay : (address at at' : ℕ → ℕ) (pc : ℕ) (lines : List Line) → pc + size_of lines ≤ MEMORY_SIZE →
    ((place : ℕ) → pc ≤ place → place < pc + size_of lines → at' place ≡ at place) → LinesAt address at pc lines →
    LinesAt address at' pc lines
lines_stay address at at' pc [] k same s = tt
lines_stay address at at' pc (x ∷ lines) k same s = (
  item_stays address at at' pc x.item (omega arith) (λ place l h. same place l (omega arith)) s.0,
  lines_stay address at at' (pc + item_size x.item) lines (omega arith)
      (λ place l h. same place (omega arith) (omega arith)) s.1,
)

-- bytes stand one behind the other
pub bytes_append : (at : ℕ → ℕ) (place : ℕ) (front back : List ℕ) → BytesStand at place front →
    BytesStand at (place + length front) back → BytesStand at place (front ++ back)
bytes_append at place front back one two = record {
  byte = λ k h.
      elim (cases_lt k (length front)) [
        | inl low ↦ let l = low in one.byte k l ∙ sym (get_or_append_left front back 0 k l)
        | inr high ↦
            let l = high in
            ap at (behind place k (length front) l)
            ∙ two.byte (k - length front) (below k (length front) (length back) _ (length-append front back) h l)
            ∙ sym (get_or-append_right front back (length front) k 0 refl l)
      ];
}
  where
    behind : (place k n : ℕ) → n ≤ k → place + k ≡ place + n + (k - n)
    behind place k n h = omega (arith, h)

    below : (k n m all : ℕ) → all ≡ n + m → k < all → n ≤ k → k - n < m
    below k n m all e h l = omega (arith, e, h, l)
