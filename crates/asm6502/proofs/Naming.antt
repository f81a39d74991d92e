-- Places of labels and sizes of lines, one list after another.
use Rattle.std.proofs.Common.{◌≡◌, ℕ, zero, suc, ◌+◌, ◌*◌, ◌<◌, ◌≤◌, Bool, true, false, List}
use Rattle.std.proofs.Common.{[], ◌∷◌, ◌++◌, length, take, Option, Some, None, nat_eq, if◌then◌else◌}
use Rattle.std.proofs.Common.{refl, ap, sym, ◌∙◌, get_or, arith}
use Rattle.std.specs.Option.{option_or, option_map}
use Rattle.std.proofs.lemmas.Bool.{eqb-true}
use Rattle.std.proofs.lemmas.List.{append-nil}
use Rattle.cpu6502.specs.declared.mnemonic.Mode.{Mode}
use Rattle.cpu6502.specs.declared.mnemonic.Mode.TheVariants.{Implied, Accumulator, Immediate, ZeroPage, ZeroPageX}
use Rattle.cpu6502.specs.declared.mnemonic.Mode.TheVariants.{ZeroPageY, Absolute, AbsoluteX, AbsoluteY, IndirectX}
use Rattle.cpu6502.specs.declared.mnemonic.Mode.TheVariants.{IndirectY, Indirect, Relative}
use Rattle.cpu6502.specs.Opcodes.{length_of}
use Rattle.asm6502.specs.declared.lines.Item.{Item}
use Rattle.asm6502.specs.declared.lines.Item.TheVariants.{Label, Code, Bytes}
use Rattle.asm6502.specs.declared.lines.Line.{Line}
use Rattle.asm6502.specs.Lines.{is_kept, kept, item_size, size_of, item_data, data_size, names, place_of, label_named}

-- the kept lines of two lists
kept_cons : (set : ℕ) (x : Line) (back rest : List Line) (z : Bool) →
    (if z then x ∷ (rest ++ back) else rest ++ back) ≡ (if z then x ∷ rest else rest) ++ back
kept_cons set x back rest true = refl
kept_cons set x back rest false = refl

pub kept-append : (set : ℕ) (front back : List Line) → kept set (front ++ back) ≡ kept set front ++ kept set back
kept-append set [] back = refl
kept-append set (x ∷ front) back =
    ap (λ (ls : List Line). if is_kept set x then x ∷ ls else ls) (kept-append set front back)
    ∙ kept_cons set x (kept set back) (kept set front) (is_kept set x)

-- one more line, kept or not
pub kept_more : (set : ℕ) (before : List Line) (x : Line) → is_kept set x ≡ true →
    kept set (before ++ x ∷ []) ≡ kept set before ++ x ∷ []
kept_more set before x e =
    kept-append set before (x ∷ []) ∙ ap (λ (z : Bool). kept set before ++ (if z then x ∷ [] else [])) e

pub kept_same : (set : ℕ) (before : List Line) (x : Line) → is_kept set x ≡ false →
    kept set (before ++ x ∷ []) ≡ kept set before
kept_same set before x e =
    kept-append set before (x ∷ []) ∙ ap (λ (z : Bool). kept set before ++ (if z then x ∷ [] else [])) e
    ∙ append-nil (kept set before)

-- sizes add up
pub size_of-append : (front back : List Line) → size_of (front ++ back) ≡ size_of front + size_of back
size_of-append [] back = omega arith
size_of-append (x ∷ front) back = omega (arith, size_of-append front back)

-- an instruction takes at most three bytes
length_of-le : (mode : Mode) → length_of mode ≤ 3
length_of-le Implied = omega arith
length_of-le Accumulator = omega arith
length_of-le Immediate = omega arith
length_of-le ZeroPage = omega arith
length_of-le ZeroPageX = omega arith
length_of-le ZeroPageY = omega arith
length_of-le Absolute = omega arith
length_of-le AbsoluteX = omega arith
length_of-le AbsoluteY = omega arith
length_of-le IndirectX = omega arith
length_of-le IndirectY = omega arith
length_of-le Indirect = omega arith
length_of-le Relative = omega arith

item_size-le : (item : Item) → item_size item ≤ 3 + item_data item
item_size-le (Label l) = omega arith
item_size-le (Code mn mode x) = omega (arith, length_of-le mode)
item_size-le (Bytes bs) = omega arith

size_cons : (x : Line) (ls : List Line) (z : Bool) →
    size_of (if z then x ∷ ls else ls) ≤ item_size x.item + size_of ls
size_cons x ls true = omega arith
size_cons x ls false = omega arith

-- the kept lines before a line, and that line, take no more than all lines may
pub size_bound : (set : ℕ) (lines : List Line) (k : ℕ) (x : Line) → k < length lines → x ≡ get_or lines k x →
    size_of (kept set (take k lines)) + item_size x.item ≤ 3 * length lines + data_size lines
size_bound set [] k x l e = absurd (omega arith)
size_bound set (y ∷ lines) zero x l e =
    let s : item_size x.item ≡ item_size y.item = ap (λ (line : Line). item_size line.item) e in
    omega (arith, item_size-le y.item)
size_bound set (y ∷ lines) (suc k) x l e =
    let tail = size_bound set lines k x (omega arith) e in
    let cons = size_cons y (kept set (take k lines)) (is_kept set y) in
    omega (arith, item_size-le y.item)

pub kept_size-le : (set : ℕ) (lines : List Line) → size_of (kept set lines) ≤ 3 * length lines + data_size lines
kept_size-le set [] = omega arith
kept_size-le set (y ∷ lines) =
    let tail = kept_size-le set lines in
    let cons = size_cons y (kept set lines) (is_kept set y) in
    omega (arith, item_size-le y.item)

-- where a label is named in two lists
zero_more : (o : Option ℕ) → o ≡ option_map (λ (place : ℕ). 0 + place) o
zero_more None = refl
zero_more (Some p) = ap Some (omega arith)

both_more : (s z : ℕ) (p o : Option ℕ) → option_map (λ (place : ℕ). s + place)
    (option_or p (option_map (λ (place : ℕ). z + place) o)) ≡ option_or (option_map (λ (place : ℕ). s + place) p)
    (option_map (λ (place : ℕ). s + z + place) o)
both_more s z None None = refl
both_more s z None (Some v) = ap Some (omega arith)
both_more s z (Some u) o = refl

cond_or : (z : Bool) (a b : Option ℕ) → (if z then Some 0 else option_or a b) ≡ option_or (if z then Some 0 else a) b
cond_or true a b = refl
cond_or false a b = refl

pub place_of-append : (front back : List Line) (label : ℕ) →
    place_of (front ++ back) label ≡ option_or (place_of front label)
    (option_map (λ (place : ℕ). size_of front + place) (place_of back label))
place_of-append [] back label = zero_more (place_of back label)
place_of-append (x ∷ front) back label =
    ap (λ (o : Option ℕ). if names label x.item then Some 0 else o)
    (ap (option_map (λ (place : ℕ). item_size x.item + place)) (place_of-append front back label)
    ∙ both_more (item_size x.item) (size_of front) (place_of front label) (place_of back label))
    ∙ cond_or (names label x.item) (option_map (λ (place : ℕ). item_size x.item + place) (place_of front label))
    (option_map (λ (place : ℕ). item_size x.item + size_of front + place) (place_of back label))

-- the table after one more line
or_some : (o : Option ℕ) (s : ℕ) → o ≡ None → option_or o (Some (s + 0)) ≡ Some s
or_some None s e = ap Some (omega arith)
or_some (Some v) s e = absurd (cc)

or_none : (o : Option ℕ) → option_or o None ≡ o
or_none None = refl
or_none (Some v) = refl

placed_here : (lines : List Line) (line : Line) (label q size : ℕ) (z : Bool) → nat_eq label q ≡ z →
    place_of lines label ≡ None → size ≡ size_of lines →
    option_or (place_of lines q) (option_map (λ (place : ℕ). size_of lines + place) (if z then Some 0 else None))
    ≡ (if z then Some size else place_of lines q)
placed_here lines line label q size true e n s =
    let same : label ≡ q = eqb-true label q e in
    or_some (place_of lines q) (size_of lines) (ap (place_of lines) (sym same) ∙ n) ∙ ap Some (sym s)
placed_here lines line label q size false e n s = or_none (place_of lines q)

named_label : (item : Item) (label q : ℕ) → label_named item ≡ Some label → names q item ≡ nat_eq label q
named_label (Label l) label q e = let same : l ≡ label = cc in ap (λ (n : ℕ). nat_eq n q) same
named_label (Code mn mode x) label q e = absurd (cc)
named_label (Bytes bs) label q e = absurd (cc)

named_none : (item : Item) (q : ℕ) → label_named item ≡ None → names q item ≡ false
named_none (Label l) q e = absurd (cc)
named_none (Code mn mode x) q e = refl
named_none (Bytes bs) q e = refl

one_place : (lines : List Line) (line : Line) (q : ℕ) (z : Bool) → names q line.item ≡ z →
    place_of (lines ++ line ∷ []) q ≡ option_or (place_of lines q)
    (option_map (λ (place : ℕ). size_of lines + place) (if z then Some 0 else None))
one_place lines line q z e =
    place_of-append lines (line ∷ []) q ∙ ap (λ (b : Bool). option_or (place_of lines q)
    (option_map (λ (place : ℕ). size_of lines + place) (if b then Some 0 else None))) e

pub placed_label : (lines : List Line) (line : Line) (label q size : ℕ) → label_named line.item ≡ Some label →
    place_of lines label ≡ None → size ≡ size_of lines →
    (if nat_eq label q then Some size else place_of lines q) ≡ place_of (lines ++ line ∷ []) q
placed_label lines line label q size e n s =
    sym (placed_here lines line label q size (nat_eq label q) refl n s)
    ∙ sym (one_place lines line q (nat_eq label q) (named_label line.item label q e))

pub placed_other : (lines : List Line) (line : Line) (q : ℕ) → label_named line.item ≡ None →
    place_of lines q ≡ place_of (lines ++ line ∷ []) q
placed_other lines line q e =
    sym (or_none (place_of lines q)) ∙ sym (one_place lines line q false (named_none line.item q e))
