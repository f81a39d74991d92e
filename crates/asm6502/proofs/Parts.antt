-- The bytes of lines by part.
use Rattle.std.proofs.Common.{◌≡◌, ℕ, zero, suc, ◌+◌, ◌≤◌, Bool, true, false, ◌&&◌, ◌||◌}
use Rattle.std.proofs.Common.{List, [], ◌∷◌, ◌++◌, All, nat_eq, nat_lt, if◌then◌else◌, refl, ap, sym}
use Rattle.std.proofs.Common.{◌∙◌, arith}
use Rattle.std.specs.Int.{bit_at}
use Rattle.std.proofs.lemmas.Bool.{eqb-true, eqb-false, ltb-true, ltb-false, lt-ltb, le-ltb}
use Rattle.std.proofs.lemmas.List.Elements.{All-head, All-tail}
use Rattle.asm6502.specs.declared.lines.Line.{Line}
use Rattle.asm6502.specs.Lines.{is_part_kept, is_kept, kept, item_size, size_of}
use Rattle.asm6502.specs.Parts.{part_size, sizes_below, StandsTogether}

-- the bytes of a line where it counts
abbrev counted : Bool → ℕ → ℕ
counted z n = if z then n else 0

pub part_size-append : (part : ℕ) (front back : List Line) →
    part_size part (front ++ back) ≡ part_size part front + part_size part back
part_size-append part [] back = omega arith
part_size-append part (x ∷ front) back = omega (arith, part_size-append part front back)

kept_size : (set : ℕ) (x : Line) (rest : List Line) (z : Bool) →
    size_of (if z then x ∷ rest else rest) ≡ counted z (item_size x.item) + size_of rest
kept_size set x rest true = refl
kept_size set x rest false = omega arith

-- one more part
same_part : (base s p : ℕ) (bit : Bool) → base + 0 + counted bit (s + p) ≡ base + counted bit p + counted bit s
same_part base s p true = omega arith
same_part base s p false = omega arith

other_part : (base s p : ℕ) (bit more : Bool) →
    base + counted more s + counted bit (0 + p) ≡ base + counted bit p + counted more s
other_part base s p true more = omega arith
other_part base s p false more = omega arith

more_parts : (set n : ℕ) (x : Line) (rest : List Line) (z : Bool) → nat_eq x.part n ≡ z →
    sizes_below set n (x ∷ rest) ≡ sizes_below set n rest + counted (nat_lt x.part n && nat_eq (bit_at set x.part) 1)
    (item_size x.item) → sizes_below set (suc n) (x ∷ rest) ≡ sizes_below set (suc n) rest + counted
    (nat_lt x.part (suc n) && nat_eq (bit_at set x.part) 1) (item_size x.item)
more_parts set n x rest true e h =
    let same : x.part ≡ n = eqb-true x.part n e in
    let out : nat_lt x.part n ≡ false = le-ltb x.part n (omega arith) in
    let here : nat_lt x.part (suc n) ≡ true = lt-ltb x.part (suc n) (omega arith) in
    let bit : nat_eq (bit_at set n) 1 ≡ nat_eq (bit_at set x.part) 1 =
    ap (λ (p : ℕ). nat_eq (bit_at set p) 1) (sym same) in
    let h' : sizes_below set n (x ∷ rest) ≡ sizes_below set n rest + 0 = h ∙ rw out refl in
    ap (λ (m : ℕ). m + counted (nat_eq (bit_at set n) 1)
    (counted (nat_eq x.part n) (item_size x.item) + part_size n rest)) h'
    ∙ ap (λ (b : Bool). sizes_below set n rest + 0 + counted (nat_eq (bit_at set n) 1)
    (counted b (item_size x.item) + part_size n rest)) e
    ∙ same_part (sizes_below set n rest) (item_size x.item) (part_size n rest) (nat_eq (bit_at set n) 1)
    ∙ ap (λ (b : Bool). sizes_below set (suc n) rest + counted b (item_size x.item)) (bit ∙ rw here refl)
more_parts set n x rest false e h =
    ap (λ (m : ℕ). m + counted (nat_eq (bit_at set n) 1)
    (counted (nat_eq x.part n) (item_size x.item) + part_size n rest)) h
    ∙ ap (λ (b : Bool). sizes_below set n rest + counted (nat_lt x.part n && nat_eq (bit_at set x.part) 1)
    (item_size x.item) + counted (nat_eq (bit_at set n) 1) (counted b (item_size x.item) + part_size n rest)) e
    ∙ other_part (sizes_below set n rest) (item_size x.item) (part_size n rest) (nat_eq (bit_at set n) 1)
    (nat_lt x.part n && nat_eq (bit_at set x.part) 1)
    ∙ ap (λ (b : Bool). sizes_below set (suc n) rest + counted (b && nat_eq (bit_at set x.part) 1) (item_size x.item))
    (same_side x.part n e)
  where
    decide : (p n : ℕ) (z : Bool) → nat_lt p n ≡ z → nat_eq p n ≡ false → nat_lt p n ≡ nat_lt p (suc n)
    decide p n true e f = e ∙ sym (lt-ltb p (suc n) (omega (arith, ltb-true p n e)))
    decide p n false e f = e ∙ sym (le-ltb p (suc n) (above p n (ltb-false p n e) f))
      where
        above : (p n : ℕ) → n ≤ p → nat_eq p n ≡ false → suc n ≤ p
        above p n l f = let apart = eqb-false p n f in omega (arith, apart)

    same_side : (p n : ℕ) → nat_eq p n ≡ false → nat_lt p n ≡ nat_lt p (suc n)
    same_side p n f = decide p n (nat_lt p n) refl f

sizes_cons : (set n : ℕ) (x : Line) (rest : List Line) →
    sizes_below set n (x ∷ rest) ≡ sizes_below set n rest + counted (nat_lt x.part n && nat_eq (bit_at set x.part) 1)
    (item_size x.item)
sizes_cons set zero x rest = let out : nat_lt x.part 0 ≡ false = le-ltb x.part 0 (omega arith) in rw out refl
sizes_cons set (suc n) x rest = more_parts set n x rest (nat_eq x.part n) refl (sizes_cons set n x rest)

sizes_none : (set n : ℕ) → sizes_below set n [] ≡ 0
sizes_none set zero = refl
sizes_none set (suc n) =
    let e = sizes_none set n in ap (λ (m : ℕ). m + (if nat_eq (bit_at set n) 1 then 0 else 0)) e
    ∙ zero_either (nat_eq (bit_at set n) 1) where
      zero_either : (z : Bool) → 0 + (if z then 0 else 0) ≡ 0
      zero_either true = refl
      zero_either false = refl

-- a line counts once
once : (always bit low : Bool) (s p q r : ℕ) → (always ≡ true → low ≡ false) → r ≡ p + q →
    counted (always || low && bit) s + r ≡ counted always s + p + (q + counted (low && bit) s)
once true bit low s p q r out e = let z = out refl in rw z (omega arith)
once false true true s p q r out e = omega arith
once false true false s p q r out e = omega arith
once false false true s p q r out e = omega arith
once false false false s p q r out e = omega arith

add_up : (set n : ℕ) (lines : List Line) → n ≡ 32 →
    size_of (kept set lines) ≡ part_size 255 lines + sizes_below set n lines
add_up set n [] e = sym (sizes_none set n) ∙ plus_none (sizes_below set n []) where
  plus_none : (k : ℕ) → k ≡ 0 + k
  plus_none k = omega arith
add_up set n (x ∷ rest) e =
    kept_size set x (kept set rest) (is_kept set x)
    ∙ ap (λ (k : ℕ). counted (nat_eq x.part 255 || nat_lt x.part k && nat_eq (bit_at set x.part) 1) (item_size x.item)
    + size_of (kept set rest)) (sym e)
    ∙ once (nat_eq x.part 255) (nat_eq (bit_at set x.part) 1) (nat_lt x.part n) (item_size x.item)
    (part_size 255 rest) (sizes_below set n rest) (size_of (kept set rest)) (always_is_high x.part n e)
    (add_up set n rest e)
    ∙ ap (λ (k : ℕ). counted (nat_eq x.part 255) (item_size x.item) + part_size 255 rest + k)
    (sym (sizes_cons set n x rest))
  where
    always_is_high : (p n : ℕ) → n ≡ 32 → nat_eq p 255 ≡ true → nat_lt p n ≡ false
    always_is_high p n e h =
        let same : p ≡ 255 = eqb-true p 255 h in
        le-ltb p n (omega arith)

pub parts_add_up : (set : ℕ) (lines : List Line) →
    size_of (kept set lines) ≡ part_size 255 lines + sizes_below set 32 lines
parts_add_up set lines = add_up set 32 lines refl

-- lines of one part
part_of : (part : ℕ) (x : Line) (lines : List Line) → All (λ (line : Line). line.part ≡ part) (x ∷ lines) →
    x.part ≡ part
part_of part x lines all = All-head (λ (line : Line). line.part ≡ part) x lines all

others_of : (part : ℕ) (x : Line) (lines : List Line) → All (λ (line : Line). line.part ≡ part) (x ∷ lines) →
    All (λ (line : Line). line.part ≡ part) lines
others_of part x lines all = All-tail (λ (line : Line). line.part ≡ part) x lines all

all_kept : (set part : ℕ) (lines : List Line) → All (λ (line : Line). line.part ≡ part) lines →
    is_part_kept set part ≡ true → kept set lines ≡ lines
all_kept set part [] all k = refl
all_kept set part (x ∷ lines) all k =
    let same : x.part ≡ part = part_of part x lines all in
    let here : is_kept set x ≡ true = ap (λ (p : ℕ). is_part_kept set p) same ∙ k in
    let rest = all_kept set part lines (others_of part x lines all) k in
    ap (λ (z : Bool). if z then x ∷ kept set lines else kept set lines) here ∙ ap (λ (ls : List Line). x ∷ ls) rest

none_kept : (set part : ℕ) (lines : List Line) → All (λ (line : Line). line.part ≡ part) lines →
    is_part_kept set part ≡ false → kept set lines ≡ []
none_kept set part [] all k = refl
none_kept set part (x ∷ lines) all k =
    let same : x.part ≡ part = part_of part x lines all in
    let here : is_kept set x ≡ false = ap (λ (p : ℕ). is_part_kept set p) same ∙ k in
    ap (λ (z : Bool). if z then x ∷ kept set lines else kept set lines) here
    ∙ none_kept set part lines (others_of part x lines all) k

pub parts_stand_together : (set part : ℕ) (lines : List Line) → All (λ (line : Line). line.part ≡ part) lines →
    StandsTogether set part lines
parts_stand_together set part lines all =
    record { all = all_kept set part lines all; none = none_kept set part lines all }
