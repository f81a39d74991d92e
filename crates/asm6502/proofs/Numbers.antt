-- Numbers put at the places of fixes: they stand there, and everything else stays.
use Rattle.std.proofs.Common.{◌≡◌, ◌≢◌, ℕ, zero, suc, ◌+◌, ◌/◌, ◌%◌, ◌<◌, ◌≤◌}
use Rattle.std.proofs.Common.{◌⊎◌, List, [], ◌∷◌, length, set, get_or, refl, ap, sym, ◌∙◌, subst, inl}
use Rattle.std.proofs.Common.{inr, arith, length-set, get_or-set_same, get_or-set_other}
use Rattle.base.proofs.Laws.{outside}
use Rattle.cpu6502.specs.declared.memory.TheConstants.{MEMORY_SIZE}
use Rattle.asm6502.specs.declared.fixes.Fix.{Fix}
use Rattle.asm6502.specs.declared.fixes.FixKind.{FixKind}
use Rattle.asm6502.specs.declared.fixes.FixKind.TheVariants.{Word, Low, High}
use Rattle.asm6502.specs.Fixes.{width_of, NumberStands, with_number, InOrder, NumbersStand, with_numbers, IsFixed}

pub length-with_number : (kind : FixKind) (bytes : List ℕ) (at number : ℕ) →
    length (with_number kind bytes at number) ≡ length bytes
length-with_number Word bytes at number =
    length-set (set bytes at (number % 256)) (at + 1) (number / 256) ∙ length-set bytes at (number % 256)
length-with_number Low bytes at number = length-set bytes at (number % 256)
length-with_number High bytes at number = length-set bytes at (number / 256)

pub length-with_numbers : (origin : ℕ) (bytes : List ℕ) (fixes : List Fix) →
    length (with_numbers origin bytes fixes) ≡ length bytes
length-with_numbers origin bytes [] = refl
length-with_numbers origin bytes (fix ∷ rest) =
    length-with_numbers origin (with_number fix.kind bytes fix.at ((origin + fix.to) % MEMORY_SIZE)) rest
    ∙ length-with_number fix.kind bytes fix.at ((origin + fix.to) % MEMORY_SIZE)

-- a place that the number doesn't take
not_there : (at width q place : ℕ) → (q < at) ⊎ (at + width ≤ q) → at ≤ place → place < at + width → q ≢ place
not_there at width q place (inl l) low high = omega arith
not_there at width q place (inr l) low high = omega arith

number_apart : (kind : FixKind) (bytes : List ℕ) (at number q : ℕ) → (q < at) ⊎ (at + width_of kind ≤ q) →
    get_or (with_number kind bytes at number) q 0 ≡ get_or bytes q 0
number_apart Word bytes at number q out =
    let a = not_there at 2 q at out (omega arith) (omega arith) in
    let b = not_there at 2 q (at + 1) out (omega arith) (omega arith) in
    get_or-set_other (set bytes at (number % 256)) (at + 1) q (number / 256) 0 b
    ∙ get_or-set_other bytes at q (number % 256) 0 a
number_apart Low bytes at number q out =
    get_or-set_other bytes at q (number % 256) 0 (not_there at 1 q at out (omega arith) (omega arith))
number_apart High bytes at number q out =
    get_or-set_other bytes at q (number / 256) 0 (not_there at 1 q at out (omega arith) (omega arith))

-- the number stands there
number_put : (kind : FixKind) (bytes : List ℕ) (at number : ℕ) → at + width_of kind ≤ length bytes →
    NumberStands kind (with_number kind bytes at number) at number
number_put Word bytes at number l =
    let a : at ≢ at + 1 = omega arith in (
      get_or-set_other (set bytes at (number % 256)) (at + 1) at (number / 256) 0 a
          ∙ get_or-set_same bytes at (number % 256) 0 (omega arith),
      get_or-set_same (set bytes at (number % 256)) (at + 1) (number / 256) 0
          (omega (arith, length-set bytes at (number % 256))),
    )
number_put Low bytes at number l = get_or-set_same bytes at (number % 256) 0 (omega arith)
number_put High bytes at number l = get_or-set_same bytes at (number / 256) 0 (omega arith)

number_stays : (kind : FixKind) (bytes after : List ℕ) (at number : ℕ) →
    ((q : ℕ) → q < at + width_of kind → get_or after q 0 ≡ get_or bytes q 0) → NumberStands kind bytes at number →
    NumberStands kind after at number
number_stays Word bytes after at number same s = (same at (omega arith) ∙ s.0, same (at + 1) (omega arith) ∙ s.1)
number_stays Low bytes after at number same s = same at (omega arith) ∙ s
number_stays High bytes after at number same s = same at (omega arith) ∙ s

-- the bytes below the first place stay
below_stays : (origin low n : ℕ) (bytes : List ℕ) (fixes : List Fix) → InOrder low n fixes → (q : ℕ) → q < low →
    get_or (with_numbers origin bytes fixes) q 0 ≡ get_or bytes q 0
below_stays origin low n bytes [] o q l = refl
below_stays origin low n bytes (fix ∷ rest) o q l =
    let a = o.0 in
    below_stays origin (fix.at + width_of fix.kind) n
    (with_number fix.kind bytes fix.at ((origin + fix.to) % MEMORY_SIZE))
    rest o.1.1 q (omega arith)
    ∙ number_apart fix.kind bytes fix.at ((origin + fix.to) % MEMORY_SIZE) q (inl (omega arith))

-- all numbers stand at their places
pub numbers_stand : (origin low n : ℕ) (bytes : List ℕ) (fixes : List Fix) → n ≡ length bytes → InOrder low n fixes →
    NumbersStand origin (with_numbers origin bytes fixes) fixes
numbers_stand origin low n bytes [] e o = tt
numbers_stand origin low n bytes (fix ∷ rest) e o =
    let number = (origin + fix.to) % MEMORY_SIZE in
    let b = o.1.0 in
    let put = number_put fix.kind bytes fix.at ((origin + fix.to) % MEMORY_SIZE) (omega arith) in
    let size = length-with_number fix.kind bytes fix.at ((origin + fix.to) % MEMORY_SIZE) in (
      number_stays fix.kind (with_number fix.kind bytes fix.at ((origin + fix.to) % MEMORY_SIZE))
          (with_numbers origin (with_number fix.kind bytes fix.at ((origin + fix.to) % MEMORY_SIZE)) rest) fix.at
          ((origin + fix.to) % MEMORY_SIZE)
          (λ (q : ℕ) l. below_stays origin (fix.at + width_of fix.kind) n
          (with_number fix.kind bytes fix.at ((origin + fix.to) % MEMORY_SIZE)) rest o.1.1 q l) put,
      numbers_stand origin (fix.at + width_of fix.kind) n
          (with_number fix.kind bytes fix.at ((origin + fix.to) % MEMORY_SIZE)) rest (omega arith) o.1.1,
    )

-- every place that no fix takes stays
pub others_stay : (origin : ℕ) (bytes : List ℕ) (fixes : List Fix) (q : ℕ) → (IsFixed fixes q → ⊥) →
    get_or (with_numbers origin bytes fixes) q 0 ≡ get_or bytes q 0
others_stay origin bytes [] q h = refl
others_stay origin bytes (fix ∷ rest) q h =
    others_stay origin (with_number fix.kind bytes fix.at ((origin + fix.to) % MEMORY_SIZE)) rest q (λ f. h (inr f))
    ∙ number_apart fix.kind bytes fix.at ((origin + fix.to) % MEMORY_SIZE) q
    (outside fix.at (width_of fix.kind) q (λ c. h (inl c)))

-- each fix ends within the bytes
pub fix_within : (low n : ℕ) (fixes : List Fix) (k : ℕ) (x d : Fix) → InOrder low n fixes → k < length fixes →
    x ≡ get_or fixes k d → x.at + width_of x.kind ≤ n
fix_within low n [] k x d o l e = absurd (omega arith)
fix_within low n (fix ∷ rest) zero x d o l e =
    let b = o.1.0 in let s : x.at + width_of x.kind ≡ fix.at + width_of fix.kind =
    ap (λ (f : Fix). f.at + width_of f.kind) e in omega arith
fix_within low n (fix ∷ rest) (suc k) x d o l e =
    fix_within (fix.at + width_of fix.kind) n rest k x d o.1.1 (omega arith) e

pub le_along : (a n m : ℕ) → a ≤ n → m ≡ n → a ≤ m
le_along a n m h e = omega arith

-- what the bytes are after the move
pub record Moved (origin : ℕ) (old new : List ℕ) (fixes : List Fix) : Type 0 where
  pub fits : origin + length new ≤ MEMORY_SIZE
  pub in_order : InOrder 0 (length new) fixes
  pub stand : NumbersStand origin new fixes
  pub bytes : new ≡ with_numbers origin old fixes
  pub others : (q : ℕ) → (IsFixed fixes q → ⊥) → get_or new q 0 ≡ get_or old q 0
  pub size : length new ≡ length old

pub moved : (origin : ℕ) (old new : List ℕ) (fixes given : List Fix) → InOrder 0 (length old) fixes →
    new ≡ with_numbers origin old given → given ≡ fixes → origin + length old ≤ MEMORY_SIZE → Moved origin old new fixes
moved origin old new fixes given o n g f =
    let e : new ≡ with_numbers origin old fixes = n ∙ ap (with_numbers origin old) g in
    let s : length new ≡ length old = ap length e ∙ length-with_numbers origin old fixes in
    record {
      fits = omega arith;
      in_order = subst (λ (k : ℕ). InOrder 0 k fixes) (sym s) o;
      stand = subst (λ (bs : List ℕ). NumbersStand origin bs fixes) (sym e)
          (numbers_stand origin 0 (length old) old fixes refl o);
      bytes = e;
      others = λ q h. ap (λ (bs : List ℕ). get_or bs q 0) e ∙ others_stay origin old fixes q h;
      size = s;
    }
