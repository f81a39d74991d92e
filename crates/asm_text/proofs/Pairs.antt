-- The first statement that a test finds, with those before it, and how it stands to the first fault of an assembler.
use Rattle.std.proofs.Common.{◌≡◌, ℕ, ◌+◌, ◌<◌, Bool, true, false, ◌||◌, List, [], ◌∷◌}
use Rattle.std.proofs.Common.{◌++◌, length, take, drop, get_or, if◌then◌else◌, Option, Some, None, refl, sym}
use Rattle.std.proofs.Common.{ap, ◌∙◌, subst, arith}
use Rattle.std.specs.Option.{option_map, option_or}
use Rattle.std.proofs.lemmas.Bool.{false≢true}
use Rattle.std.proofs.lemmas.List.{append-nil, append_assoc, drop_more, take_more}
use Rattle.asm6502.specs.declared.lines.Line.{Line}
use Rattle.asm6502.specs.declared.faults.AsmFault.{AsmFault}
use Rattle.asm6502.specs.Faults.{first_fault}
use Rattle.asm_text.specs.declared.statements.Statement.{Statement}
use Rattle.asm_text.specs.declared.statements.Written.{Written}
use Rattle.asm_text.specs.Statements.{size}
use Rattle.asm_text.specs.Laying.{line_at, listing_at, size_of}
use Rattle.asm_text.specs.Faults.{first_found}
use Rattle.asm_text.proofs.Laid.{listing-append, size_one_more}

-- how a test sees statements, and lines
abbrev pub Test : Type 0
Test = List Written → Statement → Bool

abbrev pub LineTest : Type 0
LineTest = List Line → Line → Option AsmFault

-- the first statement that a test finds, and those before it
pub record Pair : Type 0 where
  pub front : List Written
  pub written : Written

abbrev pub first_pair : Test → List Written → List Written → Option Pair
first_pair test front [] = None
first_pair test front (written ∷ behind) =
    if test front written.statement then Some (record { front = front; written = written })
    else first_pair test (front ++ written ∷ []) behind

-- ---- a pair and the first found

found_by : (test : Test) (front behind : List Written) (written : Written) (y : Bool) →
    first_found test (front ++ written ∷ []) behind
    ≡ option_map (λ pair. pair.written) (first_pair test (front ++ written ∷ []) behind) →
    (if y then Some written else first_found test (front ++ written ∷ []) behind)
    ≡ option_map (λ pair. pair.written)
    (if y then Some (record { front = front; written = written })
    else first_pair test (front ++ written ∷ []) behind)
found_by test front behind written true e = refl
found_by test front behind written false e = e

pub found_is : (test : Test) (front behind : List Written) →
    first_found test front behind ≡ option_map (λ pair. pair.written) (first_pair test front behind)
found_is test front [] = refl
found_is test front (written ∷ behind) =
    found_by test front behind written (test front written.statement)
    (found_is test (front ++ written ∷ []) behind)

-- ---- where a pair stands

-- the pair is a statement that the test finds behind those before it, of which it finds none
pub record IsPair (test : Test) (front behind : List Written) (pair : Pair) : Type 0 where
  pub middle : List Written
  pub back : List Written
  pub split : behind ≡ middle ++ pair.written ∷ back
  pub front_is : pair.front ≡ front ++ middle
  pub none : first_found test front middle ≡ None
  pub holds : test pair.front pair.written.statement ≡ true

pair_by : (test : Test) (front behind : List Written) (written : Written) (pair : Pair) (y : Bool) →
    test front written.statement ≡ y →
    (if y then Some (record { front = front; written = written })
    else first_pair test (front ++ written ∷ []) behind) ≡ Some pair →
    (first_pair test (front ++ written ∷ []) behind ≡ Some pair → IsPair test (front ++ written ∷ []) behind pair) →
    IsPair test front (written ∷ behind) pair
pair_by test front behind written pair true e h further =
    let same : record { front = front; written = written } ≡ pair = cc in
    subst (λ p. IsPair test front (written ∷ behind) p) same
    (record {
      middle = [];
      back = behind;
      split = refl;
      front_is = sym (append-nil front);
      none = refl;
      holds = e;
    })
pair_by test front behind written pair false e h further =
    let p = further h in
    record {
      middle = written ∷ p.middle;
      back = p.back;
      split = ap (λ (ws : List Written). written ∷ ws) p.split;
      front_is = p.front_is ∙ append_assoc front (written ∷ []) p.middle;
      none = rw e p.none;
      holds = p.holds;
    }

pub is_pair : (test : Test) (front behind : List Written) (pair : Pair) → first_pair test front behind ≡ Some pair →
    IsPair test front behind pair
is_pair test front [] pair h = absurd (cc)
is_pair test front (written ∷ behind) pair h =
    pair_by test front behind written pair (test front written.statement) refl h
    (is_pair test (front ++ written ∷ []) behind pair)

-- ---- what a test finds in statements one behind another

append_by : (test : Test) (front middle back : List Written) (written : Written) (y : Bool) →
    first_found test (front ++ written ∷ []) (middle ++ back)
    ≡ option_or (first_found test (front ++ written ∷ []) middle)
    (first_found test ((front ++ written ∷ []) ++ middle) back) →
    (if y then Some written else first_found test (front ++ written ∷ []) (middle ++ back))
    ≡ option_or (if y then Some written else first_found test (front ++ written ∷ []) middle)
    (first_found test (front ++ (written ∷ middle)) back)
append_by test front middle back written true e = refl
append_by test front middle back written false e =
    e
    ∙ ap (λ ws. option_or (first_found test (front ++ written ∷ []) middle) (first_found test ws back))
    (append_assoc front (written ∷ []) middle)

pub found-append : (test : Test) (front middle back : List Written) →
    first_found test front (middle ++ back)
    ≡ option_or (first_found test front middle) (first_found test (front ++ middle) back)
found-append test front [] back = ap (λ ws. first_found test ws back) (sym (append-nil front))
found-append test front (written ∷ middle) back =
    append_by test front middle back written (test front written.statement)
    (found-append test (front ++ written ∷ []) middle back)

found_head : (test : Test) (front back : List Written) (written : Written) →
    test front written.statement ≡ true → first_found test front (written ∷ back) ≡ Some written
found_head test front back written e = rw e refl

-- ---- a narrower test finds the same, where it finds that; a wider one finds nothing less

narrow_none_by : (test narrow : Test) (front behind : List Written) (written : Written) (y z : Bool) →
    (z ≡ true → y ≡ true) →
    (first_found test (front ++ written ∷ []) behind ≡ None →
    first_found narrow (front ++ written ∷ []) behind ≡ None) →
    (if y then Some written else first_found test (front ++ written ∷ []) behind) ≡ None →
    (if z then Some written else first_found narrow (front ++ written ∷ []) behind) ≡ None
narrow_none_by test narrow front behind written true z wide more h = absurd (cc)
narrow_none_by test narrow front behind written false true wide more h = absurd (false≢true (wide refl))
narrow_none_by test narrow front behind written false false wide more h = more h

narrow_none : (test narrow : Test) (front behind : List Written) →
    ((ws : List Written) (s : Statement) → narrow ws s ≡ true → test ws s ≡ true) →
    first_found test front behind ≡ None → first_found narrow front behind ≡ None
narrow_none test narrow front [] wide h = refl
narrow_none test narrow front (written ∷ behind) wide h =
    narrow_none_by test narrow front behind written (test front written.statement) (narrow front written.statement)
    (wide front written.statement) (narrow_none test narrow (front ++ written ∷ []) behind wide) h

pub narrow_found : (test narrow : Test) (script : List Written) (pair : Pair) →
    ((ws : List Written) (s : Statement) → narrow ws s ≡ true → test ws s ≡ true) →
    first_pair test [] script ≡ Some pair → narrow pair.front pair.written.statement ≡ true →
    first_found narrow [] script ≡ Some pair.written
narrow_found test narrow script pair wide h e =
    let p = is_pair test [] script pair h in
    let holds : narrow p.middle pair.written.statement ≡ true =
    ap (λ ws. narrow ws pair.written.statement) (sym p.front_is) ∙ e in
    ap (λ ws. first_found narrow [] ws) p.split ∙ found-append narrow [] p.middle (pair.written ∷ p.back)
    ∙ ap (λ o. option_or o (first_found narrow p.middle (pair.written ∷ p.back)))
    (narrow_none test narrow [] p.middle wide p.none)
    ∙ found_head narrow p.middle p.back pair.written holds

-- ---- a test that finds what one of two finds

either_by : (all one other : Test) (front behind : List Written) (written : Written) (y z : Bool) →
    all front written.statement ≡ (y || z) →
    (first_found one (front ++ written ∷ []) behind ≡ None →
    first_found all (front ++ written ∷ []) behind ≡ first_found other (front ++ written ∷ []) behind) →
    (if y then Some written else first_found one (front ++ written ∷ []) behind) ≡ None →
    first_found all front (written ∷ behind)
    ≡ (if z then Some written else first_found other (front ++ written ∷ []) behind)
either_by all one other front behind written true z e more h = absurd (cc)
either_by all one other front behind written false true e more h = rw e refl
either_by all one other front behind written false false e more h = rw e (more h)

pub either_none : (all one other : Test) (front behind : List Written) →
    ((ws : List Written) (s : Statement) → all ws s ≡ (one ws s || other ws s)) →
    first_found one front behind ≡ None → first_found all front behind ≡ first_found other front behind
either_none all one other front [] same h = refl
either_none all one other front (written ∷ behind) same h =
    either_by all one other front behind written (one front written.statement) (other front written.statement)
    (same front written.statement) (either_none all one other (front ++ written ∷ []) behind same) h

either_holds : (x y z : Bool) → x ≡ (y || z) → y ≡ true → x ≡ true
either_holds x true z e h = e
either_holds x false z e h = absurd (false≢true h)

pub either_some : (all one other : Test) (script : List Written) (pair : Pair) →
    ((ws : List Written) (s : Statement) → all ws s ≡ (one ws s || other ws s)) →
    first_pair one [] script ≡ Some pair →
    first_found all [] script ≡ option_or (first_found other [] pair.front) (Some pair.written)
either_some all one other script pair same h =
    let p = is_pair one [] script pair h in
    let holds : all p.middle pair.written.statement ≡ true =
    ap (λ ws. all ws pair.written.statement) (sym p.front_is)
    ∙ either_holds (all pair.front pair.written.statement) (one pair.front pair.written.statement)
    (other pair.front pair.written.statement) (same pair.front pair.written.statement) p.holds in
    ap (λ ws. first_found all [] ws) p.split ∙ found-append all [] p.middle (pair.written ∷ p.back)
    ∙ ap (λ o. option_or o (first_found all p.middle (pair.written ∷ p.back)))
    (either_none all one other [] p.middle same p.none)
    ∙ ap (λ o. option_or (first_found other [] p.middle) o) (found_head all p.middle p.back pair.written holds)
    ∙ ap (λ ws. option_or (first_found other [] ws) (Some pair.written)) (sym p.front_is)

-- ---- the assembler's tests

-- a test of lines finds, in the listing that statements name, what a test of statements finds, and this fault
pub record IsLike (origin : ℕ) (lines : LineTest) (test : Test) (fault : Pair → AsmFault) : Type 0 where
  pub like : (front : List Written) (written : Written) →
      lines (listing_at origin front) (line_at (origin + size_of front) written.statement)
      ≡ (if test front written.statement then Some (fault (record { front = front; written = written })) else None)

like_by : (test : Test) (fault : Pair → AsmFault) (front behind : List Written) (written : Written) (y : Bool)
    (o rest : Option AsmFault) →
    o ≡ (if y then Some (fault (record { front = front; written = written })) else None) →
    rest ≡ option_map fault (first_pair test (front ++ written ∷ []) behind) →
    option_or o rest
    ≡ option_map fault
    (if y then Some (record { front = front; written = written })
    else first_pair test (front ++ written ∷ []) behind)
like_by test fault front behind written true o rest e h = rw e refl
like_by test fault front behind written false o rest e h = rw e h

pub like_found : (origin : ℕ) (lines : LineTest) (test : Test) (fault : Pair → AsmFault) →
    IsLike origin lines test fault → (front behind : List Written) →
    first_fault lines (listing_at origin front) (listing_at (origin + size_of front) behind)
    ≡ option_map fault (first_pair test front behind)
like_found origin lines test fault is front [] = refl
like_found origin lines test fault is front (written ∷ behind) =
    let line = line_at (origin + size_of front) written.statement in
    let place : origin + size_of front + size written.statement ≡ origin + size_of (front ++ written ∷ []) =
    omega (arith, size_one_more front written) in
    let rest : first_fault lines (listing_at origin front ++ line_at (origin + size_of front) written.statement ∷ [])
    (listing_at (origin + size_of front + size written.statement) behind)
    ≡ option_map fault (first_pair test (front ++ written ∷ []) behind) =
    ap (λ ls. first_fault lines ls (listing_at (origin + size_of front + size written.statement) behind))
    (sym (listing-append origin front (written ∷ [])))
    ∙ ap (λ n. first_fault lines (listing_at origin (front ++ written ∷ [])) (listing_at n behind)) place
    ∙ like_found origin lines test fault is (front ++ written ∷ []) behind in
    like_by test fault front behind written (test front written.statement)
    (lines (listing_at origin front) (line_at (origin + size_of front) written.statement))
    (first_fault lines (listing_at origin front ++ line_at (origin + size_of front) written.statement ∷ [])
    (listing_at (origin + size_of front + size written.statement) behind))
    (is.like front written) rest

pub like_all : (origin : ℕ) (lines : LineTest) (test : Test) (fault : Pair → AsmFault) →
    IsLike origin lines test fault → (script : List Written) →
    first_fault lines [] (listing_at origin script) ≡ option_map fault (first_pair test [] script)
like_all origin lines test fault is script =
    let place : origin ≡ origin + 0 = omega arith in
    ap (λ n. first_fault lines [] (listing_at n script)) place ∙ like_found origin lines test fault is [] script

-- ---- the loop over statements

-- the statements up to place k have passed
pub record IsSearched (test : Test) (script : List Written) (k : ℕ) : Type 0 where
  pub rest : first_found test (take k script) (drop k script) ≡ first_found test [] script

first_more : (test : Test) (script : List Written) (k : ℕ) (x : Written) → k < length script →
    x ≡ get_or script k x →
    first_found test (take k script) (drop k script)
    ≡ (if test (take k script) x.statement then Some x
    else first_found test (take (k + 1) script) (drop (k + 1) script))
first_more test script k x l e =
    let front : take (k + 1) script ≡ take k script ++ x ∷ [] =
    take_more script k x l ∙ ap (λ (y : Written). take k script ++ y ∷ []) (sym e) in
    let back : drop k script ≡ x ∷ drop (k + 1) script =
    drop_more script k x l ∙ ap (λ (y : Written). y ∷ drop (k + 1) script) (sym e) in
    rw (front, back) refl

pub searched_more : (test : Test) (script : List Written) (k : ℕ) (x : Written) → k < length script →
    x ≡ get_or script k x → test (take k script) x.statement ≡ false → IsSearched test script k →
    IsSearched test script (k + 1)
searched_more test script k x l e n s =
    let m = first_more test script k x l e in
    record { rest = sym (m ∙ rw n refl) ∙ s.rest }

pub found_here : (test : Test) (script : List Written) (k : ℕ) (x : Written) → k < length script →
    x ≡ get_or script k x → test (take k script) x.statement ≡ true → IsSearched test script k →
    first_found test [] script ≡ Some x
found_here test script k x l e n s =
    let m = first_more test script k x l e in
    sym s.rest ∙ m ∙ rw n refl

pub sizes_more : (script : List Written) (k : ℕ) (x : Written) → k < length script → x ≡ get_or script k x →
    size_of (take (k + 1) script) ≡ size_of (take k script) + size x.statement
sizes_more script k x l e =
    ap size_of (take_more script k x l ∙ ap (λ (y : Written). take k script ++ y ∷ []) (sym e))
    ∙ size_one_more (take k script) x
