-- A text is read in one way: a number's digits end at its line feed.
use Rattle.std.proofs.Common.{◌≡◌, ℕ, zero, suc, ◌+◌, ◌<◌, ◌≤◌, ◌^◌, ◌++◌, ◌==◌, false, nat_eq, Some, List, [], ◌∷◌, length}
use Rattle.std.proofs.Common.{map, take, get_or, position, decimal, refl, sym, ap, subst, ◌∙◌, arith}
use Rattle.std.proofs.Math.Seq.{take-append_seam, get_or-append_seam}
use Rattle.std.proofs.lemmas.Bool.{ne_eqb, lt-ltb}
use Rattle.std.proofs.lemmas.List.{length-append}
use Rattle.std.proofs.lemmas.List.Sums.{position_or_len_is}
use Rattle.std.proofs.lemmas.Fmt.{decimal-digits_of, decimal_digit, decimal_injective}
use Rattle.std.specs.Int.Digits.{digits_of}
use Rattle.cycle_bound.specs.Least.{Fit}
use Rattle.bound_text.specs.Texts.{numbers_text}
use Rattle.bound_text.specs.TextLaws.{TextsHaveNoBadLine, TextsAreOfOneList, OneBadLine}

-- ---- digits

-- no byte is a line feed
abbrev Clean : List ℕ → Type 0
Clean [] = Unit {0}
Clean (byte ∷ bytes) = (11 ≤ byte) × Clean bytes

clean_map : (digits : List ℕ) → Clean (map (λ d. 48 + d) digits)
clean_map [] = tt
clean_map (digit ∷ digits) = (omega arith, clean_map digits)

clean_decimal : (number : ℕ) → number < 2 ^ 64 → Clean (decimal number)
clean_decimal zero few = subst Clean (sym (decimal_digit 0 (omega arith))) (omega arith, tt)
clean_decimal (suc number) few =
    subst Clean (sym (decimal-digits_of (suc number) (omega arith) few)) (clean_map (digits_of 10 (suc number)))

-- ---- what stands in front of the first line feed

head_same : (a b : ℕ) (x y : List ℕ) → a ∷ x ≡ b ∷ y → a ≡ b
head_same a b x y e = ap (λ l. get_or l 0 0) e

tail_same : (a b : ℕ) (x y : List ℕ) → a ∷ x ≡ b ∷ y → x ≡ y
tail_same a b x y e = ap behind e
  where
    behind : List ℕ → List ℕ
    behind [] = []
    behind (first ∷ more) = more

record Same (one two x y : List ℕ) : Type 0 where
  front : one ≡ two
  back : x ≡ y

line_same : (one two x y : List ℕ) → Clean one → Clean two → one ++ 10 ∷ x ≡ two ++ 10 ∷ y → Same one two x y
line_same [] [] x y a b e = record { front = refl; back = tail_same 10 10 x y e }
line_same [] (byte ∷ two) x y a b e =
    let same = head_same 10 byte x (two ++ 10 ∷ y) e in
    let high = b.0 in absurd (omega (arith, same, high))
line_same (byte ∷ one) [] x y a b e =
    let same = head_same byte 10 (one ++ 10 ∷ x) y e in
    let high = a.0 in absurd (omega (arith, same, high))
line_same (first ∷ one) (second ∷ two) x y a b e =
    let more = line_same one two x y a.1 b.1 (tail_same first second (one ++ 10 ∷ x) (two ++ 10 ∷ y) e) in
    record {
      front = ap (λ f. f ∷ one) (head_same first second (one ++ 10 ∷ x) (two ++ 10 ∷ y) e) ∙ ap (λ l. second ∷ l) more.front;
      back = more.back;
    }

-- ---- one list

no_front : (bytes x : List ℕ) → [] ≡ bytes ++ 10 ∷ x → ⊥
no_front [] x e = cc
no_front (byte ∷ bytes) x e = cc

pub texts_are_of_one_list : TextsAreOfOneList
texts_are_of_one_list [] [] a b e = refl
texts_are_of_one_list [] (number ∷ two) a b e = absurd (no_front (decimal number) (numbers_text two) e)
texts_are_of_one_list (number ∷ one) [] a b e = absurd (no_front (decimal number) (numbers_text one) (sym e))
texts_are_of_one_list (first ∷ one) (second ∷ two) a b e =
    let same = line_same (decimal first) (decimal second) (numbers_text one) (numbers_text two) (clean_decimal first a.0)
    (clean_decimal second b.0) e in
    ap (λ n. n ∷ one) (decimal_injective first second a.0 b.0 same.front)
    ∙ ap (λ l. second ∷ l) (texts_are_of_one_list one two a.1 b.1 same.back)

-- ---- no bad line

-- a line in front of a text that goes on
line_assoc : (x y z : List ℕ) → (x ++ 10 ∷ y) ++ z ≡ x ++ 10 ∷ (y ++ z)
line_assoc [] y z = refl
line_assoc (byte ∷ x) y z = ap (λ l. byte ∷ l) (line_assoc x y z)

-- what stands behind the first numbers of a text of numbers is such a text, or nothing
record Left (all rest : List ℕ) : Type 0 where
  numbers : List ℕ
  fit : Fit numbers
  are : rest ≡ numbers_text numbers

left_of : (all front rest : List ℕ) → Fit all → Fit front → numbers_text all ≡ numbers_text front ++ rest → Left all rest
left_of all [] rest a b e = record { numbers = all; fit = a; are = sym e }
left_of [] (number ∷ front) rest a b e =
    absurd (no_front (decimal number) (numbers_text front ++ rest) (e ∙ line_assoc (decimal number) (numbers_text front) rest))
left_of (first ∷ all) (second ∷ front) rest a b e =
    let same = line_same (decimal first) (decimal second) (numbers_text all) (numbers_text front ++ rest)
    (clean_decimal first a.0) (clean_decimal second b.0) (e ∙ line_assoc (decimal second) (numbers_text front) rest) in
    let more = left_of all front rest a.1 b.1 same.back in
    record { numbers = more.numbers; fit = more.fit; are = more.are }

-- where its first line feed is
clean_before : (bytes more : List ℕ) (place : ℕ) → Clean bytes → place < length bytes →
    nat_eq (get_or (bytes ++ 10 ∷ more) place 0) 10 ≡ false
clean_before [] more place clean few = absurd (omega (arith, few))
clean_before (byte ∷ bytes) more zero clean few =
    let high = clean.0 in ne_eqb byte 10 (λ e. omega (arith, e, high))
clean_before (byte ∷ bytes) more (suc place) clean few =
    let less : place < length bytes = omega (arith, few) in clean_before bytes more place clean.1 less

place_is : (bytes more : List ℕ) → Clean bytes →
    position (λ byte. byte == 10) (bytes ++ 10 ∷ more) ≡ Some (length bytes)
place_is bytes more clean =
    let all = length-append bytes (10 ∷ more) in
    let inside : length bytes < length (bytes ++ 10 ∷ more) = omega (arith, all) in
    let first = position_or_len_is (λ byte. byte == 10) (bytes ++ 10 ∷ more) (length bytes) 0 (omega (arith, inside))
    (λ place few. clean_before bytes more place clean few)
    (λ some. ap (λ byte. byte == 10) (get_or-append_seam bytes 10 more 0)) in
    rw (first, lt-ltb (length bytes) (length (bytes ++ 10 ∷ more)) inside) refl

-- no rest that is left has a number's line in front
abbrev IsBadRest : List ℕ → Type 0
IsBadRest rest =
    (end number : ℕ) → position (λ byte. byte == 10) rest ≡ Some end → number < 2 ^ 64 → ¬ (take end rest ≡ decimal number)

in_front : (rest more : List ℕ) (number : ℕ) → number < 2 ^ 64 → rest ≡ decimal number ++ 10 ∷ more →
    IsBadRest rest → ⊥
in_front rest more number few is bad =
    bad (length (decimal number)) number
    (ap (λ r. position (λ byte. byte == 10) r) is ∙ place_is (decimal number) more (clean_decimal number few)) few
    (ap (λ r. take (length (decimal number)) r) is ∙ take-append_seam (decimal number) (10 ∷ more))

none_left : (rest numbers : List ℕ) → Fit numbers → rest ≡ numbers_text numbers → 0 < length rest → IsBadRest rest → ⊥
none_left rest [] fit is some bad = let none = ap length is in omega (arith, none, some)
none_left rest (number ∷ more) fit is some bad = in_front rest (numbers_text more) number fit.0 is bad

pub texts_have_no_bad_line : TextsHaveNoBadLine
texts_have_no_bad_line numbers line fit bad =
    let left = left_of numbers bad.numbers bad.rest fit bad.fit bad.are in
    none_left bad.rest left.numbers left.fit left.are bad.some bad.bad

-- ---- one bad line

as_many : (one two r s : List ℕ) → Fit one → Fit two → numbers_text one ++ r ≡ numbers_text two ++ s → IsBadRest r →
    IsBadRest s → length one ≡ length two
as_many [] [] r s a b e x y = refl
as_many [] (number ∷ two) r s a b e x y =
    absurd (in_front r (numbers_text two ++ s) number b.0 (e ∙ line_assoc (decimal number) (numbers_text two) s) x)
as_many (number ∷ one) [] r s a b e x y =
    absurd (in_front s (numbers_text one ++ r) number a.0 (sym e ∙ line_assoc (decimal number) (numbers_text one) r) y)
as_many (first ∷ one) (second ∷ two) r s a b e x y =
    let same = line_same (decimal first) (decimal second) (numbers_text one ++ r) (numbers_text two ++ s)
    (clean_decimal first a.0) (clean_decimal second b.0)
    (sym (line_assoc (decimal first) (numbers_text one) r) ∙ e ∙ line_assoc (decimal second) (numbers_text two) s) in
    let more = as_many one two r s a.1 b.1 same.back x y in
    omega (arith, more)

pub one_bad_line : OneBadLine
one_bad_line text one two p q =
    let more = as_many p.numbers q.numbers p.rest q.rest p.fit q.fit (sym p.are ∙ q.are) p.bad q.bad in
    let here = p.place in
    let there = q.place in
    omega (arith, more, here, there)
