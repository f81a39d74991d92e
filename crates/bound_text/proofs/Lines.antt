-- Lines of numbers, and what a text begins with.
use Rattle.std.proofs.Common.{◌≡◌, ℕ, zero, suc, ◌+◌, ◌*◌, ◌<◌, ◌≤◌, ◌^◌, lit<, length-append, ◌++◌, ◌==◌, Some, List, [], ◌∷◌, length, take, drop, get_or}
use Rattle.std.proofs.Common.{position, decimal, refl, sym, ap, subst, ◌∙◌, arith}
use Rattle.std.proofs.lemmas.Bool.{eqb-true}
use Rattle.std.proofs.lemmas.Fmt.{length-decimal-le}
use Rattle.std.proofs.lemmas.List.{append_assoc}
use Rattle.std.proofs.lemmas.List.Quantifiers.{position-Some}
use Rattle.cycle_bound.specs.Least.{Fit}
use Rattle.bound_text.specs.Texts.{numbers_text}

-- ---- one number more

pub one_more : (numbers : List ℕ) (number : ℕ) →
    numbers_text (numbers ++ number ∷ []) ≡ numbers_text numbers ++ (decimal number ++ 10 ∷ [])
one_more [] number = refl
one_more (first ∷ numbers) number =
    ap (λ t. decimal first ++ 10 ∷ t) (one_more numbers number)
    ∙ sym (append_assoc (decimal first) (10 ∷ numbers_text numbers) (decimal number ++ 10 ∷ []))

pub fit_more : (numbers : List ℕ) (number : ℕ) → Fit numbers → number < 2 ^ 64 → Fit (numbers ++ number ∷ [])
fit_more [] number fit few = (few, tt)
fit_more (first ∷ numbers) number fit few = (fit.0, fit_more numbers number fit.1 few)

-- of a list, the next one
plus_one : (n : ℕ) → suc n ≡ n + 1
plus_one n = omega arith

next_suc : (numbers : List ℕ) (index : ℕ) → index < length numbers →
    numbers_text (take (suc index) numbers)
    ≡ numbers_text (take index numbers) ++ (decimal (get_or numbers index 0) ++ 10 ∷ [])
next_suc [] index few = absurd (omega (arith, few))
next_suc (number ∷ numbers) zero few = refl
next_suc (number ∷ numbers) (suc index) few =
    let less : index < length numbers = omega (arith, few) in
    ap (λ t. decimal number ++ 10 ∷ t) (next_suc numbers index less)
    ∙ sym (append_assoc (decimal number) (10 ∷ numbers_text (take index numbers)) (decimal (get_or numbers index 0) ++ 10 ∷ []))

pub next_more : (numbers : List ℕ) (index : ℕ) → index < length numbers →
    numbers_text (take (index + 1) numbers)
    ≡ numbers_text (take index numbers) ++ (decimal (get_or numbers index 0) ++ 10 ∷ [])
next_more numbers index few =
    subst
    (λ n. numbers_text (take n numbers) ≡ numbers_text (take index numbers) ++ (decimal (get_or numbers index 0) ++ 10 ∷ []))
    (plus_one index) (next_suc numbers index few)

-- ---- a line in front

split_at : (bytes : List ℕ) (place byte : ℕ) → place < length bytes → get_or bytes place 0 ≡ byte →
    bytes ≡ take place bytes ++ byte ∷ drop (suc place) bytes
split_at [] place byte few is = absurd (omega (arith, few))
split_at (first ∷ bytes) zero byte few is = ap (λ b. b ∷ bytes) is
split_at (first ∷ bytes) (suc place) byte few is =
    let less : place < length bytes = omega (arith, few) in
    ap (λ t. first ∷ t) (split_at bytes place byte less is)

pub line_in_front : (text : List ℕ) (end : ℕ) → position (λ byte. byte == 10) text ≡ Some end →
    text ≡ take end text ++ 10 ∷ drop (end + 1) text
line_in_front text end is =
    let found = position-Some (λ byte. byte == 10) text end 0 is in
    subst (λ n. text ≡ take end text ++ 10 ∷ drop n text) (plus_one end)
    (split_at text end 10 found.0 (eqb-true (get_or text end 0) 10 found.1))

-- so a number's line behind the lines of others
pub line_read : (text left : List ℕ) (numbers : List ℕ) (end number : ℕ) → text ≡ numbers_text numbers ++ left →
    position (λ byte. byte == 10) left ≡ Some end → take end left ≡ decimal number →
    text ≡ numbers_text (numbers ++ number ∷ []) ++ drop (end + 1) left
line_read text left numbers end number is place line =
    is
    ∙ (ap (λ l. numbers_text numbers ++ l)
    (line_in_front left end place ∙ ap (λ l. l ++ 10 ∷ drop (end + 1) left) line)
    ∙ (sym
    (append_assoc (numbers_text numbers) (decimal number ++ 10 ∷ []) (drop (end + 1) left)
    ∙ ap (λ l. numbers_text numbers ++ l) (append_assoc (decimal number) (10 ∷ []) (drop (end + 1) left)))
    ∙ ap (λ l. l ++ drop (end + 1) left) (sym (one_more numbers number))))

-- ---- two lists

pub texts_join : (one two : List ℕ) → numbers_text (one ++ two) ≡ numbers_text one ++ numbers_text two
texts_join [] two = refl
texts_join (number ∷ one) two =
    ap (λ t. decimal number ++ 10 ∷ t) (texts_join one two)
    ∙ sym (append_assoc (decimal number) (10 ∷ numbers_text one) (numbers_text two))

-- ---- how long a text is

-- at most 20 digits and the line feed for each
pub text_is_short : (numbers : List ℕ) → Fit numbers → length (numbers_text numbers) ≤ 21 * length numbers
text_is_short [] fit = omega arith
text_is_short (number ∷ numbers) fit =
    let rest = text_is_short numbers fit.1 in
    let digits = length-decimal-le 20 number (lit< tt) (omega arith) fit.0 in
    let all = length-append (decimal number) (10 ∷ numbers_text numbers) in
    omega (arith, rest, digits, all)
