-- Statements one after the other: their text, their edits, and those of one item more.
use Rattle.std.proofs.Common.{◌≡◌, ℕ, zero, suc, ◌+◌, ◌<◌, List, [], ◌∷◌, ◌++◌, length, take}
use Rattle.std.proofs.Common.{replicate, get_or, refl, sym, ap, ◌∙◌, arith}
use Rattle.std.proofs.lemmas.List.{append_assoc, append-nil, length-take-le, take_more}
use Rattle.edit_ops.specs.declared.edits.Edit.{Edit}
use Rattle.song_script.specs.Statements.{Statement, Comment, Do, line_of, text_of, edits_among, each_from}

pub text_append : (a b : List Statement) → text_of (a ++ b) ≡ text_of a ++ text_of b
text_append [] b = refl
text_append (statement ∷ a) b =
    ap (λ text. line_of statement ++ 10 ∷ text) (text_append a b)
    ∙ sym (append_assoc (line_of statement) (10 ∷ text_of a) (text_of b))

pub edits_append : (a b : List Statement) → edits_among (a ++ b) ≡ edits_among a ++ edits_among b
edits_append [] b = refl
edits_append (Comment words ∷ a) b = edits_append a b
edits_append (Do edit ∷ a) b = ap (λ (edits : List Edit). edit ∷ edits) (edits_append a b)

pub each_append : {X : Type 0} (number : ℕ) (said : ℕ → X → List Statement) (xs ys : List X) →
    each_from number said (xs ++ ys) ≡ each_from number said xs ++ each_from (number + length xs) said ys
each_append number said [] ys =
    let same : number ≡ number + 0 = omega arith in ap (λ n. each_from n said ys) same
each_append number said (x ∷ xs) ys =
    let same : number + 1 + length xs ≡ number + suc (length xs) = omega arith in
    ap (λ more. said number x ++ more) (each_append (number + 1) said xs ys)
    ∙ ap (λ n. said number x ++ (each_from (number + 1) said xs ++ each_from n said ys)) same
    ∙ sym (append_assoc (said number x) (each_from (number + 1) said xs) (each_from (number + suc (length xs)) said ys))

-- ---- one item more in a loop

pub text_more : {X : Type 0} (number : ℕ) (said : ℕ → X → List Statement) (xs : List X) (i : ℕ) (d : X) →
    i < length xs → text_of (each_from number said (take (i + 1) xs))
    ≡ text_of (each_from number said (take i xs)) ++ text_of (said (number + i) (get_or xs i d))
text_more number said xs i d lt =
    let x = get_or xs i d in
    let long : length (take i xs) ≡ i = length-take-le i xs (omega (arith, lt)) in
    ap (λ ys. text_of (each_from number said ys)) (take_more xs i d lt)
    ∙ ap text_of (each_append number said (take i xs) (x ∷ []))
    ∙ text_append (each_from number said (take i xs)) (said (number + length (take i xs)) x ++ [])
    ∙ ap (λ s. text_of (each_from number said (take i xs)) ++ text_of s)
    (append-nil (said (number + length (take i xs)) x) ∙ ap (λ n. said (number + n) x) long)

pub text_again : (n : ℕ) (statement : Statement) →
    text_of (replicate (n + 1) statement) ≡ text_of (replicate n statement) ++ (line_of statement ++ 10 ∷ [])
text_again zero statement = refl
text_again (suc n) statement =
    let place : suc n + 1 ≡ suc (n + 1) = omega arith in
    ap (λ k. text_of (replicate k statement)) place
    ∙ ap (λ text. line_of statement ++ 10 ∷ text) (text_again n statement)
    ∙ sym (append_assoc (line_of statement) (10 ∷ text_of (replicate n statement)) (line_of statement ++ 10 ∷ []))
