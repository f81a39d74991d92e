-- Numbers that are pushed, the last one first.
use Rattle.std.proofs.Common.{◌≡◌, ℕ, ◌≤◌, ◌++◌, List, [], ◌∷◌, length, reverse, refl, sym, ap, arith, ◌∙◌}
use Rattle.std.proofs.lemmas.List.{reverse-append, reverse-reverse, append_assoc}
use Rattle.cycle_bound.specs.Rules.{entry, behind_first}

-- those of lines, and in front of them those of others
pub both_pushed : (old first rest : List ℕ) →
    (old ++ reverse rest) ++ reverse first ≡ old ++ reverse (first ++ rest)
both_pushed old first rest =
    append_assoc old (reverse rest) (reverse first) ∙ ap (λ l. old ++ l) (sym (reverse-append first rest))

-- the first of both
pub first_pushed : (own rest : List ℕ) (follows : ℕ) → 1 ≤ length own → entry own 0 ≡ entry (own ++ rest) follows
first_pushed [] rest follows some = absurd (omega (arith, some))
first_pushed (number ∷ own) rest follows some = refl

-- a line's own number in front of those of the lines in it, and in front of those of the lines behind
pub line_pushed : (old own rest : List ℕ) → 1 ≤ length own →
    ((old ++ reverse rest) ++ reverse (behind_first own)) ++ entry own 0 ∷ [] ≡ old ++ reverse (own ++ rest)
line_pushed old [] rest some = absurd (omega (arith, some))
line_pushed old (number ∷ inner) rest some =
    both_pushed (old ++ reverse rest) (number ∷ []) inner ∙ both_pushed old (number ∷ inner) rest

-- the number of a call in front of those of the first block, in front of those of the voices'
pub all_pushed : (first voice : List ℕ) (number : ℕ) →
    reverse ((([] ++ reverse voice) ++ reverse first) ++ number ∷ []) ≡ number ∷ (first ++ voice)
all_pushed first voice number =
    ap reverse (both_pushed ([] ++ reverse voice) (number ∷ []) first ∙ both_pushed [] (number ∷ first) voice)
    ∙ reverse-reverse ((number ∷ first) ++ voice)
