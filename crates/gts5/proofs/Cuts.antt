-- Where an orderlist and a pattern are cut.
use Rattle.std.proofs.Common.{◌≡◌, ◌≢◌, ℕ, zero, suc, ◌+◌, ◌<◌, List, [], ◌∷◌, ◌++◌}
use Rattle.std.proofs.Common.{length, get_or, take, drop, cond, ltb, Bool, true, false, Some, None, ◌==◌, ◌≤◌}
use Rattle.std.proofs.Common.{refl, sym, ap, ◌∙◌, arith, inl, inr, add-one, take-append-drop}
use Rattle.std.specs.List.{All, position_or_len}
use Rattle.std.proofs.lemmas.Option.{none-some, same_Some}
use Rattle.std.proofs.lemmas.Bool.{cases_eq, eq-eqb, ltb-false, ne_eqb}
use Rattle.std.proofs.lemmas.List.{drop_more, length-take, get_or-take}
use Rattle.std.proofs.lemmas.List.Elements.{All-head, All-tail}
use Rattle.song_model.specs.Basics.{IsByte}
use Rattle.song_model.specs.OrderLimits.{IsEntry}
use Rattle.gts5.specs.Reading.{endmark_of}

-- ---- the endmark

-- the place that a search for it gives
endmark_is : (bytes : List ℕ) → endmark_of bytes ≡ position_or_len (λ byte. byte == 0xFF) bytes
endmark_is [] = refl
endmark_is (x ∷ xs) = elim (cases_eq x 255) [
  | inl e ↦ rw (eq-eqb x 255 e) refl
  | inr n ↦ rw (ne_eqb x 255 n, endmark_is xs) (omega arith)
]

within_or_not : (place n m : ℕ) (z : Bool) → Some place ≡ cond z (Some n) None → n ≡ m → place ≡ m
within_or_not place n m true e same = same_Some place n e ∙ same
within_or_not place n m false e same = absurd (cc)

past_or_not : (n m : ℕ) (z : Bool) → ltb n m ≡ z → n ≤ m → None ≡ cond z (Some n) None → n ≡ m
past_or_not n m true t within e = absurd (none-some n e)
past_or_not n m false t within e = let past = ltb-false n m t in omega arith

pub endmark_some : (bytes : List ℕ) (place : ℕ)
    → Some place ≡ cond (ltb (position_or_len (λ byte. byte == 0xFF) bytes) (length bytes))
    (Some (position_or_len (λ byte. byte == 0xFF) bytes)) None
    → place ≡ endmark_of bytes
endmark_some bytes place e = within_or_not place (position_or_len (λ byte. byte == 0xFF) bytes) (endmark_of bytes) _ e
    (sym (endmark_is bytes))

endmark_within : (bytes : List ℕ) → endmark_of bytes ≤ length bytes
endmark_within [] = omega arith
endmark_within (x ∷ xs) = elim (cases_eq x 255) [
  | inl e ↦ rw (eq-eqb x 255 e) (omega arith)
  | inr n ↦ let within = endmark_within xs in rw (ne_eqb x 255 n) (omega arith)
]

pub endmark_none : (bytes : List ℕ)
    → None ≡ cond (ltb (position_or_len (λ byte. byte == 0xFF) bytes) (length bytes))
    (Some (position_or_len (λ byte. byte == 0xFF) bytes)) None
    → length bytes ≡ endmark_of bytes
endmark_none bytes e =
    let within = endmark_within bytes in
    sym (endmark_is bytes ∙ past_or_not (position_or_len (λ byte. byte == 0xFF) bytes) (length bytes) _ refl
    (omega (arith, endmark_is bytes)) e)

before_endmark : (bytes : List ℕ) (k d : ℕ) → k < endmark_of bytes → get_or bytes k d ≢ 255
before_endmark [] k d l = absurd (omega arith)
before_endmark (x ∷ xs) zero d l =
    elim (cases_eq x 255) [
      | inl e ↦ let none = rw (eq-eqb x 255 e) at l in absurd (omega arith)
      | inr n ↦ n
    ]
before_endmark (x ∷ xs) (suc k) d l =
    elim (cases_eq x 255) [
      | inl e ↦ let none = rw (eq-eqb x 255 e) at l in absurd (omega arith)
      | inr n ↦ let less = rw (ne_eqb x 255 n) at l in before_endmark xs k d (omega arith)
    ]

at_endmark : (bytes : List ℕ) (d : ℕ) → endmark_of bytes < length bytes → get_or bytes (endmark_of bytes) d ≡ 255
at_endmark [] d l = absurd (omega arith)
at_endmark (x ∷ xs) d l =
    elim (cases_eq x 255) [
      | inl e ↦ rw (eq-eqb x 255 e) e
      | inr n ↦ let less = rw (ne_eqb x 255 n) at l in rw (ne_eqb x 255 n, add-one) (at_endmark xs d (omega arith))
    ]

-- the bytes before the endmark are entries
pub entries_before : (bytes : List ℕ) → All IsByte bytes → All IsEntry (take (endmark_of bytes) bytes)
entries_before bytes are = λ k d inside.
    let before : k < endmark_of bytes = omega (arith, length-take (endmark_of bytes) bytes) in
    let within : k < length bytes = omega (arith, length-take (endmark_of bytes) bytes) in
    let byte = are k d within in
    let other = before_endmark bytes k d before in
    rw (get_or-take (endmark_of bytes) bytes k d before) (omega arith)

-- the bytes up to the endmark, and what follows
pub cut_endmark : (bytes : List ℕ) → endmark_of bytes < length bytes →
    bytes ≡ take (endmark_of bytes) bytes ++ 255 ∷ drop (endmark_of bytes + 1) bytes
cut_endmark bytes l =
    sym (take-append-drop (endmark_of bytes) bytes)
    ∙ ap (λ t. take (endmark_of bytes) bytes ++ t)
    (drop_more bytes (endmark_of bytes) 0 l ∙ ap (λ b. b ∷ drop (endmark_of bytes + 1) bytes) (at_endmark bytes 0 l))

-- the first endmark stands after the entries
pub endmark_after : (entries more : List ℕ) → All IsEntry entries → endmark_of (entries ++ 255 ∷ more) ≡ length entries
endmark_after [] more are = refl
endmark_after (x ∷ xs) more are =
    let below : x < 255 = All-head IsEntry x xs are in
    rw (ne_eqb x 255 (λ e. absurd (omega arith)), endmark_after xs more (All-tail IsEntry x xs are)) (omega arith)
