-- What calls add to a text, one behind the other.
use Rattle.std.proofs.Common.{◌≡◌, ℕ, ◌+◌, arith, List, [], ◌∷◌, ◌++◌, Result, OnOk, sym, ap, ◌∙◌}
use Rattle.std.specs.List.{flat_map, range_with_len}
use Rattle.std.proofs.lemmas.List.{append_assoc, append-nil, map-id}
use Rattle.std.proofs.lemmas.List.FromFn.{map-range_with_len_more}
use Rattle.std.proofs.lemmas.List.Concat.{flat_map-append}
use Rattle.song_chart.specs.Elements.{Element, element_text, elements_text}
use Rattle.std.proofs.lemmas.Result.{on_ok_weaker}

-- two texts more
pub two_more : (old one two x y : List ℕ) → one ≡ old ++ x → two ≡ one ++ y → two ≡ old ++ (x ++ y)
two_more old one two x y e f = f ∙ ap (λ text. text ++ y) e ∙ append_assoc old x y

two_last : {T E : Type 0} (r : Result T E) (old one two x y : List ℕ) → one ≡ old ++ x → OnOk r (two ≡ one ++ y) →
    OnOk r (two ≡ old ++ (x ++ y))
two_last r old one two x y e f = on_ok_weaker r (λ is. two_more old one two x y e is) f

-- the last of several elements
pub put_one : {T E : Type 0} (r : Result T E) (old one x : List ℕ) → OnOk r (one ≡ old ++ x) →
    OnOk r (one ≡ old ++ (x ++ []))
put_one r old one x f = on_ok_weaker r (λ is. is ∙ ap (λ text. old ++ text) (sym (append-nil x))) f

pub put_two : {T E : Type 0} (r : Result T E) (old one two x y : List ℕ) → one ≡ old ++ x → OnOk r (two ≡ one ++ y) →
    OnOk r (two ≡ old ++ (x ++ (y ++ [])))
put_two r old one two x y e f = two_last r old one two x (y ++ []) e (put_one r one two y f)

pub put_three : {T E : Type 0} (r : Result T E) (old one two three x y z : List ℕ) → one ≡ old ++ x →
    two ≡ one ++ y → OnOk r (three ≡ two ++ z) → OnOk r (three ≡ old ++ (x ++ (y ++ (z ++ []))))
put_three r old one two three x y z e f g =
    two_last r old one three x (y ++ (z ++ [])) e (put_two r one two three y z f g)

pub put_four : {T E : Type 0} (r : Result T E) (old one two three four w x y z : List ℕ) → one ≡ old ++ w →
    two ≡ one ++ x → three ≡ two ++ y → OnOk r (four ≡ three ++ z) →
    OnOk r (four ≡ old ++ (w ++ (x ++ (y ++ (z ++ [])))))
put_four r old one two three four w x y z e f g h =
    two_last r old one four w (x ++ (y ++ (z ++ []))) e (put_three r one two three four x y z f g h)

-- ---- for each number

range_last : (n : ℕ) → range_with_len 0 (n + 1) ≡ range_with_len 0 n ++ n ∷ []
range_last n =
    sym (map-id (range_with_len 0 (n + 1))) ∙ map-range_with_len_more (λ (k : ℕ). k) 0 n n (omega arith)
    ∙ ap (λ ks. ks ++ n ∷ []) (map-id (range_with_len 0 n))

pub each_last : {X : Type 0} (f : ℕ → List X) (n : ℕ) →
    flat_map f (range_with_len 0 (n + 1)) ≡ flat_map f (range_with_len 0 n) ++ f n
each_last f n =
    ap (flat_map f) (range_last n) ∙ flat_map-append f (range_with_len 0 n) (n ∷ [])
    ∙ ap (λ xs. flat_map f (range_with_len 0 n) ++ xs) (append-nil (f n))

-- elements for one number more
pub range_more : (f : ℕ → List Element) (n : ℕ) (old before after : List ℕ) →
    before ≡ old ++ elements_text (flat_map f (range_with_len 0 n)) → after ≡ before ++ elements_text (f n) →
    after ≡ old ++ elements_text (flat_map f (range_with_len 0 (n + 1)))
range_more f n old before after e g =
    two_more old before after (elements_text (flat_map f (range_with_len 0 n))) (elements_text (f n)) e g
    ∙ ap (λ text. old ++ text)
    (sym
    (ap elements_text (each_last f n) ∙ flat_map-append element_text (flat_map f (range_with_len 0 n)) (f n)))
