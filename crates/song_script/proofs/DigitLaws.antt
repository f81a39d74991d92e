-- Digits of bytes, one byte after the other.
use Rattle.std.proofs.Common.{◌≡◌, ℕ, ◌+◌, ◌<◌, ◌/◌, ◌%◌, List, [], ◌∷◌, ◌++◌, length}
use Rattle.std.proofs.Common.{take, get_or, slice_index, refl, sym, ap, ◌∙◌}
use Rattle.std.proofs.lemmas.List.{append-nil, take_more}
use Rattle.hex.specs.Hex.{encode_with, encode_upper, upper_digits}
use Rattle.song_script.specs.Words.{two_digits}

encode-append : (xs ys : List ℕ) → encode_upper (xs ++ ys) ≡ encode_upper xs ++ encode_upper ys
unfolding encode_with
encode-append [] ys = refl
encode-append (x ∷ xs) ys =
    ap (λ (digits : List ℕ). slice_index upper_digits (x / 16) ∷ slice_index upper_digits (x % 16) ∷ digits)
    (encode-append xs ys)

pub no_digits : (text : List ℕ) → text ≡ text ++ encode_upper []
unfolding encode_with
no_digits text = sym (append-nil text)

pub digits_more : (xs : List ℕ) (i d : ℕ) → i < length xs →
    encode_upper (take (i + 1) xs) ≡ encode_upper (take i xs) ++ two_digits (get_or xs i d)
digits_more xs i d lt = ap encode_upper (take_more xs i d lt) ∙ encode-append (take i xs) (get_or xs i d ∷ [])
