-- Hexadecimal digits in upper case.
use Rattle.std.proofs.Common.{◌≡◌, ℕ, ◌<◌, ◌/◌, ◌%◌, Bool, true, List, [], ◌∷◌, map, nat_eq}
use Rattle.std.proofs.Common.{slice_index, get_or, refl, ap, ◌∙◌, arith}
use Rattle.std.proofs.lemmas.Bool.{agree_below_at, eqb-true}
use Rattle.std.specs.Char.{to_ascii_uppercase}
use Rattle.hex.specs.Hex.{lower_digits, upper_digits, encode_with, encode_lower, encode_upper}
use Rattle.command_line.specs.Lines.{byte_digits, address_digits}

pub digit_up : (d : ℕ) → d < 16 → to_ascii_uppercase (slice_index lower_digits d) ≡ slice_index upper_digits d
digit_up d lt =
    let test : ℕ → Bool = λ n. nat_eq (to_ascii_uppercase (slice_index lower_digits n)) (slice_index upper_digits n) in
    eqb-true (to_ascii_uppercase (slice_index lower_digits d)) (slice_index upper_digits d)
    (agree_below_at test (λ n. true) 16 d refl lt)

pub byte_up : (byte : ℕ) (digits up : List ℕ) → byte < 256 → digits ≡ encode_lower (byte ∷ []) →
    up ≡ map to_ascii_uppercase digits → up ≡ byte_digits byte
unfolding encode_with
byte_up byte digits up small lower upper =
    let a = digit_up (byte / 16) (omega arith) in
    let b = digit_up (byte % 16) (omega arith) in
    upper ∙ ap (map to_ascii_uppercase) lower ∙ cc

pub word_up : (high low : ℕ) → high < 256 → low < 256 →
    map to_ascii_uppercase (encode_lower (high ∷ low ∷ [])) ≡ encode_upper (high ∷ low ∷ [])
unfolding encode_with
word_up high low h l =
    let a = digit_up (high / 16) (omega arith) in
    let b = digit_up (high % 16) (omega arith) in
    let c = digit_up (low / 16) (omega arith) in
    let d = digit_up (low % 16) (omega arith) in
    cc

-- the digits of an address, from its bytes with the low one first
pub address_up : (address : ℕ) (bytes digits up : List ℕ) → address < 65536 →
    bytes ≡ (address % 256) ∷ (address / 256 % 256) ∷ [] →
    digits ≡ encode_lower (get_or bytes 1 0 ∷ get_or bytes 0 0 ∷ []) → up ≡ map to_ascii_uppercase digits →
    up ≡ address_digits address
address_up address bytes digits up small are lower upper =
    let high : address / 256 % 256 ≡ address / 256 = omega arith in
    let e : digits ≡ encode_lower ((address / 256) ∷ (address % 256) ∷ []) =
    lower ∙ ap (λ b. encode_lower (get_or b 1 0 ∷ get_or b 0 0 ∷ [])) are
    ∙ ap (λ h. encode_lower (h ∷ (address % 256) ∷ [])) high in
    upper ∙ ap (map to_ascii_uppercase) e ∙ word_up (address / 256) (address % 256) (omega arith) (omega arith)
