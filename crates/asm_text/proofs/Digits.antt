-- Digits are read as the numbers that they spell.
use Rattle.std.proofs.Common.{◌≡◌, ℕ, zero, suc, ◌+◌, ◌*◌, ◌/◌, ◌%◌, ◌<◌, Bool, true, false}
use Rattle.std.proofs.Common.{not, List, nat_eq, nat_lt, if◌then◌else◌, slice_index, refl, ap, ◌∙◌, arith}
use Rattle.std.proofs.Common.{inl, inr}
use Rattle.std.proofs.lemmas.Bool.{eqb-true, false≢true, cases_lt, not-true}
use Rattle.asm_text.specs.Numbers.{digit}
use Rattle.asm_text.specs.Reading.{digit_value, byte_value, word_value}

-- what holds of each number below a bound
abbrev all_below : (ℕ → Bool) → ℕ → Bool
all_below test zero = true
all_below test (suc n) = if test n then all_below test n else false

both : (b c : Bool) → (if b then c else false) ≡ true → (b ≡ true) × (c ≡ true)
both true c e = (refl, e)
both false c e = absurd (false≢true e)

below : (test : ℕ → Bool) (n k : ℕ) → all_below test n ≡ true → k < n → test k ≡ true
below test zero k e lt = absurd (omega arith)
below test (suc n) k e lt =
    let parts = both (test n) (all_below test n) e in
    elim (cases_lt k n) [
      | inl less ↦ below test n k parts.1 less
      | inr more ↦
          let same : k ≡ n = omega arith in
          rw same parts.0
    ]

-- a digit is worth its number, and is no comma, no bracket and no line feed
abbrev is_read : ℕ → Bool
is_read n = nat_eq (digit_value (digit n)) n

abbrev is_other : ℕ → ℕ → Bool
is_other sign n = not (nat_eq (digit n) sign)

are_read : all_below is_read 16 ≡ true
are_read = refl

are_no_commas : all_below (is_other 44) 16 ≡ true
are_no_commas = refl

are_no_brackets : all_below (is_other 41) 16 ≡ true
are_no_brackets = refl

are_no_feeds : all_below (is_other 10) 16 ≡ true
are_no_feeds = refl

pub digit_again : (n : ℕ) → n < 16 → digit_value (digit n) ≡ n
digit_again n lt = eqb-true (digit_value (digit n)) n (below is_read 16 n are_read lt)

pub no_comma : (n : ℕ) → n < 16 → nat_eq (digit n) 44 ≡ false
no_comma n lt = not-true (nat_eq (digit n) 44) (below (is_other 44) 16 n are_no_commas lt)

pub no_bracket : (n : ℕ) → n < 16 → nat_eq (digit n) 41 ≡ false
no_bracket n lt = not-true (nat_eq (digit n) 41) (below (is_other 41) 16 n are_no_brackets lt)

pub no_feed : (n : ℕ) → n < 16 → nat_eq (digit n) 10 ≡ false
no_feed n lt = not-true (nat_eq (digit n) 10) (below (is_other 10) 16 n are_no_feeds lt)

-- the halves of a byte and of an address
pub high_half : (byte : ℕ) → byte < 256 → byte / 16 < 16
high_half byte lt = omega arith

pub low_half : (byte : ℕ) → byte % 16 < 16
low_half byte = omega arith

pub high_byte : (word : ℕ) → word < 65536 → word / 256 < 256
high_byte word lt = omega arith

pub low_byte : (word : ℕ) → word % 256 < 256
low_byte word = omega arith

joined_half : (byte : ℕ) → byte / 16 * 16 + byte % 16 ≡ byte
joined_half byte = omega arith

joined_byte : (word : ℕ) → word / 256 * 256 + word % 256 ≡ word
joined_byte word = omega arith

-- two digits and four are read as what they spell
pub byte_again : (byte : ℕ) → byte < 256 →
    digit_value (digit (byte / 16)) * 16 + digit_value (digit (byte % 16)) ≡ byte
byte_again byte lt =
    ap (λ n. n * 16 + digit_value (digit (byte % 16))) (digit_again (byte / 16) (high_half byte lt))
    ∙ ap (λ n. byte / 16 * 16 + n) (digit_again (byte % 16) (low_half byte)) ∙ joined_half byte

pub word_again : (word : ℕ) → word < 65536 →
    (digit_value (digit (word / 256 / 16)) * 16 + digit_value (digit (word / 256 % 16))) * 256
    + (digit_value (digit (word % 256 / 16)) * 16 + digit_value (digit (word % 256 % 16))) ≡ word
word_again word lt =
    ap
    (λ n. n * 256 + (digit_value (digit (word % 256 / 16)) * 16 + digit_value (digit (word % 256 % 16))))
    (byte_again (word / 256) (high_byte word lt))
    ∙ ap (λ n. word / 256 * 256 + n) (byte_again (word % 256) (low_byte word)) ∙ joined_byte word

-- what is read is a byte, and an address
value_by : (y : Bool) (byte : ℕ) → (if y then byte % 16 else (byte % 16 + 9) % 16) < 16
value_by true byte = omega arith
value_by false byte = omega arith

value_small : (byte : ℕ) → digit_value byte < 16
value_small byte = value_by (nat_lt byte 64) byte

two_small : (high low : ℕ) → high < 16 → low < 16 → high * 16 + low < 256
two_small high low h l = omega arith

pub byte_small : (line : List ℕ) (place : ℕ) → byte_value line place < 256
byte_small line place =
    two_small (digit_value (slice_index line place)) (digit_value (slice_index line (place + 1)))
    (value_small (slice_index line place)) (value_small (slice_index line (place + 1)))

four_small : (high low : ℕ) → high < 256 → low < 256 → high * 256 + low < 65536
four_small high low h l = omega arith

pub word_small : (line : List ℕ) (place : ℕ) → word_value line place < 65536
word_small line place =
    four_small (byte_value line place) (byte_value line (place + 2)) (byte_small line place)
    (byte_small line (place + 2))
