-- How long the lines are.
use Rattle.std.proofs.Common.{◌≡◌, ℕ, ◌+◌, ◌≤◌, ◌<◌, ◌^◌, ◌/◌, ◌%◌, List, []}
use Rattle.std.proofs.Common.{◌∷◌, ◌++◌, flat_map, sum_by, take, get_or, codes, length, decimal, replicate}
use Rattle.std.proofs.Common.{refl, ap, arith, lit<, lit≤, ◌-◌, length-append}
use Rattle.std.proofs.lemmas.Fmt.{length-decimal-le, length-decimal-le_wide}
use Rattle.std.proofs.lemmas.List.Concat.{length-flat_map}
use Rattle.std.proofs.lemmas.List.Folds.{length-flat_map-take}
use Rattle.std.proofs.lemmas.List.Sums.{sum_by-cons}
use Rattle.hex.specs.Hex.{lower_digits, upper_digits, encode_lower}
use Rattle.hex.proofs.HexLemmas.{length-encode_with}
use Rattle.command_line.specs.declared.message.Piece.{Piece}
use Rattle.command_line.specs.declared.message.Piece.TheVariants.{Words, Name, Number, Wide, Byte, Address, Features, Sum}
use Rattle.command_line.specs.Lines.{byte_digits, address_digits, feature_digits, sum_digits}
use Rattle.command_line.specs.RegisterText.{register_line, call_digits}
use Rattle.std.proofs.lemmas.List.{length-replicate}
use Rattle.command_line.specs.Laws.{LinesHaveRoom}
use Rattle.command_line.specs.Message.{piece_text, line_of, own_length, name_length, IsShort}

-- a number of 64 bits has at most 20 digits, an address has four
pub digits_fit : (n : ℕ) → n < 2 ^ 64 → length (decimal n) ≤ 20
digits_fit n small = length-decimal-le 20 n (lit< tt) (omega arith) small

-- and so has one that is a little greater
pub wide_fits : (n : ℕ) → n < 10 ^ 20 → length (decimal n) ≤ 20
wide_fits n small = length-decimal-le_wide 20 n (lit< tt) small (omega (arith, small))

pub byte_fits : (n : ℕ) → n < 256 → length (decimal n) ≤ 3
byte_fits n small = length-decimal-le 3 n (lit< tt) (omega arith) (omega (arith, small))

pub hex_fits : (byte : ℕ) → length (byte_digits byte) ≡ 2
hex_fits byte = length-encode_with upper_digits (byte ∷ [])

pub address_fits : (address : ℕ) → length (address_digits address) ≡ 4
address_fits address = length-encode_with upper_digits ((address / 256) ∷ (address % 256) ∷ [])

-- numbers of two and of three digits
pub two_digits : (n : ℕ) → n ≤ 64 → length (decimal n) ≤ 2
two_digits n small = length-decimal-le 2 n (lit< tt) (omega arith) (omega (arith, small))

pub three_digits : (n : ℕ) → n ≤ 256 → length (decimal n) ≤ 3
three_digits n small = length-decimal-le 3 n (lit< tt) (omega arith) (omega (arith, small))

pub features_fit : (bits : ℕ) → length (feature_digits bits) ≡ 6
features_fit bits = length-encode_with lower_digits ((bits / 65536 % 256) ∷ (bits / 256 % 256) ∷ (bits % 256) ∷ [])

pub sum_fits : (sum : ℕ) → length (sum_digits sum) ≡ 8
sum_fits sum =
    length-encode_with lower_digits
    ((sum / 16777216 % 256) ∷ (sum / 65536 % 256) ∷ (sum / 256 % 256) ∷ (sum % 256) ∷ [])

-- a number of at most seven digits, and one of at most ten
pub seven_digits : (n : ℕ) → n < 10 ^ 7 → length (decimal n) ≤ 7
seven_digits n small = length-decimal-le 7 n (lit< tt) small (omega (arith, small))

pub ten_digits : (n : ℕ) → n < 10 ^ 10 → length (decimal n) ≤ 10
ten_digits n small = length-decimal-le 10 n (lit< tt) small (omega (arith, small))

pub ruleset pieces_fit = (digits_fit, wide_fits, byte_fits, hex_fits, address_fits, features_fit, sum_fits)

-- a line is longer than its first pieces
pub first_pieces : (pieces : List Piece) (i room : ℕ) (text : List ℕ) (d : Piece) → i < length pieces →
    text ≡ flat_map piece_text (take i pieces) → room < length (text ++ piece_text (get_or pieces i d)) →
    room < length (line_of pieces)
first_pieces pieces i room text d inside is full =
    let part = length-flat_map-take piece_text pieces i d inside in
    omega (
      arith,
      full,
      part,
      ap length is,
      length-append text (piece_text (get_or pieces i d)),
      length-append (flat_map piece_text pieces) (codes "\n"),
    )

-- a short line has at most 128 bytes beside names
piece_lengths : (piece : Piece) → length (piece_text piece) ≡ own_length piece + name_length piece
piece_lengths (Words words) = omega arith
piece_lengths (Name name) = omega arith
piece_lengths (Number number) = omega arith
piece_lengths (Wide number) = omega arith
piece_lengths (Byte byte) = omega arith
piece_lengths (Address address) = omega arith
piece_lengths (Features bits) = omega arith
piece_lengths (Sum sum) = omega arith

lengths : (pieces : List Piece) →
    sum_by (λ piece. length (piece_text piece)) pieces ≡ sum_by own_length pieces + sum_by name_length pieces
lengths [] = refl
lengths (piece ∷ rest) =
    let text = sum_by-cons (λ it. length (piece_text it)) piece rest in
    let own = sum_by-cons own_length piece rest in
    let name = sum_by-cons name_length piece rest in
    omega (arith, piece_lengths piece, lengths rest, text, own, name)

messages_have_room : (pieces : List Piece) → IsShort pieces → length (line_of pieces) ≤ 128 + sum_by name_length pieces
messages_have_room pieces short =
    omega (
      arith,
      short,
      lengths pieces,
      length-flat_map piece_text pieces,
      length-append (flat_map piece_text pieces) (codes "\n"),
    )

-- so have the lines of registers
registers_have_room : (call : ℕ) (registers : List ℕ) → call < 10 ^ 6 → length registers ≡ 25 →
    length (register_line call registers) ≤ 128
registers_have_room call registers small all =
    let number = length-decimal-le 6 call (lit< tt) small (omega (arith, small)) in
    let digits = length-append (replicate (6 - length (decimal call)) 0x30) (decimal call) in
    let zeros = length-replicate {A = ℕ} (6 - length (decimal call)) 0x30 in
    let hex = length-encode_with lower_digits registers in
    let spaced = length-append (call_digits call) (codes " ") in
    let shown = length-append (call_digits call ++ codes " ") (encode_lower registers) in
    let ended = length-append (call_digits call ++ codes " " ++ encode_lower registers) (codes "\n") in
    omega (arith, number, digits, zeros, hex, all, spaced, shown, ended)

pub lines_have_room : LinesHaveRoom
lines_have_room = record { messages = messages_have_room; registers = registers_have_room; no_memory = lit≤ tt }
