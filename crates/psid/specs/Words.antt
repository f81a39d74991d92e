-- How the PSID v2 description spells numbers: words high byte first, but the address in front of the image low byte
-- first. Offsets are in bytes from 0.
use Rattle.std.specs.Prelude.{ℕ, ◌+◌, List, ◌++◌, length, take, drop}
use Rattle.byteorder.specs.Endian.{big_bytes, little_bytes, big_number, little_number}

-- a word as two bytes, and a number as four
abbrev pub word_bytes : ℕ → List ℕ
word_bytes word = big_bytes 2 word

abbrev pub number_bytes : ℕ → List ℕ
number_bytes number = big_bytes 4 number

-- the address in front of an image
abbrev pub address_bytes : ℕ → List ℕ
address_bytes address = little_bytes 2 address

-- bytes with others put in at an offset
unfoldable pub with_bytes : List ℕ → ℕ → List ℕ → List ℕ
with_bytes bytes offset piece = take offset bytes ++ piece ++ drop (offset + length piece) bytes

-- the word at an offset, and the number of four bytes
unfoldable pub word_at : List ℕ → ℕ → ℕ
word_at bytes offset = big_number 2 (drop offset bytes)

unfoldable pub number_at : List ℕ → ℕ → ℕ
number_at bytes offset = big_number 4 (drop offset bytes)

-- the address at an offset
unfoldable pub address_at : List ℕ → ℕ → ℕ
address_at bytes offset = little_number 2 (drop offset bytes)

-- the 32 bytes at an offset
unfoldable pub text_at : List ℕ → ℕ → List ℕ
text_at bytes offset = take 32 (drop offset bytes)
