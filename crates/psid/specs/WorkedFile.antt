-- A file worked out by hand: one song at $1000, on a PAL machine with a 6581; and the same file cut, or with some
-- bytes changed.
use Rattle.std.specs.Prelude.{◌≡◌, ℕ, ◌+◌, List, [], ◌∷◌, take, drop, replicate, slice_set, Ok, Err}
use Rattle.psid.specs.declared.header.Header.{Header}
use Rattle.psid.specs.declared.faults.PsidFault.{PsidFault}
use Rattle.psid.specs.declared.faults.PsidFault.TheVariants.{NotPsid, Truncated, Unsupported, BadField}
use Rattle.psid.specs.Format.{psid_bytes}
use Rattle.psid.specs.Reading.{psid_read}

-- a header of one song, with three texts of 32 bytes
abbrev pub one_song : Header
one_song = record {
  init = 0x1000;
  play = 0x1003;
  songs = 1;
  start_song = 1;
  speed = 0;
  name = 0x41 ∷ replicate 31 0;
  author = 0x42 ∷ replicate 31 0;
  released = 0x43 ∷ replicate 31 0;
  flags = 0x0014;
}

-- its file with an image of two bytes
abbrev pub file : List ℕ
file = psid_bytes one_song 0x1000 (0x60 ∷ 0xEA ∷ [])

-- the first 22 bytes: PSID, 2, $7C, 0, $1000, $1003, 1, 1, speed 0
abbrev pub HeaderIsSpelled : Type 0
HeaderIsSpelled = take 22 file ≡
    0x50 ∷ 0x53 ∷ 0x49 ∷ 0x44 ∷ 0x00 ∷ 0x02 ∷ 0x00 ∷ 0x7C ∷ 0x00 ∷ 0x00 ∷ 0x10 ∷ 0x00 ∷ 0x10
    ∷ 0x03 ∷ 0x00 ∷ 0x01 ∷
    0x00 ∷ 0x01
    ∷ 0x00 ∷ 0x00 ∷ 0x00 ∷ 0x00 ∷ []

-- from $76 on: the flags, three fields of 0, the address low byte first, the image
abbrev pub EndIsSpelled : Type 0
EndIsSpelled = drop 0x76 file ≡ 0x00 ∷ 0x14 ∷ 0x00 ∷ 0x00 ∷ 0x00 ∷ 0x00 ∷ 0x00 ∷ 0x10 ∷ 0x60 ∷ 0xEA ∷ []

-- the file is read
abbrev pub FileIsRead : Type 0
FileIsRead = psid_read file ≡ Ok (record { header = one_song; load = 0x1000; image = 0x60 ∷ 0xEA ∷ [] })

abbrev pub HasFault : List ℕ → PsidFault → Type 0
HasFault bytes fault = psid_read bytes ≡ Err fault

-- the file with the low byte of a word changed, or with both bytes
abbrev pub with_low : ℕ → ℕ → List ℕ
with_low offset low = slice_set file (offset + 1) low

abbrev pub with_word : ℕ → ℕ → ℕ → List ℕ
with_word offset high low = slice_set (with_low offset low) offset high

-- less than a magic, another magic, a header that isn't whole
abbrev pub HeaderIsWanted : Type 0
HeaderIsWanted = HasFault (take 3 file) NotPsid × HasFault (slice_set file 0 0x52) NotPsid
    × HasFault (take 4 file) Truncated × HasFault (take 123 file) Truncated

-- versions 1 and 3, play 0, bit 0 and bit 1 of the flags
abbrev pub KindsAreUnsupported : Type 0
KindsAreUnsupported = HasFault (with_low 0x04 1) Unsupported × HasFault (with_low 0x04 3) Unsupported
    × HasFault (with_word 0x0C 0 0) Unsupported
    × HasFault (with_low 0x76 0x15) Unsupported × HasFault (with_low 0x76 0x16) Unsupported

-- data offset $76, songs 0 and 257, start song 0 and above the songs
abbrev pub FieldsAreInRange : Type 0
FieldsAreInRange = HasFault (with_low 0x06 0x76) BadField × HasFault (with_low 0x0E 0) BadField
    × HasFault (with_word 0x0E 1 1) BadField
    × HasFault (with_low 0x10 0) BadField × HasFault (with_low 0x10 2) BadField

-- none of the two bytes of the address, one of them; an image of two bytes at $FFFF
abbrev pub ImageIsPlaced : Type 0
ImageIsPlaced = HasFault (take 124 file) Truncated × HasFault (take 125 file) Truncated
    × HasFault (slice_set (slice_set file 0x7C 0xFF) 0x7D 0xFF) BadField
