-- The PSID v2 file of a header, an address and an image, as the table of the PSID v2 description has it.
use Rattle.std.specs.Prelude.{◌≡◌, ℕ, ◌+◌, ◌%◌, ◌<◌, ◌≤◌, ◌^◌, List, [], ◌∷◌}
use Rattle.std.specs.Prelude.{◌++◌, length, codes}
use Rattle.std.specs.List.{flat_map}
use Rattle.psid.specs.declared.header.Header.{Header}
use Rattle.psid.specs.declared.reading.TheConstants.{ADDRESSES}
use Rattle.psid.specs.Words.{word_bytes, number_bytes, address_bytes}

-- a field of the header: its offset, and its bytes
pub record Field : Type 0 where
  pub offset : ℕ
  pub bytes : List ℕ

-- the table's rows, in this order: magic, version, data offset, load (0: the address stands in front of the image);
-- init, play, songs, start song, speed; name, author, released; flags, start page, page length, reserved word
unfoldable pub header_fields : Header → List Field
header_fields header =
    record { offset = 0x00; bytes = codes "PSID" }
    ∷ record { offset = 0x04; bytes = word_bytes 0x0002 }
    ∷ record { offset = 0x06; bytes = word_bytes 0x007C }
    ∷ record { offset = 0x08; bytes = word_bytes 0 }
    ∷ record { offset = 0x0A; bytes = word_bytes header.init }
    ∷ record { offset = 0x0C; bytes = word_bytes header.play }
    ∷ record { offset = 0x0E; bytes = word_bytes header.songs }
    ∷ record { offset = 0x10; bytes = word_bytes header.start_song }
    ∷ record { offset = 0x12; bytes = number_bytes header.speed }
    ∷ record { offset = 0x16; bytes = header.name }
    ∷ record { offset = 0x36; bytes = header.author }
    ∷ record { offset = 0x56; bytes = header.released }
    ∷ record { offset = 0x76; bytes = word_bytes header.flags }
    ∷ record { offset = 0x78; bytes = 0 ∷ [] }
    ∷ record { offset = 0x79; bytes = 0 ∷ [] }
    ∷ record { offset = 0x7A; bytes = word_bytes 0 }
    ∷ []

-- the bytes of the header's fields, one after the other
abbrev pub header_bytes : Header → List ℕ
header_bytes header = flat_map (λ field. field.bytes) (header_fields header)

-- the whole file: the header, the address of the image, the image
abbrev pub psid_bytes : Header → ℕ → List ℕ → List ℕ
psid_bytes header load image = header_bytes header ++ address_bytes load ++ image

-- what may be written: an address of a play routine, bits 0 and 1 of the flags clear, 1 to 256 songs with the start
-- song among them, and an image that doesn't pass $FFFF
pub record IsWritable (header : Header) (load : ℕ) (image : List ℕ) : Type 0 where
  pub has_play : 0 < header.play
  pub has_no_kind : header.flags % 4 ≡ 0
  pub has_song : 1 ≤ header.songs
  pub most_songs : header.songs ≤ 256
  pub has_start : 1 ≤ header.start_song
  pub start_is_song : header.start_song ≤ header.songs
  pub fits : load + length image ≤ ADDRESSES

-- the headers that there are: words, a number of four bytes, three texts of 32 bytes
pub record IsHeader (header : Header) : Type 0 where
  pub init : header.init < 2 ^ 16
  pub play : header.play < 2 ^ 16
  pub songs : header.songs < 2 ^ 16
  pub start_song : header.start_song < 2 ^ 16
  pub speed : header.speed < 2 ^ 32
  pub name : length header.name ≡ 32
  pub author : length header.author ≡ 32
  pub released : length header.released ≡ 32
  pub flags : header.flags < 2 ^ 16
