-- Reading a PSID v2 file: six rules, tried in this order, and what a file holds that meets them all.
use Rattle.std.specs.Prelude.{ℕ, ◌+◌, ◌%◌, Bool, ◌&&◌, not, nat_lt, nat_le, ◌==◌, if◌then◌else◌}
use Rattle.std.specs.Prelude.{List, length, take, drop, codes, Result, Ok, Err}
use Rattle.std.specs.Str.{bytes_eq}
use Rattle.psid.specs.declared.header.Header.{Header}
use Rattle.psid.specs.declared.header.Psid.{Psid}
use Rattle.psid.specs.declared.faults.PsidFault.{PsidFault}
use Rattle.psid.specs.declared.faults.PsidFault.TheVariants.{NotPsid, Truncated, Unsupported, BadField}
use Rattle.psid.specs.declared.reading.TheConstants.{ADDRESSES}
use Rattle.psid.specs.Words.{word_at, number_at, address_at, text_at}

-- version 2, an address of a play routine, and neither bit 0 nor bit 1 of the flags
unfoldable pub is_supported : List ℕ → Bool
is_supported bytes = word_at bytes 0x04 == 2 && nat_le 1 (word_at bytes 0x0C) && word_at bytes 0x76 % 4 == 0

-- the data offset is the header's length, there are 1 to 256 songs, and the start song is one of them
unfoldable pub has_good_fields : List ℕ → Bool
has_good_fields bytes =
    word_at bytes 0x06 == 0x7C
    && nat_le 1 (word_at bytes 0x0E) && nat_le (word_at bytes 0x0E) 256
    && nat_le 1 (word_at bytes 0x10) && nat_le (word_at bytes 0x10) (word_at bytes 0x0E)

-- a load of 0 says that the address stands in front of the image
unfoldable pub has_address : List ℕ → Bool
has_address bytes = word_at bytes 0x08 == 0

-- the address of the image
unfoldable pub load_of : List ℕ → ℕ
load_of bytes = if has_address bytes then address_at bytes 0x7C else word_at bytes 0x08

-- the image: all bytes after the header, or after the address
unfoldable pub image_of : List ℕ → List ℕ
image_of bytes = if has_address bytes then drop 0x7E bytes else drop 0x7C bytes

-- the address of init; 0 means the address of the image
abbrev pub init_or_load : ℕ → ℕ → ℕ
init_or_load init load = if init == 0 then load else init

-- the header's fields, as they are
unfoldable pub header_of : List ℕ → Header
header_of bytes = record {
  init = init_or_load (word_at bytes 0x0A) (load_of bytes);
  play = word_at bytes 0x0C;
  songs = word_at bytes 0x0E;
  start_song = word_at bytes 0x10;
  speed = number_at bytes 0x12;
  name = text_at bytes 0x16;
  author = text_at bytes 0x36;
  released = text_at bytes 0x56;
  flags = word_at bytes 0x76;
}

-- the file that bytes spell, or the fault of the first rule that they break
unfoldable pub psid_read : List ℕ → Result Psid PsidFault
psid_read bytes =
    if not (bytes_eq (take 4 bytes) (codes "PSID")) then Err NotPsid
    else if nat_lt (length bytes) 124 then Err Truncated
    else if not (is_supported bytes) then Err Unsupported
    else if not (has_good_fields bytes) then Err BadField
    else if has_address bytes && nat_lt (length bytes) 126 then Err Truncated
    else if nat_lt ADDRESSES (load_of bytes + length (image_of bytes)) then Err BadField
    else Ok (record { header = header_of bytes; load = load_of bytes; image = image_of bytes })
