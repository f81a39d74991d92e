-- What is written is read: each word, text and address is found where it was put, and the six rules are met.
use Rattle.std.proofs.Common.{◌≡◌, ℕ, ◌+◌, ◌%◌, ◌<◌, ◌^◌, List, [], ◌++◌, length, take}
use Rattle.std.proofs.Common.{drop, true, false, nat_eq, nat_lt, nat_le, Ok, refl, ap, ◌∙◌, arith, append_assoc}
use Rattle.std.proofs.Common.{length-append}
use Rattle.std.specs.Prelude.{codes}
use Rattle.std.specs.Str.{bytes_eq}
use Rattle.std.proofs.lemmas.Bool.{eq-eqb, le-leb}
use Rattle.std.proofs.lemmas.Bool.Decides.{nat_tests}
use Rattle.byteorder.specs.Endian.{big_number, little_number}
use Rattle.byteorder.specs.Numbers.{big_number-reads_back, little_number-reads_back}
use Rattle.psid.specs.declared.reading.TheConstants.{ADDRESSES}
use Rattle.psid.specs.declared.header.Header.{Header}
use Rattle.psid.specs.Words.{address_bytes, word_at, number_at, address_at, text_at}
use Rattle.psid.specs.Format.{psid_bytes, IsHeader, IsWritable}
use Rattle.psid.specs.Reading.{is_supported, has_good_fields, has_address, load_of, image_of, init_or_load, header_of, psid_read}
use Rattle.psid.specs.FormatLaws.{WrittenIsRead, WrittenIsReadAsIs}
use Rattle.psid.proofs.Pieces.{text_at-piece}
use Rattle.base.proofs.Laws.{drop_past}
use Rattle.psid.proofs.HeaderPieces.{front_of, end_of, header_bytes-parts}

-- the parts of a file from each text on, and the whole
abbrev pub from_end : Header → ℕ → List ℕ → List ℕ
from_end header load image = end_of header ++ (address_bytes load ++ image)

abbrev pub from_name : Header → ℕ → List ℕ → List ℕ
from_name header load image = header.name ++ (header.author ++ (header.released ++ from_end header load image))

abbrev pub laid : Header → ℕ → List ℕ → List ℕ
laid header load image = front_of header ++ from_name header load image

pub psid_bytes-laid : (header : Header) (load : ℕ) (image : List ℕ) →
    psid_bytes header load image ≡ laid header load image
psid_bytes-laid header load image =
    ap (λ (xs : List ℕ). xs ++ address_bytes load ++ image) (header_bytes-parts header) ∙ simp append_assoc

-- what is found in a file
pub record Finds (bytes : List ℕ) (header : Header) (load : ℕ) (image : List ℕ) : Type 0 where
  pub magic : bytes_eq (take 4 bytes) (codes "PSID") ≡ true
  pub size : length bytes ≡ 126 + length image
  pub version : word_at bytes 0x04 ≡ 2
  pub data_offset : word_at bytes 0x06 ≡ 0x7C
  pub no_load : word_at bytes 0x08 ≡ 0
  pub init : word_at bytes 0x0A ≡ header.init
  pub play : word_at bytes 0x0C ≡ header.play
  pub songs : word_at bytes 0x0E ≡ header.songs
  pub start_song : word_at bytes 0x10 ≡ header.start_song
  pub speed : number_at bytes 0x12 ≡ header.speed
  pub name : text_at bytes 0x16 ≡ header.name
  pub author : text_at bytes 0x36 ≡ header.author
  pub released : text_at bytes 0x56 ≡ header.released
  pub flags : word_at bytes 0x76 ≡ header.flags
  pub address : address_at bytes 0x7C ≡ load
  pub image_is : drop 0x7E bytes ≡ image

pub laid_finds : (header : Header) (load : ℕ) (image : List ℕ) → IsHeader header → load < 2 ^ 16 →
    Finds (laid header load image) header load image
unfolding word_at number_at address_at
laid_finds header load image h l =
    let bytes : List ℕ = laid header load image in
    let after_author : List ℕ = header.released ++ from_end header load image in
    let after_name : List ℕ = header.author ++ after_author in
    let at_author = drop_past bytes header.name after_name 0x16 32 refl h.name in
    let at_released = drop_past bytes header.author after_author 0x36 32 at_author h.author in
    let at_end = drop_past bytes header.released (from_end header load image) 0x56 32 at_released h.released in
    let at_address = drop_past bytes (end_of header) (address_bytes load ++ image) 0x76 6 at_end refl in
    let at_image = drop_past bytes (address_bytes load) image 0x7C 2 at_address refl in
    let n = h.name in let a = h.author in let r = h.released in
    record {
      magic = refl;
      size = simp length-append (omega arith);
      version = refl;
      data_offset = refl;
      no_load = refl;
      init = big_number-reads_back 2 header.init [] h.init;
      play = big_number-reads_back 2 header.play [] h.play;
      songs = big_number-reads_back 2 header.songs [] h.songs;
      start_song = big_number-reads_back 2 header.start_song [] h.start_song;
      speed = big_number-reads_back 4 header.speed [] h.speed;
      name = text_at-piece bytes header.name after_name 0x16 refl h.name;
      author = text_at-piece bytes header.author after_author 0x36 at_author h.author;
      released = text_at-piece bytes header.released (from_end header load image) 0x56 at_released h.released;
      flags = ap (λ (xs : List ℕ). big_number 2 xs) at_end ∙ big_number-reads_back 2 header.flags [] h.flags;
      address = ap (λ (xs : List ℕ). little_number 2 xs) at_address ∙ little_number-reads_back 2 load [] l;
      image_is = at_image;
    }

-- a file in which this is found meets the rules
pub found_is_read : (bytes : List ℕ) (header : Header) (load : ℕ) (image : List ℕ) → Finds bytes header load image →
    IsWritable header load image → psid_read bytes
    ≡ Ok (record { header = record header { init = init_or_load header.init load }; load = load; image = image })
unfolding psid_read is_supported has_good_fields has_address load_of image_of header_of
found_is_read bytes header load image f w =
    let has_play : nat_le 1 header.play ≡ true = grind (arith, nat_tests, w.has_play) in
    let kind : nat_eq (header.flags % 4) 0 ≡ true = eq-eqb (header.flags % 4) 0 w.has_no_kind in
    let songs : nat_le 1 header.songs ≡ true = le-leb 1 header.songs w.has_song in
    let most : nat_le header.songs 256 ≡ true = le-leb header.songs 256 w.most_songs in
    let start : nat_le 1 header.start_song ≡ true = le-leb 1 header.start_song w.has_start in
    let song : nat_le header.start_song header.songs ≡ true = le-leb header.start_song header.songs w.start_is_song in
    let whole : nat_lt (126 + length image) 124 ≡ false = grind (arith, nat_tests) in
    let placed : nat_lt (126 + length image) 126 ≡ false = grind (arith, nat_tests) in
    let fits : nat_lt ADDRESSES (load + length image) ≡ false = grind (arith, nat_tests, w.fits) in
    simp (
      f.magic,
      f.size,
      f.version,
      f.data_offset,
      f.no_load,
      f.init,
      f.play,
      f.songs,
      f.start_song,
      f.speed,
      f.name,
      f.author,
      f.released,
      f.flags,
      f.address,
      f.image_is,
      has_play,
      kind,
      songs,
      most,
      start,
      song,
      whole,
      placed,
      fits,
    )

pub written_is_read : WrittenIsRead
written_is_read header load image h l w =
    ap (λ (xs : List ℕ). psid_read xs) (psid_bytes-laid header load image)
    ∙ found_is_read (laid header load image) header load image (laid_finds header load image h l) w

pub written_is_read_as_is : WrittenIsReadAsIs
written_is_read_as_is header load image h l w z =
    let other : nat_eq header.init 0 ≡ false = grind (arith, nat_tests) in
    let same : init_or_load header.init load ≡ header.init = rw other in
    written_is_read header load image h l w
    ∙ ap (λ (i : ℕ). Ok (record { header = record header { init = i }; load = load; image = image })) same
