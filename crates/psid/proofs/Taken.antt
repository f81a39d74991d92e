-- What the rules let through may be written.
use Rattle.std.proofs.Common.{◌≡◌, ℕ, ◌+◌, ◌%◌, ◌≤◌, ◌<◌, List, length, take, Bool, true}
use Rattle.std.proofs.Common.{false, ◌&&◌, not, nat_eq, nat_lt, nat_le, if◌then◌else◌, Result, Ok, Err, refl}
use Rattle.std.proofs.Common.{subst}
use Rattle.std.specs.Prelude.{codes}
use Rattle.std.specs.Str.{bytes_eq}
use Rattle.std.proofs.lemmas.Bool.{and_parts, eqb-true, leb-true, ltb-false, not-false}
use Rattle.psid.specs.declared.reading.TheConstants.{ADDRESSES}
use Rattle.psid.specs.declared.header.Psid.{Psid}
use Rattle.psid.specs.declared.faults.PsidFault.{PsidFault}
use Rattle.psid.specs.declared.faults.PsidFault.TheVariants.{NotPsid, Truncated, Unsupported, BadField}
use Rattle.psid.specs.Words.{word_at}
use Rattle.psid.specs.Format.{IsWritable}
use Rattle.psid.specs.Reading.{is_supported, has_good_fields, has_address, load_of, image_of, header_of, psid_read}
use Rattle.psid.specs.FormatLaws.{ReadIsWritable}

-- the rules as tests, of which the third, the fourth and the sixth bear on what is let through
passes : (b1 b2 b3 b4 b5 b6 : Bool) (p q : Psid)
    → ◌≡◌ {A = Result Psid PsidFault}
    (if b1 then Err NotPsid
    else if b2 then Err Truncated
    else if b3 then Err Unsupported
    else if b4 then Err BadField
    else if b5 then Err Truncated
    else if b6 then Err BadField
    else Ok p) (Ok q)
    → (b3 ≡ false) × (b4 ≡ false) × (b6 ≡ false) × (p ≡ q)
passes true b2 b3 b4 b5 b6 p q h = absurd (cc)
passes false true b3 b4 b5 b6 p q h = absurd (cc)
passes false false true b4 b5 b6 p q h = absurd (cc)
passes false false false true b5 b6 p q h = absurd (cc)
passes false false false false true b6 p q h = absurd (cc)
passes false false false false false true p q h = absurd (cc)
passes false false false false false false p q h = (refl, refl, refl, cc)

supported : (bytes : List ℕ) → is_supported bytes ≡ true → (0 < word_at bytes 0x0C) × (word_at bytes 0x76 % 4 ≡ 0)
unfolding is_supported
supported bytes h =
    let flags = and_parts (nat_eq (word_at bytes 0x04) 2 && nat_le 1 (word_at bytes 0x0C))
    (nat_eq (word_at bytes 0x76 % 4) 0) h in
    let play = and_parts (nat_eq (word_at bytes 0x04) 2) (nat_le 1 (word_at bytes 0x0C)) flags.0 in
    (leb-true 1 (word_at bytes 0x0C) play.1, eqb-true (word_at bytes 0x76 % 4) 0 flags.1)

good : (bytes : List ℕ) → has_good_fields bytes ≡ true
    → (1 ≤ word_at bytes 0x0E) × (word_at bytes 0x0E ≤ 256) × (1 ≤ word_at bytes 0x10)
    × (word_at bytes 0x10 ≤ word_at bytes 0x0E)
unfolding has_good_fields
good bytes h =
    let song = and_parts
    (nat_eq (word_at bytes 0x06) 0x7C && nat_le 1 (word_at bytes 0x0E) && nat_le (word_at bytes 0x0E) 256
    && nat_le 1 (word_at bytes 0x10)) (nat_le (word_at bytes 0x10) (word_at bytes 0x0E)) h in
    let start = and_parts
    (nat_eq (word_at bytes 0x06) 0x7C && nat_le 1 (word_at bytes 0x0E) && nat_le (word_at bytes 0x0E) 256)
    (nat_le 1 (word_at bytes 0x10)) song.0 in
    let most = and_parts (nat_eq (word_at bytes 0x06) 0x7C && nat_le 1 (word_at bytes 0x0E))
    (nat_le (word_at bytes 0x0E) 256) start.0 in
    let songs = and_parts (nat_eq (word_at bytes 0x06) 0x7C) (nat_le 1 (word_at bytes 0x0E)) most.0 in (
      leb-true 1 (word_at bytes 0x0E) songs.1,
      leb-true (word_at bytes 0x0E) 256 most.1,
      leb-true 1 (word_at bytes 0x10) start.1,
      leb-true (word_at bytes 0x10) (word_at bytes 0x0E) song.1,
    )

-- what is read
abbrev pub psid_of : List ℕ → Psid
psid_of bytes = record { header = header_of bytes; load = load_of bytes; image = image_of bytes }

psid_of_is_writable : (bytes : List ℕ) → is_supported bytes ≡ true → has_good_fields bytes ≡ true →
    nat_lt ADDRESSES (load_of bytes + length (image_of bytes)) ≡ false
    → IsWritable (header_of bytes) (load_of bytes) (image_of bytes)
unfolding header_of
psid_of_is_writable bytes s g f =
    let kind = supported bytes s in
    let fields = good bytes g in
    record {
      has_play = kind.0;
      has_no_kind = kind.1;
      has_song = fields.0;
      most_songs = fields.1;
      has_start = fields.2;
      start_is_song = fields.3;
      fits = ltb-false ADDRESSES (load_of bytes + length (image_of bytes)) f;
    }

pub read_is_writable : ReadIsWritable
unfolding psid_read
read_is_writable bytes psid h =
    let p = passes (not (bytes_eq (take 4 bytes) (codes "PSID"))) (nat_lt (length bytes) 124) (not (is_supported bytes))
    (not (has_good_fields bytes)) (has_address bytes && nat_lt (length bytes) 126)
    (nat_lt ADDRESSES (load_of bytes + length (image_of bytes))) (psid_of bytes) psid h in
    let P : Psid → Type 0 = λ q. IsWritable q.header q.load q.image in
    let supported = not-false (is_supported bytes) p.0 in
    let good = not-false (has_good_fields bytes) p.1 in
    subst P p.3 (psid_of_is_writable bytes supported good p.2)
