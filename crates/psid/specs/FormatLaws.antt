-- What a reader may rely on in the definitions of the format.
use Rattle.std.specs.Prelude.{◌≡◌, ◌≢◌, ℕ, ◌+◌, ◌<◌, ◌^◌, List, [], ◌∷◌, length, Ok}
use Rattle.psid.specs.declared.header.Header.{Header}
use Rattle.psid.specs.declared.header.Psid.{Psid}
use Rattle.psid.specs.declared.reading.TheConstants.{ADDRESSES}
use Rattle.psid.specs.Format.{Field, header_fields, header_bytes, psid_bytes, IsWritable, IsHeader}
use Rattle.psid.specs.Reading.{psid_read, init_or_load}

-- there are the addresses of 16 bits
abbrev pub AddressesAre : Type 0
AddressesAre = ADDRESSES ≡ 65536

-- fields that begin at this place: each one where the one before it ends
abbrev pub StandFrom : ℕ → List Field → Type 0
StandFrom place [] = Unit {0}
StandFrom place (field ∷ rest) = (field.offset ≡ place) × StandFrom (place + length field.bytes) rest

-- each field of the table stands at its offset, and the header has 124 bytes
abbrev pub FieldsStand : Type 0
FieldsStand = (header : Header) → IsHeader header →
    StandFrom 0 (header_fields header) × (length (header_bytes header) ≡ 124)

-- what is written is read: the same header, with the image's address where init is 0, the same address, the same image
abbrev pub WrittenIsRead : Type 0
WrittenIsRead = (header : Header) (load : ℕ) (image : List ℕ) → IsHeader header → load < 2 ^ 16 →
    IsWritable header load image
    → psid_read (psid_bytes header load image)
    ≡ Ok (record { header = record header { init = init_or_load header.init load }; load = load; image = image })

-- so where init isn't 0 it is the same header
abbrev pub WrittenIsReadAsIs : Type 0
WrittenIsReadAsIs = (header : Header) (load : ℕ) (image : List ℕ) → IsHeader header → load < 2 ^ 16 →
    IsWritable header load image → header.init ≢ 0
    → psid_read (psid_bytes header load image) ≡ Ok (record { header = header; load = load; image = image })

-- what is read may be written: its image doesn't pass $FFFF, it has 1 to 256 songs, and so on
abbrev pub ReadIsWritable : Type 0
ReadIsWritable = (bytes : List ℕ) (psid : Psid) → psid_read bytes ≡ Ok psid →
    IsWritable psid.header psid.load psid.image
