-- The header's fields, put in one after the other, and where each of them stands.
use Rattle.std.proofs.Common.{◌≡◌, ℕ, List, [], ◌∷◌, ◌++◌, length, replicate, refl, sym, ap}
use Rattle.std.proofs.Common.{◌∙◌, arith, append_assoc, length-append}
use Rattle.std.specs.Prelude.{codes}
use Rattle.psid.specs.declared.header.Header.{Header}
use Rattle.psid.specs.Words.{word_bytes, number_bytes, with_bytes}
use Rattle.psid.specs.Format.{header_fields, header_bytes}
use Rattle.psid.specs.FormatLaws.{FieldsStand}
use Rattle.psid.proofs.Pieces.{fill_next}

-- the header before the texts
abbrev pub front_of : Header → List ℕ
front_of header = codes "PSID" ++ word_bytes 2 ++ word_bytes 0x7C ++ word_bytes 0 ++ word_bytes header.init
    ++ word_bytes header.play
    ++ word_bytes header.songs ++ word_bytes header.start_song ++ number_bytes header.speed

-- the header after the texts
abbrev pub end_of : Header → List ℕ
end_of header = word_bytes header.flags ++ 0 ∷ 0 ∷ 0 ∷ 0 ∷ []

-- the header in these parts
pub header_bytes-parts : (header : Header) →
    header_bytes header ≡ front_of header ++ (header.name ++ (header.author ++ (header.released ++ end_of header)))
unfolding header_fields
header_bytes-parts header = refl

-- the header, put into zeros field by field
pub put_in_turn : (header : Header) → length header.name ≡ 32 → length header.author ≡ 32 → length header.released ≡ 32
    → (b1 b2 b3 b4 b5 b6 b7 b8 b9 b10 b11 b12 b13 : List ℕ)
    → b1 ≡ with_bytes (replicate 124 0) 0x00 (codes "PSID")
    → b2 ≡ with_bytes b1 0x04 (word_bytes 2)
    → b3 ≡ with_bytes b2 0x06 (word_bytes 0x7C)
    → b4 ≡ with_bytes b3 0x08 (word_bytes 0)
    → b5 ≡ with_bytes b4 0x0A (word_bytes header.init)
    → b6 ≡ with_bytes b5 0x0C (word_bytes header.play)
    → b7 ≡ with_bytes b6 0x0E (word_bytes header.songs)
    → b8 ≡ with_bytes b7 0x10 (word_bytes header.start_song)
    → b9 ≡ with_bytes b8 0x12 (number_bytes header.speed)
    → b10 ≡ with_bytes b9 0x16 header.name
    → b11 ≡ with_bytes b10 0x36 header.author
    → b12 ≡ with_bytes b11 0x56 header.released
    → b13 ≡ with_bytes b12 0x76 (word_bytes header.flags)
    → b13 ≡ header_bytes header
put_in_turn header n a r b1 b2 b3 b4 b5 b6 b7 b8 b9 b10 b11 b12 b13 e1 e2 e3 e4 e5 e6 e7 e8 e9 e10 e11 e12 e13 =
    let f1 = fill_next (replicate 124 0) b1 [] (codes "PSID") 0 4 120 e1 refl (record { is = refl; size = refl }) in
    let f2 = fill_next b1 b2 _ (word_bytes 2) 0x04 2 118 e2 refl f1 in
    let f3 = fill_next b2 b3 _ (word_bytes 0x7C) 0x06 2 116 e3 refl f2 in
    let f4 = fill_next b3 b4 _ (word_bytes 0) 0x08 2 114 e4 refl f3 in
    let f5 = fill_next b4 b5 _ (word_bytes header.init) 0x0A 2 112 e5 refl f4 in
    let f6 = fill_next b5 b6 _ (word_bytes header.play) 0x0C 2 110 e6 refl f5 in
    let f7 = fill_next b6 b7 _ (word_bytes header.songs) 0x0E 2 108 e7 refl f6 in
    let f8 = fill_next b7 b8 _ (word_bytes header.start_song) 0x10 2 106 e8 refl f7 in
    let f9 = fill_next b8 b9 _ (number_bytes header.speed) 0x12 4 102 e9 refl f8 in
    let f10 = fill_next b9 b10 _ header.name 0x16 32 70 e10 n f9 in
    let f11 = fill_next b10 b11 _ header.author 0x36 32 38 e11 a f10 in
    let f12 = fill_next b11 b12 _ header.released 0x56 32 6 e12 r f11 in
    let f13 = fill_next b12 b13 _ (word_bytes header.flags) 0x76 2 4 e13 refl f12 in
    f13.is ∙ simp append_assoc (sym (header_bytes-parts header))

pub header_bytes-length : (header : Header) → length header.name ≡ 32 → length header.author ≡ 32 →
    length header.released ≡ 32
    → length (header_bytes header) ≡ 124
header_bytes-length header n a r =
    ap (λ (xs : List ℕ). length xs) (header_bytes-parts header) ∙ simp length-append (omega arith)

-- each field stands at its offset
pub fields_stand : FieldsStand
unfolding header_fields
fields_stand header h =
    let n = h.name in let a = h.author in let r = h.released in (
      (
        refl,
        (
          refl,
          (
            refl,
            (
              refl,
              (
                refl,
                (
                  refl,
                  (
                    refl,
                    (
                      refl,
                      (
                        refl,
                        (
                          refl,
                          (omega arith, (omega arith, (omega arith, (omega arith, (omega arith, (omega arith, tt)))))),
                        ),
                      ),
                    ),
                  ),
                ),
              ),
            ),
          ),
        ),
      ),
      header_bytes-length header n a r,
    )
