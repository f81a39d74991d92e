-- Inner: what the code's pieces, attributes and elements say.
use Rattle.std.specs.Prelude.{ℕ, List, map}
use denote.Ref.{Bor}
use Rattle.song_chart.specs.declared.elements.Piece.{Piece as TheirPiece}
use Rattle.song_chart.specs.declared.elements.Piece.TheVariants as theirs
use Rattle.song_chart.specs.Elements.{Piece, Words, Number, Attribute, Element}

abbrev pub piece_of : TheirPiece → Piece
piece_of (theirs.Words words) = Words words.now
piece_of (theirs.Number number) = Number number

abbrev pub attribute_of : Bor (List ℕ) × TheirPiece → Attribute
attribute_of attribute = (attribute.0.now, piece_of attribute.1)

abbrev pub element_of : List ℕ → List (Bor (List ℕ) × TheirPiece) → List TheirPiece → Element
element_of name attributes inside =
    record { name = name; attributes = map attribute_of attributes; inside = map piece_of inside }
