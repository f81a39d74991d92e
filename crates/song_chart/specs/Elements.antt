-- Elements of an SVG picture, as they are written. Names, words and decimals have no sign that XML gives a meaning, so nothing
-- is escaped; the only other text inside an element is that of elements.
use Rattle.std.specs.Prelude.{ℕ, List, ◌++◌, codes, decimal}
use Rattle.std.specs.List.{flat_map}

-- what stands in a text: words, or a number in decimal
pub data Piece : Type 0 where
  Words : (words : List ℕ) → Piece
  Number : (number : ℕ) → Piece

abbrev pub piece_text : Piece → List ℕ
piece_text (Words words) = words
piece_text (Number number) = decimal number

abbrev pub pieces_text : List Piece → List ℕ
pieces_text pieces = flat_map piece_text pieces

-- a name, and the piece that is its value
abbrev pub Attribute : Type 0
Attribute = List ℕ × Piece

abbrev pub attribute_text : Attribute → List ℕ
attribute_text attribute = codes " " ++ attribute.0 ++ codes "=\"" ++ piece_text attribute.1 ++ codes "\""

-- a name, attributes, and what stands inside
pub record Element : Type 0 where
  pub name : List ℕ
  pub attributes : List Attribute
  pub inside : List Piece

unfoldable pub element_text : Element → List ℕ
element_text element =
    codes "<" ++ element.name ++ flat_map attribute_text element.attributes ++ codes ">" ++ pieces_text element.inside
    ++ codes "</" ++ element.name ++ codes ">\n"

-- one behind the other
abbrev pub elements_text : List Element → List ℕ
elements_text elements = flat_map element_text elements
