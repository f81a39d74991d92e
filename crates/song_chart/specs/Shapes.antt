-- The elements of which the picture is made. Places are pixels from the left and from the top of 960 by 540. Elements and
-- attributes are those of SVG 1.1.
use Rattle.std.specs.Prelude.{ℕ, List, [], ◌∷◌, codes}
use Rattle.song_chart.specs.Elements.{Piece, Words, Number, Element}

-- a text, of which this place is the start, the middle or the end
abbrev pub text_at : ℕ → ℕ → List ℕ → List Piece → Element
text_at x y anchor inside = record {
  name = codes "text";
  attributes = (codes "x", Number x) ∷ (codes "y", Number y) ∷ (codes "text-anchor", Words anchor) ∷ [];
  inside = inside;
}

-- words that run up or down, with their middle at the place that they are moved to
abbrev pub turned_text : List ℕ → List ℕ → Element
turned_text transform words = record {
  name = codes "text";
  attributes = (codes "transform", Words transform) ∷ (codes "text-anchor", Words (codes "middle")) ∷ [];
  inside = Words words ∷ [];
}

abbrev pub box : ℕ → ℕ → ℕ → ℕ → List ℕ → Element
box x y width height colour = record {
  name = codes "rect";
  attributes = (codes "x", Number x) ∷ (codes "y", Number y) ∷ (codes "width", Number width)
      ∷ (codes "height", Number height) ∷ (codes "fill", Words colour) ∷ [];
  inside = [];
}

-- from a place to another, so many pixels wide
abbrev pub line : ℕ → ℕ → ℕ → ℕ → ℕ → List ℕ → List ℕ → Element
line x y x' y' width colour dashes = record {
  name = codes "line";
  attributes = (codes "x1", Number x) ∷ (codes "y1", Number y) ∷ (codes "x2", Number x') ∷ (codes "y2", Number y')
      ∷ (codes "stroke-width", Number width) ∷ (codes "stroke", Words colour) ∷ (codes "stroke-dasharray", Words dashes) ∷ [];
  inside = [];
}

-- what a path goes round
abbrev pub area : List ℕ → List ℕ → Element
area path colour = record {
  name = codes "path";
  attributes = (codes "d", Words path) ∷ (codes "fill", Words colour) ∷ [];
  inside = [];
}
