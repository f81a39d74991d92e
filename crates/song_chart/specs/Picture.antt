-- The picture of the clock cycles that each play of a song takes. This is the project's own.
use Rattle.std.specs.Prelude.{ℕ, ◌+◌, ◌-◌, ◌*◌, ◌/◌, ◌==◌, nat_le, nat_lt, if◌then◌else◌, Option, Some, None}
use Rattle.std.specs.Prelude.{List, [], ◌∷◌, ◌++◌, length, position, codes}
use Rattle.std.specs.List.{flat_map, range_with_len}
use Rattle.song_chart.specs.declared.columns.Shown.{Shown}
use Rattle.song_chart.specs.declared.columns.Shown.TheVariants.{Greatest, Mean}
use Rattle.song_chart.specs.declared.plot.Plot.{Plot}
use Rattle.song_chart.specs.declared.picture.Again.{Again}
use Rattle.song_chart.specs.Columns.{column, greatest, cycles_shown}
use Rattle.song_chart.specs.Plot.{plot_of, height_of, edge_of, columns_to}
use Rattle.song_chart.specs.Elements.{Words, Number, Element, pieces_text, element_text, elements_text}
use Rattle.song_chart.specs.Shapes.{text_at, turned_text, box, line, area}

-- ---- colours, which tell in grey too

abbrev pub light : List ℕ
light = codes "#9ecae1"

abbrev pub dark : List ℕ
dark = codes "#08519c"

-- ---- what stands around the plot

abbrev pub title : Element
title = record {
  name = codes "title";
  attributes = [];
  inside = Words (codes "Clock cycles of each play call") ∷ [];
}

abbrev pub calls_word : ℕ → List ℕ
calls_word calls = if calls == 1 then codes " call" else codes " calls"

abbrev pub heading : ℕ → ℕ → Element
heading subtune calls = record {
  name = codes "text";
  attributes = (codes "x", Number 80) ∷ (codes "y", Number 28) ∷ (codes "font-size", Number 18) ∷ [];
  inside = Words (codes "subtune ") ∷ Number subtune ∷ Words (codes ": ") ∷ Number calls ∷ Words (calls_word calls) ∷ [];
}

unfoldable pub legend : List Element
legend = box 700 16 12 12 light ∷ text_at 718 27 (codes "start") (Words (codes "greatest") ∷ [])
    ∷ box 810 16 12 12 dark ∷ text_at 828 27 (codes "start") (Words (codes "mean") ∷ []) ∷ []

unfoldable pub axis_names : List Element
axis_names = turned_text (codes "translate(14 270) rotate(-90)") (codes "clock cycles")
    ∷ turned_text (codes "translate(942 270) rotate(90)") (codes "raster lines")
    ∷ text_at 480 500 (codes "middle") (Words (codes "calls") ∷ []) ∷ []

unfoldable pub frame : ℕ → ℕ → List Element
frame subtune calls = title ∷ box 0 0 960 540 (codes "#fff") ∷ heading subtune calls ∷ []

-- ---- the grid

-- a grid line, counted from 0 at the foot, with its clock cycles on the left and its raster lines on the right
unfoldable pub grid_line : ℕ → ℕ → List Element
grid_line step place =
    line 80 (480 - 70 * place) 880 (480 - 70 * place) 1 (codes "#ccc") (codes "none")
    ∷ text_at 72 (480 - 70 * place + 5) (codes "end") (Number (place * step * 63) ∷ [])
    ∷ text_at 888 (480 - 70 * place + 5) (codes "start") (Number (place * step) ∷ []) ∷ []

-- seven lines, six steps apart
abbrev pub grid : ℕ → List Element
grid step = flat_map (grid_line step) (range_with_len 0 7)

-- ---- columns

-- up or down to a column's height, and on to its right edge
unfoldable pub column_path : Plot → ℕ → ℕ → List ℕ
column_path plot cycles place =
    pieces_text (Words (codes "V") ∷ Number (480 - height_of plot cycles) ∷ Words (codes "H")
    ∷ Number (edge_of plot (place + 1)) ∷ [])

-- over the first columns, so many
unfoldable pub path_over : Shown → Plot → List ℕ → ℕ → List ℕ
path_over shown plot cycles columns =
    flat_map (λ place. column_path plot (cycles_shown shown (column plot.per_column cycles place)) place)
    (range_with_len 0 columns)

-- from the left end of the foot over all columns, and back to the foot at the right
abbrev pub columns_path : Shown → Plot → List ℕ → List ℕ
columns_path shown plot cycles = codes "M80 480" ++ path_over shown plot cycles plot.columns ++ codes "V480Z"

unfoldable pub areas : Plot → List ℕ → List Element
areas plot cycles =
    area (columns_path Greatest plot cycles) light ∷ area (columns_path Mean plot cycles) dark ∷ []

-- ---- what stands at calls

-- the numbers of the first call and of the last
unfoldable pub call_numbers : ℕ → List Element
call_numbers calls =
    if calls == 0 then []
    else text_at 80 500 (codes "start") (Number 1 ∷ []) ∷ text_at 880 500 (codes "end") (Number calls ∷ []) ∷ []

-- the place of the dearest call, counted from 0: the first of those with the most clock cycles
abbrev pub dearest : List ℕ → Option ℕ
dearest cycles = position (λ call. call == greatest cycles) cycles

-- a text that begins, has its middle or ends at a pixel and stays in the picture
abbrev pub anchor_at : ℕ → List ℕ
anchor_at x = if nat_lt x 300 then codes "start" else if nat_lt 660 x then codes "end" else codes "middle"

-- a triangle whose tip is at a place
unfoldable pub triangle : ℕ → ℕ → List ℕ
triangle x y = pieces_text (Words (codes "M") ∷ Number x ∷ Words (codes " ") ∷ Number y ∷ Words (codes "l-5 -8h10Z") ∷ [])

-- the middle of the column of the call at a place
abbrev pub middle_of : Plot → ℕ → ℕ
middle_of plot place =
    (edge_of plot (place / plot.per_column) + edge_of plot (place / plot.per_column + 1)) / 2

-- a mark at a pixel above so many clock cycles, with the call's number, counted from 1
unfoldable pub mark_at : ℕ → Plot → ℕ → ℕ → List Element
mark_at x plot cycles call =
    area (triangle x (478 - height_of plot cycles)) (codes "#000")
    ∷ text_at x (466 - height_of plot cycles) (anchor_at x)
    (Number cycles ∷ Words (codes " in call ") ∷ Number call ∷ []) ∷ []

-- that of the dearest call, where there is one
abbrev pub mark_of : Plot → ℕ → Option ℕ → List Element
mark_of plot cycles None = []
mark_of plot cycles (Some place) = mark_at (middle_of plot place) plot cycles (place + 1)

-- ---- where the song begins again

-- a dashed line where the column of a call ends, or at the left edge for call 0; none where the call isn't drawn
unfoldable pub turn : Plot → ℕ → ℕ → List ℕ → List ℕ → List Element
turn plot calls call colour dashes =
    if nat_le call calls
    then line (edge_of plot (columns_to plot call)) 60 (edge_of plot (columns_to plot call)) 480 2 colour dashes ∷ []
    else []

unfoldable pub again_words : Again → List Element
again_words again =
    text_at 480 524 (codes "middle")
    (Words (codes "repeats from ") ∷ Number again.from ∷ Words (codes " after ") ∷ Number again.length ∷ [])
    ∷ []

abbrev pub again_shown : Plot → ℕ → Option Again → List Element
again_shown plot calls None = []
again_shown plot calls (Some again) =
    turn plot calls again.from (codes "#888") (codes "2 4")
    ++ turn plot calls (again.from + again.length) (codes "#d95f02") (codes "6 4")
    ++ again_words again

-- ---- all of it

abbrev pub picture : ℕ → List ℕ → Option Again → List Element
picture subtune cycles again =
    frame subtune (length cycles) ++ legend ++ axis_names ++ grid (plot_of cycles).step ++ areas (plot_of cycles) cycles
    ++ call_numbers (length cycles) ++ mark_of (plot_of cycles) (greatest cycles) (dearest cycles)
    ++ again_shown (plot_of cycles) (length cycles) again

abbrev pub svg : List ℕ → Element
svg inside = record {
  name = codes "svg";
  attributes = (codes "xmlns", Words (codes "http://www.w3.org/2000/svg")) ∷ (codes "viewBox", Words (codes "0 0 960 540"))
      ∷ (codes "width", Number 960) ∷ (codes "height", Number 540) ∷ (codes "font-family", Words (codes "sans-serif"))
      ∷ (codes "font-size", Number 14) ∷ (codes "shape-rendering", Words (codes "crispEdges")) ∷ [];
  inside = Words (codes "\n") ∷ Words inside ∷ [];
}

unfoldable pub chart_text : ℕ → List ℕ → Option Again → List ℕ
chart_text subtune cycles again = element_text (svg (elements_text (picture subtune cycles again)))
