-- How long the text of a picture is.
use Rattle.std.proofs.Common.{◌≡◌, ℕ, zero, suc, ◌+◌, ◌-◌, ◌*◌, ◌/◌, ◌%◌, ◌<◌, ◌≤◌, ◌==◌, Bool, false, Option, Some}
use Rattle.std.proofs.Common.{None, List, [], ◌∷◌}
use Rattle.std.proofs.Common.{◌++◌, length, max, decimal, nat_le, nat_lt, cond, lit<, lit≤, ap, ◌∙◌, arith, codes}
use Rattle.std.specs.Fmt.{digits, digits_onto, digit_glyph}
use Rattle.std.specs.List.{flat_map, range_with_len}
use Rattle.std.proofs.lemmas.Bool.{cond_both}
use Rattle.std.proofs.lemmas.Fmt.{length-decimal-le}
use Rattle.std.proofs.lemmas.List.{length-append}
use Rattle.std.proofs.Math.Nat.{div-le_self}
use Rattle.song_chart.specs.declared.columns.Shown.{Shown}
use Rattle.song_chart.specs.declared.columns.Shown.TheVariants.{Greatest, Mean}
use Rattle.song_chart.specs.declared.plot.Plot.{Plot}
use Rattle.song_chart.specs.declared.picture.Again.{Again}
use Rattle.song_chart.specs.Columns.{column, cycles_shown, greatest}
use Rattle.song_chart.specs.Plot.{plot_of, height_of, edge_of, columns_to}
use Rattle.song_chart.specs.Shapes.{text_at, line}
use Rattle.song_chart.specs.Elements.{Piece, Words, Number, piece_text, pieces_text, Attribute, attribute_text, Element}
use Rattle.song_chart.specs.Elements.{element_text, elements_text}
use Rattle.song_chart.specs.Picture.{calls_word, frame, legend, axis_names, grid_line, grid, column_path, path_over, areas}
use Rattle.song_chart.specs.Picture.{call_numbers, anchor_at, triangle, mark_at, mark_of, dearest, turn, again_words}
use Rattle.song_chart.specs.Picture.{again_shown}
use Rattle.song_chart.specs.Picture.{picture, svg, chart_text}
use Rattle.song_chart.proofs.Puts.{each_last}
use Rattle.song_chart.proofs.Quotients.{few_parts}

-- ---- decimals

digits_are_few : (most base : ℕ) (upper : Bool) (n : ℕ) (behind : List ℕ) →
    length (digits_onto most base upper n behind) ≤ most + length behind
digits_are_few zero base upper n behind = omega arith
digits_are_few (suc most) base upper n behind =
    cond_both (n / base == 0) (digit_glyph upper (n % base) ∷ behind)
    (digits_onto most base upper (n / base) (digit_glyph upper (n % base) ∷ behind))
    (λ (text : List ℕ). length text ≤ suc most + length behind) (λ yes. omega arith)
    (λ no.
    let more = digits_are_few most base upper (n / base) (digit_glyph upper (n % base) ∷ behind) in omega (arith, more))

decimal_is_short : (n : ℕ) → length (decimal n) ≤ 64
unfolding digits
decimal_is_short n = let few = digits_are_few 64 10 false n [] in omega (arith, few)

-- ---- room for pieces, attributes and elements

abbrev piece_room : Piece → ℕ
piece_room (Words words) = length words
piece_room (Number number) = 64

abbrev pieces_room : List Piece → ℕ
pieces_room [] = 0
pieces_room (piece ∷ pieces) = piece_room piece + pieces_room pieces

abbrev attributes_room : List Attribute → ℕ
attributes_room [] = 0
attributes_room (attribute ∷ attributes) =
    4 + length attribute.0 + piece_room attribute.1 + attributes_room attributes

abbrev element_room : Element → ℕ
element_room element = 6 + 2 * length element.name + attributes_room element.attributes + pieces_room element.inside

abbrev elements_room : List Element → ℕ
elements_room [] = 0
elements_room (element ∷ elements) = element_room element + elements_room elements

piece_fits : (piece : Piece) → length (piece_text piece) ≤ piece_room piece
piece_fits (Words words) = omega arith
piece_fits (Number number) = decimal_is_short number

pub pieces_fit : (pieces : List Piece) → length (pieces_text pieces) ≤ pieces_room pieces
pieces_fit [] = omega arith
pieces_fit (piece ∷ pieces) =
    let first = piece_fits piece in
    let more = pieces_fit pieces in
    let both = length-append (piece_text piece) (pieces_text pieces) in
    omega (arith, first, more, both)

attributes_fit : (attributes : List Attribute) → length (flat_map attribute_text attributes) ≤ attributes_room attributes
attributes_fit [] = omega arith
attributes_fit (attribute ∷ attributes) =
    let value = piece_fits attribute.1 in
    let more = attributes_fit attributes in
    simp length-append (omega (arith, value, more))

element_fits : (element : Element) → length (element_text element) ≤ element_room element
unfolding element_text
element_fits element =
    let attributes = attributes_fit element.attributes in
    let inside = pieces_fit element.inside in
    simp length-append (omega (arith, attributes, inside))

pub elements_fit : (elements : List Element) → length (elements_text elements) ≤ elements_room elements
elements_fit [] = omega arith
elements_fit (element ∷ elements) =
    let first = element_fits element in
    let more = elements_fit elements in
    let both = length-append (element_text element) (elements_text elements) in
    omega (arith, first, more, both)

elements_both : (a b : List Element) → elements_room (a ++ b) ≡ elements_room a + elements_room b
elements_both [] b = omega arith
elements_both (element ∷ a) b = let more = elements_both a b in omega (arith, more)

-- ---- columns

-- the way over a column has at most 3 and 6 digits
column_is_short : (plot : Plot) (cycles place : ℕ) → place < 800 → length (column_path plot cycles place) ≤ 11
unfolding column_path
column_is_short plot cycles place few =
    let high = length-decimal-le 3 (480 - height_of plot cycles) (lit< tt) (omega arith) (omega arith) in
    let part = div-le_self ((place + 1) * 800) (max plot.columns 1) in
    let wide = length-decimal-le 6 (edge_of plot (place + 1)) (lit< tt) (omega (arith, part, few))
    (omega (arith, part, few)) in
    let both = length-append (decimal (480 - height_of plot cycles)) (72 ∷ (decimal (edge_of plot (place + 1)) ++ [])) in
    let last = length-append (decimal (edge_of plot (place + 1))) [] in
    omega (arith, high, wide, both, last)

path_is_short : (shown : Shown) (plot : Plot) (cycles : List ℕ) (columns : ℕ) → columns ≤ 800 →
    length (path_over shown plot cycles columns) ≤ 11 * columns
unfolding path_over
path_is_short shown plot cycles zero few = omega arith
path_is_short shown plot cycles (suc columns) few =
    let step : ℕ → List ℕ = λ k. column_path plot (cycles_shown shown (column plot.per_column cycles k)) k in
    let before : length (flat_map step (range_with_len 0 columns)) ≤ 11 * columns =
    path_is_short shown plot cycles columns (omega (arith, few)) in
    let here = column_is_short plot (cycles_shown shown (column plot.per_column cycles columns)) columns
    (omega (arith, few)) in
    let place : suc columns ≡ columns + 1 = omega arith in
    let long : length (flat_map step (range_with_len 0 (suc columns)))
    ≡ length (flat_map step (range_with_len 0 columns) ++ step columns) =
    ap length (ap (λ n. flat_map step (range_with_len 0 n)) place ∙ each_last step columns) in
    let both = length-append (flat_map step (range_with_len 0 columns)) (step columns) in
    omega (arith, long, both, before, here)

areas_room : (plot : Plot) (cycles : List ℕ) → plot.columns ≤ 800 → elements_room (areas plot cycles) ≤ 18000
unfolding areas
areas_room plot cycles few =
    let greatest = path_is_short Greatest plot cycles plot.columns few in
    let means = path_is_short Mean plot cycles plot.columns few in
    let one = length-append (path_over Greatest plot cycles plot.columns) (codes "V480Z") in
    let two = length-append (path_over Mean plot cycles plot.columns) (codes "V480Z") in
    omega (arith, greatest, means, one, two, few)

-- ---- what stands around them

calls_word_room : (calls : ℕ) → length (calls_word calls) ≤ 6
calls_word_room calls =
    cond_both (calls == 1) (codes " call") (codes " calls") (λ (text : List ℕ). length text ≤ 6) (λ yes. lit≤ tt)
    (λ no. lit≤ tt)

frame_room : (subtune calls : ℕ) → elements_room (frame subtune calls) ≤ 1000
unfolding frame
frame_room subtune calls = let word = calls_word_room calls in omega (arith, word)

legend_room : elements_room legend ≤ 1500
unfolding legend
legend_room = lit≤ tt

axis_names_room : elements_room axis_names ≤ 1000
unfolding axis_names
axis_names_room = lit≤ tt

grid_line_room : (step place : ℕ) → elements_room (grid_line step place) ≤ 1000
unfolding grid_line
grid_line_room step place = omega arith

lines_room : (step n : ℕ) → elements_room (flat_map (grid_line step) (range_with_len 0 n)) ≤ 1000 * n
lines_room step zero = omega arith
lines_room step (suc n) =
    let place : suc n ≡ n + 1 = omega arith in
    let all = ap elements_room (ap (λ k. flat_map (grid_line step) (range_with_len 0 k)) place ∙ each_last (grid_line step) n) in
    let both = elements_both (flat_map (grid_line step) (range_with_len 0 n)) (grid_line step n) in
    let before = lines_room step n in
    let here = grid_line_room step n in
    omega (arith, all, both, before, here)

call_numbers_room : (calls : ℕ) → elements_room (call_numbers calls) ≤ 1000
unfolding call_numbers
call_numbers_room calls =
    let numbers : List Element =
    text_at 80 500 (codes "start") (Number 1 ∷ []) ∷ text_at 880 500 (codes "end") (Number calls ∷ []) ∷ [] in
    cond_both (calls == 0) [] numbers (λ (elements : List Element). elements_room elements ≤ 1000) (λ yes. lit≤ tt)
    (λ no. lit≤ tt)

anchor_room : (x : ℕ) → length (anchor_at x) ≤ 6
anchor_room x =
    cond_both (nat_lt x 300) (codes "start") (cond (nat_lt 660 x) (codes "end") (codes "middle"))
    (λ (text : List ℕ). length text ≤ 6) (λ yes. lit≤ tt)
    (λ no. cond_both (nat_lt 660 x) (codes "end") (codes "middle") (λ (text : List ℕ). length text ≤ 6) (λ yes. lit≤ tt)
    (λ no. lit≤ tt))

triangle_room : (x y : ℕ) → length (triangle x y) ≤ 200
unfolding triangle
triangle_room x y =
    let all =
    pieces_fit (Words (codes "M") ∷ Number x ∷ Words (codes " ") ∷ Number y ∷ Words (codes "l-5 -8h10Z") ∷ []) in
    omega (arith, all)

mark_room : (x : ℕ) (plot : Plot) (cycles call : ℕ) → elements_room (mark_at x plot cycles call) ≤ 1000
unfolding mark_at
mark_room x plot cycles call =
    let tip = triangle_room x (478 - height_of plot cycles) in
    let anchor = anchor_room x in
    omega (arith, tip, anchor)

mark_of_room : (plot : Plot) (cycles : ℕ) (place : Option ℕ) → elements_room (mark_of plot cycles place) ≤ 1000
mark_of_room plot cycles None = lit≤ tt
mark_of_room plot cycles (Some place) = mark_room _ plot cycles (place + 1)

-- ---- where the song begins again

turn_room : (plot : Plot) (calls call : ℕ) (colour dashes : List ℕ) → length colour ≤ 10 → length dashes ≤ 10 →
    elements_room (turn plot calls call colour dashes) ≤ 1000
unfolding turn
turn_room plot calls call colour dashes few short =
    let x = edge_of plot (columns_to plot call) in
    let dashed : List Element = line x 60 x 480 2 colour dashes ∷ [] in
    cond_both (nat_le call calls) dashed [] (λ (elements : List Element). elements_room elements ≤ 1000)
    (λ yes. omega (arith, few, short)) (λ no. lit≤ tt)

again_words_room : (again : Again) → elements_room (again_words again) ≤ 1000
unfolding again_words
again_words_room again = omega arith

again_room : (plot : Plot) (calls : ℕ) (again : Option Again) → elements_room (again_shown plot calls again) ≤ 3000
again_room plot calls None = lit≤ tt
again_room plot calls (Some again) =
    let grey = turn plot calls again.from (codes "#888") (codes "2 4") in
    let bright = turn plot calls (again.from + again.length) (codes "#d95f02") (codes "6 4") in
    let one = turn_room plot calls again.from (codes "#888") (codes "2 4") (lit≤ tt) (lit≤ tt) in
    let two = turn_room plot calls (again.from + again.length) (codes "#d95f02") (codes "6 4") (lit≤ tt) (lit≤ tt) in
    let three = again_words_room again in
    let first = elements_both grey bright in
    let all = elements_both (grey ++ bright) (again_words again) in
    omega (arith, one, two, three, first, all)

-- ---- all of it

elements_short : (subtune : ℕ) (cycles : List ℕ) (again : Option Again) →
    length (elements_text (picture subtune cycles again)) ≤ 40000
elements_short subtune cycles again =
    let plot = plot_of cycles in
    let a = frame subtune (length cycles) in
    let b = a ++ legend in
    let c = b ++ axis_names in
    let d = c ++ grid plot.step in
    let e = d ++ areas plot cycles in
    let f = e ++ call_numbers (length cycles) in
    let g = f ++ mark_of plot (greatest cycles) (dearest cycles) in
    let fits = elements_fit (picture subtune cycles again) in
    let la = frame_room subtune (length cycles) in
    let lb = elements_both a legend in
    let lc = elements_both b axis_names in
    let ld = elements_both c (grid plot.step) in
    let le = elements_both d (areas plot cycles) in
    let lf = elements_both e (call_numbers (length cycles)) in
    let lg = elements_both f (mark_of plot (greatest cycles) (dearest cycles)) in
    let lh = elements_both g (again_shown plot (length cycles) again) in
    let legend_fits = legend_room in
    let names_fit = axis_names_room in
    let grid_fits = lines_room plot.step 7 in
    let areas_fit = areas_room plot cycles (few_parts (length cycles)) in
    let numbers_fit = call_numbers_room (length cycles) in
    let mark_fits = mark_of_room plot (greatest cycles) (dearest cycles) in
    let again_fits = again_room plot (length cycles) again in
    omega (
      arith,
      fits,
      la,
      lb,
      lc,
      ld,
      le,
      lf,
      lg,
      lh,
      legend_fits,
      names_fit,
      grid_fits,
      areas_fit,
      numbers_fit,
      mark_fits,
      again_fits,
    )

pub chart_is_short : (subtune : ℕ) (cycles : List ℕ) (again : Option Again) →
    length (chart_text subtune cycles again) ≤ 65536
unfolding chart_text
chart_is_short subtune cycles again =
    let elements = elements_short subtune cycles again in
    let all = element_fits (svg (elements_text (picture subtune cycles again))) in
    omega (arith, all, elements)
