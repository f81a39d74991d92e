-- Elements and pictures, worked by hand, and what is refused.
use Rattle.std.specs.Prelude.{◌≡◌, ◌≢◌, ℕ, List, [], ◌∷◌, ◌++◌, Some, None, codes}
use Rattle.song_chart.specs.declared.columns.Shown.TheVariants.{Greatest, Mean}
use Rattle.song_chart.specs.Plot.{plot_of}
use Rattle.song_chart.specs.Elements.{Words, Number, element_text, elements_text}
use Rattle.song_chart.specs.Shapes.{text_at, box, line}
use Rattle.song_chart.specs.Picture.{areas, calls_word, columns_path, path_over, call_numbers, dearest, anchor_at}
use Rattle.song_chart.specs.Picture.{mark_of, turn, again_shown}
use Rattle.song_chart.specs.Picture.{chart_text}
use Rattle.song_chart.specs.WorkedColumns.{five, pairs}

-- an element with attributes and something inside, and one with nothing inside; each is closed
pub record ElementsAreWorked : Type 0 where
  pub with_words : element_text (text_at 72 485 (codes "end") (Number 0 ∷ Words (codes " in call ") ∷ Number 12 ∷ []))
      ≡ codes "<text x=\"72\" y=\"485\" text-anchor=\"end\">0 in call 12</text>\n"
  pub empty : element_text (box 1 2 3 4 (codes "#fff"))
      ≡ codes "<rect x=\"1\" y=\"2\" width=\"3\" height=\"4\" fill=\"#fff\"></rect>\n"
  pub closed : element_text (box 1 2 3 4 (codes "#fff"))
      ≢ codes "<rect x=\"1\" y=\"2\" width=\"3\" height=\"4\" fill=\"#fff\">\n"
  pub in_order : element_text (box 1 2 3 4 (codes "#fff"))
      ≢ codes "<rect y=\"2\" x=\"1\" width=\"3\" height=\"4\" fill=\"#fff\"></rect>\n"

-- the path goes up to each column's height, and on to where the column ends
pub record PathsAreWorked : Type 0 where
  pub none : columns_path Greatest (plot_of []) [] ≡ codes "M80 480V480Z"
  pub one : columns_path Greatest (plot_of (6 ∷ [])) (6 ∷ []) ≡ codes "M80 480V474H880V480Z"
  pub most : columns_path Greatest (plot_of (1400000 ∷ [])) (1400000 ∷ []) ≡ codes "M80 480V169H880V480Z"
  pub greatest : path_over Greatest pairs five 3 ≡ codes "V436H346V472H613V425H880"
  pub means : path_over Mean pairs five 3 ≡ codes "V453H346V473H613V425H880"
  pub not_the_greatest : path_over Mean pairs five 3 ≢ codes "V436H346V472H613V425H880"
  pub all_columns : path_over Greatest pairs five 3 ≢ codes "V436H346V472H613"
  pub means_over_greatest : elements_text (areas pairs five)
      ≡ codes "<path d=\"M80 480V436H346V472H613V425H880V480Z\" fill=\"#9ecae1\"></path>\n"
      ++ codes "<path d=\"M80 480V453H346V473H613V425H880V480Z\" fill=\"#08519c\"></path>\n"
  pub not_exchanged : elements_text (areas pairs five)
      ≢ codes "<path d=\"M80 480V436H346V472H613V425H880V480Z\" fill=\"#08519c\"></path>\n"
      ++ codes "<path d=\"M80 480V453H346V473H613V425H880V480Z\" fill=\"#9ecae1\"></path>\n"

-- the dearest is the first of equals, and its text stays in the picture
pub record MarksAreWorked : Type 0 where
  pub none : dearest [] ≡ None
  pub first : dearest (3 ∷ 5 ∷ 5 ∷ []) ≡ Some 1
  pub not_last : dearest (3 ∷ 5 ∷ 5 ∷ []) ≢ Some 2
  pub no_mark : mark_of (plot_of []) 0 (dearest []) ≡ []
  pub mark : elements_text (mark_of pairs 50 (dearest five))
      ≡ codes "<path d=\"M746 423l-5 -8h10Z\" fill=\"#000\"></path>\n"
      ++ codes "<text x=\"746\" y=\"411\" text-anchor=\"end\">50 in call 5</text>\n"
  pub at_left : anchor_at 299 ≡ codes "start"
  pub after_left : anchor_at 300 ≡ codes "middle"
  pub before_right : anchor_at 660 ≡ codes "middle"
  pub at_right : anchor_at 661 ≡ codes "end"
  pub no_numbers : call_numbers 0 ≡ []
  pub numbers : call_numbers 5
      ≡ text_at 80 500 (codes "start") (Number 1 ∷ []) ∷ text_at 880 500 (codes "end") (Number 5 ∷ []) ∷ []
  pub one_word : calls_word 1 ≡ codes " call"
  pub no_word : calls_word 0 ≡ codes " calls"

-- a line stands where the column of its call ends, if the call is drawn
pub record TurnsAreWorked : Type 0 where
  pub at_start : turn pairs 5 0 (codes "#888") (codes "6 4") ≡ line 80 60 80 480 2 (codes "#888") (codes "6 4") ∷ []
  pub in_column : turn pairs 5 3 (codes "#888") (codes "6 4") ≡ line 613 60 613 480 2 (codes "#888") (codes "6 4") ∷ []
  pub not_before : turn pairs 5 3 (codes "#888") (codes "6 4") ≢ line 346 60 346 480 2 (codes "#888") (codes "6 4") ∷ []
  pub at_end : turn pairs 5 5 (codes "#888") (codes "6 4") ≡ line 880 60 880 480 2 (codes "#888") (codes "6 4") ∷ []
  pub not_drawn : turn pairs 5 6 (codes "#888") (codes "6 4") ≡ []
  pub no_again : again_shown pairs 5 None ≡ []

-- ---- a whole picture

-- five calls, the third and the fourth of which are as dear; what comes after the fifth is what came after the second
abbrev pub whole_text : List ℕ
whole_text =
    codes "<svg xmlns=\"http://www.w3.org/2000/svg\" viewBox=\"0 0 960 540\" width=\"960\" height=\"540\" font-family=\"sans-serif\" font-size=\"14\" shape-rendering=\"crispEdges\">\n"
    ++ codes "<title>Clock cycles of each play call</title>\n"
    ++ codes "<rect x=\"0\" y=\"0\" width=\"960\" height=\"540\" fill=\"#fff\"></rect>\n"
    ++ codes "<text x=\"80\" y=\"28\" font-size=\"18\">subtune 2: 5 calls</text>\n"
    ++ codes "<rect x=\"700\" y=\"16\" width=\"12\" height=\"12\" fill=\"#9ecae1\"></rect>\n"
    ++ codes "<text x=\"718\" y=\"27\" text-anchor=\"start\">greatest</text>\n"
    ++ codes "<rect x=\"810\" y=\"16\" width=\"12\" height=\"12\" fill=\"#08519c\"></rect>\n"
    ++ codes "<text x=\"828\" y=\"27\" text-anchor=\"start\">mean</text>\n"
    ++ codes "<text transform=\"translate(14 270) rotate(-90)\" text-anchor=\"middle\">clock cycles</text>\n"
    ++ codes "<text transform=\"translate(942 270) rotate(90)\" text-anchor=\"middle\">raster lines</text>\n"
    ++ codes "<text x=\"480\" y=\"500\" text-anchor=\"middle\">calls</text>\n"
    ++ codes "<line x1=\"80\" y1=\"480\" x2=\"880\" y2=\"480\" stroke-width=\"1\" stroke=\"#ccc\" stroke-dasharray=\"none\"></line>\n"
    ++ codes "<text x=\"72\" y=\"485\" text-anchor=\"end\">0</text>\n"
    ++ codes "<text x=\"888\" y=\"485\" text-anchor=\"start\">0</text>\n"
    ++ codes "<line x1=\"80\" y1=\"410\" x2=\"880\" y2=\"410\" stroke-width=\"1\" stroke=\"#ccc\" stroke-dasharray=\"none\"></line>\n"
    ++ codes "<text x=\"72\" y=\"415\" text-anchor=\"end\">126</text>\n"
    ++ codes "<text x=\"888\" y=\"415\" text-anchor=\"start\">2</text>\n"
    ++ codes "<line x1=\"80\" y1=\"340\" x2=\"880\" y2=\"340\" stroke-width=\"1\" stroke=\"#ccc\" stroke-dasharray=\"none\"></line>\n"
    ++ codes "<text x=\"72\" y=\"345\" text-anchor=\"end\">252</text>\n"
    ++ codes "<text x=\"888\" y=\"345\" text-anchor=\"start\">4</text>\n"
    ++ codes "<line x1=\"80\" y1=\"270\" x2=\"880\" y2=\"270\" stroke-width=\"1\" stroke=\"#ccc\" stroke-dasharray=\"none\"></line>\n"
    ++ codes "<text x=\"72\" y=\"275\" text-anchor=\"end\">378</text>\n"
    ++ codes "<text x=\"888\" y=\"275\" text-anchor=\"start\">6</text>\n"
    ++ codes "<line x1=\"80\" y1=\"200\" x2=\"880\" y2=\"200\" stroke-width=\"1\" stroke=\"#ccc\" stroke-dasharray=\"none\"></line>\n"
    ++ codes "<text x=\"72\" y=\"205\" text-anchor=\"end\">504</text>\n"
    ++ codes "<text x=\"888\" y=\"205\" text-anchor=\"start\">8</text>\n"
    ++ codes "<line x1=\"80\" y1=\"130\" x2=\"880\" y2=\"130\" stroke-width=\"1\" stroke=\"#ccc\" stroke-dasharray=\"none\"></line>\n"
    ++ codes "<text x=\"72\" y=\"135\" text-anchor=\"end\">630</text>\n"
    ++ codes "<text x=\"888\" y=\"135\" text-anchor=\"start\">10</text>\n"
    ++ codes "<line x1=\"80\" y1=\"60\" x2=\"880\" y2=\"60\" stroke-width=\"1\" stroke=\"#ccc\" stroke-dasharray=\"none\"></line>\n"
    ++ codes "<text x=\"72\" y=\"65\" text-anchor=\"end\">756</text>\n"
    ++ codes "<text x=\"888\" y=\"65\" text-anchor=\"start\">12</text>\n"
    ++ codes "<path d=\"M80 480V425H240V314H400V270H560V270H720V453H880V480Z\" fill=\"#9ecae1\"></path>\n"
    ++ codes "<path d=\"M80 480V425H240V314H400V270H560V270H720V453H880V480Z\" fill=\"#08519c\"></path>\n"
    ++ codes "<text x=\"80\" y=\"500\" text-anchor=\"start\">1</text>\n"
    ++ codes "<text x=\"880\" y=\"500\" text-anchor=\"end\">5</text>\n"
    ++ codes "<path d=\"M480 268l-5 -8h10Z\" fill=\"#000\"></path>\n"
    ++ codes "<text x=\"480\" y=\"256\" text-anchor=\"middle\">379 in call 3</text>\n"
    ++ codes "<line x1=\"400\" y1=\"60\" x2=\"400\" y2=\"480\" stroke-width=\"2\" stroke=\"#888\" stroke-dasharray=\"2 4\"></line>\n"
    ++ codes "<line x1=\"880\" y1=\"60\" x2=\"880\" y2=\"480\" stroke-width=\"2\" stroke=\"#d95f02\" stroke-dasharray=\"6 4\"></line>\n"
    ++ codes "<text x=\"480\" y=\"524\" text-anchor=\"middle\">repeats from 2 after 3</text>\n"
    ++ codes "</svg>\n"

abbrev pub WholePictureIsWorked : Type 0
WholePictureIsWorked =
    chart_text 2 (100 ∷ 300 ∷ 379 ∷ 379 ∷ 50 ∷ []) (Some (record { from = 2; length = 3 })) ≡ whole_text
