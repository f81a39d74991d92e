-- What an answer unfolds to compute a picture that is written out.
use Rattle.std.specs.Prelude.{⊤}
use Rattle.std.specs.Fmt.{digits}
use Rattle.song_chart.specs.Elements.{element_text}
use Rattle.song_chart.specs.Picture.{legend, axis_names, frame, grid_line, column_path, path_over, areas, call_numbers}
use Rattle.song_chart.specs.Picture.{triangle, mark_at, turn, again_words, chart_text}

unfoldable pub drawing : ⊤
unfolding digits element_text legend axis_names frame grid_line column_path path_over areas call_numbers triangle mark_at turn again_words chart_text
drawing = tt
