-- All elements of the picture.
use Rattle.std.proofs.Common.{◌≡◌, ℕ, Option, List, [], ◌++◌, length, sym, ap, ◌∙◌}
use Rattle.std.proofs.lemmas.List.Concat.{flat_map-append}
use Rattle.song_chart.specs.declared.plot.Plot.{Plot}
use Rattle.song_chart.specs.declared.picture.Again.{Again}
use Rattle.song_chart.specs.Columns.{greatest}
use Rattle.song_chart.specs.Plot.{plot_of}
use Rattle.song_chart.specs.Elements.{Element, element_text, elements_text}
use Rattle.song_chart.specs.Picture.{frame, legend, axis_names, grid, areas, call_numbers, mark_of, dearest}
use Rattle.song_chart.specs.Picture.{again_shown, picture}

-- elements behind others
join : (a b : List Element) (before after : List ℕ) → before ≡ elements_text a → after ≡ before ++ elements_text b →
    after ≡ elements_text (a ++ b)
join a b before after e f = f ∙ ap (λ text. text ++ elements_text b) e ∙ sym (flat_map-append element_text a b)

pub whole : (subtune : ℕ) (cycles : List ℕ) (again : Option Again) (plot : Plot)
    (none one two three four five six seven all : List ℕ) → plot ≡ plot_of cycles → none ≡ [] →
    one ≡ none ++ elements_text (frame subtune (length cycles)) → two ≡ one ++ elements_text legend →
    three ≡ two ++ elements_text axis_names → four ≡ three ++ elements_text (grid plot.step) →
    five ≡ four ++ elements_text (areas plot cycles) → six ≡ five ++ elements_text (call_numbers (length cycles)) →
    seven ≡ six ++ elements_text (mark_of plot (greatest cycles) (dearest cycles)) →
    all ≡ seven ++ elements_text (again_shown plot (length cycles) again) →
    all ≡ elements_text (picture subtune cycles again)
whole subtune cycles again plot none one two three four five six seven all laid n a b c d e f g h =
    let first = frame subtune (length cycles) in
    let second = first ++ legend in
    let third = second ++ axis_names in
    let fourth = third ++ grid plot.step in
    let fifth = fourth ++ areas plot cycles in
    let sixth = fifth ++ call_numbers (length cycles) in
    let seventh = sixth ++ mark_of plot (greatest cycles) (dearest cycles) in
    join seventh (again_shown plot (length cycles) again) seven all
    (join sixth (mark_of plot (greatest cycles) (dearest cycles)) six seven
    (join fifth (call_numbers (length cycles)) five six
    (join fourth (areas plot cycles) four five
    (join third (grid plot.step) three four
    (join second axis_names two three
    (join first legend one two (a ∙ ap (λ text. text ++ elements_text first) n) b) c) d) e) f) g) h
    ∙ ap (λ (p : Plot). elements_text (second ++ axis_names ++ grid p.step ++ areas p cycles ++ call_numbers (length cycles)
    ++ mark_of p (greatest cycles) (dearest cycles) ++ again_shown p (length cycles) again)) laid
