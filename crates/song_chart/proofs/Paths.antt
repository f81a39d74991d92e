-- The way over the columns, and how high they are.
use Rattle.std.proofs.Common.{◌≡◌, ℕ, ◌+◌, ◌*◌, ◌≤◌, List, [], ◌++◌, length, sym, ap, ◌∙◌, arith, codes}
use Rattle.std.specs.List.{flat_map, range_with_len}
use Rattle.std.specs.Int.{div_ceil}
use Rattle.std.proofs.lemmas.List.{append_assoc}
use Rattle.song_chart.specs.declared.columns.Shown.{Shown}
use Rattle.song_chart.specs.declared.plot.Plot.{Plot}
use Rattle.song_chart.specs.Columns.{AreCalls, column, cycles_shown}
use Rattle.song_chart.specs.Plot.{plot_of, top_of}
use Rattle.song_chart.specs.Picture.{column_path, path_over}
use Rattle.song_chart.proofs.Greatest.{shown_low, part_low}
use Rattle.song_chart.proofs.Puts.{each_last}
use Rattle.song_chart.proofs.Steps.{step_holds}

-- what is shown of a column is no more than the top
shown_below : (shown : Shown) (cycles : List ℕ) (place : ℕ) → AreCalls cycles →
    cycles_shown shown (column (plot_of cycles).per_column cycles place) ≤ top_of (plot_of cycles)
shown_below shown cycles place are =
    let per = (plot_of cycles).per_column in
    let one = shown_low shown (column per cycles place) in
    let two = part_low (place * per) per cycles in
    let three = step_holds cycles are in
    omega (arith, one, two, three)

pub shown_fits : (shown : Shown) (cycles calls : List ℕ) (plot : Plot) (place value : ℕ) → AreCalls cycles →
    plot ≡ plot_of cycles → calls ≡ column plot.per_column cycles place → value ≡ cycles_shown shown calls →
    value ≤ top_of plot
shown_fits shown cycles calls plot place value are laid is shows =
    let here : value ≡ cycles_shown shown (column (plot_of cycles).per_column cycles place) =
    shows ∙ ap (cycles_shown shown) (is ∙ ap (λ (p : Plot). column p.per_column cycles place) laid) in
    let below = shown_below shown cycles place are in
    let top : top_of plot ≡ top_of (plot_of cycles) = ap top_of laid in
    omega (arith, here, below, top)

-- how many columns there are
pub columns_of : (cycles : List ℕ) (plot : Plot) → plot ≡ plot_of cycles →
    plot.columns ≡ div_ceil (length cycles) plot.per_column
columns_of cycles plot laid =
    ap (λ (p : Plot). p.columns) laid
    ∙ sym (ap (λ n. div_ceil (length cycles) n) (ap (λ (p : Plot). p.per_column) laid))

-- the start of the foot
pub path_begins : (shown : Shown) (plot : Plot) (cycles empty after : List ℕ) → empty ≡ [] →
    after ≡ empty ++ codes "M80 480" → after ≡ codes "M80 480" ++ path_over shown plot cycles 0
unfolding path_over
path_begins shown plot cycles empty after none e = e ∙ ap (λ text. text ++ codes "M80 480") none

-- one column more
pub path_more : (shown : Shown) (plot : Plot) (cycles calls : List ℕ) (place value : ℕ) (before after : List ℕ) →
    calls ≡ column plot.per_column cycles place → value ≡ cycles_shown shown calls →
    before ≡ codes "M80 480" ++ path_over shown plot cycles place → after ≡ before ++ column_path plot value place →
    after ≡ codes "M80 480" ++ path_over shown plot cycles (place + 1)
unfolding path_over
path_more shown plot cycles calls place value before after is shows e f =
    let step : ℕ → List ℕ = λ k. column_path plot (cycles_shown shown (column plot.per_column cycles k)) k in
    let here : value ≡ cycles_shown shown (column plot.per_column cycles place) = shows ∙ ap (cycles_shown shown) is in
    f ∙ ap (λ v. before ++ column_path plot v place) here ∙ ap (λ text. text ++ step place) e
    ∙ append_assoc (codes "M80 480") (flat_map step (range_with_len 0 place)) (step place)
    ∙ ap (λ text. codes "M80 480" ++ text) (sym (each_last step place))

pub path_whole : (shown : Shown) (plot : Plot) (cycles : List ℕ) (place : ℕ) (before after : List ℕ) →
    place ≡ plot.columns → before ≡ codes "M80 480" ++ path_over shown plot cycles place →
    after ≡ before ++ codes "V480Z" →
    after ≡ codes "M80 480" ++ path_over shown plot cycles plot.columns ++ codes "V480Z"
path_whole shown plot cycles place before after all e f =
    f ∙ ap (λ text. text ++ codes "V480Z") (e ∙ ap (λ n. codes "M80 480" ++ path_over shown plot cycles n) all)
