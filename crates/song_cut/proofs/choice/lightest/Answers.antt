use Rattle.std.proofs.Common.{ℕ, ◌∙◌}
use Rattle.pattern_cut.specs.CutSongs.{Ways}
use Rattle.pattern_cut.specs.Choice.{cut_weight}
use Rattle.song_cut.proofs.ChosenWays.{lightest_of_five, lightest_alike}
use Rattle.song_cut.proofs.choice.lightest.Goals as goal

pub returns : goal.returns
returns c =
    let weighs : Ways → ℕ = cut_weight c.args.song.now in
    let one = c.or_lighter.ensures weighs c.of.ensures.weight c.of-2.ensures.weight in
    let two = c.or_lighter-2.ensures weighs one.1 c.of-3.ensures.weight in
    let three = c.or_lighter-3.ensures weighs two.1 c.of-4.ensures.weight in
    let four = c.or_lighter-4.ensures weighs three.1 c.of-5.ensures.weight in
    lightest_of_five weighs c.of.result.ways c.of-2.result.ways c.of-3.result.ways c.of-4.result.ways
    c.of-5.result.ways c.or_lighter.result.ways c.or_lighter-2.result.ways c.or_lighter-3.result.ways
    c.or_lighter-4.result.ways one.0 two.0 three.0 four.0
    ∙ lightest_alike weighs c.of.result.ways c.of-2.result.ways c.of-3.result.ways c.of-4.result.ways
    c.of-5.result.ways _ _ _ _ _ c.of.ensures.ways c.of-2.ensures.ways c.of-3.ensures.ways c.of-4.ensures.ways
    c.of-5.ensures.ways
