use Rattle.song_chart.proofs.Wholes.{whole}
use Rattle.song_chart.proofs.picture.elements_of.Goals as goal

pub returns : goal.returns
returns c =
    whole c.args.subtune c.args.cycles.now c.args.again c.of-plot.result _ _ _ _ _ _ _ _ _ c.of-plot.ensures
    c.new-out.ensures c.in_ok-put_frame.ensures c.in_ok-put_legend.ensures c.in_ok-put_axis_names.ensures
    c.in_ok-put_grid.ensures c.in_ok-put_areas.ensures c.in_ok-put_call_numbers.ensures c.in_ok-put_dearest.ensures
    c.in_ok-put_again.ensures
