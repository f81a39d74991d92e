use Rattle.std.proofs.Common.{◌≡◌, true, sym, subst}
use Rattle.std.specs.Result.{IfOk}
use Rattle.pattern_cut.specs.CutSongs.{Ways, cut_with}
use Rattle.pattern_cut.specs.Choice.{fits, cut_song}
use Rattle.pattern_cut.proofs.Laws.{chosen_cuts_fit_lem}
use Rattle.song_cut.proofs.cutting.cut_song.Goals as goal

pub cut_with-requires-clause-fits : goal.cut_with-requires-clause-fits
unfolding cut_song
cut_with-requires-clause-fits c =
    subst (λ (ways : Ways). fits (cut_with c.args.song.now ways) ≡ true) (sym c.chosen_ways-ways.ensures)
    (chosen_cuts_fit_lem c.args.song.now c.requires.limits c.requires.playable)

pub returns : goal.returns
unfolding cut_song
returns c =
    subst (λ (ways : Ways). IfOk c.cut_with.result (λ cut. cut ≡ cut_with c.args.song.now ways))
    c.chosen_ways-ways.ensures
    c.cut_with.ensures
