use Rattle.std.proofs.Common.{[]}
use Rattle.song_gen.specs.GeneratedSong.{row_from, behind_rows}
use Rattle.song_gen.proofs.Loops.{HaveBeenDrawn}
use Rattle.song_gen.proofs.patterns.draw_pattern.Given as goal

abbrev pub invariant-loop-row : goal.invariant-loop-row
invariant-loop-row l =
    HaveBeenDrawn [] (λ j. row_from (behind_rows l.fn.draws.number j)) (behind_rows l.fn.draws.number) 0 l._row
    l.rows.items l.draws.number
