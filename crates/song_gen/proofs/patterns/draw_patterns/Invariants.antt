use Rattle.std.proofs.Common.{◌*◌, []}
use Rattle.song_gen.specs.GeneratedSong.{pattern_from, behind_rows}
use Rattle.song_gen.proofs.Loops.{HaveBeenDrawn}
use Rattle.song_gen.proofs.patterns.draw_patterns.Given as goal

abbrev pub invariant-loop-pattern : goal.invariant-loop-pattern
invariant-loop-pattern l =
    HaveBeenDrawn [] (λ p. pattern_from (behind_rows l.fn.draws.number (32 * p)))
    (λ p. behind_rows l.fn.draws.number (32 * p)) 0 l._pattern l.list.items l.draws.number
