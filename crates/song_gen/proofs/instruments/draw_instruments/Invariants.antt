use Rattle.std.proofs.Common.{◌+◌, ◌*◌, []}
use Rattle.song_gen.specs.Draws.{after}
use Rattle.song_gen.specs.GeneratedSong.{instrument_from}
use Rattle.song_gen.proofs.Loops.{HaveBeenDrawn}
use Rattle.song_gen.proofs.instruments.draw_instruments.Given as goal

abbrev pub invariant-loop-index : goal.invariant-loop-index
invariant-loop-index l =
    HaveBeenDrawn [] (λ k. instrument_from (after l.fn.draws.number (3 * k)) (k + 1))
    (λ k. after l.fn.draws.number (3 * k)) 0 l.index l.list.items l.draws.number
