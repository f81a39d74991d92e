use Rattle.std.proofs.Common.{◌*◌, []}
use Rattle.song_gen.specs.Draws.{after}
use Rattle.song_gen.specs.GeneratedSong.{subtune_from}
use Rattle.song_gen.proofs.Loops.{HaveBeenDrawn}
use Rattle.song_gen.proofs.subtunes.draw_subtunes.Given as goal

abbrev pub invariant-loop-subtune : goal.invariant-loop-subtune
invariant-loop-subtune l =
    HaveBeenDrawn [] (λ s. subtune_from (after l.fn.draws.number (150 * s)))
    (λ s. after l.fn.draws.number (150 * s)) 0 l._subtune l.list.items l.draws.number
