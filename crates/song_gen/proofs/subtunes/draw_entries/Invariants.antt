use Rattle.std.proofs.Common.{◌+◌, [], ◌∷◌}
use Rattle.song_gen.specs.Draws.{after, draw}
use Rattle.song_gen.proofs.Loops.{HaveBeenDrawn}
use Rattle.song_gen.proofs.subtunes.draw_entries.Given as goal

abbrev pub invariant-loop-play : goal.invariant-loop-play
invariant-loop-play l =
    HaveBeenDrawn ((0xF0 + draw l.fn.draws.number 0 8) ∷ []) (λ n. draw l.fn.draws.number n 100)
    (λ n. after l.fn.draws.number (1 + n)) 1 l._play l.entries.items l.draws.number
