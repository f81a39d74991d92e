use Rattle.song_places.specs.Search.{meant}
use Rattle.song_places.proofs.PatternPlaces.{not_used}
use Rattle.song_places.proofs.patterns.first_if_used.Goals as goal

pub returns-else-used-from-clause-none : goal.returns-else-used-from-clause-none
returns-else-used-from-clause-none c =
    not_used c.args.song.now (meant c.args.song.now c.args.wanted) c.args.number c.args.used.now c.requires.used
    (λ marked. absurd (let e = rw c.from.ensures at c.if-used-from.false in cc))
