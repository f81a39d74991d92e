use Rattle.std.proofs.Common.{[], ◌∷◌}
use Rattle.song_places.specs.Search.{meant}
use Rattle.song_places.proofs.Search.{none_more}
use Rattle.song_places.proofs.PatternPlaces.{first_pattern, patterns_end}
use Rattle.song_places.proofs.patterns.first_in_patterns.Goals as goal

pub returns-in-Some-clause-found : goal.returns-in-Some-clause-found
returns-in-Some-clause-found c =
    first_pattern c.args.song.now (meant c.args.song.now c.args.wanted) c.loop-i.i c.in-Some.place c.loop-i.invariant
    c.in-Some.ensures.found

pub loop-i-preserved : goal.loop-i-preserved
loop-i-preserved c =
    none_more c.args.song.now (meant c.args.song.now c.args.wanted) (2 ∷ []) c.loop-i.i c.loop-i.invariant
    c.in_default.ensures.none

pub returns-clause-none : goal.returns-clause-none
returns-clause-none c =
    patterns_end c.args.song.now (meant c.args.song.now c.args.wanted) c.loop-i.i
    (rw c.as_slice-patterns.ensures.items at c.loop-i-test.false) c.loop-i.invariant
