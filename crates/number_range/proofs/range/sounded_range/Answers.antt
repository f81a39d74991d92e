use Rattle.asked_numbers.proofs.Laws.{range_is}
use Rattle.number_range.proofs.Ends.{sounded_ends, nothing_asked}
use Rattle.number_range.proofs.range.sounded_range.Goals as goal

pub returns-then-has_some : goal.returns-then-has_some
returns-then-has_some c =
    range_is c.args.song.now c.least.result c.greatest.result c.range_between.result
    (sounded_ends c.args.song.now c.least.result c.greatest.result c.requires.plain c.requires.numbers
    c.least.ensures.has c.greatest.ensures.has c.least.ensures.least c.greatest.ensures.greatest)
    c.range_between.ensures.first c.range_between.ensures.end

pub returns-else-has_some : goal.returns-else-has_some
returns-else-has_some c =
    nothing_asked c.args.song.now c.requires.plain c.requires.numbers
    (λ some. let is = c.has_some.ensures.1 some in let not = c.if-has_some.false in cc)
