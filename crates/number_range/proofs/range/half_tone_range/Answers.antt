use Rattle.std.proofs.Common.{◌+◌, inl, refl}
use Rattle.number_range.proofs.MadeSets.{set_both}
use Rattle.asked_numbers.proofs.Laws.{range_is}
use Rattle.number_range.proofs.Ends.{half_tone_ends}
use Rattle.number_range.proofs.range.half_tone_range.Goals as goal

pub greatest-last-requires : goal.greatest-last-requires
greatest-last-requires c = record { n = 0; has = (c.union.ensures.each 0).1 (inl ((c.only.ensures.each 0).1 refl)) }

pub returns : goal.returns
returns c =
    range_is c.args.song.now 0 (c.greatest-last.result + 1) c.range_between.result
    (half_tone_ends c.args.song.now c.greatest-last.result c.requires.depends
    (set_both c.only.ensures c.requires.numbers c.union.ensures) c.greatest-last.ensures.has
    c.greatest-last.ensures.greatest)
    c.range_between.ensures.first c.range_between.ensures.end
