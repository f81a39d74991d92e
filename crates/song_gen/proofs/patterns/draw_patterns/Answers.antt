use Rattle.std.proofs.Common.{refl, ap, ◌∙◌, arith}
use Rattle.song_gen.specs.GeneratedSong.{behind_rows, pattern_from, patterns_from}
use Rattle.song_gen.proofs.Loops.{rows_more, one_more, all_drawn, drawn_count}
use Rattle.song_gen.proofs.patterns.draw_patterns.Goals as goal

pub loop-pattern-init : goal.loop-pattern-init
unfolding behind_rows
loop-pattern-init c = record { items_are = c.new-list.ensures.items; number_is = refl }

pub loop-pattern-preserved : goal.loop-pattern-preserved
loop-pattern-preserved c =
    let p = c.loop-pattern._pattern in
    let so_far = c.loop-pattern.invariant in
    one_more so_far p (omega arith) c.in_ok-push.ensures.items
    (c.in_ok-draw_pattern.ensures.pattern ∙ ap pattern_from so_far.number_is)
    (rows_more c.args.draws.now.number 32 p _ _ so_far.number_is c.in_ok-draw_pattern.ensures.behind)

-- all hundred
pub from_vec-requires : goal.from_vec-requires
from_vec-requires c =
    let e = drawn_count (all_drawn c.loop-pattern.invariant 100 c.loop-pattern.auto._pattern-end c.loop-pattern-test.false)
    in
    omega (arith, e)

pub returns-clause-patterns : goal.returns-clause-patterns
unfolding patterns_from
returns-clause-patterns c =
    c.from_vec.ensures
    ∙ (all_drawn c.loop-pattern.invariant 100 c.loop-pattern.auto._pattern-end c.loop-pattern-test.false).items_are

pub returns-clause-behind : goal.returns-clause-behind
returns-clause-behind c =
    (all_drawn c.loop-pattern.invariant 100 c.loop-pattern.auto._pattern-end c.loop-pattern-test.false).number_is
