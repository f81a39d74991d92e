use Rattle.std.proofs.Common.{◌≡◌, ℕ, suc, ◌+◌, refl, sym, ap, ◌∙◌, subst, arith}
use Rattle.song_model.specs.PatternLimits.{IsPattern}
use Rattle.song_gen.specs.GeneratedSong.{row_from, behind_row, behind_rows, pattern_from}
use Rattle.song_gen.proofs.Limits.{pattern_limits}
use Rattle.song_gen.proofs.Loops.{one_more, all_drawn}
use Rattle.song_gen.proofs.patterns.draw_pattern.Goals as goal

next_number : (y j now later : ℕ) → now ≡ behind_rows y j → later ≡ behind_row now → later ≡ behind_rows y (j + 1)
unfolding behind_rows
next_number y j now later e is =
    let n : suc j ≡ j + 1 = omega arith in is ∙ ap behind_row e ∙ ap (behind_rows y) n

pub loop-row-init : goal.loop-row-init
unfolding behind_rows
loop-row-init c = record { items_are = c.new-rows.ensures.items; number_is = refl }

pub loop-row-preserved : goal.loop-row-preserved
loop-row-preserved c =
    let j = c.loop-row._row in
    let so_far = c.loop-row.invariant in
    one_more so_far j (omega arith) c.in_ok-push.ensures.items
    (c.draw_row.ensures.row ∙ ap row_from so_far.number_is)
    (next_number c.args.draws.now.number j _ _ so_far.number_is c.draw_row.ensures.behind)

pub from_vec-requires : goal.from_vec-requires
unfolding pattern_from
from_vec-requires c =
    subst IsPattern
    (sym (all_drawn c.loop-row.invariant 32 c.loop-row.auto._row-end c.loop-row-test.false).items_are)
    (pattern_limits c.args.draws.now.number)

pub returns-clause-pattern : goal.returns-clause-pattern
unfolding pattern_from
returns-clause-pattern c =
    c.from_vec.ensures ∙ (all_drawn c.loop-row.invariant 32 c.loop-row.auto._row-end c.loop-row-test.false).items_are

pub returns-clause-behind : goal.returns-clause-behind
returns-clause-behind c =
    (all_drawn c.loop-row.invariant 32 c.loop-row.auto._row-end c.loop-row-test.false).number_is
