-- The numbers of a line, and those behind.
use Rattle.std.proofs.Common.{rules, take, drop}
use Rattle.scopes.specs.Trees.{opened}
use Rattle.scope_lines.specs.Readings.{first_of}
use Rattle.cycle_bound.specs.Rules.{asked, nodes, behind_first}
use Rattle.cycle_bound.specs.Lines.{ends_of, kept_setting}
use Rattle.cycle_bound.proofs.Bounds.{asked_count}
use Rattle.cycle_bound.proofs.Shorts.{short_both, short_on}
use Rattle.cycle_bound.proofs.checks.+short.Goals as goal

pub first_short-returns-in-Some-line_short : goal.first_short-returns-in-Some-line_short
first_short-returns-in-Some-line_short t c =
    let on = short_on (kept_setting c.args.kept) (ends_of c.args.ends.now) c.args.follows c.in-Some.line.now
    (opened c.in-Some.rest.now) c.loop-line.left_numbers.now c.loop-line.at in
    search (rules, on)

pub first_short-loop-line-preserved : goal.first_short-loop-line-preserved
first_short-loop-line-preserved t c =
    let on = short_on (kept_setting c.args.kept) (ends_of c.args.ends.now) c.args.follows c.in-Some.line.now
    (opened c.in-Some.rest.now) c.loop-line.left_numbers.now c.loop-line.at in
    search (rules, on)

pub inner_short-returns-in-Choose : goal.inner_short-returns-in-Choose
inner_short-returns-in-Choose t c =
    let these = first_of (opened c.args.rest.now) in
    let others = first_of (opened c.count-count.result.1.now) in
    let inner = behind_first c.args.numbers.now in
    let both = short_both c.args.place (nodes these)
    (asked (kept_setting c.args.kept) (ends_of c.args.ends.now) c.args.next these (take (nodes these) inner))
    (asked (kept_setting c.args.kept) (ends_of c.args.ends.now) c.args.next others (drop (nodes these) inner)) inner
    (asked_count (kept_setting c.args.kept) (ends_of c.args.ends.now) c.args.next these (take (nodes these) inner)) in
    search (rules, both)
