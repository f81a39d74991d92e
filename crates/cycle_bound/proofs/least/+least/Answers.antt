-- The numbers of a line, of those in it, and of those behind.
use Rattle.std.proofs.Common.{rules, ◌≡◌, true}
use Rattle.scopes.specs.Trees.{opened, led}
use Rattle.scope_lines.specs.Readings.{first_of, are_open}
use Rattle.cycle_bound.specs.Rules.{entry}
use Rattle.cycle_bound.specs.Least.{least}
use Rattle.cycle_bound.specs.Lines.{ends_of, kept_setting}
use Rattle.cycle_bound.specs.Private.{head_of, rest_of, has_number}
use Rattle.cycle_bound.proofs.Pushing.{line_pushed, first_pushed}
use Rattle.cycle_bound.proofs.Fits.{fits_on, least_on, least_some, choice_fits}
use Rattle.cycle_bound.proofs.least.+least.Goals as goal

pub push_least-push_least-requires : goal.push_least-push_least-requires
push_least-push_least-requires t c =
    let fits = fits_on (kept_setting c.args.kept) (ends_of c.args.ends.now) c.args.follows c.in-Some.line.now
    (opened c.in-Some.rest.now) in
    search (rules, fits)

pub push_least-push_inner-requires : goal.push_least-push_inner-requires
push_least-push_inner-requires t c =
    let fits = fits_on (kept_setting c.args.kept) (ends_of c.args.ends.now) c.args.follows c.in-Some.line.now
    (opened c.in-Some.rest.now) in
    search (rules, fits)

pub push_least-returns-in_ok-push-in-Some : goal.push_least-returns-in_ok-push-in-Some
push_least-returns-in_ok-push-in-Some t c =
    let setting = kept_setting c.args.kept in
    let ends = ends_of c.args.ends.now in
    let line = c.in-Some.line.now in
    let opens = opened c.in-Some.rest.now in
    let rest = least setting ends c.args.follows (rest_of (first_of (led line opens))) in
    let own = least setting ends (entry rest c.args.follows) (head_of (first_of (led line opens))) in
    let is_open : are_open (led line opens) ≡ true = search rules in
    let number : has_number line ≡ true = search rules in
    let on = least_on setting ends c.args.follows line opens is_open number in
    let some = least_some setting ends (entry rest c.args.follows) line opens is_open number in
    let pushed = line_pushed c.args.numbers.now own rest some in
    let first = first_pushed own rest c.args.follows some in
    search (rules, on, pushed, first)

pub push_inner-push_least-requires-in-Choose : goal.push_inner-push_least-requires-in-Choose
push_inner-push_least-requires-in-Choose t c =
    let fits = choice_fits (kept_setting c.args.kept) (ends_of c.args.ends.now) c.args.next c.args.line.now
    c.in-Choose.condition (opened c.args.rest.now) c.in-Choose.is c.requires.is_open c.requires.fit in
    let other = fits.1 in
    search (rules, other)

pub push_inner-push_least-requires-in-Choose-2 : goal.push_inner-push_least-requires-in-Choose-2
push_inner-push_least-requires-in-Choose-2 t c =
    let fits = choice_fits (kept_setting c.args.kept) (ends_of c.args.ends.now) c.args.next c.args.line.now
    c.in-Choose.condition (opened c.args.rest.now) c.in-Choose.is c.requires.is_open c.requires.fit in
    let this = fits.0 in
    search (rules, this)
