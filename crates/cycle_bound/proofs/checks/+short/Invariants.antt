-- The lines that are left, and their numbers.
use Rattle.std.proofs.Common.{length, ◌≡◌, ◌+◌, ◌*◌, ◌≤◌, ◌<◌, ◌^◌, true}
use Rattle.scopes.specs.Trees.{opened}
use Rattle.scope_lines.specs.Readings.{first_of, are_open}
use Rattle.cycle_bound.specs.Rules.{nodes, asked}
use Rattle.cycle_bound.specs.Lines.{ends_of, kept_setting}
use Rattle.cycle_bound.specs.Private.{short_from}
use Rattle.cycle_bound.proofs.checks.+short.Given as goal

abbrev pub decreases-line_short : goal.decreases-line_short
decreases-line_short l = 3 * length l.rest.now + 2

abbrev pub decreases-inner_short : goal.decreases-inner_short
decreases-inner_short l = 3 * length l.rest.now + 1

abbrev pub decreases-first_short : goal.decreases-first_short
decreases-first_short l = 3 * length l.lines.now

abbrev pub invariant-first_short-loop-line : goal.invariant-first_short-loop-line
invariant-first_short-loop-line l = record {
  is_open : are_open (opened l.left) ≡ true;
  as_many : length l.left_numbers ≡ nodes (first_of (opened l.left));
  room : l.at + length l.left_numbers < 2 ^ 64;
  less : length l.left ≤ length l.lines;
  short : short_from l.at
      (asked (kept_setting l.kept) (ends_of l.ends) l.follows (first_of (opened l.left)) l.left_numbers) l.left_numbers
      ≡ short_from l.place
      (asked (kept_setting l.kept) (ends_of l.ends) l.follows (first_of (opened l.lines)) l.numbers) l.numbers;
}

abbrev pub decreases-first_short-loop-line : goal.decreases-first_short-loop-line
decreases-first_short-loop-line l = length l.left
