use Rattle.std.proofs.Common.{ℕ, List, [], sym, ap, subst, ◌∙◌}
use Rattle.song_cut.specs.Tables.{named_numbers}
use Rattle.song_cut.specs.Seen.{AreSeen, gathered}
use Rattle.song_cut.proofs.Gathering.{gathered_none, below_none, gathered_below, too_many_below}
use Rattle.song_cut.proofs.seen.distinct_pieces.Goals as goal

pub loop-p-init : goal.loop-p-init
loop-p-init c = record {
  numbers_are = c.new-seen.ensures.none
      ∙ sym (ap (gathered []) (below_none c.args.table.now c.args.ways.now) ∙ gathered_none []);
  marked = c.new-seen.ensures.marked;
}

pub returns-then-not-see_pattern-clause-many : goal.returns-then-not-see_pattern-clause-many
returns-then-not-see_pattern-clause-many c =
    too_many_below c.args.table.now c.args.ways.now c.loop-p.p c.loop-p.seen.numbers.items c.loop-p-test.true
    c.loop-p.invariant.numbers_are c.if-not-see_pattern.ensures

pub loop-p-preserved : goal.loop-p-preserved
loop-p-preserved c =
    subst (λ (numbers : List ℕ). AreSeen numbers c.see_pattern.new.self)
    (ap (λ (front : List ℕ). gathered front (named_numbers c.args.table.now c.args.ways.now c.loop-p.p))
    c.loop-p.invariant.numbers_are
    ∙ sym (gathered_below c.args.table.now c.args.ways.now c.loop-p.p))
    c.if-not-see_pattern.ensures
