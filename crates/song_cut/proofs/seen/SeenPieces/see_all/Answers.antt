use Rattle.std.proofs.Common.{ℕ, List, get_or, sym, ap, subst, ◌∙◌}
use Rattle.song_cut.specs.Seen.{AreSeen, with_number}
use Rattle.song_cut.proofs.Gathering.{gathered_none, gathered_next, too_many}
use Rattle.song_cut.proofs.seen.SeenPieces.see_all.Goals as goal

pub loop-number-init : goal.loop-number-init
loop-number-init c = record {
  numbers_are = sym (gathered_none c.args.self.now.numbers.items);
  marked = c.requires.marked;
}

pub returns-then-not-see : goal.returns-then-not-see
returns-then-not-see c =
    too_many c.args.self.now.numbers.items c.args.numbers.now c.loop-number.self.numbers.items
    c.loop-number.number-index c.loop-number-test.true c.loop-number.invariant.numbers_are c.if-not-see.ensures

pub loop-number-preserved : goal.loop-number-preserved
loop-number-preserved c =
    subst (λ (numbers : List ℕ). AreSeen numbers c.see.new.self)
    (ap (λ (numbers : List ℕ). with_number numbers (get_or c.args.numbers.now c.loop-number.number-index 0))
    c.loop-number.invariant.numbers_are
    ∙ sym (gathered_next c.args.self.now.numbers.items c.args.numbers.now c.loop-number.number-index
    c.loop-number-test.true))
    c.if-not-see.ensures
