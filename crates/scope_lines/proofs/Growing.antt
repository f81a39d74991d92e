-- On no way does anything become unknown.
use Rattle.std.proofs.Common.{ℕ, Bool, true, false, nat_eq, refl, if◌then◌else◌}
use Rattle.std.proofs.lemmas.Bool.{and_from}
use Rattle.scopes.specs.Trees.{Tree, DoTree, WithTree, NoneTree, ThenTree, ScopeTree, LeaveTree, LeaveIfTree, LoopTree}
use Rattle.scopes.specs.Trees.{AgainTree, AgainIfTree, WhenTree, ChooseTree, NeverTree}
use Rattle.scope_lines.specs.Known.{Known, Ways, everything, both, alone_sets, with_sets, known}
use Rattle.scope_lines.specs.Known.{goes_on, leaves, turns_again, one_of, joined}
use Rattle.scope_lines.proofs.Knowing.{IsWithin, within_itself, within_more, either_right}

within_everything : (one : Known) → IsWithin one everything
within_everything one = record {
  a = λ e. refl;
  x = λ e. refl;
  y = λ e. refl;
  carry = λ e. refl;
  zero = λ e. refl;
  minus = λ e. refl;
  low = λ e. refl;
  high = λ e. refl;
}

within_both : {less : Known} (one two : Known) → IsWithin less one → IsWithin less two → IsWithin less (both one two)
within_both one two p q = record {
  a = λ e. and_from one.a two.a (p.a e) (q.a e);
  x = λ e. and_from one.x two.x (p.x e) (q.x e);
  y = λ e. and_from one.y two.y (p.y e) (q.y e);
  carry = λ e. and_from one.carry two.carry (p.carry e) (q.carry e);
  zero = λ e. and_from one.zero two.zero (p.zero e) (q.zero e);
  minus = λ e. and_from one.minus two.minus (p.minus e) (q.minus e);
  low = λ e. and_from one.low two.low (p.low e) (q.low e);
  high = λ e. and_from one.high two.high (p.high e) (q.high e);
}

within_one : (z : Bool) {less : Known} (one two : Known) → IsWithin less one → IsWithin less two →
    IsWithin less (if z then one else two)
within_one true one two p q = p
within_one false one two p q = q

-- at least this is known on each way
record Grows (before : Known) (ways : Ways) : Type 0 where
  pub done : IsWithin before ways.done
  pub left : (name : ℕ) → IsWithin before (ways.left name)
  pub again : IsWithin before ways.again

goes_on_grows : (reads : Bool) (before after : Known) → IsWithin before after → Grows before (goes_on reads after)
goes_on_grows reads before after w = record {
  done = w;
  left = λ name. within_everything before;
  again = within_everything before;
}

leaves_grows : (reads : Bool) (name : ℕ) (before done : Known) → IsWithin before done →
    Grows before (leaves reads name before done)
leaves_grows reads name before done w = record {
  done = w;
  left = λ other. within_one (nat_eq other name) before everything (within_itself before) (within_everything before);
  again = within_everything before;
}

turns_again_grows : (reads : Bool) (before done : Known) → IsWithin before done →
    Grows before (turns_again reads before done)
turns_again_grows reads before done w = record {
  done = w;
  left = λ name. within_everything before;
  again = within_itself before;
}

one_of_grows : {before : Known} (one two : Ways) → Grows before one → Grows before two → Grows before (one_of one two)
one_of_grows one two p q = record {
  done = within_both one.done two.done p.done q.done;
  left = λ name. within_both (one.left name) (two.left name) (p.left name) (q.left name);
  again = within_both one.again two.again p.again q.again;
}

joined_grows : {before : Known} (one two : Ways) → Grows before one → Grows one.done two → Grows before (joined one two)
joined_grows one two p q = record {
  done = within_more p.done q.done;
  left = λ name. within_both (one.left name) (two.left name) (p.left name) (within_more p.done (q.left name));
  again = within_both one.again two.again p.again (within_more p.done q.again);
}

tree_grows : (tree : Tree) (before : Known) → Grows before (known tree before)
tree_grows (DoTree mnemonic) before = goes_on_grows _ before _ (either_right (alone_sets mnemonic) before)
tree_grows (WithTree mnemonic operand) before =
    goes_on_grows _ before _ (either_right (with_sets mnemonic operand) before)
tree_grows NoneTree before = goes_on_grows true before before (within_itself before)
tree_grows (ThenTree first rest) before =
    joined_grows (known first before) (known rest (known first before).done) (tree_grows first before)
    (tree_grows rest (known first before).done)
tree_grows (ScopeTree name body) before =
    let ways = known body before in
    let more = tree_grows body before in
    record {
      done = within_both ways.done (ways.left name) more.done (more.left name);
      left = λ other. within_one (nat_eq other name) everything (ways.left other) (within_everything before)
          (more.left other);
      again = more.again;
    }
tree_grows (LeaveTree name) before = leaves_grows true name before everything (within_everything before)
tree_grows (LeaveIfTree name test) before = leaves_grows _ name before before (within_itself before)
tree_grows (LoopTree count body) before =
    let more = tree_grows body before in
    record { done = more.done; left = more.left; again = within_everything before }
tree_grows AgainTree before = turns_again_grows true before everything (within_everything before)
tree_grows (AgainIfTree test) before = turns_again_grows _ before before (within_itself before)
tree_grows (WhenTree condition body) before =
    one_of_grows (known body before) (goes_on true before) (tree_grows body before)
    (goes_on_grows true before before (within_itself before))
tree_grows (ChooseTree condition this other) before =
    one_of_grows (known this before) (known other before) (tree_grows this before) (tree_grows other before)
tree_grows NeverTree before = goes_on_grows true before everything (within_everything before)

-- so a turn begins with what the one before it began with
pub turns_grow : (tree : Tree) (before : Known) → IsWithin before (known tree before).again
turns_grow tree before = (tree_grows tree before).again
