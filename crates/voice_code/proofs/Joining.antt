-- Lines one behind the other: where code comes to, from where its pieces do.
use Rattle.std.proofs.Common.{◌≡◌, ℕ, true, false, nat_eq, refl, sym, ap, ◌∙◌}
use Rattle.std.proofs.lemmas.Bool.{eq-eqb}
use Rattle.scopes.specs.Desk.{Desk, Layout}
use Rattle.scopes.specs.Trees.{Tree, DoTree, WithTree, NoneTree, ThenTree, ScopeTree, LeaveTree, LeaveIfTree, LoopTree}
use Rattle.scopes.specs.Trees.{AgainTree, AgainIfTree, WhenTree, ChooseTree, NeverTree}
use Rattle.scopes.specs.Meaning.{Outcome, Done, Left, Again, Stuck, each_one, ran, out_of_scope}
use Rattle.player_text.specs.Steps.{then_lines}

-- from a desk code comes to another one, and ends or goes on in this way
pub record Comes (layout : Layout) (tree : Tree) (desk : Desk) (o : Outcome) (after : Desk) : Type 0 where
  pub way : (ran each_one layout tree desk).outcome ≡ o
  pub desk_is : (ran each_one layout tree desk).desk ≡ after

-- a run comes where it comes
pub here : (layout : Layout) (tree : Tree) (desk : Desk) (o : Outcome) → (ran each_one layout tree desk).outcome ≡ o →
    Comes layout tree desk o (ran each_one layout tree desk).desk
here layout tree desk o way = record { way = way; desk_is = refl }

-- ---- one tree, and another

pub then_it : (layout : Layout) (tree rest : Tree) (desk mid : Desk) (o : Outcome) (after : Desk) →
    Comes layout tree desk Done mid → Comes layout rest mid o after → Comes layout (ThenTree tree rest) desk o after
then_it layout tree rest desk mid o after one two =
    let way = one.way in let at = one.desk_is in record { way = rw (way, at) two.way; desk_is = rw (way, at) two.desk_is }

pub leaves_it : (layout : Layout) (tree rest : Tree) (desk : Desk) (name : ℕ) (after : Desk) →
    Comes layout tree desk (Left name) after → Comes layout (ThenTree tree rest) desk (Left name) after
leaves_it layout tree rest desk name after one =
    let way = one.way in record { way = rw way refl; desk_is = rw way one.desk_is }

-- ---- lines, and others

-- where two trees come to that aren't done one behind the other
record Within (layout : Layout) (first more : Tree) (desk : Desk) (o : Outcome) (after : Desk) : Type 0 where
  way : (ran each_one layout first desk).outcome ≡ Done
  rest : Comes layout more (ran each_one layout first desk).desk o after

within : (layout : Layout) (first more : Tree) (desk after : Desk) (its : Outcome) →
    (ran each_one layout first desk).outcome ≡ its → Comes layout (ThenTree first more) desk Done after →
    Within layout first more desk Done after
within layout first more desk after Done e comes =
    let same : (ran each_one layout (ThenTree first more) desk).outcome
    ≡ (ran each_one layout more (ran each_one layout first desk).desk).outcome =
    rw e refl in
    let there : (ran each_one layout (ThenTree first more) desk).desk
    ≡ (ran each_one layout more (ran each_one layout first desk).desk).desk =
    rw e refl in
    record { way = e; rest = record { way = sym same ∙ comes.way; desk_is = sym there ∙ comes.desk_is } }
within layout first more desk after (Left name) e comes =
    let same : (ran each_one layout (ThenTree first more) desk).outcome ≡ Left name = rw e refl in
    let no : Left name ≡ Done = sym same ∙ comes.way in absurd (cc)
within layout first more desk after Again e comes =
    let same : (ran each_one layout (ThenTree first more) desk).outcome ≡ Again = rw e refl in
    let no : Again ≡ Done = sym same ∙ comes.way in absurd (cc)
within layout first more desk after Stuck e comes =
    let same : (ran each_one layout (ThenTree first more) desk).outcome ≡ Stuck = rw e refl in
    let no : Stuck ≡ Done = sym same ∙ comes.way in absurd (cc)

-- lines that come to their end go on with those behind them
pub then_on : (layout : Layout) (tree rest : Tree) (desk mid : Desk) (o : Outcome) (after : Desk) →
    Comes layout tree desk Done mid → Comes layout rest mid o after →
    Comes layout (then_lines tree rest) desk o after
then_on layout NoneTree rest desk mid o after one two =
    let at : desk ≡ mid = one.desk_is in rw at two
then_on layout (ThenTree first more) rest desk mid o after one two =
    let cut = within layout first more desk mid (ran each_one layout first desk).outcome refl one in
    then_it layout first (then_lines more rest) desk (ran each_one layout first desk).desk o after
    (here layout first desk Done cut.way)
    (then_on layout more rest (ran each_one layout first desk).desk mid o after cut.rest two)
then_on layout (DoTree mnemonic) rest desk mid o after one two =
    then_it layout (DoTree mnemonic) rest desk mid o after one two
then_on layout (WithTree mnemonic operand) rest desk mid o after one two =
    then_it layout (WithTree mnemonic operand) rest desk mid o after one two
then_on layout (ScopeTree name body) rest desk mid o after one two =
    then_it layout (ScopeTree name body) rest desk mid o after one two
then_on layout (LeaveTree name) rest desk mid o after one two =
    then_it layout (LeaveTree name) rest desk mid o after one two
then_on layout (LeaveIfTree name test) rest desk mid o after one two =
    then_it layout (LeaveIfTree name test) rest desk mid o after one two
then_on layout (LoopTree count body) rest desk mid o after one two =
    then_it layout (LoopTree count body) rest desk mid o after one two
then_on layout AgainTree rest desk mid o after one two = then_it layout AgainTree rest desk mid o after one two
then_on layout (AgainIfTree test) rest desk mid o after one two =
    then_it layout (AgainIfTree test) rest desk mid o after one two
then_on layout (WhenTree condition body) rest desk mid o after one two =
    then_it layout (WhenTree condition body) rest desk mid o after one two
then_on layout (ChooseTree condition this other) rest desk mid o after one two =
    then_it layout (ChooseTree condition this other) rest desk mid o after one two
then_on layout NeverTree rest desk mid o after one two = then_it layout NeverTree rest desk mid o after one two

-- and lines that leave a scope around them leave it
leaves_first : (layout : Layout) (first more rest : Tree) (desk : Desk) (name : ℕ) (after : Desk) (its : Outcome) →
    (ran each_one layout first desk).outcome ≡ its →
    (Comes layout more (ran each_one layout first desk).desk (Left name) after →
    Comes layout (then_lines more rest) (ran each_one layout first desk).desk (Left name) after) →
    Comes layout (ThenTree first more) desk (Left name) after →
    Comes layout (ThenTree first (then_lines more rest)) desk (Left name) after
leaves_first layout first more rest desk name after Done e on comes =
    let same : (ran each_one layout (ThenTree first more) desk).outcome
    ≡ (ran each_one layout more (ran each_one layout first desk).desk).outcome =
    rw e refl in
    let there : (ran each_one layout (ThenTree first more) desk).desk
    ≡ (ran each_one layout more (ran each_one layout first desk).desk).desk =
    rw e refl in
    then_it layout first (then_lines more rest) desk (ran each_one layout first desk).desk (Left name) after
    (here layout first desk Done e)
    (on (record { way = sym same ∙ comes.way; desk_is = sym there ∙ comes.desk_is }))
leaves_first layout first more rest desk name after (Left other) e on comes =
    let same : (ran each_one layout (ThenTree first more) desk).outcome ≡ Left other = rw e refl in
    let there : (ran each_one layout (ThenTree first more) desk).desk ≡ (ran each_one layout first desk).desk =
    rw e refl in
    leaves_it layout first (then_lines more rest) desk name after
    (record { way = e ∙ (sym same ∙ comes.way); desk_is = sym there ∙ comes.desk_is })
leaves_first layout first more rest desk name after Again e on comes =
    let same : (ran each_one layout (ThenTree first more) desk).outcome ≡ Again = rw e refl in
    let no : Again ≡ Left name = sym same ∙ comes.way in absurd (cc)
leaves_first layout first more rest desk name after Stuck e on comes =
    let same : (ran each_one layout (ThenTree first more) desk).outcome ≡ Stuck = rw e refl in
    let no : Stuck ≡ Left name = sym same ∙ comes.way in absurd (cc)

pub leaves_on : (layout : Layout) (tree rest : Tree) (desk : Desk) (name : ℕ) (after : Desk) →
    Comes layout tree desk (Left name) after → Comes layout (then_lines tree rest) desk (Left name) after
leaves_on layout NoneTree rest desk name after one = (let no : Done ≡ Left name = one.way in absurd (cc))
leaves_on layout (ThenTree first more) rest desk name after one =
    leaves_first layout first more rest desk name after (ran each_one layout first desk).outcome refl
    (λ two. leaves_on layout more rest (ran each_one layout first desk).desk name after two) one
leaves_on layout (DoTree mnemonic) rest desk name after one =
    leaves_it layout (DoTree mnemonic) rest desk name after one
leaves_on layout (WithTree mnemonic operand) rest desk name after one =
    leaves_it layout (WithTree mnemonic operand) rest desk name after one
leaves_on layout (ScopeTree other body) rest desk name after one =
    leaves_it layout (ScopeTree other body) rest desk name after one
leaves_on layout (LeaveTree other) rest desk name after one =
    leaves_it layout (LeaveTree other) rest desk name after one
leaves_on layout (LeaveIfTree other test) rest desk name after one =
    leaves_it layout (LeaveIfTree other test) rest desk name after one
leaves_on layout (LoopTree count body) rest desk name after one =
    leaves_it layout (LoopTree count body) rest desk name after one
leaves_on layout AgainTree rest desk name after one =
    leaves_it layout AgainTree rest desk name after one
leaves_on layout (AgainIfTree test) rest desk name after one =
    leaves_it layout (AgainIfTree test) rest desk name after one
leaves_on layout (WhenTree condition body) rest desk name after one =
    leaves_it layout (WhenTree condition body) rest desk name after one
leaves_on layout (ChooseTree condition this other) rest desk name after one =
    leaves_it layout (ChooseTree condition this other) rest desk name after one
leaves_on layout NeverTree rest desk name after one =
    leaves_it layout NeverTree rest desk name after one

-- ---- scopes

pub scope_ends : (layout : Layout) (name : ℕ) (body : Tree) (desk after : Desk) → Comes layout body desk Done after →
    Comes layout (ScopeTree name body) desk Done after
scope_ends layout name body desk after one =
    let way = one.way in record { way = rw way refl; desk_is = one.desk_is }

-- one that is left by its name
pub scope_left : (layout : Layout) (name : ℕ) (body : Tree) (desk after : Desk) →
    Comes layout body desk (Left name) after → Comes layout (ScopeTree name body) desk Done after
scope_left layout name body desk after one =
    let way = one.way in
    let same : nat_eq name name ≡ true = eq-eqb name name refl in
    record { way = rw (way, same) refl; desk_is = one.desk_is }

-- and by another's
pub scope_passed : (layout : Layout) (name other : ℕ) (body : Tree) (desk after : Desk) → nat_eq other name ≡ false →
    Comes layout body desk (Left other) after → Comes layout (ScopeTree name body) desk (Left other) after
scope_passed layout name other body desk after apart one =
    let way = one.way in record { way = rw (way, apart) refl; desk_is = one.desk_is }

-- ---- alone

-- a tree that nothing follows
pub shed : (layout : Layout) (tree : Tree) (desk : Desk) (o : Outcome) (after : Desk) →
    Comes layout (ThenTree tree NoneTree) desk o after → Comes layout tree desk o after
shed layout tree desk o after comes = by_way (ran each_one layout tree desk).outcome refl
  where
    by_way : (its : Outcome) → (ran each_one layout tree desk).outcome ≡ its → Comes layout tree desk o after
    by_way Done e =
        (let way : (ran each_one layout (ThenTree tree NoneTree) desk).outcome ≡ Done = rw e refl in
        let there : (ran each_one layout (ThenTree tree NoneTree) desk).desk ≡ (ran each_one layout tree desk).desk =
        rw e refl in
        record { way = e ∙ (sym way ∙ comes.way); desk_is = sym there ∙ comes.desk_is })
    by_way (Left name) e =
        (let way : (ran each_one layout (ThenTree tree NoneTree) desk).outcome ≡ Left name = rw e refl in
        let there : (ran each_one layout (ThenTree tree NoneTree) desk).desk ≡ (ran each_one layout tree desk).desk =
        rw e refl in
        record { way = e ∙ (sym way ∙ comes.way); desk_is = sym there ∙ comes.desk_is })
    by_way Again e =
        (let way : (ran each_one layout (ThenTree tree NoneTree) desk).outcome ≡ Again = rw e refl in
        let there : (ran each_one layout (ThenTree tree NoneTree) desk).desk ≡ (ran each_one layout tree desk).desk =
        rw e refl in
        record { way = e ∙ (sym way ∙ comes.way); desk_is = sym there ∙ comes.desk_is })
    by_way Stuck e =
        (let way : (ran each_one layout (ThenTree tree NoneTree) desk).outcome ≡ Stuck = rw e refl in
        let there : (ran each_one layout (ThenTree tree NoneTree) desk).desk ≡ (ran each_one layout tree desk).desk =
        rw e refl in
        record { way = e ∙ (sym way ∙ comes.way); desk_is = sym there ∙ comes.desk_is })

-- ---- another tree

-- a scope, or lines with others behind them, come to the same as with another tree that comes to the same
pub scope_same : (layout : Layout) (name : ℕ) (body other : Tree) (desk mid : Desk) →
    Comes layout body desk (ran each_one layout other mid).outcome (ran each_one layout other mid).desk →
    Comes layout (ScopeTree name body) desk (ran each_one layout (ScopeTree name other) mid).outcome
    (ran each_one layout (ScopeTree name other) mid).desk
scope_same layout name body other desk mid one = record { way = ap (out_of_scope name) one.way; desk_is = one.desk_is }

pub then_same : (layout : Layout) (tree other rest : Tree) (desk mid : Desk) →
    Comes layout tree desk (ran each_one layout other mid).outcome (ran each_one layout other mid).desk →
    Comes layout (ThenTree tree rest) desk (ran each_one layout (ThenTree other rest) mid).outcome
    (ran each_one layout (ThenTree other rest) mid).desk
then_same layout tree other rest desk mid one = by_way (ran each_one layout other mid).outcome refl
  where
    by_way : (its : Outcome) → (ran each_one layout other mid).outcome ≡ its →
        Comes layout (ThenTree tree rest) desk (ran each_one layout (ThenTree other rest) mid).outcome
        (ran each_one layout (ThenTree other rest) mid).desk
    by_way Done e = (let way = one.way ∙ e in let at = one.desk_is in record { way = rw (way, e, at) refl; desk_is = rw (way, e, at) refl })
    by_way (Left name) e = (let way = one.way ∙ e in record { way = rw (way, e) refl; desk_is = rw (way, e) one.desk_is })
    by_way Again e = (let way = one.way ∙ e in record { way = rw (way, e) refl; desk_is = rw (way, e) one.desk_is })
    by_way Stuck e = (let way = one.way ∙ e in record { way = rw (way, e) refl; desk_is = rw (way, e) one.desk_is })
