-- Where code comes to from a desk: its end, and what holds of the desk there; instruction by instruction.
use Rattle.std.proofs.Common.{◌≡◌, ℕ, suc, ◌<◌, true, false, Some, subst, sym}
use Rattle.cpu6502.specs.declared.mnemonic.Mnemonic.{Mnemonic}
use Rattle.cpu6502.specs.Registers.{with_a}
use Rattle.code_runs.specs.Runs.{put}
use Rattle.scopes.specs.declared.line.Operand.{Operand}
use Rattle.scopes.specs.declared.line.Test.{Test}
use Rattle.scopes.specs.Desk.{Desk, Layout}
use Rattle.scopes.specs.Steps.{done, done_with}
use Rattle.scopes.specs.Meaning.{Outcome, Done, Again, each_one, ran, is_met, turns}
use Rattle.scopes.specs.Trees.{Tree, DoTree, WithTree, NoneTree, ThenTree, LoopTree, AgainIfTree, WhenTree}
use Rattle.std.proofs.Common.{refl}
use Rattle.scopes.specs.declared.line.TheConstants.{OPEN}
use Rattle.scopes.proofs.Laws.{few_turns}

-- the tree ends so, at a desk of which this holds
pub record Goes (layout : Layout) (tree : Tree) (end : Outcome) (P : Desk → Type 0) (d : Desk) : Type 0 where
  pub ends : (ran each_one layout tree d).outcome ≡ end
  pub to : P (ran each_one layout tree d).desk

-- and all that follows
pub goes_on : (layout : Layout) (tree : Tree) (end : Outcome) (P Q : Desk → Type 0) (d : Desk) →
    ((m : Desk) → P m → Q m) → Goes layout tree end P d → Goes layout tree end Q d
goes_on layout tree end P Q d follows goes = record { ends = goes.ends; to = follows _ goes.to }

-- ---- trees

pub then_goes : (layout : Layout) (first rest : Tree) (end : Outcome) (P : Desk → Type 0) (d : Desk) →
    Goes layout first Done (Goes layout rest end P) d → Goes layout (ThenTree first rest) end P d
then_goes layout first rest end P d goes = record { ends = rw goes.ends goes.to.ends; to = rw goes.ends goes.to.to }

pub no_more : (layout : Layout) (P : Desk → Type 0) (d : Desk) → P d → Goes layout NoneTree Done P d
no_more layout P d holds = record { ends = refl; to = holds }

pub kept : (layout : Layout) (condition : ℕ) (body : Tree) (end : Outcome) (P : Desk → Type 0) (d : Desk) →
    layout.holds condition ≡ true → Goes layout body end P d → Goes layout (WhenTree condition body) end P d
kept layout condition body end P d holds goes = record { ends = rw holds goes.ends; to = rw holds goes.to }

pub not_kept : (layout : Layout) (condition : ℕ) (body : Tree) (P : Desk → Type 0) (d : Desk) →
    layout.holds condition ≡ false → P d → Goes layout (WhenTree condition body) Done P d
not_kept layout condition body P d out holds = record { ends = rw out refl; to = rw out holds }

-- ---- loops

-- so many turns
pub record GoesRound (layout : Layout) (count : ℕ) (body : Tree) (P : Desk → Type 0) (d : Desk) : Type 0 where
  pub ends : (turns count (ran each_one layout body) d).outcome ≡ Done
  pub to : P (turns count (ran each_one layout body) d).desk

pub round_on : (layout : Layout) (count : ℕ) (body : Tree) (P Q : Desk → Type 0) (d : Desk) →
    ((m : Desk) → P m → Q m) → GoesRound layout count body P d → GoesRound layout count body Q d
round_on layout count body P Q d follows goes = record { ends = goes.ends; to = follows _ goes.to }

-- a loop that isn't open
pub loop_goes : (layout : Layout) (count : ℕ) (body : Tree) (P : Desk → Type 0) (d : Desk) → count < OPEN →
    GoesRound layout count body P d → Goes layout (LoopTree count body) Done P d
loop_goes layout count body P d few goes =
    let same = few_turns layout.open_turns count few in
    record {
      ends = subst (λ n. (turns n (ran each_one layout body) d).outcome ≡ Done) (sym same) goes.ends;
      to = subst (λ n. P (turns n (ran each_one layout body) d).desk) (sym same) goes.to;
    }

pub turn_more : (layout : Layout) (more : ℕ) (body : Tree) (P : Desk → Type 0) (d : Desk) →
    Goes layout body Again (GoesRound layout more body P) d → GoesRound layout (suc more) body P d
turn_more layout more body P d goes = record { ends = rw goes.ends goes.to.ends; to = rw goes.ends goes.to.to }

pub turn_last : (layout : Layout) (more : ℕ) (body : Tree) (P : Desk → Type 0) (d : Desk) →
    Goes layout body Done P d → GoesRound layout (suc more) body P d
turn_last layout more body P d goes = record { ends = rw goes.ends goes.ends; to = rw goes.ends goes.to }

pub again : (layout : Layout) (test : Test) (rest : Tree) (P : Desk → Type 0) (d : Desk) → is_met test d ≡ true → P d →
    Goes layout (ThenTree (AgainIfTree test) rest) Again P d
again layout test rest P d met holds = record { ends = rw met refl; to = rw met holds }

pub no_turn : (layout : Layout) (test : Test) (P : Desk → Type 0) (d : Desk) → is_met test d ≡ false → P d →
    Goes layout (ThenTree (AgainIfTree test) NoneTree) Done P d
no_turn layout test P d unmet holds = record { ends = rw unmet refl; to = rw unmet holds }

-- ---- instructions, in front of what follows

-- behind a number that is taken into A, and behind A that is stored at a place
abbrev pub loaded : ℕ → Desk → Desk
loaded byte d = record d { cpu = with_a d.cpu byte }

abbrev pub stored : ℕ → Desk → Desk
stored place d = record d { at = put d.at place d.cpu.a }

pub step : (layout : Layout) (mnemonic : Mnemonic) (operand : Operand) (rest : Tree) (end : Outcome)
    (P : Desk → Type 0) (d after : Desk) → done_with layout mnemonic operand d ≡ Some after →
    Goes layout rest end P after → Goes layout (ThenTree (WithTree mnemonic operand) rest) end P d
step layout mnemonic operand rest end P d after e goes = record { ends = rw e goes.ends; to = rw e goes.to }

pub step_alone : (layout : Layout) (mnemonic : Mnemonic) (rest : Tree) (end : Outcome) (P : Desk → Type 0)
    (d after : Desk) → done layout mnemonic d ≡ Some after → Goes layout rest end P after →
    Goes layout (ThenTree (DoTree mnemonic) rest) end P d
step_alone layout mnemonic rest end P d after e goes = record { ends = rw e goes.ends; to = rw e goes.to }
