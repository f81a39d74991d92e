-- The least numbers that the rules admit. This is the project's own.
use Rattle.std.specs.Prelude.{ℕ, ◌+◌, ◌*◌, ◌^◌, ◌<◌, ◌++◌, max, if◌then◌else◌, Option, Some, None, List, [], ◌∷◌}
use Rattle.scopes.specs.Trees.{Tree, DoTree, WithTree, NoneTree, ThenTree, ScopeTree, LeaveTree, LeaveIfTree, LoopTree}
use Rattle.scopes.specs.Trees.{AgainTree, AgainIfTree, WhenTree, ChooseTree, NeverTree}
use Rattle.cycle_bound.specs.Rules.{alone_most, with_most, jump_most, passed_most, taken_most, Ends, nowhere, in_scope, Setting}
use Rattle.cycle_bound.specs.Rules.{entry, furthest, Reaches}
use Rattle.cycle_bound.specs.EntranceRules.{voice_most, AdmitsCall}
use Rattle.scopes.specs.Meaning.{turns_in}

-- each number is what its rule asks by the least numbers behind it
abbrev pub least : Setting → Ends → ℕ → Tree → List ℕ
least setting ends behind (DoTree mnemonic) = (alone_most mnemonic + behind) ∷ []
least setting ends behind (WithTree mnemonic operand) = (with_most mnemonic operand + behind) ∷ []
least setting ends behind NoneTree = []
least setting ends behind (ThenTree first rest) =
    least setting ends (entry (least setting ends behind rest) behind) first ++ least setting ends behind rest
least setting ends behind (ScopeTree name body) =
    entry (least setting (in_scope name behind ends) behind body) behind
    ∷ least setting (in_scope name behind ends) behind body
least setting ends behind (LeaveTree name) = (jump_most + ends name) ∷ []
least setting ends behind (LeaveIfTree name test) = max (passed_most + behind) (taken_most + ends name) ∷ []
least setting ends behind (LoopTree count body) =
    (turns_in setting.open_turns count * entry (least setting nowhere 0 body) 0 + max behind (furthest setting.holds ends body))
    ∷ least setting nowhere 0 body
least setting ends behind AgainTree = jump_most ∷ []
least setting ends behind (AgainIfTree test) = max (passed_most + behind) taken_most ∷ []
least setting ends behind (WhenTree condition body) =
    (if setting.holds condition then entry (least setting ends behind body) behind else behind)
    ∷ least setting ends behind body
least setting ends behind (ChooseTree condition this other) =
    (if setting.holds condition then entry (least setting ends behind this) behind
    else entry (least setting ends behind other) behind)
    ∷ (least setting ends behind this ++ least setting ends behind other)
least setting ends behind NeverTree = 0 ∷ []

-- those of a block
abbrev pub least_of : Setting → Tree → List ℕ
least_of setting tree = least setting nowhere 0 tree

-- those of a call: of a block that is done once, and of one that is done for each voice
abbrev pub least_voice : Setting → Option Tree → List ℕ
least_voice setting None = []
least_voice setting (Some block) = least_of setting block

abbrev pub least_all : Setting → Tree → Option Tree → List ℕ
least_all setting first voice =
    (entry (least_of setting first) 0 + voice_most voice (least_voice setting voice))
    ∷ (least_of setting first ++ least_voice setting voice)

-- numbers have room in 64 bits
abbrev pub Fit : List ℕ → Type 0
Fit [] = Unit {0}
Fit (number ∷ numbers) = (number < 2 ^ 64) × Fit numbers

-- they are admitted, and all others that are reach them
pub record AreLeastOf (setting : Setting) (first : Tree) (voice : Option Tree) : Type 0 where
  pub admitted : AdmitsCall setting first voice (least_all setting first voice)
  pub least : (numbers : List ℕ) → AdmitsCall setting first voice numbers →
      Reaches (least_all setting first voice) numbers

abbrev pub LeastAreLeast : Type 0
LeastAreLeast = (setting : Setting) (first : Tree) (voice : Option Tree) → AreLeastOf setting first voice
