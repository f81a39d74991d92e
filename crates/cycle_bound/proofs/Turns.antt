-- What the rules ask rests on how many turns loops have, and on nothing else of an open loop.
use Rattle.std.proofs.Common.{◌≡◌, ℕ, ◌+◌, ◌*◌, ◌++◌, max, List, ◌∷◌, Option, Some, None, take, drop, refl, ap, ◌∙◌, subst}
use Rattle.std.proofs.Common.{if◌then◌else◌}
use Rattle.scopes.specs.Trees.{Tree, DoTree, WithTree, NoneTree, ThenTree, ScopeTree, LeaveTree, LeaveIfTree, LoopTree}
use Rattle.scopes.specs.Trees.{AgainTree, AgainIfTree, WhenTree, ChooseTree, NeverTree}
use Rattle.scopes.specs.Meaning.{turns_in}
use Rattle.cycle_bound.specs.Rules.{Setting, Ends, nowhere, in_scope, entry, behind_first, furthest, nodes, asked, Reaches}
use Rattle.cycle_bound.specs.EntranceRules.{voice_most, voice_asked, first_numbers, voice_numbers, AdmitsCall}
use Rattle.cycle_bound.proofs.Leasts.{two_lists}

module _ (one two : Setting) (holds : one.holds ≡ two.holds)
    (turns : (count : ℕ) → turns_in one.open_turns count ≡ turns_in two.open_turns count) where
  asked_same : (ends : Ends) (behind : ℕ) (tree : Tree) (numbers : List ℕ) →
      asked one ends behind tree numbers ≡ asked two ends behind tree numbers
  asked_same ends behind (DoTree mnemonic) numbers = refl
  asked_same ends behind (WithTree mnemonic operand) numbers = refl
  asked_same ends behind NoneTree numbers = refl
  asked_same ends behind (ThenTree first rest) numbers =
      two_lists
      (asked_same ends (entry (drop (nodes first) numbers) behind) first (take (nodes first) numbers))
      (asked_same ends behind rest (drop (nodes first) numbers))
  asked_same ends behind (ScopeTree name body) numbers =
      ap (λ l. entry (behind_first numbers) behind ∷ l)
      (asked_same (in_scope name behind ends) behind body (behind_first numbers))
  asked_same ends behind (LeaveTree name) numbers = refl
  asked_same ends behind (LeaveIfTree name test) numbers = refl
  asked_same ends behind (LoopTree count body) numbers =
      ap (λ t. (t * entry (behind_first numbers) 0 + max behind (furthest one.holds ends body))
      ∷ asked one nowhere 0 body (behind_first numbers)) (turns count)
      ∙ (ap (λ h. (turns_in two.open_turns count * entry (behind_first numbers) 0 + max behind (furthest h ends body))
      ∷ asked one nowhere 0 body (behind_first numbers)) holds
      ∙ ap (λ l. (turns_in two.open_turns count * entry (behind_first numbers) 0
      + max behind (furthest two.holds ends body)) ∷ l) (asked_same nowhere 0 body (behind_first numbers)))
  asked_same ends behind AgainTree numbers = refl
  asked_same ends behind (AgainIfTree test) numbers = refl
  asked_same ends behind (WhenTree condition body) numbers =
      ap (λ h. (if h condition then entry (behind_first numbers) behind else behind)
      ∷ asked one ends behind body (behind_first numbers)) holds
      ∙ ap (λ l. (if two.holds condition then entry (behind_first numbers) behind else behind) ∷ l)
      (asked_same ends behind body (behind_first numbers))
  asked_same ends behind (ChooseTree condition this other) numbers =
      ap (λ h. (if h condition then entry (take (nodes this) (behind_first numbers)) behind
      else entry (drop (nodes this) (behind_first numbers)) behind)
      ∷ (asked one ends behind this (take (nodes this) (behind_first numbers))
      ++ asked one ends behind other (drop (nodes this) (behind_first numbers)))) holds
      ∙ ap (λ l. (if two.holds condition then entry (take (nodes this) (behind_first numbers)) behind
      else entry (drop (nodes this) (behind_first numbers)) behind) ∷ l)
      (two_lists (asked_same ends behind this (take (nodes this) (behind_first numbers)))
      (asked_same ends behind other (drop (nodes this) (behind_first numbers))))
  asked_same ends behind NeverTree numbers = refl

  voice_same : (voice : Option Tree) (numbers : List ℕ) → voice_asked one voice numbers ≡ voice_asked two voice numbers
  voice_same None numbers = refl
  voice_same (Some block) numbers = asked_same nowhere 0 block numbers

  -- so the same numbers are admitted
  pub admitted_same : (first : Tree) (voice : Option Tree) (numbers : List ℕ) → AdmitsCall one first voice numbers →
      AdmitsCall two first voice numbers
  admitted_same first voice numbers admitted =
      subst (λ l. Reaches l numbers)
      (ap (λ l. (entry (first_numbers first numbers) 0 + voice_most voice (voice_numbers first numbers)) ∷ l)
      (two_lists (asked_same nowhere 0 first (first_numbers first numbers))
      (voice_same voice (voice_numbers first numbers)))) admitted
