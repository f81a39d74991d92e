-- How many bytes of a part there are at least, whichever conditions hold.
use Rattle.std.proofs.Common.{◌≡◌, ℕ, ◌+◌, ◌≤◌, ◌==◌, min, if◌then◌else◌}
use Rattle.std.proofs.Common.{replicate, refl, arith, inl, inr}
use Rattle.std.proofs.lemmas.Bool.{cases_Bool}
use Rattle.std.proofs.lemmas.List.Folds.{sum_by-replicate}
use Rattle.std.proofs.lemmas.List.Sums.{sum_by-append}
use Rattle.scopes.specs.Trees.{DoTree, WithTree, NoneTree, ThenTree, ScopeTree, LeaveTree, LeaveIfTree, LoopTree}
use Rattle.scopes.specs.Trees.{AgainTree, AgainIfTree, WhenTree, ChooseTree, NeverTree}
use Rattle.scope_lines.specs.Sizes.{size}
use Rattle.scope_parts.specs.Parts.{parts, bytes_of}
use Rattle.scope_parts.specs.PartLaws.{PartsAreThere}

-- bytes of one part
alike : (part around n m : ℕ) → n ≡ m →
    (if around == part then n else 0) ≤ bytes_of part (replicate m around)
alike part around n m same =
    let all = sum_by-replicate (λ own. if own == part then 1 else 0) m around in
    elim (cases_Bool (around == part)) [
      | inl on ↦ rw (all, on) (omega (arith, same))
      | inr off ↦ rw (all, off) (omega arith)
    ]

both_least : (a b c d : ℕ) → a ≤ c → b ≤ d → a + b ≤ c + d
both_least a b c d h k = omega (arith, h, k)

first_least : (a b c : ℕ) → a ≤ c → min a b ≤ c
first_least a b c h = omega (arith, h)

second_least : (a b c : ℕ) → b ≤ c → min a b ≤ c
second_least a b c h = omega (arith, h)

pub parts_are_there : PartsAreThere
parts_are_there holds part around (ThenTree first rest) =
    rw (sum_by-append (λ own. if own == part then 1 else 0) (parts holds around first) (parts holds around rest))
    (both_least _ _ _ _ (parts_are_there holds part around first) (parts_are_there holds part around rest))
parts_are_there holds part around (ScopeTree name body) = parts_are_there holds part around body
parts_are_there holds part around (LoopTree count body) = parts_are_there holds part around body
parts_are_there holds part around (WhenTree condition body) = omega arith
parts_are_there holds part around (ChooseTree condition this other) = elim (cases_Bool (holds condition)) [
  | inl on ↦ rw on (first_least _ _ _ (parts_are_there holds part condition this))
  | inr off ↦ rw off (second_least _ _ _ (parts_are_there holds part around other))
]
parts_are_there holds part around (DoTree mnemonic) =
    alike part around _ (size holds (DoTree mnemonic)) refl
parts_are_there holds part around (WithTree mnemonic operand) =
    alike part around _ (size holds (WithTree mnemonic operand)) refl
parts_are_there holds part around NoneTree = alike part around 0 0 refl
parts_are_there holds part around (LeaveTree name) = alike part around 3 3 refl
parts_are_there holds part around (LeaveIfTree name test) = alike part around 2 2 refl
parts_are_there holds part around AgainTree = alike part around 3 3 refl
parts_are_there holds part around (AgainIfTree test) = alike part around 2 2 refl
parts_are_there holds part around NeverTree = alike part around 0 0 refl
