-- How many parts there are of a tree, which, and at most how often.
use Rattle.std.proofs.Common.{◌≡◌, ℕ, ◌+◌, ◌≤◌, ◌⊎◌, ◌==◌, max, Bool, true, if◌then◌else◌}
use Rattle.std.proofs.Common.{List, length, All, replicate, refl, ap, ◌∙◌, arith, inl, inr}
use Rattle.std.proofs.lemmas.Bool.{cases_Bool}
use Rattle.std.proofs.lemmas.List.{length-append, length-replicate}
use Rattle.std.proofs.lemmas.List.Elements.{All-nil, All-append, All-replicate, All-weaker}
use Rattle.std.proofs.lemmas.List.Folds.{sum_by-replicate}
use Rattle.std.proofs.lemmas.List.Sums.{sum_by-append}
use Rattle.scopes.specs.Trees.{DoTree, WithTree, NoneTree, ThenTree, ScopeTree, LeaveTree, LeaveIfTree, LoopTree}
use Rattle.scopes.specs.Trees.{AgainTree, AgainIfTree, WhenTree, ChooseTree, NeverTree}
use Rattle.scope_lines.specs.Sizes.{size}
use Rattle.scope_lines.proofs.Laws.{sizes_are_bounded}
use Rattle.scope_parts.specs.Parts.{parts, bytes_of}
use Rattle.scope_parts.specs.PartLaws.{PartsTakeSize, PartsAreKept, PartsAreBounded}

-- ---- how many

pub parts_take_size : PartsTakeSize
parts_take_size holds around (ThenTree first rest) =
    length-append (parts holds around first) (parts holds around rest)
    ∙ ap (λ n. n + length (parts holds around rest)) (parts_take_size holds around first)
    ∙ ap (λ n. size holds first + n) (parts_take_size holds around rest)
parts_take_size holds around (ScopeTree name body) = parts_take_size holds around body
parts_take_size holds around (LoopTree count body) = parts_take_size holds around body
parts_take_size holds around (WhenTree condition body) = elim (cases_Bool (holds condition)) [
  | inl on ↦ rw on (parts_take_size holds condition body)
  | inr off ↦ rw off refl
]
parts_take_size holds around (ChooseTree condition this other) = elim (cases_Bool (holds condition)) [
  | inl on ↦ rw on (parts_take_size holds condition this)
  | inr off ↦ rw off (parts_take_size holds around other)
]
parts_take_size holds around (DoTree mnemonic) = length-replicate (size holds (DoTree mnemonic)) around
parts_take_size holds around (WithTree mnemonic operand) = length-replicate (size holds (WithTree mnemonic operand)) around
parts_take_size holds around NoneTree = length-replicate 0 around
parts_take_size holds around (LeaveTree name) = length-replicate 3 around
parts_take_size holds around (LeaveIfTree name test) = length-replicate 2 around
parts_take_size holds around AgainTree = length-replicate 3 around
parts_take_size holds around (AgainIfTree test) = length-replicate 2 around
parts_take_size holds around NeverTree = length-replicate 0 around

-- ---- which

abbrev IsKept : (ℕ → Bool) → ℕ → ℕ → Type 0
IsKept holds around part = (part ≡ around) ⊎ (holds part ≡ true)

-- under a condition that holds
nearer : (holds : ℕ → Bool) (around condition : ℕ) → holds condition ≡ true → (all : List ℕ) →
    All (IsKept holds condition) all → All (IsKept holds around) all
nearer holds around condition on all kept = All-weaker (IsKept holds condition) (IsKept holds around) weaker all kept
  where
    weaker : (part : ℕ) → IsKept holds condition part → IsKept holds around part
    weaker part (inl is) = inr (ap holds is ∙ on)
    weaker part (inr is) = inr is

around_is : (holds : ℕ → Bool) (around n : ℕ) → All (IsKept holds around) (replicate n around)
around_is holds around n = All-replicate (IsKept holds around) n around (inl refl)

pub parts_are_kept : PartsAreKept
parts_are_kept holds around (ThenTree first rest) =
    All-append (IsKept holds around) (parts holds around first) (parts holds around rest)
    (parts_are_kept holds around first) (parts_are_kept holds around rest)
parts_are_kept holds around (ScopeTree name body) = parts_are_kept holds around body
parts_are_kept holds around (LoopTree count body) = parts_are_kept holds around body
parts_are_kept holds around (WhenTree condition body) = elim (cases_Bool (holds condition)) [
  | inl on ↦
      rw on (nearer holds around condition on (parts holds condition body) (parts_are_kept holds condition body))
  | inr off ↦ rw off (All-nil (IsKept holds around))
]
parts_are_kept holds around (ChooseTree condition this other) = elim (cases_Bool (holds condition)) [
  | inl on ↦
      rw on (nearer holds around condition on (parts holds condition this) (parts_are_kept holds condition this))
  | inr off ↦ rw off (parts_are_kept holds around other)
]
parts_are_kept holds around (DoTree mnemonic) = around_is holds around (size holds (DoTree mnemonic))
parts_are_kept holds around (WithTree mnemonic operand) = around_is holds around (size holds (WithTree mnemonic operand))
parts_are_kept holds around NoneTree = around_is holds around 0
parts_are_kept holds around (LeaveTree name) = around_is holds around 3
parts_are_kept holds around (LeaveIfTree name test) = around_is holds around 2
parts_are_kept holds around AgainTree = around_is holds around 3
parts_are_kept holds around (AgainIfTree test) = around_is holds around 2
parts_are_kept holds around NeverTree = around_is holds around 0

-- ---- at most how often

-- bytes of one part
alike : (part around n m : ℕ) → n ≤ m →
    bytes_of part (replicate n around) ≤ (if around == part then m else 0)
alike part around n m few =
    let all = sum_by-replicate (λ own. if own == part then 1 else 0) n around in
    elim (cases_Bool (around == part)) [
      | inl on ↦ rw (all, on) (omega (arith, few))
      | inr off ↦ rw (all, off) (omega arith)
    ]

both_most : (a b c d : ℕ) → a ≤ c → b ≤ d → a + b ≤ c + d
both_most a b c d h k = omega (arith, h, k)

first_most : (a b c : ℕ) → a ≤ b → a ≤ max b c
first_most a b c h = omega (arith, h)

second_most : (a b c : ℕ) → a ≤ c → a ≤ max b c
second_most a b c h = omega (arith, h)

pub parts_are_bounded : PartsAreBounded
parts_are_bounded holds part around (ThenTree first rest) =
    rw (sum_by-append (λ own. if own == part then 1 else 0) (parts holds around first) (parts holds around rest))
    (both_most _ _ _ _ (parts_are_bounded holds part around first) (parts_are_bounded holds part around rest))
parts_are_bounded holds part around (ScopeTree name body) = parts_are_bounded holds part around body
parts_are_bounded holds part around (LoopTree count body) = parts_are_bounded holds part around body
parts_are_bounded holds part around (WhenTree condition body) = elim (cases_Bool (holds condition)) [
  | inl on ↦ rw on (parts_are_bounded holds part condition body)
  | inr off ↦ rw off (omega arith)
]
parts_are_bounded holds part around (ChooseTree condition this other) = elim (cases_Bool (holds condition)) [
  | inl on ↦ rw on (first_most _ _ _ (parts_are_bounded holds part condition this))
  | inr off ↦ rw off (second_most _ _ _ (parts_are_bounded holds part around other))
]
parts_are_bounded holds part around (DoTree mnemonic) =
    alike part around _ _ (sizes_are_bounded holds (DoTree mnemonic))
parts_are_bounded holds part around (WithTree mnemonic operand) =
    alike part around _ _ (sizes_are_bounded holds (WithTree mnemonic operand))
parts_are_bounded holds part around NoneTree = alike part around _ _ (sizes_are_bounded holds NoneTree)
parts_are_bounded holds part around (LeaveTree name) =
    alike part around _ _ (sizes_are_bounded holds (LeaveTree name))
parts_are_bounded holds part around (LeaveIfTree name test) =
    alike part around _ _ (sizes_are_bounded holds (LeaveIfTree name test))
parts_are_bounded holds part around AgainTree = alike part around _ _ (sizes_are_bounded holds AgainTree)
parts_are_bounded holds part around (AgainIfTree test) =
    alike part around _ _ (sizes_are_bounded holds (AgainIfTree test))
parts_are_bounded holds part around NeverTree = alike part around _ _ (sizes_are_bounded holds NeverTree)
