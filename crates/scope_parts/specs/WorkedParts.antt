-- The parts of a small block, worked by hand.
use Rattle.std.specs.Prelude.{◌≡◌, ◌≢◌, ℕ, Bool, ◌==◌, true, false, List, [], ◌∷◌}
use Rattle.cpu6502.specs.declared.mnemonic.Mnemonic.TheVariants.{Lda, Sta, Tax}
use Rattle.scopes.specs.declared.line.Flag.TheVariants.{Zero}
use Rattle.scopes.specs.declared.line.Test.TheVariants.{On}
use Rattle.scopes.specs.declared.line.Operand.TheVariants.{Number, Var}
use Rattle.scopes.specs.declared.line.Line.{Line}
use Rattle.scopes.specs.declared.line.Line.TheVariants.{Do, With, Scope, Leave, LeaveIf, Loop, Again, AgainIf}
use Rattle.scopes.specs.declared.line.Line.TheVariants.{When, Choose, Or, End}
use Rattle.scopes.specs.Trees.{tree_of}
use Rattle.scope_parts.specs.Parts.{parts, bytes_of}
use Rattle.scope_parts.specs.PartLaws.{most_of, least_of}

-- two bytes under no condition; three under 3, and behind them, under 3 and then 5, two; a branch and a jump under
-- none; and one byte under 7, or two where it doesn't hold
abbrev pub lines : List Line
lines =
    With Lda (Number 1) ∷ Scope 0 ∷ When 3 ∷ With Sta (Var 4) ∷ When 5 ∷ LeaveIf 0 (On Zero) ∷ End ∷ End
    ∷ LeaveIf 0 (On Zero) ∷ Leave 0 ∷ End ∷ Choose 7 ∷ Do Tax ∷ Or ∷ With Lda (Number 2) ∷ End ∷ []

-- a byte in a loop, one and a branch under 5, and a jump
abbrev pub turning : List Line
turning = Loop 2 ∷ Do Tax ∷ When 5 ∷ Do Tax ∷ AgainIf (On Zero) ∷ End ∷ Again ∷ End ∷ []

abbrev pub of_set : List ℕ → (ℕ → Bool) → Type 0
of_set wanted holds = parts holds 255 (tree_of lines) ≡ wanted

abbrev pub none_holds : ℕ → Bool
none_holds condition = false

abbrev pub three_holds : ℕ → Bool
three_holds condition = condition == 3

abbrev pub five_holds : ℕ → Bool
five_holds condition = condition == 5

abbrev pub seven_holds : ℕ → Bool
seven_holds condition = condition == 7

abbrev pub all_hold : ℕ → Bool
all_hold condition = true

pub record PartsAreWorked : Type 0 where
  pub none : of_set (255 ∷ 255 ∷ 255 ∷ 255 ∷ 255 ∷ 255 ∷ 255 ∷ 255 ∷ 255 ∷ []) none_holds
  pub outer : of_set (255 ∷ 255 ∷ 3 ∷ 3 ∷ 3 ∷ 255 ∷ 255 ∷ 255 ∷ 255 ∷ 255 ∷ 255 ∷ 255 ∷ []) three_holds
  -- what stands under 3, too, isn't kept where 5 holds alone
  pub inner : of_set (255 ∷ 255 ∷ 255 ∷ 255 ∷ 255 ∷ 255 ∷ 255 ∷ 255 ∷ 255 ∷ []) five_holds
  pub chosen : of_set (255 ∷ 255 ∷ 255 ∷ 255 ∷ 255 ∷ 255 ∷ 255 ∷ 7 ∷ []) seven_holds
  -- under both it is of the inner one
  pub both : of_set (255 ∷ 255 ∷ 3 ∷ 3 ∷ 3 ∷ 5 ∷ 5 ∷ 255 ∷ 255 ∷ 255 ∷ 255 ∷ 255 ∷ 7 ∷ []) all_hold
  pub not_outer : parts all_hold 255 (tree_of lines)
      ≢ 255 ∷ 255 ∷ 3 ∷ 3 ∷ 3 ∷ 3 ∷ 3 ∷ 255 ∷ 255 ∷ 255 ∷ 255 ∷ 255 ∷ 7 ∷ []
  -- in another part the bytes under no condition are that one's
  pub elsewhere : parts none_holds 9 (tree_of lines) ≡ 9 ∷ 9 ∷ 9 ∷ 9 ∷ 9 ∷ 9 ∷ 9 ∷ 9 ∷ 9 ∷ []
  pub turns : parts none_holds 255 (tree_of turning) ≡ 255 ∷ 255 ∷ 255 ∷ 255 ∷ []
  pub turns_under : parts five_holds 255 (tree_of turning) ≡ 255 ∷ 5 ∷ 5 ∷ 5 ∷ 255 ∷ 255 ∷ 255 ∷ []
  pub three : bytes_of 3 (parts all_hold 255 (tree_of lines)) ≡ 3
  pub most_three : most_of 3 255 (tree_of lines) ≡ 3
  pub most_rest : most_of 255 255 (tree_of lines) ≡ 9
  pub most_seven : most_of 7 255 (tree_of lines) ≡ 1
  pub most_other : most_of 4 255 (tree_of lines) ≡ 0
  -- the loop's bytes under none are always there, but none under one; of a choice no byte is that stands on one side
  pub turns_least : least_of 255 255 (tree_of turning) ≡ 4
  pub turns_none : least_of 5 255 (tree_of turning) ≡ 0
  pub turns_inside : least_of 5 5 (tree_of turning) ≡ 4
  pub lines_least : least_of 255 255 (tree_of lines) ≡ 7
  pub seven_least : least_of 7 7 (tree_of lines) ≡ 8
