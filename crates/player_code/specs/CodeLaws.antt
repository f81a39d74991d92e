-- What holds of an image's listing: it assembles, its labels are in place, and its entrances are well entered. This is
-- the project's own player.
use Rattle.std.specs.Prelude.{◌≡◌, ℕ, ◌+◌, ◌<◌, ◌≤◌, ◌⊎◌, Bool, true, List, length, Some, None}
use Rattle.cpu6502.specs.declared.memory.TheConstants.{MEMORY_SIZE}
use Rattle.asm6502.specs.Lines.{size_of, place_of}
use Rattle.asm6502.specs.Faults.{fault_of}
use Rattle.asm6502.specs.Assembly.{assembled_bytes}
use Rattle.asm6502.specs.Stretches.{HasBytes}
use Rattle.scope_lines.specs.Sizes.{size}
use Rattle.scope_lines.specs.Lowered.{writes_at}
use Rattle.scope_calls.specs.Entrances.{entrance_size}
use Rattle.scope_calls.specs.Listed.{listing_at, layout_at, low_at, high_at, HasCode, IsWellEntered}
use Rattle.player_memory.specs.declared.labels.TheConstants.{VARIABLES}
use Rattle.player_text.specs.declared.texts.Start.{Start}
use Rattle.player_text.specs.Texts.{filter_tree, voice_tree, init_tree}
use Rattle.player_code.specs.CodeLines.{cleared_of, code_lines}
use Rattle.player_code.specs.declared.labels.TheConstants.{INIT_CODE, PLAY_CODE}
use Rattle.player_code.specs.Plans.{Plan, IsPlan, plan_lines, plan_size, code_size, plan_layout, its_play, its_init}
use Rattle.player_code.specs.Plans.{play_listed, init_listed}

-- nothing is wrong with it, at each origin at which it fits
abbrev pub CodeAssembles : Type 0
CodeAssembles =
    (plan : Plan) → IsPlan plan → plan.origin + plan_size plan ≤ MEMORY_SIZE →
    fault_of 0 plan.origin (plan_lines plan) ≡ None

-- the listing around each entrance is the image's, so both have its layout
pub record AreOneListing (plan : Plan) : Type 0 where
  pub play : listing_at (play_listed plan) ≡ plan_lines plan
  pub init : listing_at (init_listed plan) ≡ plan_lines plan
  pub play_layout : layout_at (play_listed plan) ≡ plan_layout plan
  pub init_layout : layout_at (init_listed plan) ≡ plan_layout plan

abbrev pub EntrancesAreInOneListing : Type 0
EntrancesAreInOneListing = (plan : Plan) → IsPlan plan → AreOneListing plan

-- where its labels are: the variables stand behind the two jumps, each at its place; the code that plays a frame behind
-- them, that which begins a subtune behind it, and the lists behind both
pub record AreInPlace (plan : Plan) : Type 0 where
  pub variables : (label : ℕ) → label < VARIABLES →
      (plan_layout plan).address label ≡ plan.origin + (6 + plan.places label)
  pub play : (plan_layout plan).address PLAY_CODE ≡ plan.origin + (6 + length plan.variables)
  pub play_low : low_at (play_listed plan) ≡ plan.origin + (6 + length plan.variables)
  pub init : (plan_layout plan).address INIT_CODE ≡ high_at (play_listed plan)
  pub init_low : low_at (init_listed plan) ≡ high_at (play_listed plan)
  pub init_high : high_at (init_listed plan) ≡ plan.origin + code_size plan
  pub size : code_size plan ≡ 6 + length plan.variables + entrance_size (its_play plan) + entrance_size (its_init plan)
  pub lists : (label place : ℕ) → place_of plan.lists label ≡ Some place →
      (plan_layout plan).address label ≡ plan.origin + code_size plan + place

abbrev pub LabelsStandInPlace : Type 0
LabelsStandInPlace = (plan : Plan) → IsPlan plan → AreInPlace plan

-- The code takes 22 bytes around its variables and its blocks: the jumps 6, and the entrances 14 and 2. So its size is
-- the same wherever the variables are, for any bytes of theirs and any place of the pointer.
abbrev pub code_takes : (ℕ → Bool) → Start → ℕ → ℕ
code_takes holds start variables =
    22 + variables + size holds filter_tree + size holds voice_tree
    + size holds (init_tree start (cleared_of variables))

abbrev pub CodeTakesItsBlocks : Type 0
CodeTakesItsBlocks =
    (places : ℕ → ℕ) (variables : List ℕ) (pointer : ℕ) (holds : ℕ → Bool) (start : Start) →
    size_of (code_lines places variables pointer holds start) ≡ code_takes holds start (length variables)

-- From $0800 up to $D000 both are well entered, where the blocks write in memory, but nowhere in the entrances' lines or
-- on the stack.
pub record WritesApart (plan : Plan) : Type 0 where
  pub below : (place : ℕ) → writes_at (plan_layout plan) place ≡ true → place < MEMORY_SIZE
  pub outside : (place : ℕ) → writes_at (plan_layout plan) place ≡ true →
      (place < plan.origin + (6 + length plan.variables)) ⊎ (plan.origin + code_size plan ≤ place)
  pub off_stack : (place : ℕ) → writes_at (plan_layout plan) place ≡ true → (place < 256) ⊎ (512 ≤ place)

pub record AreWellEntered (plan : Plan) : Type 0 where
  pub play : IsWellEntered (play_listed plan)
  pub init : IsWellEntered (init_listed plan)

abbrev pub CodeIsWellEntered : Type 0
CodeIsWellEntered =
    (plan : Plan) → IsPlan plan → 0x0800 ≤ plan.origin → plan.origin + plan_size plan ≤ 0xD000 → WritesApart plan →
    AreWellEntered plan

-- in any memory with its bytes the code of both stands
pub record CodeStands (plan : Plan) (at : ℕ → ℕ) : Type 0 where
  pub play : HasCode (play_listed plan) at
  pub init : HasCode (init_listed plan) at

abbrev pub AssembledCodeStands : Type 0
AssembledCodeStands =
    (plan : Plan) (at : ℕ → ℕ) → IsPlan plan → plan.origin + plan_size plan ≤ MEMORY_SIZE →
    HasBytes at plan.origin 0 (plan_size plan) (assembled_bytes 0 plan.origin (plan_lines plan)) → CodeStands plan at
