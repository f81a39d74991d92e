-- Which lines the code of an image has around those of its blocks, and that they take the bytes with which the parts
-- count them. This is the project's own player.
use Rattle.std.specs.Prelude.{◌≡◌, ℕ, ◌+◌, Bool, List, [], ◌∷◌, ◌++◌, length}
use Rattle.cpu6502.specs.declared.mnemonic.Mnemonic.TheVariants.{Rts}
use Rattle.cpu6502.specs.declared.mnemonic.Mode.TheVariants.{Implied}
use Rattle.asm6502.specs.declared.lines.Operand.TheVariants.{Nothing}
use Rattle.asm6502.specs.declared.lines.Line.{Line}
use Rattle.asm6502.specs.Lines.{size_of}
use Rattle.scopes.specs.Trees.{Tree}
use Rattle.scope_lines.specs.Instructions.{code}
use Rattle.scope_lines.specs.Sizes.{size}
use Rattle.scope_lines.specs.Lines.{block_lines}
use Rattle.scope_calls.specs.Entrances.{lead_lines, call_lines}
use Rattle.player_text.specs.declared.texts.Start.{Start}
use Rattle.player_text.specs.Texts.{filter_tree, voice_tree, init_tree}
use Rattle.player_code.specs.declared.labels.TheConstants.{INIT_CODE, PLAY_CODE}
use Rattle.player_code.specs.CodeLines.{front_lines, middle_lines, cleared_of, code_lines}
use Rattle.image_parts.specs.CodeParts.{front_bytes, call_bytes, between_bytes, back_bytes}

-- in front of the filter's lines the two jumps, the variables and `CLD`
abbrev pub lines_in_front : (ℕ → ℕ) → List ℕ → List Line
lines_in_front places variables = front_lines places variables ++ lead_lines

-- between the voices' lines and those that begin a subtune `RTS`, the label and `CLD`; and behind all `RTS`
abbrev pub lines_between : List Line
lines_between = code Rts Implied Nothing ∷ (middle_lines ++ lead_lines)

abbrev pub lines_behind : List Line
lines_behind = code Rts Implied Nothing ∷ []

-- the lines of three blocks, with these around them and, between the filter and the voices, those that call the voices
pub record StandAround (lines : List Line) (places : ℕ → ℕ) (variables : List ℕ) (pointer : ℕ) (holds : ℕ → Bool)
    (filter voice init : Tree) : Type 0 where
  pub are : lines
      ≡ lines_in_front places variables ++ (block_lines PLAY_CODE pointer holds 1 filter
      ++ (call_lines PLAY_CODE (1 + size holds filter)
      ++ (block_lines PLAY_CODE pointer holds (1 + size holds filter + call_bytes) voice
      ++ (lines_between ++ (block_lines INIT_CODE pointer holds 1 init ++ lines_behind)))))
  pub front_takes : size_of (lines_in_front places variables) ≡ front_bytes (length variables)
  pub calls_take : size_of (call_lines PLAY_CODE (1 + size holds filter)) ≡ call_bytes
  pub between_takes : size_of lines_between ≡ between_bytes
  pub back_takes : size_of lines_behind ≡ back_bytes

-- so it is with the code of an image, wherever its variables stand, and whatever they begin with
abbrev pub LinesStandAround : Type 0
LinesStandAround =
    (places : ℕ → ℕ) (variables : List ℕ) (pointer : ℕ) (holds : ℕ → Bool) (start : Start) →
    StandAround (code_lines places variables pointer holds start) places variables pointer holds filter_tree
    voice_tree (init_tree start (cleared_of (length variables)))
