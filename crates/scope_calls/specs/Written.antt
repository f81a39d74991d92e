-- An entrance of what the code has: what it is set up with, and the lines of its blocks.
use Rattle.std.specs.Prelude.{ℕ, Bool, true, List, Option, Some, None, length}
use Rattle.std.specs.Option.{option_map}
use Rattle.scopes.specs.declared.line.Line.{Line}
use Rattle.scopes.specs.Trees.{tree_of}
use Rattle.scope_lines.specs.Readings.{is_block, holds_in}
use Rattle.scope_calls.specs.declared.entrance.Setup.{Setup}
use Rattle.scope_calls.specs.Entrances.{Entrance}

abbrev pub entrance_of : Setup → List Line → Option (List Line) → Entrance
entrance_of setup first voice = record {
  label = setup.label;
  numbered = setup.numbered;
  first = tree_of first;
  voice = option_map tree_of voice;
  pointer = setup.pointer;
  holds = holds_in setup.conditions.0;
}

-- whether the lines for each voice are a block, and how many they are; none are needed
abbrev pub is_voice : Option (List Line) → Bool
is_voice None = true
is_voice (Some lines) = is_block lines

abbrev pub voice_length : Option (List Line) → ℕ
voice_length None = 0
voice_length (Some lines) = length lines
