-- What the rules say of what the code has: of single lines, of the scopes around them, and of sets of conditions.
use Rattle.std.specs.Prelude.{ℕ, ◌+◌, max}
use Rattle.scopes.specs.declared.line.Line.{Line}
use Rattle.scopes.specs.declared.line.Line.TheVariants.{Do, With, Leave, LeaveIf, Again, AgainIf}
use Rattle.scope_lines.specs.Readings.{holds_in}
use Rattle.cycle_bound.specs.declared.lines.Kept.{Kept}
use Rattle.cycle_bound.specs.declared.lines.Ends.{Ends as Scopes, Nowhere, Inside'}
use Rattle.cycle_bound.specs.Rules.{Setting, Ends, alone_most, with_most, jump_most, passed_most, taken_most, nowhere}
use Rattle.cycle_bound.specs.Rules.{in_scope}

-- the numbers where the scopes around end
abbrev pub ends_of : Scopes → Ends
ends_of Nowhere = nowhere
ends_of (Inside' name number p outer) = in_scope name number (ends_of outer)

-- what numbers rest on
abbrev pub kept_setting : Kept → Setting
kept_setting kept = record { holds = holds_in kept.conditions.0; open_turns = kept.open_turns }

-- what the number of a line that opens nothing must reach
abbrev pub line_asked : Ends → ℕ → Line → ℕ
line_asked ends behind (Do mnemonic) = alone_most mnemonic + behind
line_asked ends behind (With mnemonic operand) = with_most mnemonic operand + behind
line_asked ends behind (Leave name) = jump_most + ends name
line_asked ends behind (LeaveIf name test) = max (passed_most + behind) (taken_most + ends name)
line_asked ends behind Again = jump_most
line_asked ends behind (AgainIf test) = max (passed_most + behind) taken_most
line_asked ends behind line = 0
