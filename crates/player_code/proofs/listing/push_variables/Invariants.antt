-- The variables so far and those that are left.
use Rattle.std.proofs.Common.{◌≡◌, ◌++◌, drop, slice_index}
use Rattle.player_code.specs.CodeLines.{variable_lines}
use Rattle.player_code.proofs.listing.push_variables.Given as goal

-- the lines so far and those of the variables that are left are all of them
abbrev pub invariant-loop-place : goal.invariant-loop-place
invariant-loop-place l =
    l.listing ++ variable_lines (slice_index l.places) l.place (drop l.place l.variables)
    ≡ l.fn.listing ++ variable_lines (slice_index l.fn.places) 0 l.fn.variables
