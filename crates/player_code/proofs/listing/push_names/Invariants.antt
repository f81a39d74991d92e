-- The names so far and those of the labels that are left.
use Rattle.std.proofs.Common.{◌≡◌, ◌-◌, ◌++◌, slice_index}
use Rattle.player_memory.specs.declared.labels.TheConstants.{VARIABLES}
use Rattle.player_code.specs.CodeLines.{names_from, names_at}
use Rattle.player_code.proofs.listing.push_names.Given as goal

-- the names so far and those of the labels that are left are all of them
abbrev pub invariant-loop-label : goal.invariant-loop-label
invariant-loop-label l =
    l.listing ++ names_from (slice_index l.places) l.place l.label (VARIABLES - l.label)
    ≡ l.fn.listing ++ names_at (slice_index l.fn.places) l.fn.place
