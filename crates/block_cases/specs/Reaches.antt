-- What is around lines, of what the code has.
use Rattle.std.specs.Prelude.{ℕ, ◌+◌, Option, Some, None, nat_eq, if◌then◌else◌}
use Rattle.std.specs.Option.{option_map}
use Rattle.block_cases.specs.declared.reach.Ends.{Ends, Outside, Before', Inside'}
use Rattle.block_cases.specs.declared.reach.Around.{Around}
use Rattle.scope_lines.specs.Reach.{Reach}

abbrev pub end_of : Ends → ℕ → Option ℕ
end_of Outside name = None
end_of (Before' more p outer) name = option_map (λ far. more + far) (end_of outer name)
end_of (Inside' other p outer) name = if nat_eq name other then Some 0 else end_of outer name

abbrev pub reach_of : Around → Reach
reach_of around = record { ends = end_of around.ends; head = around.head }
