-- What stands around lines, of what the code has.
use Rattle.std.specs.Prelude.{ℕ, nat_eq, if◌then◌else◌}
use Rattle.scope_lines.specs.declared.lowered.Place.{Place}
use Rattle.scope_lines.specs.declared.lowered.Scopes.{Scopes, Outside, Inside'}
use Rattle.scope_lines.specs.Lines.{Around}
use Rattle.scope_lines.specs.Readings.{holds_in}

abbrev pub ends_of : Scopes → ℕ → ℕ
ends_of Outside name = 0
ends_of (Inside' other end p outer) name = if nat_eq name other then end else ends_of outer name

abbrev pub around_of : Place → Scopes → ℕ → Around
around_of place scopes head = record {
  label = place.label;
  pointer = place.pointer;
  holds = holds_in place.conditions.0;
  ends = ends_of scopes;
  head = head;
}
