-- Layouts of a player in which each variable has a byte. Where no kept line names a variable it has none in the image.
-- What the blocks do is told for variables that all have one, so here it has a spare one, from $0200 on, or from $0300
-- on. No line reads or writes there: what stands there is thought of, beside the machine's memory. This is the project's
-- own player.
use Rattle.std.specs.Prelude.{ℕ, ◌+◌, ◌&&◌, ◌||◌, nat_le, nat_lt, Bool, true, false, not, if◌then◌else◌}
use Rattle.scopes.specs.Desk.{Layout}
use Rattle.player_memory.specs.declared.labels.TheConstants.{VARIABLES}
use Rattle.variable_places.specs.Places.{has_byte}
use Rattle.player_code.specs.Plans.{Plan, plan_layout}

-- where the spare bytes begin, in one layout and in another, and whether a place is one of them
abbrev pub spare_from : Bool → ℕ
spare_from false = 0x0200
spare_from true = 0x0300

abbrev pub is_spare : Bool → ℕ → Bool
is_spare which place = nat_le (spare_from which) place && nat_lt place (spare_from which + VARIABLES)

abbrev pub wide_address : Plan → Bool → ℕ → ℕ
wide_address plan which label =
    if nat_lt label VARIABLES && not (has_byte plan.holds label) then spare_from which + label
    else (plan_layout plan).address label

abbrev pub wide_layout : Plan → Bool → Layout
wide_layout plan which = record {
  address = wide_address plan which;
  pointer = plan.pointer;
  holds = plan.holds;
  open_turns = plan.open_turns;
  may_read = λ place. plan.may_read place || is_spare which place;
  may_write = λ place. plan.may_write place || is_spare which place;
}

-- a memory with the zeros with which the spare bytes begin
abbrev pub with_zeros : Bool → (ℕ → ℕ) → ℕ → ℕ
with_zeros which at place = if is_spare which place then 0 else at place
