-- What admitted numbers say of a block: wherever its lines stand, and whatever is in memory and in the registers, they take
-- at most so many clock cycles. This is the project's own.
use Rattle.std.specs.Prelude.{◌≡◌, ℕ, ◌+◌, ◌≤◌, List}
use Rattle.code_runs.specs.Runs.{State, cycles_from}
use Rattle.scopes.specs.Desk.{Desk, Layout}
use Rattle.scopes.specs.Trees.{Tree}
use Rattle.scopes.specs.Meaning.{Outcome, Done, Left, Again, Stuck, each_one, ran}
use Rattle.scope_lines.specs.Lines.{Around}
use Rattle.scope_lines.specs.Cycles.{cycles}
use Rattle.scope_lines.specs.Lowered.{Site, layout_at, IsWellPlaced, Enters, meant}
use Rattle.cycle_bound.specs.Rules.{Ends, entry, asked, Reaches, Admits, bound_by, Setting}

-- what a layout says of it
abbrev pub setting_of : Layout → Setting
setting_of layout = record { holds = layout.holds; open_turns = layout.open_turns }

-- the number where an outcome comes to
abbrev pub number_at : Ends → ℕ → Outcome → ℕ
number_at ends behind Done = behind
number_at ends behind (Left name) = ends name
number_at ends behind Again = 0
number_at ends behind Stuck = 0

-- the cycles of a tree, and the number where it comes to, are at most the number at its first line
abbrev pub TreesKeepBounds : Type 0
TreesKeepBounds =
    (layout : Layout) (around : Around) (place : ℕ) (ends : Ends) (behind : ℕ) (tree : Tree) (numbers : List ℕ)
    (desk : Desk) → Reaches (asked (setting_of layout) ends behind tree numbers) numbers →
    cycles layout around place tree desk + number_at ends behind (ran each_one layout tree desk).outcome
    ≤ entry numbers behind

-- so what is counted of a block is at most the number at its first line
abbrev pub BlocksKeepBounds : Type 0
BlocksKeepBounds =
    (layout : Layout) (around : Around) (place : ℕ) (tree : Tree) (numbers : List ℕ) (desk : Desk) →
    Admits (setting_of layout) tree numbers → cycles layout around place tree desk ≤ bound_by numbers

-- And where it comes to its end from a state that enters it in a listing, so are the clock cycles of its lines' steps. A
-- block that goes on for ever, as a loop of one turn that says `again`, has numbers too.
abbrev pub LoweredBlocksKeepBounds : Type 0
LoweredBlocksKeepBounds =
    (site : Site) (state : State) (numbers : List ℕ) → IsWellPlaced site → Enters site state →
    (meant site state).outcome ≡ Done → Admits (setting_of (layout_at site)) site.tree numbers →
    cycles_from (meant site state).cost state ≤ bound_by numbers
