use Rattle.player_memory.proofs.claims.worked_holds.Goals as goal
use Rattle.player_memory.proofs.WorkedHolds.{lists_are_in_memory, layouts_are_worked, states_are_held, kept_are_worked}
use Rattle.player_memory.proofs.WorkedHolds.{held_are_worked}

pub returns-clause-lists : goal.returns-clause-lists
returns-clause-lists c = lists_are_in_memory

pub returns-clause-layouts : goal.returns-clause-layouts
returns-clause-layouts c = layouts_are_worked

pub returns-clause-states : goal.returns-clause-states
returns-clause-states c = states_are_held

pub returns-clause-kept : goal.returns-clause-kept
returns-clause-kept c = kept_are_worked

pub returns-clause-held : goal.returns-clause-held
returns-clause-held c = held_are_worked
