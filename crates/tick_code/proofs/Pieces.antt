-- Pieces of the block's tree.
pub use Rattle.command_code.proofs.Laws.{first_of, behind, past, under, body_for}
use Rattle.scopes.specs.Trees.{Tree, ChooseTree, NeverTree}
use Rattle.player_desk.proofs.Laws.{body_of, rest_of}
use Rattle.player_text.specs.declared.joints.TheConstants.{TAKEN}
use Rattle.player_text.specs.declared.tick.TheConstants.{ONCE, BARE}
use Rattle.tick_code.specs.TickBlock.{tick_tree}

-- behind the test for a slide the sound of the note begins
abbrev pub sound_tree : Tree
sound_tree = past 8 (body_of TAKEN tick_tree)

-- lines that are kept where a condition holds, in place of others
abbrev pub chosen : Tree → Tree
chosen (ChooseTree condition this other) = this
chosen tree = NeverTree

-- a row's command, and one that runs
abbrev pub row_tree : Tree
row_tree = chosen (first_of (body_of BARE tick_tree))

abbrev pub running_tree : Tree
running_tree = past 3 row_tree

-- the commands that are done once: all of them, and from some of them on
abbrev pub once_tree : Tree
once_tree = under (first_of (rest_of ONCE tick_tree))

abbrev pub from_ad : Tree
from_ad = past 2 once_tree

abbrev pub from_wave_pointer : Tree
from_wave_pointer = past 3 from_ad

abbrev pub from_pulse_pointer : Tree
from_pulse_pointer = behind from_wave_pointer

abbrev pub from_chosen : Tree
from_chosen = past 5 from_pulse_pointer

abbrev pub from_length : Tree
from_length = behind from_chosen

abbrev pub from_funk : Tree
from_funk = behind from_length
