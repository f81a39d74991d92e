-- Pieces of the tree of a command of the wave table.
use Rattle.std.proofs.Common.{ℕ}
use Rattle.scopes.specs.Trees.{Tree}
use Rattle.player_desk.proofs.Laws.{rest_of}
use Rattle.command_code.proofs.Laws.{first_of, behind, past}
use Rattle.wave_code.specs.CommandBlock.{command_row_tree}

abbrev pub ONCE : ℕ
ONCE = 4

-- the row's right side is read, and the command is in Y; and then the commands that are done once, in two parts, since
-- a row has one more between them
abbrev pub read_tree : Tree
read_tree = first_of (behind (rest_of ONCE command_row_tree))

abbrev pub from_index : Tree
from_index = past 2 (rest_of ONCE command_row_tree)

abbrev pub from_ad : Tree
from_ad = behind from_index

abbrev pub from_pulse_pointer : Tree
from_pulse_pointer = past 3 from_ad

abbrev pub from_end : Tree
from_end = past 5 from_pulse_pointer
