-- The lists in memory.
use Rattle.song_lists.proofs.Inside.{data_stands}
use Rattle.song_lists.proofs.Laying.{song_lists_stand, lists_are_laid}
use Rattle.song_lists.proofs.claims.data_stands.Goals as goal

pub returns-clause-bytes : goal.returns-clause-bytes
returns-clause-bytes c = data_stands

pub returns-clause-lists : goal.returns-clause-lists
returns-clause-lists c = song_lists_stand

pub returns-clause-layout : goal.returns-clause-layout
returns-clause-layout c = lists_are_laid
