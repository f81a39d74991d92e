-- How many bytes the lists take.
use Rattle.song_lists.proofs.Lists.{data_takes_size}
use Rattle.song_lists.proofs.DataLines.{lines_take_size}
use Rattle.song_lists.proofs.claims.data_takes_size.Goals as goal

pub returns-clause-bytes : goal.returns-clause-bytes
returns-clause-bytes c = data_takes_size

pub returns-clause-lines : goal.returns-clause-lines
returns-clause-lines c = lines_take_size
