use Rattle.jobs.proofs.PlayedFiles.{written_files_are_packed, packed_files_play}
use Rattle.jobs.proofs.claims.packed_files_play_their_song.Goals as goal

pub returns : goal.returns
returns c = record { written = written_files_are_packed; play = packed_files_play }
