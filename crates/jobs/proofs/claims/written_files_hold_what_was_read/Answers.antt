use Rattle.jobs.proofs.Joining.{joined_files_hold_both}
use Rattle.jobs.proofs.Listed.{listings_go_back}
use Rattle.jobs.proofs.Shown.{scripts_make_songs_again}
use Rattle.jobs.proofs.claims.written_files_hold_what_was_read.Goals as goal

pub returns : goal.returns
returns c = record {
  listings = listings_go_back;
  scripts = scripts_make_songs_again;
  joined = joined_files_hold_both;
}
