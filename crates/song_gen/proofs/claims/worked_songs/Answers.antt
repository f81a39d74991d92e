use Rattle.song_gen.proofs.WorkedSongs.{each_has_tables, first_draws_are, last_draws_are}
use Rattle.song_gen.proofs.claims.worked_songs.Goals as goal

pub returns-clause-tables : goal.returns-clause-tables
returns-clause-tables c = each_has_tables

pub returns-clause-first : goal.returns-clause-first
returns-clause-first c = first_draws_are

pub returns-clause-last : goal.returns-clause-last
returns-clause-last c = last_draws_are
