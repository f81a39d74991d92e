use Rattle.song_model.proofs.Walks.{plays_are_entries_lem}
use Rattle.song_model.proofs.claims.plays_are_entries.Goals as goal

pub returns : goal.returns
returns c = plays_are_entries_lem
