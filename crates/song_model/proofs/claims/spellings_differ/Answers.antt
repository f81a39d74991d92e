use Rattle.song_model.proofs.Spelling.{spellings_differ_lem}
use Rattle.song_model.proofs.claims.spellings_differ.Goals as goal

pub returns : goal.returns
returns c = spellings_differ_lem
