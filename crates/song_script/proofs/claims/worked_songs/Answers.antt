use Rattle.std.proofs.Common.{refl}
use Rattle.song_script.proofs.OnTexts.{showing_texts}
use Rattle.song_script.proofs.claims.worked_songs.Goals as goal

pub returns-clause-nothing : goal.returns-clause-nothing
unfolding showing_texts
returns-clause-nothing c = refl

pub returns-clause-small : goal.returns-clause-small
unfolding showing_texts
returns-clause-small c = refl
