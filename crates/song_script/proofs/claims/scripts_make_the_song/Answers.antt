use Rattle.song_script.proofs.WholeLaws.{scripts_make_the_song as lemma}
use Rattle.song_script.proofs.claims.scripts_make_the_song.Goals as goal

pub returns : goal.returns
returns c = lemma
