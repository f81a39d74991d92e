use Rattle.song_gen.proofs.Limits.{generated_songs_keep_limits}
use Rattle.song_gen.proofs.Playable.{generated_songs_are_playable, generated_songs_have_eight_subtunes}
use Rattle.song_gen.proofs.Small.{generated_patterns_are_short, generated_songs_are_small}
use Rattle.song_gen.proofs.claims.generated_songs_can_be_packed.Goals as goal

pub returns-clause-limits : goal.returns-clause-limits
returns-clause-limits c = generated_songs_keep_limits

pub returns-clause-playable : goal.returns-clause-playable
returns-clause-playable c = generated_songs_are_playable

pub returns-clause-subtunes : goal.returns-clause-subtunes
returns-clause-subtunes c = generated_songs_have_eight_subtunes

pub returns-clause-short : goal.returns-clause-short
returns-clause-short c = generated_patterns_are_short

pub returns-clause-small : goal.returns-clause-small
returns-clause-small c = generated_songs_are_small
