-- A law of refusals: a song for which no refusal is the first can be played; so each song can be played or
-- is refused.
use Rattle.song_model.specs.declared.songs.Song.{Song}
use Rattle.play_model.specs.declared.unplayable.Unplayable.{Unplayable}
use Rattle.play_model.specs.Playable.{IsRefusedFor, IsPlayable}

abbrev pub RefusedOrPlayable : Type 0
RefusedOrPlayable = (song : Song) → ((refusal : Unplayable) → ¬ IsRefusedFor song refusal) → IsPlayable song
