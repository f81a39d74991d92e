-- A law of silent songs: each can be played.
use Rattle.song_model.specs.declared.songs.Song.{Song}
use Rattle.song_model.specs.Silent.{IsSilent}
use Rattle.play_model.specs.Playable.{IsPlayable}

abbrev pub SilentSongsCanBePlayed : Type 0
SilentSongsCanBePlayed = (song : Song) → IsSilent song → IsPlayable song
