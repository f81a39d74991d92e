-- What a reader may rely on in a song's script.
use Rattle.std.specs.Prelude.{◌≡◌, Ok}
use Rattle.song_model.specs.declared.songs.Song.{Song}
use Rattle.song_model.specs.Limits.{KeepsLimits}
use Rattle.song_model.specs.Silence.{empty_song}
use Rattle.edit_history.specs.History.{song_after}
use Rattle.edit_script.specs.Edited.{IsEditedBy}
use Rattle.song_script.specs.Shown.{script_of, edits_of}

-- the edits make the song of the empty one
abbrev pub EditsMakeTheSong : Type 0
EditsMakeTheSong = (song : Song) → KeepsLimits song → song_after empty_song (edits_of song) ≡ Ok song

-- the text is a script of all of whose commands can be done, and makes the song of the empty one
abbrev pub ScriptsMakeTheSong : Type 0
ScriptsMakeTheSong = (song : Song) → KeepsLimits song → IsEditedBy (script_of song) empty_song song
