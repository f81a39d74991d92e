-- What the code of an edit that isn't refused answers.
use Rattle.std.specs.Prelude.{◌≡◌, Result, Ok, Err, Some}
use Rattle.song_model.specs.declared.songs.Song.{Song}
use Rattle.base.specs.declared.no_memory.NoMemory.{NoMemory}
use Rattle.edit_ops.specs.declared.inverses.Inverse.{Inverse}
use Rattle.edit_ops.specs.Back.{back}

-- the song has become the one that is wanted and the inverse leads back; or memory has run out and it is as before
abbrev pub Does : Result Inverse NoMemory → Song → Song → Song → Type 0
Does (Ok inverse) before after wanted = (after ≡ wanted) × (back after inverse ≡ Some before)
Does (Err fault) before after wanted = after ≡ before
