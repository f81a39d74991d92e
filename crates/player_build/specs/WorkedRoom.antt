-- From which addresses the image of a small packed song is too long, worked by hand.
use Rattle.play_model.specs.State.{no_options}
use Rattle.packed_form.specs.declared.packed_songs.PackedSong.{PackedSong}
use Rattle.image_parts.specs.WorkedLengths.{IsPlayedNote}
use Rattle.player_build.specs.Room.{IsTooLarge}

-- $CD55 and 683 bytes are $D000; the last page from which the image has room is $CD00; and its length is told
pub record NoteHasRoom (packed : PackedSong) : Type 0 where
  pub just : IsTooLarge packed no_options 0xCD55 683 → ⊥
  pub past : IsTooLarge packed no_options 0xCD56 683
  pub last_page : IsTooLarge packed no_options 0xCD00 683 → ⊥
  pub next_page : IsTooLarge packed no_options 0xCE00 683
  pub other_length : IsTooLarge packed no_options 0xCE00 684 → ⊥

abbrev pub NotesHaveRoom : Type 0
NotesHaveRoom = (packed : PackedSong) → IsPlayedNote packed → NoteHasRoom packed
