-- The size of a packed song: what follows from it, and that of a song of one note, worked by hand.
use Rattle.std.specs.Prelude.{◌≤◌, [], ◌∷◌, ◌++◌}
use Rattle.song_model.specs.declared.songs.Song.{Song}
use Rattle.play_model.specs.WorkedSongs.{one_note, subtune, rests}
use Rattle.packed_form.specs.declared.packed_songs.PackedSong.{PackedSong}
use Rattle.packed_form.specs.Sizes.{packed_song_size}
use Rattle.packed_form.specs.WorkedUnpacked.{IsPackedNote}
use Rattle.packing_rules.specs.UsedSets.{UsedSets}
use Rattle.packing_rules.specs.SongSizes.{data_size}
use Rattle.packing_rules.specs.WorkedSizes.{note_sets}
use Rattle.song_pack.specs.Answers.{HasPackedSize}

-- it isn't above the song's data size, which counts each used pattern and each reached row
abbrev pub PackedSizesAreWithin : Type 0
PackedSizesAreWithin =
    (packed : PackedSong) (song : Song) (used : UsedSets) → HasPackedSize packed song used →
    packed_song_size packed ≤ data_size song used

-- the same song where channel 3 plays another pattern with two rests, C1 00: four bytes more, with two for its address
abbrev pub third_pattern : Song
third_pattern = record one_note {
  subtunes = subtune (0 ∷ []) (1 ∷ []) (2 ∷ []) ∷ [];
  patterns = one_note.patterns ++ rests 2 ∷ [];
}

-- the packed song of 42 bytes has the size of the song of one note with its two patterns; not that with one of them, whose
-- 38 bytes it is above; and not that of the song with a third pattern, though it is within its 46
pub record NoteHasItsSize (packed : PackedSong) : Type 0 where
  pub both : HasPackedSize packed one_note (note_sets (0 ∷ 1 ∷ []))
  pub one : ¬ HasPackedSize packed one_note (note_sets (0 ∷ []))
  pub within_third : packed_song_size packed ≤ data_size third_pattern (note_sets (0 ∷ 1 ∷ 2 ∷ []))
  pub third : ¬ HasPackedSize packed third_pattern (note_sets (0 ∷ 1 ∷ 2 ∷ []))

abbrev pub NotesHaveTheirSize : Type 0
NotesHaveTheirSize = (packed : PackedSong) → IsPackedNote packed → NoteHasItsSize packed
