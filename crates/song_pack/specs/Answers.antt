-- What packing a song answers: how large the packed song is, and why a song can't be packed.
use Rattle.std.specs.Prelude.{◌≡◌, ℕ, ◌<◌, ◌≤◌, length}
use Rattle.song_model.specs.declared.songs.Song.{Song}
use Rattle.play_model.specs.Used.{IsUsedPattern}
use Rattle.packed_form.specs.declared.packed_patterns.TheConstants.{MOST_PACKED_BYTES}
use Rattle.packed_form.specs.declared.packed_songs.PackedSong.{PackedSong}
use Rattle.packed_form.specs.Sizes.{packed_song_size}
use Rattle.packing_rules.specs.UsedSets.{UsedSets}
use Rattle.packing_rules.specs.Renumbering.{pattern_text}
use Rattle.packing_rules.specs.SongSizes.{data_size, packed_size}
use Rattle.song_pack.specs.declared.faults.PackFault.{PackFault}
use Rattle.song_pack.specs.declared.faults.PackFault.TheVariants.{PatternTooLong, NoMemory}

-- the packed song has the song's packed size, which isn't above its data size
pub record HasPackedSize (packed : PackedSong) (song : Song) (used : UsedSets) : Type 0 where
  pub is : packed_song_size packed ≡ packed_size song used
  pub within : packed_song_size packed ≤ data_size song used

-- the text of each used pattern below this one may be packed
abbrev pub AreShortBelow : Song → UsedSets → ℕ → Type 0
AreShortBelow song used n =
    (p : ℕ) → p < n → IsUsedPattern song p → length (pattern_text song used p) ≤ MOST_PACKED_BYTES

-- the text of each used pattern may be packed
abbrev pub AreShort : Song → UsedSets → Type 0
AreShort song used = (p : ℕ) → IsUsedPattern song p → length (pattern_text song used p) ≤ MOST_PACKED_BYTES

-- this is the least number of a used pattern whose text, of this length, is too long
pub record IsTooLong (song : Song) (used : UsedSets) (pattern n : ℕ) : Type 0 where
  pub is_used : IsUsedPattern song pattern
  pub text : length (pattern_text song used pattern) ≡ n
  pub long : MOST_PACKED_BYTES < n
  pub first : AreShortBelow song used pattern

-- why the song isn't packed; want of memory needs no cause
abbrev pub IsCause : Song → UsedSets → PackFault → Type 0
IsCause song used (PatternTooLong pattern n) = IsTooLong song used pattern n
IsCause song used NoMemory = Unit {0}
