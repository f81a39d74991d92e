-- What a reader may rely on in generated songs: each can be played and packed.
use Rattle.std.specs.Prelude.{◌≡◌, ℕ, ◌+◌, ◌≤◌, length}
use Rattle.song_model.specs.declared.songs.Song.{Song}
use Rattle.song_model.specs.Limits.{KeepsLimits}
use Rattle.song_model.specs.LookUp.{playable_subtunes}
use Rattle.play_model.specs.State.{no_options}
use Rattle.play_model.specs.Playable.{IsPlayable}
use Rattle.play_model.specs.Features.{AreFeatures}
use Rattle.packed_form.specs.declared.packed_patterns.TheConstants.{MOST_PACKED_BYTES}
use Rattle.packing_rules.specs.UsedSets.{UsedSets, AreUsedSets}
use Rattle.packing_rules.specs.Renumbering.{pattern_text}
use Rattle.packed_form.specs.CodeBounds.{code_bound}
use Rattle.packing_rules.specs.SongSizes.{data_size}
use Rattle.song_gen.specs.GeneratedSong.{generated_song}

-- each pattern of the song is short enough to be packed, whatever the song uses
abbrev pub PatternsAreShort : Song → Type 0
PatternsAreShort song = (used : UsedSets) (p : ℕ) → length (pattern_text song used p) ≤ MOST_PACKED_BYTES

-- the song's data and the bound of a player's code are at most 48 KB
abbrev pub IsSmall : Song → Type 0
IsSmall song = (used : UsedSets) (features : ℕ) → AreUsedSets song used → AreFeatures song features →
    data_size song used + code_bound features no_options ≤ 0xC000

-- a generated song keeps the limits of the format
abbrev pub GeneratedSongsKeepLimits : Type 0
GeneratedSongsKeepLimits = (x : ℕ) → KeepsLimits (generated_song x)

-- it can be played
abbrev pub GeneratedSongsArePlayable : Type 0
GeneratedSongsArePlayable = (x : ℕ) → IsPlayable (generated_song x)

-- and all its eight subtunes are playable ones
abbrev pub GeneratedSongsHaveEightSubtunes : Type 0
GeneratedSongsHaveEightSubtunes = (x : ℕ) → length (playable_subtunes (generated_song x)) ≡ 8

-- and it can be packed
abbrev pub GeneratedPatternsAreShort : Type 0
GeneratedPatternsAreShort = (x : ℕ) → PatternsAreShort (generated_song x)

abbrev pub GeneratedSongsAreSmall : Type 0
GeneratedSongsAreSmall = (x : ℕ) → IsSmall (generated_song x)
