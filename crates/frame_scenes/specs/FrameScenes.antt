-- What the frame after a state of a packed song stands on, and that it is ready then. This is the project's own player.
use Rattle.std.specs.Prelude.{◌≡◌, ℕ, ◌+◌, ◌<◌, ◌≤◌, true, List, length, Contains, IsBitSet}
use Rattle.song_model.specs.declared.features.Feature.{Feature}
use Rattle.song_model.specs.declared.songs.Song.{Song}
use Rattle.song_model.specs.Feature.{bit_of}
use Rattle.play_model.specs.declared.options.Options.{Options}
use Rattle.play_model.specs.Speeds.{IsSpeed}
use Rattle.play_model.specs.State.{FrameState, voice_of}
use Rattle.play_model.specs.Ranges.{IsFrameState}
use Rattle.play_model.specs.Safe.{IsSafe}
use Rattle.kept_notes.specs.Voices.{KeepAllNotes}
use Rattle.silent_voices.specs.Mute.{IsMute, IsSilentChannel}
use Rattle.packed_form.specs.declared.packed_patterns.TheConstants.{MOST_PACKED_BYTES}
use Rattle.packed_form.specs.declared.packed_songs.PackedSong.{PackedSong}
use Rattle.packed_form.specs.Unpacked.{unpacked_song, packed_state}
use Rattle.packed_form.specs.StandsFor.{StandsFor}
use Rattle.scopes.specs.Desk.{Layout}
use Rattle.player_memory.specs.FactLines.{KeepsMarked, KeepsMarkedAlone, KeepsShared}
use Rattle.player_memory.specs.SongLists.{HasSongLists}
use Rattle.player_memory.specs.Holds.{IsPlayerLayout, KeepsUsed}
use Rattle.slide_code.specs.SlideBlock.{KeepsCommon}
use Rattle.voice_code.specs.VoiceBlock.{KeepsOptions}
use Rattle.frame_code.specs.FrameBlock.{FrameIsReady}

-- each packed pattern has at most 256 bytes, which the type of packed songs keeps
abbrev pub KeepsPatternLimits : PackedSong → Type 0
KeepsPatternLimits packed = (pattern : List ℕ) → Contains packed.patterns pattern → length pattern ≤ MOST_PACKED_BYTES

-- The packed song stands for a song, and its lists stand in memory. The state is one that a song may come to in this
-- subtune; its voices have notes and gateoff timers of the song, and are mute where their channel has nothing to play.
-- The lines are kept of each feature that the frame uses, of each fact of the packed song and of no other fact, of what
-- features and facts have in common, and of each option that is on.
pub record Scene (layout : Layout) (packed : PackedSong) (song : Song) (o : Options) (k : ℕ) (x : FrameState)
    (at : ℕ → ℕ) : Type 0 where
  pub stands : StandsFor packed song
  pub short : KeepsPatternLimits packed
  pub laid : IsPlayerLayout layout packed
  pub has : HasSongLists layout packed at
  pub used : KeepsUsed layout packed o k x
  pub facts : KeepsMarked layout packed.facts
  pub alone : KeepsMarkedAlone layout packed.facts
  pub shared : KeepsShared layout
  pub options : KeepsOptions layout o
  pub common : KeepsCommon layout
  pub below : k < length packed.subtunes
  pub safe : IsSafe (unpacked_song packed) k x
  pub notes : KeepAllNotes (unpacked_song packed) x
  pub mute :
      (voice : ℕ) → voice < 3 → IsSilentChannel (unpacked_song packed) (voice + 1) → IsMute (voice_of (voice + 1) x)
  pub range : IsFrameState x

-- the frame has what its steps read, and is ready for them
abbrev pub FramesAreReady : Type 0
FramesAreReady =
    (layout : Layout) (packed : PackedSong) (song : Song) (o : Options) (k : ℕ) (x : FrameState) (at : ℕ → ℕ) →
    Scene layout packed song o k x at → FrameIsReady layout packed o k x at

-- So is each frame of a packed subtune from its start on: where the lines of all of the packed song's features and
-- facts are kept, those of what the frame uses are among them; and none of a fact that it hasn't.
abbrev pub PackedFramesAreReady : Type 0
PackedFramesAreReady =
    (layout : Layout) (packed : PackedSong) (song : Song) (o : Options) (k i : ℕ) (at : ℕ → ℕ) →
    StandsFor packed song → KeepsPatternLimits packed → IsPlayerLayout layout packed → HasSongLists layout packed at →
    ((feature : Feature) → IsBitSet packed.features.0 (bit_of feature) → layout.holds (bit_of feature) ≡ true) →
    KeepsMarked layout packed.facts → KeepsMarkedAlone layout packed.facts → KeepsShared layout →
    KeepsOptions layout o → KeepsCommon layout → k < length packed.subtunes → IsSpeed o.speed →
    FrameIsReady layout packed o k (packed_state packed k o i) at
