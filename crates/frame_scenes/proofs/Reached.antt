-- Each frame of a packed subtune has a scene: its state is safe, and what it uses is a feature of the packed song.
use Rattle.std.proofs.Common.{◌≡◌, ℕ, ◌+◌, ◌<◌, true, length, IsBitSet, subst}
use Rattle.song_model.specs.declared.features.Feature.{Feature}
use Rattle.song_model.specs.declared.songs.Song.{Song}
use Rattle.song_model.specs.Feature.{bit_of}
use Rattle.play_model.specs.declared.options.Options.{Options}
use Rattle.play_model.specs.Speeds.{IsSpeed}
use Rattle.play_model.proofs.Laws.{song_ranges_lem}
use Rattle.safe_states.proofs.Laws.{states_are_safe_lem}
use Rattle.kept_notes.proofs.Laws.{states_keep_notes_lem}
use Rattle.silent_voices.proofs.Laws.{mute_states_lem}
use Rattle.packed_form.specs.declared.packed_songs.PackedSong.{PackedSong}
use Rattle.packed_form.specs.Unpacked.{unpacked_song, packed_state}
use Rattle.packed_form.specs.StandsFor.{StandsFor}
use Rattle.scopes.specs.Desk.{Layout}
use Rattle.player_memory.specs.FactLines.{KeepsMarked, KeepsMarkedAlone, KeepsShared}
use Rattle.player_memory.specs.SongLists.{HasSongLists}
use Rattle.player_memory.specs.Holds.{IsPlayerLayout}
use Rattle.slide_code.specs.SlideBlock.{KeepsCommon}
use Rattle.voice_code.specs.VoiceBlock.{KeepsOptions}
use Rattle.frame_scenes.specs.FrameScenes.{KeepsPatternLimits, Scene, PackedFramesAreReady}
use Rattle.frame_scenes.proofs.Turns.{subtunes_play, is_channel}
use Rattle.frame_scenes.proofs.Frames.{frames_are_ready}

pub packed_scene : (layout : Layout) (packed : PackedSong) (song : Song) (o : Options) (k i : ℕ) (at : ℕ → ℕ) →
    StandsFor packed song → KeepsPatternLimits packed → IsPlayerLayout layout packed → HasSongLists layout packed at →
    ((feature : Feature) → IsBitSet packed.features.0 (bit_of feature) → layout.holds (bit_of feature) ≡ true) →
    KeepsMarked layout packed.facts → KeepsMarkedAlone layout packed.facts → KeepsShared layout →
    KeepsOptions layout o → KeepsCommon layout → k < length packed.subtunes → IsSpeed o.speed →
    Scene layout packed song o k (packed_state packed k o i) at
packed_scene layout packed song o k i at stands short laid has kept facts alone shared options common below speed =
    record {
      stands = stands;
      short = short;
      laid = laid;
      has = has;
      used = λ feature uses.
          let plays = stands.plays o k speed (subst (λ n. k < n) stands.subtunes below) in
          kept feature ((stands.features.each feature).1 (plays.uses i feature uses));
      facts = facts;
      alone = alone;
      shared = shared;
      options = options;
      common = common;
      below = below;
      safe =
          states_are_safe_lem o (unpacked_song packed) k i speed stands.packed_song.limits stands.complete.playable
          (subtunes_play packed song k stands below);
      notes =
          states_keep_notes_lem o (unpacked_song packed) k i speed stands.packed_song.limits stands.complete.playable
          (subtunes_play packed song k stands below);
      mute = λ voice few silent.
          mute_states_lem o (unpacked_song packed) k i (voice + 1) stands.complete.playable
          (subtunes_play packed song k stands below) (is_channel voice few) silent;
      range = (song_ranges_lem o (unpacked_song packed) speed stands.packed_song.limits).state k i;
    }

pub packed_frames_are_ready : PackedFramesAreReady
packed_frames_are_ready layout packed song o k i at stands short laid has kept facts alone shared options common
    below speed =
    frames_are_ready layout packed song o k (packed_state packed k o i) at
    (packed_scene layout packed song o k i at stands short laid has kept facts alone shared options common below
    speed)
