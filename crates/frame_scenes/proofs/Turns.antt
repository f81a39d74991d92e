-- A voice at its turn in a frame of a packed song: its state is safe and in its ranges, from step to step.
use Rattle.std.proofs.Common.{ℕ, zero, suc, ◌+◌, ◌<◌, ◌&&◌, ◌==◌, not, Bool, true, false, length}
use Rattle.std.proofs.Common.{if◌then◌else◌, ap, arith}
use Rattle.std.proofs.lemmas.List.{length-map}
use Rattle.song_model.specs.declared.songs.Song.{Song}
use Rattle.song_model.specs.LookUp.{playable_subtunes}
use Rattle.play_model.specs.declared.options.Options.{Options}
use Rattle.play_model.specs.State.{FrameState, Playing, playing_of}
use Rattle.play_model.specs.TickStep.{tick_step}
use Rattle.play_model.specs.WaveStep.{Waved, wave_step}
use Rattle.play_model.specs.EffectStep.{effect_step}
use Rattle.play_model.specs.Frame.{effect_done, subtune_at}
use Rattle.play_model.specs.Ranges.{AreLookUps, IsPlaying, IsFrameState}
use Rattle.play_model.specs.RangeLaws.{RulesKeepRanges, FramesKeepRanges}
use Rattle.play_model.specs.Used.{IsChannel}
use Rattle.play_model.specs.Uses.{Turn, before_voice, turn_of, InATurn}
use Rattle.play_model.proofs.Laws.{ranges_lem, frame_ranges_lem}
use Rattle.safe_states.specs.SafeLaws.{IsSafePlaying, VoiceRulesKeepSafe}
use Rattle.safe_states.proofs.Laws.{CanBePlayed, playing_safe, before_safe, safe_within_lem, is_played}
use Rattle.kept_notes.specs.Voices.{KeepsNotes}
use Rattle.kept_notes.specs.NoteLaws.{VoiceRulesKeepNotes}
use Rattle.kept_notes.proofs.Laws.{playing_keeps, before_keeps, notes_within_lem}
use Rattle.packed_form.specs.declared.packed_songs.PackedSong.{PackedSong}
use Rattle.packed_form.specs.Unpacked.{unpacked_subtune, unpacked_song}
use Rattle.packed_form.specs.StandsFor.{StandsFor}
use Rattle.scopes.specs.Desk.{Layout}
use Rattle.player_memory.specs.Holds.{look_of, order_in}
use Rattle.frame_code.specs.FrameBlock.{turn_in}
use Rattle.frame_scenes.specs.FrameScenes.{Scene}
use Rattle.player_memory.specs.FactLines.{KeepsFacts}
use Rattle.frame_scenes.proofs.FactsKept.{facts_kept}
use Rattle.frame_scenes.proofs.Lists.{looks}

-- ---- the packed song as a song

pub playable : (packed : PackedSong) (song : Song) → StandsFor packed song → CanBePlayed (unpacked_song packed)
playable packed song stands = record { limits = stands.packed_song.limits; playable = stands.complete.playable }

-- each of its subtunes can be played
pub subtunes_play : (packed : PackedSong) (song : Song) (k : ℕ) → StandsFor packed song → k < length packed.subtunes →
    k < length (playable_subtunes (unpacked_song packed))
subtunes_play packed song k stands below =
    let e = ap length stands.complete.subtunes in
    let n = length-map packed.subtunes unpacked_subtune in
    omega (arith, e, n, below)

pub is_channel : (voice : ℕ) → voice < 3 → IsChannel (voice + 1)
is_channel voice few = record { first = omega arith; last = omega (arith, few) }

-- ---- a voice's turn

-- a scene, and a voice in it, counted from 0
pub record AtTurn (layout : Layout) (packed : PackedSong) (song : Song) (o : Options) (k voice : ℕ) (x : FrameState)
    (at : ℕ → ℕ) : Type 0 where
  pub scene : Scene layout packed song o k x at
  pub few : voice < 3

-- the lines of each fact are kept that the packed song has, read as a song
pub scene_facts : {layout : Layout} {packed : PackedSong} {song : Song} {o : Options} {k voice : ℕ} {x : FrameState}
    {at : ℕ → ℕ} → AtTurn layout packed song o k voice x at → KeepsFacts layout (unpacked_song packed)
scene_facts {layout = layout} {packed = packed} {song = song} turn =
    facts_kept layout packed song turn.scene.stands turn.scene.facts

-- its turn in the frame
abbrev pub its_turn : PackedSong → Options → ℕ → ℕ → FrameState → Turn
its_turn packed o k voice x = turn_of (voice + 1) o (look_of packed) (subtune_at (unpacked_song packed) k) x

-- what is done in it is done in the frame
pub in_turn : (packed : PackedSong) (o : Options) (k voice : ℕ) (x : FrameState) (Does : Turn → Type 0) → voice < 3 →
    Does (its_turn packed o k voice x) →
    InATurn o (look_of packed) (subtune_at (unpacked_song packed) k) x Does
in_turn packed o k voice x Does few does =
    record { channel = voice + 1; is_channel = is_channel voice few; does = does }

-- ---- before it

range_before : (packed : PackedSong) (o : Options) (k voice : ℕ) (x : FrameState) → AreLookUps (look_of packed) →
    voice < 3 → IsFrameState x →
    IsFrameState (before_voice (voice + 1) o (look_of packed) (subtune_at (unpacked_song packed) k) x)
range_before packed o k voice x are few range = by_voice voice few
  where
    keeps : FramesKeepRanges o (look_of packed) (subtune_at (unpacked_song packed) k)
    keeps = frame_ranges_lem o (look_of packed) (subtune_at (unpacked_song packed) k) are

    by_voice : (voice : ℕ) → voice < 3 →
        IsFrameState (before_voice (voice + 1) o (look_of packed) (subtune_at (unpacked_song packed) k) x)
    by_voice zero few = keeps.filter x range
    by_voice (suc zero) few = keeps.voice 1 _ (keeps.filter x range)
    by_voice (suc (suc zero)) few = keeps.voice 2 _ (keeps.voice 1 _ (keeps.filter x range))
    by_voice (suc (suc (suc voice))) few = absurd (omega (arith, few))

playing_range : (voice : ℕ) (x : FrameState) → voice < 3 → IsFrameState x → IsPlaying (playing_of (voice + 1) x)
playing_range zero x few range = record { voice = range.one; common = range.common }
playing_range (suc zero) x few range = record { voice = range.two; common = range.common }
playing_range (suc (suc zero)) x few range = record { voice = range.three; common = range.common }
playing_range (suc (suc (suc voice))) x few range = absurd (omega (arith, few))

-- a state that is in its ranges and safe, and has notes of the song
pub record IsFine (packed : PackedSong) (k voice : ℕ) (s : Playing) : Type 0 where
  pub range : IsPlaying s
  pub safe : IsSafePlaying (unpacked_song packed) (order_in packed k voice) s
  pub notes : KeepsNotes (unpacked_song packed) s.voice

pub begins : (layout : Layout) (packed : PackedSong) (song : Song) (o : Options) (k voice : ℕ) (x : FrameState)
    (at : ℕ → ℕ) → AtTurn layout packed song o k voice x at →
    IsFine packed k voice (turn_in packed o k voice x)
begins layout packed song o k voice x at turn = record {
  range =
      playing_range voice before turn.few
      (range_before packed o k voice x (looks packed scene.stands.packed_song.limits) turn.few scene.range);
  safe =
      playing_safe (unpacked_song packed) k (voice + 1) before
      (before_safe (unpacked_song packed) k (voice + 1) o x (playable packed song scene.stands)
      (subtunes_play packed song k scene.stands scene.below) scene.safe);
  notes =
      playing_keeps (unpacked_song packed) (voice + 1) before
      (before_keeps (unpacked_song packed) k (voice + 1) o x (playable packed song scene.stands)
      (subtunes_play packed song k scene.stands scene.below) scene.safe scene.notes);
}
  where
    scene : Scene layout packed song o k x at
    scene = turn.scene

    before : FrameState
    before = before_voice (voice + 1) o (look_of packed) (subtune_at (unpacked_song packed) k) x

-- ---- from step to step

rules_range : (packed : PackedSong) (song : Song) → StandsFor packed song → RulesKeepRanges (look_of packed)
rules_range packed song stands = ranges_lem (look_of packed) (looks packed stands.packed_song.limits)

rules_safe : (packed : PackedSong) (song : Song) (k voice : ℕ) → StandsFor packed song → k < length packed.subtunes →
    voice < 3 → VoiceRulesKeepSafe (unpacked_song packed) (order_in packed k voice)
rules_safe packed song k voice stands below few =
    (safe_within_lem (unpacked_song packed) stands.packed_song.limits stands.complete.playable).rules.voice
    (order_in packed k voice)
    (is_played (unpacked_song packed) k (voice + 1) (subtunes_play packed song k stands below) (is_channel voice few))

rules_keep : (packed : PackedSong) (song : Song) (k voice : ℕ) → StandsFor packed song → k < length packed.subtunes →
    voice < 3 → VoiceRulesKeepNotes (unpacked_song packed) (order_in packed k voice)
rules_keep packed song k voice stands below few =
    (notes_within_lem (unpacked_song packed) stands.packed_song.limits stands.complete.playable).rules
    (order_in packed k voice)
    (is_played (unpacked_song packed) k (voice + 1) (subtunes_play packed song k stands below) (is_channel voice few))

-- behind the tick step
pub ticked_fine : (layout : Layout) (packed : PackedSong) (song : Song) (o : Options) (k voice : ℕ) (x : FrameState)
    (at : ℕ → ℕ) → AtTurn layout packed song o k voice x at →
    IsFine packed k voice (tick_step (voice + 1) (look_of packed) (turn_in packed o k voice x)).playing
ticked_fine layout packed song o k voice x at turn =
    let start = begins layout packed song o k voice x at turn in record {
      range = (rules_range packed song turn.scene.stands).tick (voice + 1) (turn_in packed o k voice x) start.range;
      safe =
          (rules_safe packed song k voice turn.scene.stands turn.scene.below turn.few).tick (voice + 1)
          (turn_in packed o k voice x) start.safe;
      notes =
          (rules_keep packed song k voice turn.scene.stands turn.scene.below turn.few).tick (voice + 1)
          (turn_in packed o k voice x) start.safe.voice start.notes;
    }

-- behind the wave step
pub waved_fine : (layout : Layout) (packed : PackedSong) (song : Song) (o : Options) (k voice : ℕ) (x : FrameState)
    (at : ℕ → ℕ) (s : Playing) → AtTurn layout packed song o k voice x at → IsFine packed k voice s →
    IsFine packed k voice (wave_step (look_of packed) s).playing
waved_fine layout packed song o k voice x at s turn fine = record {
  range = (rules_range packed song turn.scene.stands).wave s fine.range;
  safe = (rules_safe packed song k voice turn.scene.stands turn.scene.below turn.few).wave s fine.safe;
  notes =
      (rules_keep packed song k voice turn.scene.stands turn.scene.below turn.few).wave s fine.safe.voice fine.notes;
}

-- what holds of both states holds of the one that a test chooses
either : (P : Playing → Type 0) (z : Bool) (one two : Playing) → P one → P two → P (if z then one else two)
either P true one two first second = first
either P false one two first second = second

-- and behind the effect step
pub effected_fine : (layout : Layout) (packed : PackedSong) (song : Song) (o : Options) (k voice : ℕ) (x : FrameState)
    (at : ℕ → ℕ) (w : Waved) → AtTurn layout packed song o k voice x at → IsFine packed k voice w.playing →
    IsFine packed k voice (effect_done o (look_of packed) w)
effected_fine layout packed song o k voice x at w turn fine =
    either (IsFine packed k voice) (w.effect && not (o.skip_effects && (w.playing.voice.tick == 0))) done w.playing
    (record {
      range = record {
        voice = (rules_range packed song turn.scene.stands).effect w.playing.voice fine.range.voice;
        common = fine.range.common;
      };
      safe = record {
        voice =
            (rules_safe packed song k voice turn.scene.stands turn.scene.below turn.few).effect w.playing.voice
            fine.safe.voice;
        common = fine.safe.common;
      };
      notes =
          (rules_keep packed song k voice turn.scene.stands turn.scene.below turn.few).effect w.playing.voice
          fine.safe.voice fine.notes;
    }) fine
  where
    done : Playing
    done = record w.playing { voice = effect_step (look_of packed) w.playing.voice }
