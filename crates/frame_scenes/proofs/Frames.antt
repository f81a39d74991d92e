-- A frame of a packed song is ready.
use Rattle.std.proofs.Common.{◌≡◌, ℕ, ◌+◌, false, refl}
use Rattle.song_model.specs.declared.features.Feature.TheVariants.{FilterTable}
use Rattle.song_model.specs.declared.songs.Song.{Song}
use Rattle.play_model.specs.declared.options.Options.{Options}
use Rattle.play_model.specs.State.{FrameState, Playing}
use Rattle.play_model.specs.TickStep.{tick_step}
use Rattle.play_model.specs.WaveStep.{wave_step}
use Rattle.play_model.specs.Frame.{effect_done}
use Rattle.play_model.specs.Uses.{GoesOn}
use Rattle.packed_form.specs.declared.packed_songs.PackedSong.{PackedSong}
use Rattle.scopes.specs.Desk.{Layout}
use Rattle.player_memory.specs.SongLists.{pattern_bytes, slide_rows}
use Rattle.player_memory.specs.Holds.{look_of, order_in}
use Rattle.voice_code.specs.VoiceBlock.{HasVoiceLists, VoiceIsReady}
use Rattle.frame_code.specs.FrameBlock.{counts_of, turn_in, TurnIsReady}
use Rattle.frame_scenes.specs.FrameScenes.{Scene, FramesAreReady}
use Rattle.frame_scenes.proofs.Lists.{pulses_stand, filters_stand, waves_stand, tones_stand}
use Rattle.frame_scenes.proofs.Speeds.{speeds_stand}
use Rattle.frame_scenes.proofs.Turns.{AtTurn, IsFine, its_turn, begins, ticked_fine, waved_fine, effected_fine}
use Rattle.frame_scenes.proofs.LookedUp.{timer_used}
use Rattle.frame_scenes.proofs.Orders.{orderlist_stands}
use Rattle.frame_scenes.proofs.Patterns.{rows_stand}
use Rattle.frame_scenes.proofs.Ticks.{ticks_stand, in_lists, tick_keeps, one_wave}
use Rattle.frame_scenes.proofs.Waves.{wave_ready}
use Rattle.frame_scenes.proofs.Effects.{effect_ready}
use Rattle.frame_scenes.proofs.Pulses.{pulse_ready, on_filter_row}
use Rattle.frame_scenes.proofs.Stills.{still_stays}

voice_lists : (layout : Layout) (packed : PackedSong) (song : Song) (o : Options) (k : ℕ) (x : FrameState)
    (at : ℕ → ℕ) → Scene layout packed song o k x at →
    HasVoiceLists layout (slide_rows packed) at (look_of packed) (counts_of packed)
voice_lists layout packed song o k x at scene =
    let limits = scene.stands.packed_song.limits in record {
      ticks = ticks_stand layout packed song o k x at scene;
      waves = waves_stand layout packed at scene.laid scene.has limits;
      tones = tones_stand layout packed at scene.laid scene.has;
      speeds = speeds_stand layout packed at scene.has limits;
      pulses = pulses_stand layout packed at scene.laid scene.has limits;
    }

voice_ready : (layout : Layout) (packed : PackedSong) (song : Song) (o : Options) (k voice : ℕ) (x : FrameState)
    (at : ℕ → ℕ) → AtTurn layout packed song o k voice x at →
    VoiceIsReady layout (slide_rows packed) at (voice + 1) o (look_of packed) (pattern_bytes packed)
    (order_in packed k voice) (counts_of packed) (turn_in packed o k voice x)
voice_ready layout packed song o k voice x at turn = record {
  lists = in_lists layout packed song o k voice x at turn;
  keeps = tick_keeps layout packed song o k voice x at turn;
  first_wave = λ now. one_wave layout packed song o k voice x at turn;
  wave = λ waits. wave_ready layout packed song o k voice x at s turn (goes waits) ticked;
  effect = λ waits effect. effect_ready layout packed song o k voice x at s turn (goes waits) effect waved;
  fetch = λ waits. rows_stand layout packed song o k voice x at u turn effected (timer_used packed o k voice _ before);
  pulse = λ waits stays. pulse_ready layout packed song o k voice x at s turn (goes waits) effected stays;
}
  where
    s : Playing
    s = (tick_step (voice + 1) (look_of packed) (turn_in packed o k voice x)).playing

    u : Playing
    u = effect_done o (look_of packed) (wave_step (look_of packed) s)

    goes : (tick_step (voice + 1) (look_of packed) (turn_in packed o k voice x)).started ≡ false →
        GoesOn (its_turn packed o k voice x) s
    goes waits = record { waits = waits; left = refl }

    before : IsFine packed k voice (turn_in packed o k voice x)
    before = begins layout packed song o k voice x at turn

    ticked : IsFine packed k voice s
    ticked = ticked_fine layout packed song o k voice x at turn

    waved : IsFine packed k voice (wave_step (look_of packed) s).playing
    waved = waved_fine layout packed song o k voice x at s turn ticked

    effected : IsFine packed k voice u
    effected = effected_fine layout packed song o k voice x at (wave_step (look_of packed) s) turn waved

turn_ready : (layout : Layout) (packed : PackedSong) (song : Song) (o : Options) (k voice : ℕ) (x : FrameState)
    (at : ℕ → ℕ) → AtTurn layout packed song o k voice x at → TurnIsReady layout packed o k voice x at
turn_ready layout packed song o k voice x at turn = record {
  orderlist = orderlist_stands layout packed song o k voice x at turn;
  ready = voice_ready layout packed song o k voice x at turn;
}

pub frames_are_ready : FramesAreReady
frames_are_ready layout packed song o k x at scene = record {
  common = scene.common;
  shared = scene.shared;
  options = scene.options;
  filter_table = filters_stand layout packed at scene.laid scene.has scene.stands.packed_song.limits;
  filter_row = on_filter_row layout packed song o k x at scene;
  filter_kept = scene.used FilterTable;
  lists = voice_lists layout packed song o k x at scene;
  turns = λ voice few runs. turn_ready layout packed song o k voice x at (record { scene = scene; few = few });
  still = still_stays layout packed song o k x at scene;
}
