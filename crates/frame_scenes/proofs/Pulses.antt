-- The pulse step and the filter step are ready.
use Rattle.std.proofs.Common.{◌≡◌, ◌≢◌, ℕ, ◌+◌, ◌<◌, false, length, inl, inr, refl, arith}
use Rattle.std.proofs.lemmas.Bool.{cases_eq, ne_eqb}
use Rattle.song_model.specs.declared.features.Feature.TheVariants.{PulseTable}
use Rattle.song_model.specs.declared.songs.Song.{Song}
use Rattle.song_model.specs.declared.tables.TableName.TheVariants.{Pulse, Filter}
use Rattle.play_model.specs.declared.options.Options.{Options}
use Rattle.play_model.specs.State.{FrameState, Playing}
use Rattle.play_model.specs.Reached.{IsStep}
use Rattle.play_model.specs.WaveStep.{wave_step}
use Rattle.play_model.specs.Frame.{effect_done, pulse_left_out}
use Rattle.play_model.specs.Uses.{GoesOn}
use Rattle.safe_states.proofs.Laws.{is_step}
use Rattle.packed_form.specs.declared.packed_songs.PackedSong.{PackedSong}
use Rattle.packed_form.specs.Unpacked.{unpacked_song}
use Rattle.scopes.specs.Desk.{Layout}
use Rattle.player_memory.specs.Holds.{look_of}
use Rattle.pulse_code.specs.PulseBlock.{IsOnRow}
use Rattle.filter_code.specs.FilterBlock.{IsOnFilterRow}
use Rattle.voice_code.specs.VoiceBlock.{PulseIsReady}
use Rattle.frame_code.specs.FrameBlock.{counts_of}
use Rattle.frame_scenes.specs.FrameScenes.{Scene}
use Rattle.frame_scenes.proofs.Turns.{AtTurn, IsFine, its_turn, in_turn}
use Rattle.frame_scenes.proofs.Programs.{step_stored, next_stored, following_step}

-- ---- the pulse step

on_row : (layout : Layout) (packed : PackedSong) (song : Song) (o : Options) (k voice : ℕ) (x : FrameState)
    (at : ℕ → ℕ) (s : Playing) → AtTurn layout packed song o k voice x at → IsFine packed k voice s →
    IsOnRow (look_of packed) (length packed.pulse) s.voice
on_row layout packed song o k voice x at s turn fine = record {
  row = elim (cases_eq s.voice.pulse_ptr 0) [
    | inl at_zero ↦ let e = at_zero in omega (arith, e)
    | inr some ↦
        (step_stored (unpacked_song packed) Pulse s.voice.pulse_ptr turn.scene.stands.complete.playable (λ e. (cc))
        (step some)).last
  ];
  next = λ some left.
      next_stored (unpacked_song packed) Pulse s.voice.pulse_ptr turn.scene.stands.complete.playable (λ e. (cc))
      (step some) (ne_eqb _ 0 left);
  runs = λ some time none. let least = (fine.safe.voice.pulse_time some time).least in omega (arith, least, none);
  time = fine.range.voice.pulse_time;
  width = fine.range.voice.pulse;
}
  where
    step : s.voice.pulse_ptr ≢ 0 → IsStep (unpacked_song packed) Pulse s.voice.pulse_ptr
    step some = is_step (unpacked_song packed) Pulse s.voice.pulse_ptr fine.safe.voice.pulse some

pub pulse_ready : (layout : Layout) (packed : PackedSong) (song : Song) (o : Options) (k voice : ℕ) (x : FrameState)
    (at : ℕ → ℕ) (s : Playing) → AtTurn layout packed song o k voice x at →
    GoesOn (its_turn packed o k voice x) s →
    IsFine packed k voice (effect_done o (look_of packed) (wave_step (look_of packed) s)) →
    pulse_left_out o (effect_done o (look_of packed) (wave_step (look_of packed) s)).voice ≡ false →
    PulseIsReady layout (look_of packed) (counts_of packed)
    (effect_done o (look_of packed) (wave_step (look_of packed) s)).voice
pulse_ready layout packed song o k voice x at s turn goes fine stays = record {
  on = on_row layout packed song o k voice x at u turn fine;
  keeps = λ some.
      turn.scene.used PulseTable
      (in_turn packed o k voice x _ turn.few (
        u.voice.pulse_ptr,
        record {
          s = s;
          goes_on = goes;
          v = u.voice;
          voice_is = refl;
          kept = stays;
          ptr = refl;
          some = some;
        },
      ));
}
  where
    u : Playing
    u = effect_done o (look_of packed) (wave_step (look_of packed) s)

-- ---- the filter step

pub on_filter_row : (layout : Layout) (packed : PackedSong) (song : Song) (o : Options) (k : ℕ) (x : FrameState)
    (at : ℕ → ℕ) → Scene layout packed song o k x at → IsOnFilterRow (look_of packed) (length packed.filter) x.common
on_filter_row layout packed song o k x at scene = record {
  next = λ some. goes_on x.common.filter_ptr (step some);
  pair = λ some set zero_left.
      goes_on (x.common.filter_ptr + 1)
      (following_step (unpacked_song packed) x.common.filter_ptr scene.stands.complete.playable (step some) zero_left);
}
  where
    step : x.common.filter_ptr ≢ 0 → IsStep (unpacked_song packed) Filter x.common.filter_ptr
    step some = is_step (unpacked_song packed) Filter x.common.filter_ptr scene.safe.common.filter some

    goes_on : (p : ℕ) → IsStep (unpacked_song packed) Filter p → p < length packed.filter
    goes_on p on = next_stored (unpacked_song packed) Filter p scene.stands.complete.playable (λ e. (cc)) on refl
