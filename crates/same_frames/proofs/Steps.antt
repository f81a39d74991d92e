-- The steps of voices keep playings alike.
use Rattle.std.specs.Prelude.{not, ◌==◌, ◌&&◌}
use Rattle.std.proofs.Common.{◌≡◌, ℕ, refl, ap}
use Rattle.song_model.specs.declared.orders.Order.{Order}
use Rattle.song_model.specs.declared.songs.Song.{Song}
use Rattle.play_model.specs.declared.options.Options.{Options}
use Rattle.play_model.specs.LookUps.{LookUps, look_ups_of}
use Rattle.play_model.specs.State.{Voice, Playing}
use Rattle.play_model.specs.TickStep.{Ticked, tick_step}
use Rattle.play_model.specs.WaveStep.{Waved, wave_step}
use Rattle.play_model.specs.Frame.{effect_done, pulse_left_out, pulse_done, row_fetched, after_tick, voice_step}
use Rattle.play_model.specs.Used.{IsPlayedOrder}
use Rattle.safe_states.specs.SafeLaws.{VoiceRulesKeepSafe}
use Rattle.safe_states.proofs.Laws.{CanBePlayed}
use Rattle.same_frames.specs.Maps.{Maps}
use Rattle.same_frames.specs.Agreement.{Agrees, PlaysFor}
use Rattle.same_frames.specs.Alike.{VoicesAreAlike, PlayingsAreAlike}
use Rattle.same_frames.specs.FrameLaws.{TicksAreAlike, WavesAreAlike}
use Rattle.same_frames.proofs.Choices.{choice_related}
use Rattle.same_frames.proofs.Rules.{tick_alike, wave_step_alike, effect_alike, pulse_step_alike}
use Rattle.same_frames.proofs.Fetches.{fetch_alike}

-- two voices that are alike count alike
same_tick : (maps : Maps) (song : Song) (order : Order) (v w : Voice) → VoicesAreAlike maps song order v w →
    w.tick ≡ v.tick
same_tick maps song order v w q = ap (λ (x : Voice). x.tick) q.moved

same_timer : (maps : Maps) (song : Song) (order : Order) (v w : Voice) → VoicesAreAlike maps song order v w →
    w.gate_timer ≡ v.gate_timer
same_timer maps song order v w q = ap (λ (x : Voice). x.gate_timer) q.moved

same_row : (maps : Maps) (song : Song) (order : Order) (v w : Voice) → VoicesAreAlike maps song order v w →
    w.row ≡ v.row
same_row maps song order v w q = ap (λ (x : Voice). x.row) q.moved

with_voices : (maps : Maps) (song : Song) (order : Order) (s t : Playing) (v w : Voice) →
    PlayingsAreAlike maps song order s t → VoicesAreAlike maps song order v w →
    PlayingsAreAlike maps song order (record s { voice = v }) (record t { voice = w })
with_voices maps song order s t v w q h = record { voice = h; common = q.common }

module _ (maps : Maps) (song : Song) (other : LookUps) (order : Order) (play : CanBePlayed song)
    (a : Agrees maps song other) (rules : VoiceRulesKeepSafe song order) where
  pub effect_done_alike : (o : Options) (w u : Waved) → WavesAreAlike maps song order w u →
      PlayingsAreAlike maps song order (effect_done o (look_ups_of song) w) (effect_done o other u)
  effect_done_alike o w u q =
      choice_related (PlayingsAreAlike maps song order)
      (w.effect && not (o.skip_effects && (w.playing.voice.tick == 0)))
      (u.effect && not (o.skip_effects && (u.playing.voice.tick == 0))) _ w.playing _ u.playing
      (rw q.effect (rw (same_tick maps song order w.playing.voice u.playing.voice q.playing.voice) refl))
      (λ z. with_voices maps song order w.playing u.playing _ _ q.playing
      (effect_alike maps song other order w.playing.voice u.playing.voice a rules q.playing.voice))
      (λ z. q.playing)

  pulse_done_alike : (o : Options) (s t : Playing) → PlayingsAreAlike maps song order s t →
      PlayingsAreAlike maps song order (pulse_done o (look_ups_of song) s) (pulse_done o other t)
  pulse_done_alike o s t q =
      choice_related (PlayingsAreAlike maps song order) (pulse_left_out o s.voice) (pulse_left_out o t.voice) s _ t _
      (rw (same_tick maps song order s.voice t.voice q.voice)
      (rw (same_timer maps song order s.voice t.voice q.voice)
      (rw (same_row maps song order s.voice t.voice q.voice) refl)))
      (λ z. q)
      (λ z. with_voices maps song order s t _ _ q
      (pulse_step_alike maps song other order s.voice t.voice play a rules q.voice))

  row_fetched_alike : (beyond : Order) (s t : Playing) → IsPlayedOrder song order → PlaysFor maps order beyond →
      PlayingsAreAlike maps song order s t →
      PlayingsAreAlike maps song order (row_fetched (look_ups_of song) order s) (row_fetched other beyond t)
  row_fetched_alike beyond s t is plays q =
      choice_related (PlayingsAreAlike maps song order) (s.voice.tick == s.voice.gate_timer)
      (t.voice.tick == t.voice.gate_timer) _ s _ t
      (rw (same_tick maps song order s.voice t.voice q.voice)
      (rw (same_timer maps song order s.voice t.voice q.voice) refl))
      (λ z. with_voices maps song order s t _ _ q
      (fetch_alike maps song other order beyond s.voice t.voice play a is plays rules q.voice))
      (λ z. q)

  after_tick_alike : (o : Options) (beyond : Order) (x y : Ticked) → IsPlayedOrder song order →
      PlaysFor maps order beyond → TicksAreAlike maps song order x y →
      PlayingsAreAlike maps song order (after_tick o (look_ups_of song) order x) (after_tick o other beyond y)
  after_tick_alike o beyond x y is plays q =
      let w = wave_step (look_ups_of song) x.playing in
      let u = wave_step other y.playing in
      let e = effect_done o (look_ups_of song) w in
      let f = effect_done o other u in
      choice_related (PlayingsAreAlike maps song order) x.started y.started x.playing _ y.playing _ q.started
      (λ z. q.playing)
      (λ z. row_fetched_alike beyond (pulse_done o (look_ups_of song) e) (pulse_done o other f) is plays
      (pulse_done_alike o e f
      (effect_done_alike o w u
      (wave_step_alike maps song other order x.playing y.playing play a rules q.playing))))

  pub voice_step_alike : (channel : ℕ) (o : Options) (beyond : Order) (s t : Playing) → IsPlayedOrder song order →
      PlaysFor maps order beyond → PlayingsAreAlike maps song order s t →
      PlayingsAreAlike maps song order (voice_step channel o (look_ups_of song) order s)
      (voice_step channel o other beyond t)
  unfolding voice_step
  voice_step_alike channel o beyond s t is plays q =
      after_tick_alike o beyond (tick_step channel (look_ups_of song) s) (tick_step channel other t) is plays
      (tick_alike maps song other order channel s t a rules q)
