-- Frames of states whose voices may differ in the instrument with which they began leave the same registers.
use Rattle.std.specs.Prelude.{not, ◌==◌, ◌&&◌}
use Rattle.std.proofs.Common.{◌≡◌, ℕ, zero, suc, refl, ap, inr, arith}
use Rattle.song_model.specs.declared.orders.Subtune.{Subtune}
use Rattle.song_model.specs.LookUp.{order_of}
use Rattle.play_model.specs.declared.options.Options.{Options}
use Rattle.play_model.specs.LookUps.{LookUps}
use Rattle.play_model.specs.State.{Voice, Common, FrameState, Playing, start_voice, playing_of}
use Rattle.play_model.specs.FilterStep.{filter_step}
use Rattle.play_model.specs.TickStep.{Ticked, tick_step}
use Rattle.play_model.specs.WaveStep.{Waved, wave_step}
use Rattle.play_model.specs.Frame.{Framed, effect_done, pulse_left_out, pulse_done, row_fetched, after_tick, voice_step}
use Rattle.play_model.specs.Frame.{voice_registers, filter_registers, filter_done, voice_done, framed, frame_of}
use Rattle.play_model.specs.Used.{IsChannel}
use Rattle.same_frames.specs.FrameLaws.{start_with, state_from, trace_from}
use Rattle.same_frames.specs.Begins.{MayBeginWith, FirstInstrumentsDoNotShow}
use Rattle.same_frames.proofs.Choices.{choice_related}
use Rattle.same_frames.proofs.Frames.{is_first, is_second, is_third}
use Rattle.same_frames.proofs.Begun.{BegunAlike, PlayingsBegun, WavesBegun, wave_begun, pulse_begun, effect_begun}
use Rattle.same_frames.proofs.BegunTicks.{TicksBegun, tick_begun}
use Rattle.same_frames.proofs.BegunFetches.{fetch_begun}

module _ (look : LookUps) (subtune : Subtune) (i j : ℕ) (m : MayBeginWith look subtune i j) where
  abbrev Begun : ℕ → Playing → Playing → Type 0
  Begun channel = PlayingsBegun look (order_of channel subtune) i j

  -- ---- a voice

  with_voices : (channel : ℕ) (s t : Playing) (v w : Voice) → Begun channel s t →
      BegunAlike look (order_of channel subtune) i j v w →
      Begun channel (record s { voice = v }) (record t { voice = w })
  with_voices channel s t v w q h = record { voice = h; common = q.common }

  effect_done_begun : (channel : ℕ) (o : Options) (w u : Waved) →
      WavesBegun look (order_of channel subtune) i j w u →
      Begun channel (effect_done o look w) (effect_done o look u)
  effect_done_begun channel o w u q =
      choice_related (Begun channel) (w.effect && not (o.skip_effects && (w.playing.voice.tick == 0)))
      (u.effect && not (o.skip_effects && (u.playing.voice.tick == 0))) _ w.playing _ u.playing
      (rw q.effect (ap (λ (v : Voice). w.effect && not (o.skip_effects && (v.tick == 0))) q.playing.voice.is))
      (λ z. with_voices channel w.playing u.playing _ _ q.playing
      (effect_begun look (order_of channel subtune) i j w.playing.voice u.playing.voice q.playing.voice))
      (λ z. q.playing)

  pulse_done_begun : (channel : ℕ) (o : Options) (s t : Playing) → Begun channel s t →
      Begun channel (pulse_done o look s) (pulse_done o look t)
  pulse_done_begun channel o s t q =
      choice_related (Begun channel) (pulse_left_out o s.voice) (pulse_left_out o t.voice) s _ t _
      (ap (pulse_left_out o) q.voice.is)
      (λ z. q)
      (λ z. with_voices channel s t _ _ q
      (pulse_begun look (order_of channel subtune) i j s.voice t.voice q.voice))

  row_fetched_begun : (channel : ℕ) (s t : Playing) → IsChannel channel → Begun channel s t →
      Begun channel (row_fetched look (order_of channel subtune) s) (row_fetched look (order_of channel subtune) t)
  row_fetched_begun channel s t c q =
      choice_related (Begun channel) (s.voice.tick == s.voice.gate_timer) (t.voice.tick == t.voice.gate_timer) _ s _ t
      (ap (λ (v : Voice). v.tick == v.gate_timer) q.voice.is)
      (λ z. with_voices channel s t _ _ q
      (fetch_begun look (order_of channel subtune) i j (m.named channel c) (λ n. m.lengths channel n c) s.voice t.voice
      q.voice))
      (λ z. q)

  after_tick_begun : (channel : ℕ) (o : Options) (x y : Ticked) → IsChannel channel →
      TicksBegun look (order_of channel subtune) i j x y →
      Begun channel (after_tick o look (order_of channel subtune) x) (after_tick o look (order_of channel subtune) y)
  after_tick_begun channel o x y c q =
      let w = wave_step look x.playing in
      let u = wave_step look y.playing in
      let e = effect_done o look w in
      let f = effect_done o look u in
      choice_related (Begun channel) x.started y.started x.playing _ y.playing _ q.started (λ z. q.playing)
      (λ z. row_fetched_begun channel (pulse_done o look e) (pulse_done o look f) c
      (pulse_done_begun channel o e f
      (effect_done_begun channel o w u
      (wave_begun look (order_of channel subtune) i j x.playing y.playing q.playing))))

  voice_step_begun : (channel : ℕ) (o : Options) (s t : Playing) → IsChannel channel → Begun channel s t →
      Begun channel (voice_step channel o look (order_of channel subtune) s)
      (voice_step channel o look (order_of channel subtune) t)
  unfolding voice_step
  voice_step_begun channel o s t c q =
      after_tick_begun channel o (tick_step channel look s) (tick_step channel look t) c
      (tick_begun look (order_of channel subtune) i j m.timer channel s t q)

  -- ---- a frame

  record StatesBegun (x y : FrameState) : Type 0 where
    common : y.common ≡ x.common
    one : BegunAlike look (order_of 1 subtune) i j x.one y.one
    two : BegunAlike look (order_of 2 subtune) i j x.two y.two
    three : BegunAlike look (order_of 3 subtune) i j x.three y.three

  filter_done_begun : (x y : FrameState) → StatesBegun x y → StatesBegun (filter_done look x) (filter_done look y)
  filter_done_begun x y q = record {
    common = ap (filter_step look) q.common;
    one = q.one;
    two = q.two;
    three = q.three;
  }

  one_done : (o : Options) (x y : FrameState) → StatesBegun x y →
      StatesBegun (voice_done 1 o look subtune x) (voice_done 1 o look subtune y)
  one_done o x y q =
      let next = voice_step_begun 1 o (playing_of 1 x) (playing_of 1 y) is_first
      (record { voice = q.one; common = q.common }) in
      record { common = next.common; one = next.voice; two = q.two; three = q.three }

  two_done : (o : Options) (x y : FrameState) → StatesBegun x y →
      StatesBegun (voice_done 2 o look subtune x) (voice_done 2 o look subtune y)
  two_done o x y q =
      let next = voice_step_begun 2 o (playing_of 2 x) (playing_of 2 y) is_second
      (record { voice = q.two; common = q.common }) in
      record { common = next.common; one = q.one; two = next.voice; three = q.three }

  three_done : (o : Options) (x y : FrameState) → StatesBegun x y →
      StatesBegun (voice_done 3 o look subtune x) (voice_done 3 o look subtune y)
  three_done o x y q =
      let next = voice_step_begun 3 o (playing_of 3 x) (playing_of 3 y) is_third
      (record { voice = q.three; common = q.common }) in
      record { common = next.common; one = q.one; two = q.two; three = next.voice }

  record FramesBegun (f g : Framed) : Type 0 where
    state : StatesBegun f.state g.state
    registers : g.registers ≡ f.registers

  -- registers show neither an instrument nor a parameter
  voice_shows : (channel : ℕ) (v w : Voice) → BegunAlike look (order_of channel subtune) i j v w →
      voice_registers w ≡ voice_registers v
  unfolding voice_registers
  voice_shows channel v w q = ap voice_registers q.is

  framed_begun : (c d : Common) (x y : FrameState) → d ≡ c → StatesBegun x y →
      FramesBegun (framed (filter_registers c) x) (framed (filter_registers d) y)
  framed_begun c d x y e q = record {
    state = q;
    registers =
        rw (voice_shows 1 x.one y.one q.one)
        (rw (voice_shows 2 x.two y.two q.two)
        (rw (voice_shows 3 x.three y.three q.three) (rw e refl)));
  }

  frame_begun : (o : Options) (x y : FrameState) → StatesBegun x y →
      FramesBegun (frame_of o look subtune x) (frame_of o look subtune y)
  unfolding frame_of
  frame_begun o x y q =
      let q0 = filter_done_begun x y q in
      let q1 = one_done o (filter_done look x) (filter_done look y) q0 in
      let q2 = two_done o _ _ q1 in
      let q3 = three_done o _ _ q2 in
      framed_begun (filter_done look x).common (filter_done look y).common _ _ q0.common q3

  -- ---- starts and traces

  voice_starts : (channel : ℕ) → IsChannel channel →
      BegunAlike look (order_of channel subtune) i j (record start_voice { instrument = i })
      (record start_voice { instrument = j })
  voice_starts channel c = record {
    instrument = j;
    param = 0;
    is = refl;
    may = record {
      runs = λ r. refl;
      held = inr (record {
        mine = refl;
        its = refl;
        no_note = refl;
        no_delay = refl;
        before = λ n low. absurd (omega arith);
        above = λ k low. absurd (omega arith);
        inside = (m.lengths channel 0 c).least;
      });
    };
  }

  states_begun : (o : Options) (n : ℕ) →
      StatesBegun (state_from o look subtune (start_with o i) n) (state_from o look subtune (start_with o j) n)
  unfolding state_from
  states_begun o zero = record {
    common = refl;
    one = voice_starts 1 is_first;
    two = voice_starts 2 is_second;
    three = voice_starts 3 is_third;
  }
  states_begun o (suc n) =
      (frame_begun o (state_from o look subtune (start_with o i) n) (state_from o look subtune (start_with o j) n)
      (states_begun o n)).state

  traces_begun : (o : Options) (n : ℕ) →
      trace_from o look subtune (start_with o j) n ≡ trace_from o look subtune (start_with o i) n
  traces_begun o zero = refl
  traces_begun o (suc n) =
      (frame_begun o (state_from o look subtune (start_with o i) n) (state_from o look subtune (start_with o j) n)
      (states_begun o n)).registers

pub first_instruments_lem : FirstInstrumentsDoNotShow
first_instruments_lem o look subtune i j n m = traces_begun look subtune i j m o n
