-- The steps of voices, and so a frame, keep states safe.
use Rattle.std.specs.Prelude.{not, ◌==◌, ◌&&◌}
use Rattle.std.proofs.Common.{ℕ, zero, suc, ◌*◌, ◌-◌, ◌<◌, Bool, true, false, cond, length, lit≤, refl}
use Rattle.std.proofs.Common.{inl, arith}
use Rattle.std.proofs.lemmas.Bool.{cond_both}
use Rattle.song_model.specs.declared.orders.Order.{Order}
use Rattle.song_model.specs.declared.orders.Subtune.{Subtune}
use Rattle.song_model.specs.declared.tables.TableName.TheVariants.{Wave, Pulse, Filter}
use Rattle.song_model.specs.declared.songs.Song.{Song}
use Rattle.song_model.specs.LookUp.{order_of, playable_subtunes}
use Rattle.play_model.specs.declared.options.Options.{Options}
use Rattle.play_model.specs.Speeds.{IsSpeed}
use Rattle.play_model.specs.LookUps.{look_ups_of}
use Rattle.play_model.specs.State.{FrameState, Playing, start_voice, start_common, start_state, playing_of, with_playing}
use Rattle.play_model.specs.TickStep.{Ticked, tick_step}
use Rattle.play_model.specs.WaveStep.{Waved, wave_step}
use Rattle.play_model.specs.EffectStep.{effect_step}
use Rattle.play_model.specs.PulseStep.{pulse_step}
use Rattle.play_model.specs.FetchRow.{fetch_row}
use Rattle.play_model.specs.Frame.{effect_done, pulse_left_out, pulse_done, row_fetched, after_tick, voice_step}
use Rattle.play_model.specs.Frame.{filter_done, voice_done, frame_of, frame_with, subtune_at, state_after_with}
use Rattle.play_model.specs.Used.{IsChannel, IsPlayedOrder}
use Rattle.play_model.specs.Safe.{none, IsSafeVoice, IsSafeTempo, IsSafeCommon, IsSafe}
use Rattle.safe_states.specs.SafeLaws.{IsSafePlaying, VoiceRulesKeepSafe, SafeWithin}
use Rattle.safe_states.proofs.Pointers.{CanBePlayed, stopped, no_time}
use Rattle.safe_states.proofs.Programs.{filter_keeps, pulse_keeps}
use Rattle.safe_states.proofs.Fetched.{is_played, play_length, fetch_keeps}
use Rattle.safe_states.proofs.Commands.{with_voice}
use Rattle.safe_states.proofs.Ticks.{tick_keeps}
use Rattle.safe_states.proofs.Waves.{wave_keeps, effect_keeps}

-- ---- the step of a voice

pub effect_done_keeps : (song : Song) (order : Order) (o : Options) (w : Waved) →
    IsSafePlaying song order w.playing → IsSafePlaying song order (effect_done o (look_ups_of song) w)
effect_done_keeps song order o w q =
    cond_both (w.effect && not (o.skip_effects && (w.playing.voice.tick == 0)))
    (record w.playing { voice = effect_step (look_ups_of song) w.playing.voice }) w.playing (IsSafePlaying song order)
    (λ h. with_voice song order w.playing (effect_step (look_ups_of song) w.playing.voice) q
    (effect_keeps song order (look_ups_of song) w.playing.voice q.voice))
    (λ h. q)

pulse_done_keeps : (song : Song) (order : Order) (o : Options) (s : Playing) → CanBePlayed song →
    IsSafePlaying song order s → IsSafePlaying song order (pulse_done o (look_ups_of song) s)
pulse_done_keeps song order o s play q =
    cond_both (pulse_left_out o s.voice) s
    (record s { voice = pulse_step (look_ups_of song) s.voice }) (IsSafePlaying song order) (λ h. q)
    (λ h. with_voice song order s (pulse_step (look_ups_of song) s.voice) q
    (pulse_keeps song order s.voice play q.voice))

row_fetched_keeps : (song : Song) (order : Order) (s : Playing) → CanBePlayed song → IsPlayedOrder song order →
    IsSafePlaying song order s → IsSafePlaying song order (row_fetched (look_ups_of song) order s)
row_fetched_keeps song order s play o q =
    cond_both (s.voice.tick == s.voice.gate_timer) (record s { voice = fetch_row (look_ups_of song) order s.voice }) s
    (IsSafePlaying song order)
    (λ h. with_voice song order s (fetch_row (look_ups_of song) order s.voice) q
    (fetch_keeps song order s.voice play o q.voice))
    (λ h. q)

after_tick_keeps : (song : Song) (order : Order) (o : Options) (t : Ticked) → CanBePlayed song →
    IsPlayedOrder song order → IsSafePlaying song order t.playing →
    IsSafePlaying song order (after_tick o (look_ups_of song) order t)
after_tick_keeps song order o t play is q =
    let w = wave_step (look_ups_of song) t.playing in
    let e = effect_done o (look_ups_of song) w in
    let p = pulse_done o (look_ups_of song) e in
    cond_both t.started t.playing (row_fetched (look_ups_of song) order p) (IsSafePlaying song order) (λ h. q)
    (λ h. row_fetched_keeps song order p play is
    (pulse_done_keeps song order o e play
    (effect_done_keeps song order o w (wave_keeps song order t.playing play q))))

voice_keeps : (song : Song) (order : Order) (channel : ℕ) (o : Options) (s : Playing) → CanBePlayed song →
    IsPlayedOrder song order → IsSafePlaying song order s →
    IsSafePlaying song order (voice_step channel o (look_ups_of song) order s)
unfolding voice_step
voice_keeps song order channel o s play is q =
    after_tick_keeps song order o (tick_step channel (look_ups_of song) s) play is
    (tick_keeps song order channel s play q)

voice_rules : (song : Song) (order : Order) → CanBePlayed song → IsPlayedOrder song order →
    VoiceRulesKeepSafe song order
voice_rules song order play is = record {
  tick = λ channel s q. tick_keeps song order channel s play q;
  wave = λ s q. wave_keeps song order s play q;
  effect = λ v q. effect_keeps song order (look_ups_of song) v q;
  pulse = λ v q. pulse_keeps song order v play q;
  fetch = λ v q. fetch_keeps song order v play is q;
  voice = λ channel o s q. voice_keeps song order channel o s play is q;
}

-- ---- the states within a frame

pub filter_done_keeps : (song : Song) (k : ℕ) (x : FrameState) → CanBePlayed song → IsSafe song k x →
    IsSafe song k (filter_done (look_ups_of song) x)
filter_done_keeps song k x play q =
    record { common = filter_keeps song x.common play q.common; one = q.one; two = q.two; three = q.three }

-- the orderlist of the first, the second or the third channel
abbrev chosen_order : Subtune → Bool → Bool → Order
chosen_order subtune first second =
    cond first (order_of 1 subtune) (cond second (order_of 2 subtune) (order_of 3 subtune))

pub playing_safe : (song : Song) (k channel : ℕ) (x : FrameState) → IsSafe song k x →
    IsSafePlaying song (order_of channel (subtune_at song k)) (playing_of channel x)
playing_safe song k channel x q = record {
  voice = each (channel == 1) (channel == 2);
  common = q.common;
}
  where
    each : (first second : Bool) → IsSafeVoice song (chosen_order (subtune_at song k) first second)
        (cond first x.one (cond second x.two x.three))
    each true second = q.one
    each false true = q.two
    each false false = q.three

put_back_keeps : (song : Song) (k channel : ℕ) (s : Playing) (x : FrameState) →
    IsSafePlaying song (order_of channel (subtune_at song k)) s → IsSafe song k x →
    IsSafe song k (with_playing channel s x)
put_back_keeps song k channel s x p q = each (channel == 1) (channel == 2) p.voice
  where
    each : (first second : Bool) → IsSafeVoice song (chosen_order (subtune_at song k) first second) s.voice →
        IsSafe song k (cond first (record x { one = s.voice; common = s.common })
        (cond second (record x { two = s.voice; common = s.common }) (record x { three = s.voice; common = s.common })))
    each true second v = record { common = p.common; one = v; two = q.two; three = q.three }
    each false true v = record { common = p.common; one = q.one; two = v; three = q.three }
    each false false v = record { common = p.common; one = q.one; two = q.two; three = v }

pub voice_done_keeps : (song : Song) (k channel : ℕ) (o : Options) (x : FrameState) → CanBePlayed song →
    k < length (playable_subtunes song) → IsChannel channel → IsSafe song k x →
    IsSafe song k (voice_done channel o (look_ups_of song) (subtune_at song k) x)
voice_done_keeps song k channel o x play h is q =
    let order = order_of channel (subtune_at song k) in
    put_back_keeps song k channel (voice_step channel o (look_ups_of song) order (playing_of channel x)) x
    (voice_keeps song order channel o (playing_of channel x) play (is_played song k channel h is)
    (playing_safe song k channel x q)) q

pub safe_within_lem : SafeWithin
safe_within_lem song limits playable =
    let play : CanBePlayed song = record { limits = limits; playable = playable } in
    record {
      rules = record {
        filter = λ c q. filter_keeps song c play q;
        voice = λ order is. voice_rules song order play is;
      };
      steps = λ o k h. record {
        filter = λ x q. filter_done_keeps song k x play q;
        voice = λ channel x is q. voice_done_keeps song k channel o x play h is q;
      };
    }

-- ---- a frame

pub is_first : IsChannel 1
is_first = record { first = lit≤ tt; last = lit≤ tt }

pub is_second : IsChannel 2
is_second = record { first = lit≤ tt; last = lit≤ tt }

pub is_third : IsChannel 3
is_third = record { first = lit≤ tt; last = lit≤ tt }

pub one_done_keeps : (song : Song) (k : ℕ) (o : Options) (x : FrameState) → CanBePlayed song →
    k < length (playable_subtunes song) → IsSafe song k x →
    IsSafe song k (voice_done 1 o (look_ups_of song) (subtune_at song k) (filter_done (look_ups_of song) x))
one_done_keeps song k o x play h q =
    voice_done_keeps song k 1 o (filter_done (look_ups_of song) x) play h is_first (filter_done_keeps song k x play q)

pub two_done_keeps : (song : Song) (k : ℕ) (o : Options) (x : FrameState) → CanBePlayed song →
    k < length (playable_subtunes song) → IsSafe song k x →
    IsSafe song k (voice_done 2 o (look_ups_of song) (subtune_at song k)
    (voice_done 1 o (look_ups_of song) (subtune_at song k) (filter_done (look_ups_of song) x)))
two_done_keeps song k o x play h q =
    voice_done_keeps song k 2 o
    (voice_done 1 o (look_ups_of song) (subtune_at song k) (filter_done (look_ups_of song) x)) play h is_second
    (one_done_keeps song k o x play h q)

pub frame_keeps : (song : Song) (k : ℕ) (o : Options) (x : FrameState) → CanBePlayed song →
    k < length (playable_subtunes song) → IsSafe song k x → IsSafe song k (frame_with o song k x).state
unfolding frame_of
frame_keeps song k o x play h q =
    voice_done_keeps song k 3 o
    (voice_done 2 o (look_ups_of song) (subtune_at song k)
    (voice_done 1 o (look_ups_of song) (subtune_at song k) (filter_done (look_ups_of song) x))) play h is_third
    (two_done_keeps song k o x play h q)

-- ---- the start

voice_starts : (song : Song) (k channel : ℕ) → CanBePlayed song → k < length (playable_subtunes song) →
    IsChannel channel → IsSafeVoice song (order_of channel (subtune_at song k)) start_voice
voice_starts song k channel play h is = record {
  instrument = inl refl;
  note = inl (omega arith);
  new_note = inl refl;
  wave = stopped song Wave;
  wave_time = λ some. absurd (some refl);
  pulse = stopped song Pulse;
  pulse_time = no_time song Pulse 0;
  waiting = none;
  running = none;
  delay = λ some. absurd (some refl);
  row = (play_length song (order_of channel (subtune_at song k)) 0 play (is_played song k channel h is)).least;
}

-- at each speed a row lasts for 6 frames or more
long_start : (song : Song) (speed : ℕ) → IsSpeed speed → IsSafeTempo song (6 * speed - 1)
long_start song speed s short = (let least = s.least in absurd (omega arith))

common_starts : (song : Song) (speed : ℕ) → IsSpeed speed → IsSafeCommon song (start_common speed)
common_starts song speed s = record {
  tempo_one = long_start song speed s;
  tempo_two = long_start song speed s;
  tempo_three = long_start song speed s;
  filter = stopped song Filter;
  filter_time = no_time song Filter 0;
}

pub start_safe : (song : Song) (k : ℕ) (o : Options) → CanBePlayed song → IsSpeed o.speed →
    k < length (playable_subtunes song) → IsSafe song k (start_state o)
start_safe song k o play s h = record {
  common = common_starts song o.speed s;
  one = voice_starts song k 1 play h is_first;
  two = voice_starts song k 2 play h is_second;
  three = voice_starts song k 3 play h is_third;
}

pub state_safe : (song : Song) (k i : ℕ) (o : Options) → CanBePlayed song → IsSpeed o.speed →
    k < length (playable_subtunes song) → IsSafe song k (state_after_with o song k i)
unfolding state_after_with
state_safe song k zero o play s h = start_safe song k o play s h
state_safe song k (suc i) o play s h =
    frame_keeps song k o (state_after_with o song k i) play h (state_safe song k i o play s h)
