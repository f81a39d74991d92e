-- Each rule of a frame, over a playable song and over other look-ups that agree with it, keeps what it works on alike.
use Rattle.std.proofs.Common.{◌≡◌, ◌≢◌, ℕ, Some, refl, sym, ap, subst, ◌∙◌, ◌≤◌, inl, arith}
use Rattle.song_model.specs.declared.orders.Order.{Order}
use Rattle.song_model.specs.declared.tables.TableName.TheVariants.{Wave, Pulse, Filter, Speed}
use Rattle.song_model.specs.declared.songs.Song.{Song}
use Rattle.song_model.specs.LookUp.{instrument_at}
use Rattle.song_model.specs.Pointers.{command_table}
use Rattle.play_model.specs.LookUps.{LookUps, look_ups_of}
use Rattle.play_model.specs.State.{Voice, Common, Playing}
use Rattle.play_model.specs.FilterStep.{filter_step}
use Rattle.play_model.specs.TickStep.{Ticked, tick_step}
use Rattle.play_model.specs.WaveStep.{Waved, wave_step}
use Rattle.play_model.specs.EffectStep.{effect_step}
use Rattle.play_model.specs.PulseStep.{pulse_step}
use Rattle.play_model.specs.Safe.{IsSafeVoice, IsSafeWaiting, none, of_row, IsSafeRunning, of_instrument}
use Rattle.safe_states.specs.SafeLaws.{IsSafePlaying, VoiceRulesKeepSafe}
use Rattle.safe_states.proofs.Laws.{CanBePlayed, is_step, safe_within_lem}
use Rattle.same_frames.specs.Maps.{Maps, same_numbers}
use Rattle.same_frames.specs.Agreement.{Agrees}
use Rattle.same_frames.specs.Alike.{moved_voice, moved_common, WaitsFor, IsNamedLast, VoicesAreAlike, CommonsAreAlike}
use Rattle.same_frames.specs.Alike.{PlayingsAreAlike}
use Rattle.same_frames.specs.FrameLaws.{TicksAreAlike, WavesAreAlike}
use Rattle.same_frames.proofs.Moved.{Held, held_of, put, put_playing, put_ticked, put_waved, same_pointer, moved_held}
use Rattle.same_frames.proofs.Moved.{moved_again}
use Rattle.same_frames.proofs.Slides.{IsSpeedFor, same_speed}
use Rattle.same_frames.proofs.Programs.{pulse_moved_lem, filter_moved}
use Rattle.same_frames.proofs.Waves.{effect_moved, wave_moved}
use Rattle.same_frames.proofs.Ticks.{same_param, slides_point, IsTickFor, tick_moved}
use Rattle.same_frames.proofs.Agreed.{MayPoint, from_safe, from_instrument, from_row, none_alike, speed_alike}
use Rattle.same_frames.proofs.Reading.{pulse_alike, filter_alike, wave_alike}

-- ---- what the rules between two fetches don't change

pub tick_holds : (channel : ℕ) (look : LookUps) (s : Playing) →
    held_of (tick_step channel look s).playing.voice ≡ held_of s.voice
tick_holds channel look s =
    ap (λ (t : Ticked). held_of t.playing.voice)
    (tick_moved same_numbers (held_of s.voice) channel look look s refl (record {
      instrument = record { moved = refl };
      begins = record { pulse = refl; filter = refl };
      command = refl;
      param = same_param look s.voice.new_command s.voice.new_param;
    }))

pub wave_holds : (look : LookUps) (s : Playing) → held_of (wave_step look s).playing.voice ≡ held_of s.voice
wave_holds look s =
    ap (λ (w : Waved). held_of w.playing.voice)
    (wave_moved same_numbers (held_of s.voice) look look s refl refl (λ some. record {
      left = refl;
      right = sym (same_pointer _ _);
      next = refl;
      speed = λ low high. same_speed look _;
    }))

pub effect_holds : (look : LookUps) (v : Voice) → held_of (effect_step look v) ≡ held_of v
effect_holds look v = ap held_of (effect_moved same_numbers (held_of v) look look v (same_speed look v.param))

pub pulse_holds : (look : LookUps) (v : Voice) → held_of (pulse_step look v) ≡ held_of v
pulse_holds look v =
    ap held_of
    (pulse_moved_lem same_numbers (held_of v) look look v refl (λ some. record { row = refl; next = λ goes. refl }))

-- ---- voices that go on alike

-- what two voices that are alike hold
pub record HeldAlike (maps : Maps) (song : Song) (order : Order) (param : ℕ) (h : Held) : Type 0 where
  pub named : IsNamedLast song order h.plays h.row h.instrument
  pub waiting : WaitsFor maps h.new_command h.new_param param

-- a rule that changes nothing of it, and commutes with new numbers, keeps voices alike
go_on : (maps : Maps) (song : Song) (order : Order) (v w v1 w1 : Voice) → VoicesAreAlike maps song order v w →
    IsSafeVoice song order v1 → held_of v1 ≡ held_of v → w1 ≡ put maps (moved_held maps w.new_param (held_of v)) v1 →
    VoicesAreAlike maps song order v1 w1
go_on maps song order v w v1 w1 q safe holds is =
    let moved : w1 ≡ moved_voice maps w.new_param v1 = is ∙ moved_again maps w.new_param v1 v holds in
    let param : w1.new_param ≡ w.new_param = ap (λ (x : Voice). x.new_param) moved in
    let held : HeldAlike maps song order w.new_param (held_of v) = record { named = q.named; waiting = q.waiting } in
    let kept = subst (HeldAlike maps song order w.new_param) (sym holds) held in
    record {
      safe = safe;
      named = kept.named;
      moved = subst (λ (n : ℕ). w1 ≡ moved_voice maps n v1) (sym param) moved;
      waiting = subst (WaitsFor maps v1.new_command v1.new_param) (sym param) kept.waiting;
    }

-- ---- a voice at its step

abbrev parts : Voice → Common → Playing
parts v c = record { voice = v; common = c }

parts_alike : (v w : Voice) (c d : Common) → v ≡ w → c ≡ d → parts v c ≡ parts w d
parts_alike v w c d e f = ap (λ (x : Voice). parts x c) e ∙ ap (parts w) f

-- the other playing, written out
playing_is : (maps : Maps) (song : Song) (order : Order) (s t : Playing) → PlayingsAreAlike maps song order s t →
    t ≡ put_playing maps (moved_held maps t.voice.new_param (held_of s.voice)) s
playing_is maps song order s t q =
    parts_alike t.voice (moved_voice maps t.voice.new_param s.voice) t.common (moved_common maps s.common)
    q.voice.moved q.common.moved

pub safe_playing : (maps : Maps) (song : Song) (order : Order) (s t : Playing) →
    PlayingsAreAlike maps song order s t → IsSafePlaying song order s
safe_playing maps song order s t q = record { voice = q.voice.safe; common = q.common.safe }

-- a step of both that changes nothing that is held, and commutes with new numbers
playing_goes_on : (maps : Maps) (song : Song) (order : Order) (s t s1 t1 : Playing) →
    PlayingsAreAlike maps song order s t → IsSafePlaying song order s1 → held_of s1.voice ≡ held_of s.voice →
    t1 ≡ put_playing maps (moved_held maps t.voice.new_param (held_of s.voice)) s1 →
    PlayingsAreAlike maps song order s1 t1
playing_goes_on maps song order s t s1 t1 q safe holds is = record {
  voice = go_on maps song order s.voice t.voice s1.voice t1.voice q.voice safe.voice holds
      (ap (λ (x : Playing). x.voice) is);
  common = record { safe = safe.common; moved = ap (λ (x : Playing). x.common) is };
}

-- ---- what waits and what runs points at speeds that are found

row_lengths : (maps : Maps) (song : Song) (other : LookUps) (c d e : ℕ) → Agrees maps song other →
    IsSafeWaiting song c d → WaitsFor maps c d e → c ≡ 0xE → IsSpeedFor (look_ups_of song) other d e
row_lengths maps song other c d e a none waits is = absurd (omega arith)
row_lengths maps song other c d e a (of_row h) waits is =
    let table : command_table c ≡ Some Speed = rw is refl in
    let param : e ≡ maps.row Speed d = rw table at (waits (λ z. omega arith)) in
    rw param (speed_alike maps song other a d (from_row song Speed c d h table))

least_some : (c : ℕ) → 1 ≤ c → c ≢ 0
least_some c low z = omega arith

pub running_points : (song : Song) (c d : ℕ) → IsSafeRunning song c d → MayPoint song Speed d
running_points song c d none = inl refl
running_points song c d (of_instrument i used) = from_instrument song Speed i used
running_points song c d (of_row low high h) =
    from_row song Speed c d h (slides_point c (least_some c low) high)

-- ---- the rules between two fetches

tick_for : (maps : Maps) (song : Song) (other : LookUps) (order : Order) (v w : Voice) → Agrees maps song other →
    VoicesAreAlike maps song order v w →
    IsTickFor maps (look_ups_of song) other (moved_held maps w.new_param (held_of v)) v
tick_for maps song other order v w a q = record {
  instrument = a.instruments.stands_for v.instrument q.safe.instrument;
  begins = record {
    pulse = none_alike maps song other a Pulse (instrument_at song v.instrument).pulse
        (from_instrument song Pulse v.instrument q.safe.instrument);
    filter = none_alike maps song other a Filter (instrument_at song v.instrument).filter
        (from_instrument song Filter v.instrument q.safe.instrument);
  };
  command = refl;
  param = record {
    is = q.waiting;
    lengths = row_lengths maps song other v.new_command v.new_param w.new_param a q.safe.waiting q.waiting;
  };
}

pub tick_alike : (maps : Maps) (song : Song) (other : LookUps) (order : Order) (channel : ℕ) (s t : Playing) →
    Agrees maps song other → VoiceRulesKeepSafe song order → PlayingsAreAlike maps song order s t →
    TicksAreAlike maps song order (tick_step channel (look_ups_of song) s) (tick_step channel other t)
tick_alike maps song other order channel s t a rules q =
    let look = look_ups_of song in
    let h = moved_held maps t.voice.new_param (held_of s.voice) in
    let is : tick_step channel other t ≡ put_ticked maps h (tick_step channel look s) =
    ap (tick_step channel other) (playing_is maps song order s t q)
    ∙ tick_moved maps h channel look other s (a.rows Filter).nothing
    (tick_for maps song other order s.voice t.voice a q.voice) in
    record {
      playing = playing_goes_on maps song order s t (tick_step channel look s).playing
          (tick_step channel other t).playing
          q (rules.tick channel s (safe_playing maps song order s t q)) (tick_holds channel look s)
          (ap (λ (x : Ticked). x.playing) is);
      started = ap (λ (x : Ticked). x.started) is;
    }

pub wave_step_alike : (maps : Maps) (song : Song) (other : LookUps) (order : Order) (s t : Playing) →
    CanBePlayed song → Agrees maps song other → VoiceRulesKeepSafe song order → PlayingsAreAlike maps song order s t →
    WavesAreAlike maps song order (wave_step (look_ups_of song) s) (wave_step other t)
wave_step_alike maps song other order s t play a rules q =
    let look = look_ups_of song in
    let h = moved_held maps t.voice.new_param (held_of s.voice) in
    let p = s.voice.wave_ptr in
    let is : wave_step other t ≡ put_waved maps h (wave_step look s) =
    ap (wave_step other) (playing_is maps song order s t q)
    ∙ wave_moved maps h look other s (a.rows Filter).nothing
    (none_alike maps song other a Wave p (from_safe song Wave p q.voice.safe.wave))
    (λ some. wave_alike maps song other p play a (is_step song Wave p q.voice.safe.wave some)) in
    record {
      playing = playing_goes_on maps song order s t (wave_step look s).playing (wave_step other t).playing
          q (rules.wave s (safe_playing maps song order s t q)) (wave_holds look s) (ap (λ (x : Waved). x.playing) is);
      effect = ap (λ (x : Waved). x.effect) is;
    }

pub effect_alike : (maps : Maps) (song : Song) (other : LookUps) (order : Order) (v w : Voice) →
    Agrees maps song other → VoiceRulesKeepSafe song order → VoicesAreAlike maps song order v w →
    VoicesAreAlike maps song order (effect_step (look_ups_of song) v) (effect_step other w)
effect_alike maps song other order v w a rules q =
    let look = look_ups_of song in
    go_on maps song order v w (effect_step look v) (effect_step other w) q (rules.effect v q.safe)
    (effect_holds look v)
    (ap (effect_step other) q.moved
    ∙ effect_moved maps (moved_held maps w.new_param (held_of v)) look other v
    (speed_alike maps song other a v.param (running_points song v.command v.param q.safe.running)))

pub pulse_step_alike : (maps : Maps) (song : Song) (other : LookUps) (order : Order) (v w : Voice) →
    CanBePlayed song → Agrees maps song other → VoiceRulesKeepSafe song order → VoicesAreAlike maps song order v w →
    VoicesAreAlike maps song order (pulse_step (look_ups_of song) v) (pulse_step other w)
pulse_step_alike maps song other order v w play a rules q =
    let look = look_ups_of song in
    let p = v.pulse_ptr in
    go_on maps song order v w (pulse_step look v) (pulse_step other w) q (rules.pulse v q.safe)
    (pulse_holds look v)
    (ap (pulse_step other) q.moved
    ∙ pulse_moved_lem maps (moved_held maps w.new_param (held_of v)) look other v
    (none_alike maps song other a Pulse p (from_safe song Pulse p q.safe.pulse))
    (λ some. pulse_alike maps song other p v.pulse_time play a (is_step song Pulse p q.safe.pulse some) some
    q.safe.pulse_time))

pub filter_step_alike : (maps : Maps) (song : Song) (other : LookUps) (c d : Common) → CanBePlayed song →
    Agrees maps song other → CommonsAreAlike maps song c d →
    CommonsAreAlike maps song (filter_step (look_ups_of song) c) (filter_step other d)
filter_step_alike maps song other c d play a q =
    let look = look_ups_of song in
    let p = c.filter_ptr in
    record {
      safe = (safe_within_lem song play.limits play.playable).rules.filter c q.safe;
      moved = ap (filter_step other) q.moved
          ∙ filter_moved maps look other c
          (none_alike maps song other a Filter p (from_safe song Filter p q.safe.filter))
          (λ some. filter_alike maps song other p play a (is_step song Filter p q.safe.filter some));
    }
