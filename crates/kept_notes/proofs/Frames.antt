-- The steps of voices, and so frames, keep a state's notes.
use Rattle.std.specs.Prelude.{not, ◌==◌, ◌&&◌}
use Rattle.std.proofs.Common.{ℕ, zero, suc, ◌<◌, Bool, true, false, cond, length, lit≤, refl, inl, arith}
use Rattle.std.proofs.lemmas.Bool.{cond_both}
use Rattle.song_model.specs.declared.orders.Order.{Order}
use Rattle.song_model.specs.declared.songs.Song.{Song}
use Rattle.song_model.specs.LookUp.{order_of, playable_subtunes}
use Rattle.play_model.specs.declared.options.Options.{Options}
use Rattle.play_model.specs.LookUps.{look_ups_of}
use Rattle.play_model.specs.State.{Voice, FrameState, Playing, start_voice, playing_of, with_playing}
use Rattle.play_model.specs.TickStep.{Ticked, tick_step}
use Rattle.play_model.specs.WaveStep.{Waved, wave_step}
use Rattle.play_model.specs.EffectStep.{effect_step}
use Rattle.play_model.specs.PulseStep.{pulse_step}
use Rattle.play_model.specs.FetchRow.{fetch_row}
use Rattle.play_model.specs.Frame.{effect_done, pulse_left_out, pulse_done, row_fetched, after_tick, voice_step}
use Rattle.play_model.specs.Frame.{filter_done, voice_done, frame_of, frame_with, subtune_at, state_after_with}
use Rattle.play_model.specs.Used.{IsChannel, IsPlayedOrder}
use Rattle.play_model.specs.Uses.{before_voice}
use Rattle.play_model.specs.Safe.{IsSafeVoice, IsSafe}
use Rattle.safe_states.specs.SafeLaws.{IsSafePlaying, VoiceRulesKeepSafe, StepsKeepSafe, KeepsSafeWithin}
use Rattle.safe_states.proofs.Laws.{CanBePlayed, playing_safe, safe_within_lem, states_are_safe_lem, is_played}
use Rattle.kept_notes.specs.Voices.{silent, KeepsNotes, KeepAllNotes}
use Rattle.kept_notes.specs.NoteLaws.{VoiceRulesKeepNotes, NotesWithin, PlayableSongsPlayTheirNotes}
use Rattle.kept_notes.specs.NoteLaws.{StatesKeepNotes}
use Rattle.kept_notes.proofs.Ticks.{tick_keeps}
use Rattle.kept_notes.proofs.Waves.{wave_keeps, effect_keeps}
use Rattle.kept_notes.proofs.Rows.{pulse_keeps, fetch_keeps}

safe_within : (song : Song) → CanBePlayed song → KeepsSafeWithin song
safe_within song play = safe_within_lem song play.limits play.playable

-- ---- the step of a voice

-- a voice at its step that is safe and keeps the song's notes
record IsReady (song : Song) (order : Order) (s : Playing) : Type 0 where
  safe : IsSafePlaying song order s
  notes : KeepsNotes song s.voice

module _ (song : Song) (order : Order) (play : CanBePlayed song) (is : IsPlayedOrder song order) where
  rules : VoiceRulesKeepSafe song order
  rules = (safe_within song play).rules.voice order is

  -- another voice beside what the voices share
  with_voice : (s : Playing) (v : Voice) → IsReady song order s → IsSafeVoice song order v → KeepsNotes song v →
      IsReady song order (record s { voice = v })
  with_voice s v q safe notes = record { safe = record { voice = safe; common = q.safe.common }; notes = notes }

  effect_done_ready : (o : Options) (w : Waved) → IsReady song order w.playing →
      IsReady song order (effect_done o (look_ups_of song) w)
  effect_done_ready o w q =
      cond_both (w.effect && not (o.skip_effects && (w.playing.voice.tick == 0)))
      (record w.playing { voice = effect_step (look_ups_of song) w.playing.voice }) w.playing (IsReady song order)
      (λ h. with_voice w.playing (effect_step (look_ups_of song) w.playing.voice) q
      (rules.effect w.playing.voice q.safe.voice)
      (effect_keeps song (look_ups_of song) w.playing.voice q.safe.voice.running q.notes))
      (λ h. q)

  pulse_done_ready : (o : Options) (s : Playing) → IsReady song order s →
      IsReady song order (pulse_done o (look_ups_of song) s)
  pulse_done_ready o s q =
      cond_both (pulse_left_out o s.voice) s (record s { voice = pulse_step (look_ups_of song) s.voice })
      (IsReady song order) (λ h. q)
      (λ h. with_voice s (pulse_step (look_ups_of song) s.voice) q (rules.pulse s.voice q.safe.voice)
      (pulse_keeps song (look_ups_of song) s.voice q.notes))

  row_fetched_ready : (s : Playing) → IsReady song order s → IsReady song order (row_fetched (look_ups_of song) order s)
  row_fetched_ready s q =
      cond_both (s.voice.tick == s.voice.gate_timer)
      (record s { voice = fetch_row (look_ups_of song) order s.voice }) s (IsReady song order)
      (λ h. with_voice s (fetch_row (look_ups_of song) order s.voice) q (rules.fetch s.voice q.safe.voice)
      (fetch_keeps song order s.voice play is q.safe.voice.row q.notes))
      (λ h. q)

  after_tick_ready : (o : Options) (t : Ticked) → IsReady song order t.playing →
      IsReady song order (after_tick o (look_ups_of song) order t)
  after_tick_ready o t q =
      let w = wave_step (look_ups_of song) t.playing in
      let e = effect_done o (look_ups_of song) w in
      let p = pulse_done o (look_ups_of song) e in
      cond_both t.started t.playing (row_fetched (look_ups_of song) order p) (IsReady song order) (λ h. q)
      (λ h. row_fetched_ready p (pulse_done_ready o e (effect_done_ready o w
      (record { safe = rules.wave t.playing q.safe; notes = wave_keeps song t.playing q.safe.voice.wave q.notes }))))

  voice_keeps : (channel : ℕ) (o : Options) (s : Playing) → IsSafePlaying song order s → KeepsNotes song s.voice →
      KeepsNotes song (voice_step channel o (look_ups_of song) order s).voice
  unfolding voice_step
  voice_keeps channel o s safe q =
      (after_tick_ready o (tick_step channel (look_ups_of song) s) (record {
        safe = rules.tick channel s safe;
        notes = tick_keeps song channel s safe.voice.instrument safe.voice.waiting q;
      })).notes

  voice_rules : VoiceRulesKeepNotes song order
  voice_rules = record {
    tick = λ channel s safe q. tick_keeps song channel s safe.instrument safe.waiting q;
    wave = λ s safe q. wave_keeps song s safe.wave q;
    effect = λ v safe q. effect_keeps song (look_ups_of song) v safe.running q;
    pulse = λ v q. pulse_keeps song (look_ups_of song) v q;
    fetch = λ v safe q. fetch_keeps song order v play is safe.row q;
    voice = λ channel o s safe q. voice_keeps channel o s safe q;
  }

-- ---- the states within a frame

filter_done_keeps : (song : Song) (x : FrameState) → KeepAllNotes song x →
    KeepAllNotes song (filter_done (look_ups_of song) x)
filter_done_keeps song x q = record { one = q.one; two = q.two; three = q.three }

pub playing_keeps : (song : Song) (channel : ℕ) (x : FrameState) → KeepAllNotes song x →
    KeepsNotes song (playing_of channel x).voice
playing_keeps song channel x q = each (channel == 1) (channel == 2)
  where
    each : (first second : Bool) → KeepsNotes song (cond first x.one (cond second x.two x.three))
    each true second = q.one
    each false true = q.two
    each false false = q.three

put_back_keeps : (song : Song) (channel : ℕ) (s : Playing) (x : FrameState) → KeepsNotes song s.voice →
    KeepAllNotes song x → KeepAllNotes song (with_playing channel s x)
put_back_keeps song channel s x v q = each (channel == 1) (channel == 2)
  where
    each : (first second : Bool) →
        KeepAllNotes song (cond first (record x { one = s.voice; common = s.common })
        (cond second (record x { two = s.voice; common = s.common }) (record x { three = s.voice; common = s.common })))
    each true second = record { one = v; two = q.two; three = q.three }
    each false true = record { one = q.one; two = v; three = q.three }
    each false false = record { one = q.one; two = q.two; three = v }

voice_done_keeps : (song : Song) (k channel : ℕ) (o : Options) (x : FrameState) → CanBePlayed song →
    k < length (playable_subtunes song) → IsChannel channel → IsSafe song k x → KeepAllNotes song x →
    KeepAllNotes song (voice_done channel o (look_ups_of song) (subtune_at song k) x)
voice_done_keeps song k channel o x play h is safe q =
    let order = order_of channel (subtune_at song k) in
    put_back_keeps song channel (voice_step channel o (look_ups_of song) order (playing_of channel x)) x
    (voice_keeps song order play (is_played song k channel h is) channel o (playing_of channel x)
    (playing_safe song k channel x safe) (playing_keeps song channel x q)) q

pub notes_within_lem : NotesWithin
notes_within_lem song limits playable =
    let play : CanBePlayed song = record { limits = limits; playable = playable } in
    record {
      rules = λ order is. voice_rules song order play is;
      steps = λ o k h. record {
        filter = λ x q. filter_done_keeps song x q;
        voice = λ channel x is safe q. voice_done_keeps song k channel o x play h is safe q;
      };
    }

-- ---- frames

-- a state that is safe and keeps the song's notes
record IsReadyState (song : Song) (k : ℕ) (x : FrameState) : Type 0 where
  safe : IsSafe song k x
  notes : KeepAllNotes song x

is_first : IsChannel 1
is_first = record { first = lit≤ tt; last = lit≤ tt }

is_second : IsChannel 2
is_second = record { first = lit≤ tt; last = lit≤ tt }

is_third : IsChannel 3
is_third = record { first = lit≤ tt; last = lit≤ tt }

module _ (song : Song) (k : ℕ) (o : Options) (play : CanBePlayed song) (h : k < length (playable_subtunes song)) where
  steps : StepsKeepSafe o song k
  steps = (safe_within song play).steps o k h

  filtered_ready : (x : FrameState) → IsReadyState song k x → IsReadyState song k (filter_done (look_ups_of song) x)
  filtered_ready x q = record { safe = steps.filter x q.safe; notes = filter_done_keeps song x q.notes }

  done_ready : (channel : ℕ) (x : FrameState) → IsChannel channel → IsReadyState song k x →
      IsReadyState song k (voice_done channel o (look_ups_of song) (subtune_at song k) x)
  done_ready channel x is q = record {
    safe = steps.voice channel x is q.safe;
    notes = voice_done_keeps song k channel o x play h is q.safe q.notes;
  }

  frame_keeps : (x : FrameState) → IsSafe song k x → KeepAllNotes song x →
      KeepAllNotes song (frame_with o song k x).state
  unfolding frame_of
  frame_keeps x safe q =
      let filtered = filter_done (look_ups_of song) x in
      let one = voice_done 1 o (look_ups_of song) (subtune_at song k) filtered in
      let two = voice_done 2 o (look_ups_of song) (subtune_at song k) one in
      (done_ready 3 two is_third (done_ready 2 one is_second (done_ready 1 filtered is_first
      (filtered_ready x (record { safe = safe; notes = q }))))).notes

-- before the step of channel 1, 2 or 3
pub before_keeps : (song : Song) (k channel : ℕ) (o : Options) (x : FrameState) → CanBePlayed song →
    k < length (playable_subtunes song) → IsSafe song k x → KeepAllNotes song x →
    KeepAllNotes song (before_voice channel o (look_ups_of song) (subtune_at song k) x)
before_keeps song k channel o x play h safe q =
    let filtered = filter_done (look_ups_of song) x in
    let one = voice_done 1 o (look_ups_of song) (subtune_at song k) filtered in
    let two = voice_done 2 o (look_ups_of song) (subtune_at song k) one in
    let begun = filtered_ready song k o play h x (record { safe = safe; notes = q }) in
    let first = done_ready song k o play h 1 filtered is_first begun in
    cond_both (channel == 1) filtered _ (KeepAllNotes song) (λ z. begun.notes)
    (λ z. cond_both (channel == 2) one two (KeepAllNotes song) (λ z. first.notes)
    (λ z. (done_ready song k o play h 2 one is_second first).notes))

pub voice_starts : (song : Song) → KeepsNotes song start_voice
voice_starts song = record {
  note = silent refl refl (λ e. omega (arith, e));
  new_note = λ some. absurd (some refl);
  last = inl refl;
  timer = inl (refl, refl);
}

pub plays_its_notes_lem : PlayableSongsPlayTheirNotes
plays_its_notes_lem o song k limits playable h = record {
  start = record { one = voice_starts song; two = voice_starts song; three = voice_starts song };
  kept = λ x safe q. frame_keeps song k o (record { limits = limits; playable = playable }) h x safe q;
}

pub states_keep_notes_lem : StatesKeepNotes
unfolding state_after_with
states_keep_notes_lem o song k zero speed limits playable h = (plays_its_notes_lem o song k limits playable h).start
states_keep_notes_lem o song k (suc i) speed limits playable h =
    (plays_its_notes_lem o song k limits playable h).kept (state_after_with o song k i)
    (states_are_safe_lem o song k i speed limits playable h) (states_keep_notes_lem o song k i speed limits playable h)
