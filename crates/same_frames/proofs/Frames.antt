-- Frames of states that are alike leave states that are alike, and the same registers.
use Rattle.std.specs.Prelude.{◌==◌}
use Rattle.std.proofs.Common.{◌≡◌, ℕ, zero, suc, ◌<◌, Bool, true, false, cond, length, lit≤, refl, sym}
use Rattle.std.proofs.Common.{ap, ◌∙◌, subst}
use Rattle.song_model.specs.declared.orders.Order.{Order}
use Rattle.song_model.specs.declared.orders.Subtune.{Subtune}
use Rattle.song_model.specs.declared.tables.TableName.TheVariants.{Wave, Pulse, Filter, Speed}
use Rattle.song_model.specs.declared.songs.Song.{Song}
use Rattle.song_model.specs.Limits.{KeepsLimits}
use Rattle.song_model.specs.LookUp.{order_of, playable_subtunes}
use Rattle.play_model.specs.declared.options.Options.{Options}
use Rattle.play_model.specs.Speeds.{IsSpeed}
use Rattle.play_model.specs.LookUps.{LookUps, look_ups_of}
use Rattle.play_model.specs.State.{Voice, Common, FrameState, Playing, start_voice, start_state, playing_of, with_playing}
use Rattle.play_model.specs.Frame.{voice_step, voice_registers, filter_registers, filter_done, voice_done, framed}
use Rattle.play_model.specs.Frame.{frame_of, frame_with, state_after_with, trace_with, subtune_at}
use Rattle.play_model.specs.Used.{IsChannel}
use Rattle.play_model.specs.Playable.{IsPlayable}
use Rattle.play_model.specs.Safe.{IsSafe, IsSafeVoice}
use Rattle.safe_states.proofs.Laws.{CanBePlayed, plays_safely_lem, safe_within_lem, is_played}
use Rattle.same_frames.specs.Maps.{Maps}
use Rattle.same_frames.specs.Agreement.{Agrees, SubtunePlaysFor}
use Rattle.same_frames.specs.Alike.{VoicesAreAlike, CommonsAreAlike, PlayingsAreAlike, StatesAreAlike}
use Rattle.same_frames.specs.FrameLaws.{state_after_of, trace_of, start_with, state_from, trace_from, TracesOfSongs}
use Rattle.same_frames.specs.FrameLaws.{RulesAreSame, FramesAreAlike, FramesAreSame}
use Rattle.same_frames.proofs.Rules.{tick_alike, wave_step_alike, effect_alike, pulse_step_alike, filter_step_alike}
use Rattle.same_frames.proofs.Fetches.{fetch_alike}
use Rattle.same_frames.proofs.Steps.{voice_step_alike}

-- ---- the rules

pub rules_same_lem : RulesAreSame
rules_same_lem maps song other limits playable a =
    let play : CanBePlayed song = record { limits = limits; playable = playable } in
    record {
      filter = λ c d q. filter_step_alike maps song other c d play a q;
      voice = λ order beyond is plays.
          let rules = (safe_within_lem song limits playable).rules.voice order is in
          record {
            tick = λ channel s t q. tick_alike maps song other order channel s t a rules q;
            wave = λ s t q. wave_step_alike maps song other order s t play a rules q;
            effect = λ v w q. effect_alike maps song other order v w a rules q;
            pulse = λ v w q. pulse_step_alike maps song other order v w play a rules q;
            fetch = λ v w q. fetch_alike maps song other order beyond v w play a is plays rules q;
            voice = λ channel o s t q.
                voice_step_alike maps song other order play a rules channel o beyond s t is plays q;
          };
    }

-- ---- the states within a frame

pub filter_done_alike : (maps : Maps) (song : Song) (k : ℕ) (other : LookUps) (x y : FrameState) → CanBePlayed song →
    Agrees maps song other → StatesAreAlike maps song k x y →
    StatesAreAlike maps song k (filter_done (look_ups_of song) x) (filter_done other y)
filter_done_alike maps song k other x y play a q = record {
  common = filter_step_alike maps song other x.common y.common play a q.common;
  one = q.one;
  two = q.two;
  three = q.three;
}

-- the orderlist of the first, the second or the third channel
abbrev pub chosen_order : Subtune → Bool → Bool → Order
chosen_order subtune first second =
    cond first (order_of 1 subtune) (cond second (order_of 2 subtune) (order_of 3 subtune))

pub playing_alike : (maps : Maps) (song : Song) (k channel : ℕ) (x y : FrameState) → StatesAreAlike maps song k x y →
    PlayingsAreAlike maps song (order_of channel (subtune_at song k)) (playing_of channel x) (playing_of channel y)
playing_alike maps song k channel x y q = record { voice = each (channel == 1) (channel == 2); common = q.common }
  where
    each : (first second : Bool) → VoicesAreAlike maps song (chosen_order (subtune_at song k) first second)
        (cond first x.one (cond second x.two x.three)) (cond first y.one (cond second y.two y.three))
    each true second = q.one
    each false true = q.two
    each false false = q.three

put_back_alike : (maps : Maps) (song : Song) (k channel : ℕ) (s t : Playing) (x y : FrameState) →
    PlayingsAreAlike maps song (order_of channel (subtune_at song k)) s t → StatesAreAlike maps song k x y →
    StatesAreAlike maps song k (with_playing channel s x) (with_playing channel t y)
put_back_alike maps song k channel s t x y p q = each (channel == 1) (channel == 2) p.voice
  where
    each : (first second : Bool) →
        VoicesAreAlike maps song (chosen_order (subtune_at song k) first second) s.voice t.voice →
        StatesAreAlike maps song k (cond first (record x { one = s.voice; common = s.common })
        (cond second (record x { two = s.voice; common = s.common }) (record x { three = s.voice; common = s.common })))
        (cond first (record y { one = t.voice; common = t.common })
        (cond second (record y { two = t.voice; common = t.common }) (record y { three = t.voice; common = t.common })))
    each true second v = record { common = p.common; one = v; two = q.two; three = q.three }
    each false true v = record { common = p.common; one = q.one; two = v; three = q.three }
    each false false v = record { common = p.common; one = q.one; two = q.two; three = v }

pub voice_done_alike : (maps : Maps) (song : Song) (k channel : ℕ) (o : Options) (other : LookUps)
    (subtune : Subtune) (x y : FrameState) → CanBePlayed song → Agrees maps song other →
    k < length (playable_subtunes song) → IsChannel channel → SubtunePlaysFor maps (subtune_at song k) subtune →
    StatesAreAlike maps song k x y →
    StatesAreAlike maps song k (voice_done channel o (look_ups_of song) (subtune_at song k) x)
    (voice_done channel o other subtune y)
voice_done_alike maps song k channel o other subtune x y play a h is plays q =
    let order = order_of channel (subtune_at song k) in
    let beyond = order_of channel subtune in
    let on = is_played song k channel h is in
    let rules = (safe_within_lem song play.limits play.playable).rules.voice order on in
    put_back_alike maps song k channel (voice_step channel o (look_ups_of song) order (playing_of channel x))
    (voice_step channel o other beyond (playing_of channel y)) x y
    (voice_step_alike maps song other order play a rules channel o beyond (playing_of channel x) (playing_of channel y)
    on (plays channel is) (playing_alike maps song k channel x y q)) q

-- ---- a frame

pub is_first : IsChannel 1
is_first = record { first = lit≤ tt; last = lit≤ tt }

pub is_second : IsChannel 2
is_second = record { first = lit≤ tt; last = lit≤ tt }

pub is_third : IsChannel 3
is_third = record { first = lit≤ tt; last = lit≤ tt }

-- registers show no number of a part
voice_shows : (maps : Maps) (song : Song) (order : Order) (v w : Voice) → VoicesAreAlike maps song order v w →
    voice_registers w ≡ voice_registers v
unfolding voice_registers
voice_shows maps song order v w q = ap voice_registers q.moved

filter_shows : (maps : Maps) (song : Song) (c d : Common) → CommonsAreAlike maps song c d →
    filter_registers d ≡ filter_registers c
unfolding filter_registers
filter_shows maps song c d q = ap filter_registers q.moved

framed_alike : (maps : Maps) (song : Song) (k : ℕ) (c d : Common) (x y : FrameState) →
    CommonsAreAlike maps song c d → StatesAreAlike maps song k x y →
    FramesAreAlike maps song k (framed (filter_registers c) x) (framed (filter_registers d) y)
framed_alike maps song k c d x y f q = record {
  state = q;
  registers =
      rw (voice_shows maps song _ x.one y.one q.one)
      (rw (voice_shows maps song _ x.two y.two q.two)
      (rw (voice_shows maps song _ x.three y.three q.three) (rw (filter_shows maps song c d f) refl)));
}

pub frame_alike : (maps : Maps) (song : Song) (k : ℕ) (o : Options) (other : LookUps) (subtune : Subtune)
    (x y : FrameState) → CanBePlayed song → Agrees maps song other → k < length (playable_subtunes song) →
    SubtunePlaysFor maps (subtune_at song k) subtune → StatesAreAlike maps song k x y →
    FramesAreAlike maps song k (frame_with o song k x) (frame_of o other subtune y)
unfolding frame_of
frame_alike maps song k o other subtune x y play a h plays q =
    let look = look_ups_of song in
    let mine = subtune_at song k in
    let x0 = filter_done look x in
    let y0 = filter_done other y in
    let x1 = voice_done 1 o look mine x0 in
    let y1 = voice_done 1 o other subtune y0 in
    let x2 = voice_done 2 o look mine x1 in
    let y2 = voice_done 2 o other subtune y1 in
    let q0 = filter_done_alike maps song k other x y play a q in
    let q1 = voice_done_alike maps song k 1 o other subtune x0 y0 play a h is_first plays q0 in
    let q2 = voice_done_alike maps song k 2 o other subtune x1 y1 play a h is_second plays q1 in
    let q3 = voice_done_alike maps song k 3 o other subtune x2 y2 play a h is_third plays q2 in
    framed_alike maps song k x0.common y0.common (voice_done 3 o look mine x2) (voice_done 3 o other subtune y2)
    q0.common q3

-- ---- starts and traces

start_alike : (maps : Maps) (song : Song) (k : ℕ) (o : Options) (other : LookUps) → Agrees maps song other →
    IsSafe song k (start_state o) →
    StatesAreAlike maps song k (start_state o) (start_with o (maps.instrument 1))
start_alike maps song k o other a safe = record {
  common = record {
    safe = safe.common;
    moved = rw (a.rows Filter).nothing refl;
  };
  one = voice (order_of 1 (subtune_at song k)) safe.one;
  two = voice (order_of 2 (subtune_at song k)) safe.two;
  three = voice (order_of 3 (subtune_at song k)) safe.three;
}
  where
    voice : (order : Order) → IsSafeVoice song order start_voice →
        VoicesAreAlike maps song order start_voice (record start_voice { instrument = maps.instrument 1 })
    voice order is = record {
      safe = is;
      named = λ some. absurd (some refl);
      moved =
          rw (a.rows Speed).nothing (rw (a.rows Wave).nothing (rw (a.rows Pulse).nothing refl));
      waiting = λ some. absurd (some refl);
    }

module _ (o : Options) (maps : Maps) (song : Song) (k : ℕ) (other : LookUps) (subtune : Subtune)
    (play : CanBePlayed song) (a : Agrees maps song other) (h : k < length (playable_subtunes song))
    (plays : SubtunePlaysFor maps (subtune_at song k) subtune)
    (begun : FrameState) (start : StatesAreAlike maps song k (start_state o) begun) where
  states_alike : (n : ℕ) → StatesAreAlike maps song k (state_after_with o song k n) (state_from o other subtune begun n)
  unfolding state_after_with state_from
  states_alike zero = start
  states_alike (suc n) =
      (frame_alike maps song k o other subtune (state_after_with o song k n) (state_from o other subtune begun n)
      play a h plays (states_alike n)).state

  pub trace_same : (i : ℕ) → trace_from o other subtune begun i ≡ trace_with o song k i
  trace_same zero = refl
  trace_same (suc n) =
      (frame_alike maps song k o other subtune (state_after_with o song k n) (state_from o other subtune begun n)
      play a h plays (states_alike n)).registers

-- from the start on
state_from_start : (o : Options) (look : LookUps) (subtune : Subtune) (n : ℕ) →
    state_from o look subtune (start_state o) n ≡ state_after_of o look subtune n
unfolding state_from state_after_of
state_from_start o look subtune zero = refl
state_from_start o look subtune (suc n) =
    ap (λ (x : FrameState). (frame_of o look subtune x).state) (state_from_start o look subtune n)

pub trace_from_start : (o : Options) (look : LookUps) (subtune : Subtune) (i : ℕ) →
    trace_from o look subtune (start_state o) i ≡ trace_of o look subtune i
trace_from_start o look subtune zero = refl
trace_from_start o look subtune (suc n) =
    ap (λ (x : FrameState). (frame_of o look subtune x).registers) (state_from_start o look subtune n)

first_kept : (o : Options) (maps : Maps) → maps.instrument 1 ≡ 1 → start_with o (maps.instrument 1) ≡ start_state o
first_kept o maps first = ap (λ (i : ℕ). start_with o i) first

start_is : (o : Options) (maps : Maps) (song : Song) (k : ℕ) (other : LookUps) → IsSpeed o.speed → KeepsLimits song →
    IsPlayable song → k < length (playable_subtunes song) → Agrees maps song other →
    StatesAreAlike maps song k (start_state o) (start_with o (maps.instrument 1))
start_is o maps song k other speed limits playable h a =
    start_alike maps song k o other a (plays_safely_lem o song k speed limits playable h).start

pub states_alike_lem : (o : Options) (maps : Maps) (song : Song) (k : ℕ) (other : LookUps) (subtune : Subtune)
    (n : ℕ) → IsSpeed o.speed → KeepsLimits song → IsPlayable song → k < length (playable_subtunes song) →
    Agrees maps song other → SubtunePlaysFor maps (subtune_at song k) subtune → maps.instrument 1 ≡ 1 →
    StatesAreAlike maps song k (state_after_with o song k n) (state_after_of o other subtune n)
states_alike_lem o maps song k other subtune n speed limits playable h a plays first =
    subst (StatesAreAlike maps song k (state_after_with o song k n)) (state_from_start o other subtune n)
    (states_alike o maps song k other subtune (record { limits = limits; playable = playable }) a h plays
    (start_state o)
    (subst (StatesAreAlike maps song k (start_state o)) (first_kept o maps first)
    (start_is o maps song k other speed limits playable h a)) n)

pub frames_same_lem : FramesAreSame
frames_same_lem o maps song k other subtune speed limits playable h a plays =
    let play : CanBePlayed song = record { limits = limits; playable = playable } in
    let start = start_is o maps song k other speed limits playable h a in
    record {
      start = start;
      filter = λ x y q. filter_done_alike maps song k other x y play a q;
      voice = λ channel x y is q. voice_done_alike maps song k channel o other subtune x y play a h is plays q;
      frame = λ x y q. frame_alike maps song k o other subtune x y play a h plays q;
      moved_trace = λ i. trace_same o maps song k other subtune play a h plays (start_with o (maps.instrument 1)) start i;
      trace = λ first i.
          sym (trace_from_start o other subtune i)
          ∙ trace_same o maps song k other subtune play a h plays (start_state o)
          (subst (StatesAreAlike maps song k (start_state o)) (first_kept o maps first) start) i;
    }

-- over a song's own look-ups

state_is : (o : Options) (song : Song) (k n : ℕ) →
    state_after_of o (look_ups_of song) (subtune_at song k) n ≡ state_after_with o song k n
unfolding state_after_of state_after_with
state_is o song k zero = refl
state_is o song k (suc n) =
    ap (λ (x : FrameState). (frame_of o (look_ups_of song) (subtune_at song k) x).state) (state_is o song k n)

pub traces_of_songs_lem : TracesOfSongs
traces_of_songs_lem o song k zero = refl
traces_of_songs_lem o song k (suc n) =
    ap (λ (x : FrameState). (frame_of o (look_ups_of song) (subtune_at song k) x).registers) (state_is o song k n)
