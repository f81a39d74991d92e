-- The steps of voices, and so frames, leave the voice of a channel with nothing to play mute.
use Rattle.std.specs.Prelude.{nat_le, ◌==◌}
use Rattle.std.proofs.Common.{◌≡◌, ℕ, zero, suc, true, refl, sym, ◌∙◌, ap, subst, arith}
use Rattle.std.proofs.lemmas.Bool.{cond_both, cond-false, le-leb, leb-true}
use Rattle.song_model.specs.declared.orders.Order.{Order}
use Rattle.song_model.specs.declared.orders.Subtune.{Subtune}
use Rattle.song_model.specs.LookUp.{order_of}
use Rattle.play_model.specs.declared.options.Options.{Options}
use Rattle.play_model.specs.LookUps.{LookUps, look_ups_of}
use Rattle.play_model.specs.Wrap.{byte_minus}
use Rattle.play_model.specs.State.{FrameState, Playing, start_voice, start_state, voice_of}
use Rattle.play_model.specs.TickStep.{Ticked, tempo_of, tick_step}
use Rattle.play_model.specs.WaveStep.{wave_step}
use Rattle.play_model.specs.Frame.{effect_done, pulse_done, row_fetched, after_tick, voice_step, frame_of, subtune_at}
use Rattle.play_model.specs.Frame.{state_after_with}
use Rattle.play_model.specs.Used.{IsChannel}
use Rattle.play_model.specs.Uses.{turn_of}
use Rattle.silent_voices.specs.Mute.{IsMute}
use Rattle.silent_voices.specs.SilentLaws.{SilentTurnsAreLeft, SilentChannelsPlayNothing, SilentStatesStayMute}
use Rattle.silent_voices.proofs.Muting.{start_mute, mute_registers, GoesOnMute, tick_goes_on, tick_common, steps_leave}
use Rattle.silent_voices.proofs.Rows.{PlaysUnheard, plays_unheard, fetched_mute, fetched_common}

-- ---- the step of a voice

-- behind the tick a mute voice may fetch a row, and does no more
after_tick_is : (o : Options) (look : LookUps) (order : Order) (t : Ticked) → GoesOnMute t →
    after_tick o look order t ≡ row_fetched look order t.playing
after_tick_is o look order t q =
    cond-false t.started t.playing
    (row_fetched look order (pulse_done o look (effect_done o look (wave_step look t.playing)))) q.waits
    ∙ ap (row_fetched look order) (steps_leave o look t.playing q.mute)

step_is : (channel : ℕ) (o : Options) (look : LookUps) (order : Order) (s : Playing) → IsMute s.voice →
    voice_step channel o look order s ≡ row_fetched look order (tick_step channel look s).playing
unfolding voice_step
step_is channel o look order s q = after_tick_is o look order (tick_step channel look s) (tick_goes_on channel look s q)

step_mute : (channel : ℕ) (o : Options) (look : LookUps) (order : Order) (s : Playing) → PlaysUnheard look order →
    IsMute s.voice → IsMute (voice_step channel o look order s).voice
step_mute channel o look order s unheard q =
    rw (step_is channel o look order s q)
    (fetched_mute look order (tick_step channel look s).playing unheard (tick_goes_on channel look s q).mute)

step_common : (channel : ℕ) (o : Options) (look : LookUps) (order : Order) (s : Playing) → IsMute s.voice →
    (nat_le 0x80 (byte_minus s.voice.tick 1) ≡ true → nat_le 2 (tempo_of channel s.common) ≡ true) →
    (voice_step channel o look order s).common ≡ s.common
step_common channel o look order s q long =
    rw (step_is channel o look order s q)
    (fetched_common look order (tick_step channel look s).playing ∙ tick_common channel look s q long)

-- ---- a voice within a frame

by_channel : (P : ℕ → Type 0) (channel : ℕ) → P 1 → P 2 → P 3 → IsChannel channel → P channel
by_channel P zero one two three is = absurd (let least = is.first in omega (arith, least))
by_channel P (suc zero) one two three is = one
by_channel P (suc (suc zero)) one two three is = two
by_channel P (suc (suc (suc zero))) one two three is = three
by_channel P (suc (suc (suc (suc channel)))) one two three is = absurd (let most = is.last in omega (arith, most))

-- the filter and the other voices leave it alone until its turn
turn_voice : (channel : ℕ) (o : Options) (look : LookUps) (subtune : Subtune) (x : FrameState) → IsChannel channel →
    (turn_of channel o look subtune x).start.voice ≡ voice_of channel x
turn_voice channel o look subtune x is =
    by_channel (λ c. (turn_of c o look subtune x).start.voice ≡ voice_of c x) channel refl refl refl is

-- and after it
frame_voice : (channel : ℕ) (o : Options) (look : LookUps) (subtune : Subtune) (x : FrameState) → IsChannel channel →
    voice_of channel (frame_of o look subtune x).state
    ≡ (voice_step channel o look (order_of channel subtune) (turn_of channel o look subtune x).start).voice
unfolding frame_of
frame_voice channel o look subtune x is =
    by_channel (λ c. voice_of c (frame_of o look subtune x).state
    ≡ (voice_step c o look (order_of c subtune) (turn_of c o look subtune x).start).voice) channel refl refl refl is

turn_mute : (channel : ℕ) (o : Options) (look : LookUps) (subtune : Subtune) (x : FrameState) → IsChannel channel →
    IsMute (voice_of channel x) → IsMute (turn_of channel o look subtune x).start.voice
turn_mute channel o look subtune x is q = subst IsMute (sym (turn_voice channel o look subtune x is)) q

-- ---- the laws

pub silent_turn_lem : SilentTurnsAreLeft
silent_turn_lem o song k channel x playable h is silent q slow = record {
  common = step_common channel o look order start mute (λ past. le-leb 2 (tempo_of channel start.common)
      (slow (tempo_of channel start.common)
      (record { past = leb-true 0x80 (byte_minus start.voice.tick 1) past; tempo_is = refl })));
  registers =
      mute_registers (voice_step channel o look order start).voice
      (step_mute channel o look order start (plays_unheard song k channel playable h is silent) mute);
}
  where
    look : LookUps
    look = look_ups_of song

    order : Order
    order = order_of channel (subtune_at song k)

    start : Playing
    start = (turn_of channel o look (subtune_at song k) x).start

    mute : IsMute start.voice
    mute = turn_mute channel o look (subtune_at song k) x is q

start_lem : (channel : ℕ) (o : Options) → IsMute (voice_of channel (start_state o))
start_lem channel o =
    cond_both (channel == 1) start_voice _ IsMute (λ z. start_mute)
    (λ z. cond_both (channel == 2) start_voice start_voice IsMute (λ z. start_mute) (λ z. start_mute))

pub plays_nothing_lem : SilentChannelsPlayNothing
plays_nothing_lem o song k channel playable h is silent = record {
  start = start_lem channel o;
  kept = λ x q. subst IsMute (sym (frame_voice channel o (look_ups_of song) (subtune_at song k) x is))
      (step_mute channel o (look_ups_of song) (order_of channel (subtune_at song k)) _
      (plays_unheard song k channel playable h is silent)
      (turn_mute channel o (look_ups_of song) (subtune_at song k) x is q));
}

pub mute_states_lem : SilentStatesStayMute
unfolding state_after_with
mute_states_lem o song k zero channel playable h is silent =
    (plays_nothing_lem o song k channel playable h is silent).start
mute_states_lem o song k (suc i) channel playable h is silent =
    (plays_nothing_lem o song k channel playable h is silent).kept (state_after_with o song k i)
    (mute_states_lem o song k i channel playable h is silent)
