-- A mute voice, and what the tick, the wave, the effect and the pulse step leave of it.
use Rattle.std.specs.Prelude.{nat_le, not, ◌==◌, ◌&&◌}
use Rattle.std.specs.Int.Bits.{and_zero_l}
use Rattle.std.proofs.Common.{◌≡◌, ℕ, ◌%◌, true, false, replicate, refl, ap, ◌∙◌}
use Rattle.std.proofs.lemmas.Bool.{cond_both, cond-true}
use Rattle.std.proofs.Math.Bool.{or-true}
use Rattle.song_model.specs.declared.instruments.Instrument.{Instrument}
use Rattle.play_model.specs.declared.options.Options.{Options}
use Rattle.play_model.specs.LookUps.{LookUps}
use Rattle.play_model.specs.Wrap.{byte_minus}
use Rattle.play_model.specs.State.{Voice, Playing, start_voice}
use Rattle.play_model.specs.TickStep.{Ticked, tempo_of, reloaded, between_rows, taken, note_started, row_command}
use Rattle.play_model.specs.TickStep.{note_ended, gate_timer_set, at_row, tick_step}
use Rattle.play_model.specs.WaveStep.{wave_step}
use Rattle.play_model.specs.EffectStep.{effect_step}
use Rattle.play_model.specs.PulseStep.{pulse_step}
use Rattle.play_model.specs.Frame.{effect_done, pulse_left_out, pulse_done, voice_registers}
use Rattle.silent_voices.specs.Mute.{IsMute}

-- ---- mute voices

none : ◌≡◌ {A = ℕ} 0 0
none = refl

pub start_mute : IsMute start_voice
start_mute = assumption none

pub mute_registers : (v : Voice) → IsMute v → voice_registers v ≡ replicate 7 0
unfolding voice_registers
mute_registers v q = rw (q.freq, q.pulse, q.wave, q.ad, q.sr, and_zero_l v.gate) refl

-- ---- the tick step

-- what tick 0 leaves of a voice: the timer and the vibrato of its instrument, and no command
abbrev row_left : Instrument → Playing → Playing
row_left i s =
    record s { voice = record s.voice { gate_timer = i.gate_timer % 64; command = 0; param = i.vibrato; new_note = 0 } }

at_row_is : (channel : ℕ) (look : LookUps) (i : Instrument) (s : Playing) → IsMute s.voice →
    at_row channel look i s ≡ record { playing = row_left i s; started = false }
unfolding at_row note_started row_command
at_row_is channel look i s q =
    let timed = gate_timer_set i s in
    ap (λ left. note_ended (row_command channel look i s.voice.new_command s.voice.new_param left))
    (cond-true (s.voice.new_note == 0) timed (taken i timed) (ap (λ note. note == 0) q.new_note))
    ∙ ap (λ command. note_ended (row_command channel look i command s.voice.new_param timed)) q.new_command
    ∙ ap (λ note. record { playing = row_left i s; started = not (note == 0) && not (s.voice.new_command == 3) })
    q.new_note

-- the tick alone
tick_mute : (v : Voice) (tick : ℕ) → IsMute v → IsMute (record v { tick = tick })
tick_mute v tick q = assumption q

row_mute : (i : Instrument) (s : Playing) → IsMute s.voice → IsMute (row_left i s).voice
row_mute i s q = assumption (none, q)

between_mute : (channel : ℕ) (s : Playing) → IsMute s.voice → IsMute (between_rows channel s).voice
unfolding between_rows
between_mute channel s q =
    cond_both (nat_le 0x80 s.voice.tick) (reloaded channel (tempo_of channel s.common) s) s such
    (λ h. cond_both (nat_le 2 (tempo_of channel s.common)) _ _ such (λ z. tick_mute s.voice _ q)
    (λ z. tick_mute s.voice _ q))
    (λ h. q)
  where
    such : Playing → Type 0
    such s = IsMute s.voice

-- no tempo below 2 is loaded
between_common : (channel : ℕ) (s : Playing) →
    (nat_le 0x80 s.voice.tick ≡ true → nat_le 2 (tempo_of channel s.common) ≡ true) →
    (between_rows channel s).common ≡ s.common
unfolding between_rows
between_common channel s long =
    cond_both (nat_le 0x80 s.voice.tick) (reloaded channel (tempo_of channel s.common) s) s such
    (λ h. rw (long h) refl) (λ h. refl)
  where
    such : Playing → Type 0
    such left = left.common ≡ s.common

-- a mute voice goes on from its tick: no note starts
pub record GoesOnMute (t : Ticked) : Type 0 where
  pub mute : IsMute t.playing.voice
  pub waits : t.started ≡ false

abbrev ticking : Playing → Playing
ticking s = record s { voice = record s.voice { tick = byte_minus s.voice.tick 1 } }

pub tick_goes_on : (channel : ℕ) (look : LookUps) (s : Playing) → IsMute s.voice →
    GoesOnMute (tick_step channel look s)
unfolding tick_step
tick_goes_on channel look s q =
    let i = look.instrument s.voice.instrument in
    let next = ticking s in
    let mute : IsMute next.voice = tick_mute s.voice (byte_minus s.voice.tick 1) q in
    cond_both (byte_minus s.voice.tick 1 == 0) (at_row channel look i next)
    (record { playing = between_rows channel next; started = false }) GoesOnMute
    (λ z. rw (at_row_is channel look i next mute) (record { mute = row_mute i next mute; waits = refl }))
    (λ z. record { mute = between_mute channel next mute; waits = refl })

pub tick_common : (channel : ℕ) (look : LookUps) (s : Playing) → IsMute s.voice →
    (nat_le 0x80 (byte_minus s.voice.tick 1) ≡ true → nat_le 2 (tempo_of channel s.common) ≡ true) →
    (tick_step channel look s).playing.common ≡ s.common
unfolding tick_step
tick_common channel look s q long =
    let i = look.instrument s.voice.instrument in
    let next = ticking s in
    let mute : IsMute next.voice = tick_mute s.voice (byte_minus s.voice.tick 1) q in
    cond_both (byte_minus s.voice.tick 1 == 0) (at_row channel look i next)
    (record { playing = between_rows channel next; started = false })
    (λ (t : Ticked). t.playing.common ≡ s.common)
    (λ z. rw (at_row_is channel look i next mute) refl)
    (λ z. between_common channel next long)

-- ---- the wave, the effect and the pulse step

wave_is : (look : LookUps) (s : Playing) → IsMute s.voice → wave_step look s ≡ record { playing = s; effect = true }
unfolding wave_step
wave_is look s q = rw q.wave_ptr refl

effect_is : (look : LookUps) (v : Voice) → IsMute v → effect_step look v ≡ v
unfolding effect_step
effect_is look v q = rw (q.command, q.vib_delay, or-true) refl

pulse_is : (look : LookUps) (v : Voice) → IsMute v → pulse_step look v ≡ v
unfolding pulse_step
pulse_is look v q = rw q.pulse_ptr refl

effect_left : (o : Options) (look : LookUps) (s : Playing) → IsMute s.voice →
    effect_done o look (record { playing = s; effect = true }) ≡ s
effect_left o look s q =
    cond_both (not (o.skip_effects && (s.voice.tick == 0))) (record s { voice = effect_step look s.voice }) s
    (λ left. left ≡ s) (λ z. rw (effect_is look s.voice q) refl) (λ z. refl)

pulse_left : (o : Options) (look : LookUps) (s : Playing) → IsMute s.voice → pulse_done o look s ≡ s
pulse_left o look s q =
    cond_both (pulse_left_out o s.voice) s (record s { voice = pulse_step look s.voice }) (λ left. left ≡ s)
    (λ z. refl) (λ z. rw (pulse_is look s.voice q) refl)

-- these three leave all as it was
pub steps_leave : (o : Options) (look : LookUps) (s : Playing) → IsMute s.voice →
    pulse_done o look (effect_done o look (wave_step look s)) ≡ s
steps_leave o look s q = rw (wave_is look s q, effect_left o look s q) (pulse_left o look s q)
