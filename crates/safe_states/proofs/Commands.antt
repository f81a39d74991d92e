-- The commands that rows and the wave table share keep a voice and what the voices share safe.
use Rattle.std.specs.Prelude.{◌==◌, if◌then◌else◌}
use Rattle.std.proofs.Common.{◌≡◌, ℕ, ◌≤◌, refl, arith}
use Rattle.std.proofs.lemmas.Bool.{cond_both, eqb-true}
use Rattle.song_model.specs.declared.orders.Order.{Order}
use Rattle.song_model.specs.declared.tables.TableName.TheVariants.{Wave, Pulse, Filter}
use Rattle.song_model.specs.declared.songs.Song.{Song}
use Rattle.song_model.specs.LookUp.{table_row}
use Rattle.play_model.specs.State.{Voice, Common, Playing}
use Rattle.play_model.specs.Helpers.{do_command}
use Rattle.play_model.specs.Safe.{IsSafePointer, IsSafeTime, IsSafeWait, IsSafeVoice, IsSafeCommon}
use Rattle.safe_states.specs.SafeLaws.{IsSafePlaying}
use Rattle.safe_states.proofs.Pointers.{stopped, no_time}

-- ---- a voice beside the others, and a voice's fields

pub with_voice : (song : Song) (order : Order) (s : Playing) (v : Voice) → IsSafePlaying song order s →
    IsSafeVoice song order v → IsSafePlaying song order (record s { voice = v })
with_voice song order s v q h = record { voice = h; common = q.common }

pub with_common : (song : Song) (order : Order) (s : Playing) (c : Common) → IsSafePlaying song order s →
    IsSafeCommon song c → IsSafePlaying song order (record s { common = c })
with_common song order s c q h = record { voice = q.voice; common = h }

-- what a voice sounds like is free
pub envelope_keeps : (song : Song) (order : Order) (v : Voice) (ad sr wave gate : ℕ) → IsSafeVoice song order v →
    IsSafeVoice song order (record v { ad = ad; sr = sr; wave = wave; gate = gate })
envelope_keeps song order v ad sr wave gate q = assumption q

pub pitch_keeps : (song : Song) (order : Order) (v : Voice) (freq last_note vib_time : ℕ) → IsSafeVoice song order v →
    IsSafeVoice song order (record v { freq = freq; last_note = last_note; vib_time = vib_time })
pitch_keeps song order v freq last_note vib_time q = assumption q

-- a program that begins
pub pulse_begun : (song : Song) (order : Order) (v : Voice) (p : ℕ) → IsSafePointer song Pulse p →
    IsSafeVoice song order v → IsSafeVoice song order (record v { pulse_ptr = p; pulse_time = 0 })
pulse_begun song order v p h q = let t = no_time song Pulse p in assumption (h, t, q)

-- a row that has just been come to hasn't waited
pub no_wait : (song : Song) (p : ℕ) → IsSafeWait song p 0
no_wait song p some = record { delay = λ short. least (table_row song Wave p).left; other = λ long. refl }
  where
    least : (n : ℕ) → 0 ≤ n
    least n = omega arith

pub wave_begun : (song : Song) (order : Order) (v : Voice) (p : ℕ) → IsSafePointer song Wave p →
    IsSafeVoice song order v → IsSafeVoice song order (record v { wave_ptr = p; wave_time = 0 })
wave_begun song order v p h q = let t = no_wait song p in assumption (h, t, q)

pub filter_begun : (song : Song) (c : Common) (p : ℕ) → IsSafePointer song Filter p → IsSafeCommon song c →
    IsSafeCommon song (record c { filter_ptr = p; filter_time = 0 })
filter_begun song c p h q = let t = no_time song Filter p in assumption (h, t, q)

-- the filter's sound is free, and its program may stop
control_keeps : (song : Song) (c : Common) (control cutoff volume : ℕ) → IsSafeCommon song c →
    IsSafeCommon song (record c { filter_control = control; cutoff = cutoff; volume = volume })
control_keeps song c control cutoff volume q = assumption q

filter_stopped : (song : Song) (c : Common) (control p : ℕ) → IsSafePointer song Filter p →
    IsSafeTime song Filter p c.filter_time → IsSafeCommon song c →
    IsSafeCommon song (record c { filter_control = control; filter_ptr = p })
filter_stopped song c control p h t q = assumption (h, t, q)

-- ---- the commands

pub command_keeps : (song : Song) (order : Order) (c d : ℕ) (s : Playing) → (c ≡ 9 → IsSafePointer song Pulse d) →
    (c ≡ 0xA → IsSafePointer song Filter d) →
    IsSafePlaying song order s → IsSafePlaying song order (do_command c d s)
unfolding do_command
command_keeps song order c d s pulse filter q =
    cond_both (c == 5) _ _ safe (λ h. voice _ (envelope_keeps song order v d v.sr v.wave v.gate q.voice))
    (λ h. cond_both (c == 6) _ _ safe (λ h. voice _ (envelope_keeps song order v v.ad d v.wave v.gate q.voice))
    (λ h. cond_both (c == 7) _ _ safe (λ h. voice _ (envelope_keeps song order v v.ad v.sr d v.gate q.voice))
    (λ h. cond_both (c == 9) _ _ safe (λ h. voice _ (pulse_begun song order v d (pulse (eqb-true c 9 h)) q.voice))
    (λ h. cond_both (c == 0xA) _ _ safe
    (λ h. common _ (filter_begun song s.common d (filter (eqb-true c 0xA h)) q.common))
    (λ h. cond_both (c == 0xB) _ _ safe (λ h. common _ (controlled d))
    (λ h. cond_both (c == 0xC) _ _ safe
    (λ h. common _ (control_keeps song s.common s.common.filter_control d s.common.volume q.common))
    (λ h. cond_both (c == 0xD) _ _ safe
    (λ h. common _ (control_keeps song s.common s.common.filter_control s.common.cutoff _ q.common)) (λ h. q))))))))
  where
    v : Voice
    v = s.voice

    safe : Playing → Type 0
    safe = IsSafePlaying song order

    voice : (w : Voice) → IsSafeVoice song order w → IsSafePlaying song order (record s { voice = w })
    voice w h = with_voice song order s w q h

    common : (w : Common) → IsSafeCommon song w → IsSafePlaying song order (record s { common = w })
    common w h = with_common song order s w q h

    controlled : (d : ℕ) → IsSafeCommon song (record s.common {
      filter_control = d;
      filter_ptr = if d == 0 then 0 else s.common.filter_ptr;
    })
    controlled d =
        cond_both (d == 0) 0 s.common.filter_ptr
        (λ p. IsSafeCommon song (record s.common { filter_control = d; filter_ptr = p }))
        (λ h. filter_stopped song s.common d 0 (stopped song Filter) (λ some. absurd (some refl)) q.common)
        (λ h. filter_stopped song s.common d s.common.filter_ptr q.common.filter q.common.filter_time q.common)
