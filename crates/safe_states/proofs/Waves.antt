-- The wave step and the effect step keep a voice and what the voices share safe.
use Rattle.std.specs.Prelude.{nat_lt, nat_le, not, ◌==◌, ◌&&◌}
use Rattle.std.proofs.Common.{◌≡◌, ◌≢◌, ℕ, ◌+◌, ◌-◌, ◌%◌, ◌≤◌, true, false, Some, refl, arith}
use Rattle.std.proofs.lemmas.Bool.{cond_both, and_parts, eqb-false, leb-true, ltb-true, not-true}
use Rattle.song_model.specs.declared.orders.Order.{Order}
use Rattle.song_model.specs.declared.tables.TableRow.{TableRow}
use Rattle.song_model.specs.declared.tables.TableName.TheVariants.{Wave, Pulse, Filter}
use Rattle.song_model.specs.declared.songs.Song.{Song}
use Rattle.song_model.specs.LookUp.{table_row, instrument_at}
use Rattle.song_model.specs.Pointers.{wave_row_table}
use Rattle.play_model.specs.LookUps.{LookUps, look_ups_of}
use Rattle.play_model.specs.Wrap.{byte_plus}
use Rattle.play_model.specs.Freq.{freq, slide}
use Rattle.play_model.specs.State.{Voice, Playing}
use Rattle.play_model.specs.Helpers.{next_row, porta_up, porta_down, at_target, towards, tone, vibrato}
use Rattle.play_model.specs.WaveStep.{Waved, wave_command, is_wave_command, left_done, program_moved, wave_note}
use Rattle.play_model.specs.WaveStep.{with_note, right_done, wave_row, wave_step}
use Rattle.play_model.specs.EffectStep.{instrument_vibrato, effect_step}
use Rattle.play_model.specs.Reached.{IsReached, IsStep}
use Rattle.play_model.specs.Playable.{HasPrograms}
use Rattle.play_model.specs.Features.{HasInstrument}
use Rattle.play_model.specs.Safe.{IsSafePointer, HasWaited, IsSafeWait, IsSafeVoice}
use Rattle.safe_states.specs.SafeLaws.{IsSafePlaying}
use Rattle.safe_states.proofs.Pointers.{CanBePlayed, from_wave_row, goes_on, is_step}
use Rattle.safe_states.proofs.Commands.{with_voice, envelope_keeps, pitch_keeps, no_wait, command_keeps}

-- ---- slides and vibratos change the pitch alone

up_keeps : (song : Song) (order : Order) (look : LookUps) (d : ℕ) (v : Voice) → IsSafeVoice song order v →
    IsSafeVoice song order (porta_up look d v)
unfolding porta_up
up_keeps song order look d v q = pitch_keeps song order v _ v.last_note v.vib_time q

down_keeps : (song : Song) (order : Order) (look : LookUps) (d : ℕ) (v : Voice) → IsSafeVoice song order v →
    IsSafeVoice song order (porta_down look d v)
unfolding porta_down
down_keeps song order look d v q = pitch_keeps song order v _ v.last_note v.vib_time q

tone_keeps : (song : Song) (order : Order) (look : LookUps) (d : ℕ) (v : Voice) → IsSafeVoice song order v →
    IsSafeVoice song order (tone look d v)
unfolding tone
tone_keeps song order look d v q =
    cond_both _ (at_target (freq v.note) v) (towards (freq v.note) (slide look d v.last_note) v)
    (IsSafeVoice song order) (λ h. pitch_keeps song order v (freq v.note) (v.note % 128) 0 q)
    (λ h. pitch_keeps song order v _ v.last_note v.vib_time q)

vibrato_keeps : (song : Song) (order : Order) (look : LookUps) (d : ℕ) (v : Voice) → IsSafeVoice song order v →
    IsSafeVoice song order (vibrato look d v)
unfolding vibrato
vibrato_keeps song order look d v q = pitch_keeps song order v _ v.last_note _ q

-- ---- the effect step

-- a delay that is shorter by 1
delay_keeps : (song : Song) (order : Order) (v : Voice) → IsSafeVoice song order v → v.vib_delay ≢ 0 →
    IsSafeVoice song order (record v { vib_delay = v.vib_delay - 1 })
delay_keeps song order v q some =
    let delay : v.vib_delay - 1 ≢ 0 → HasInstrument song (λ i. (instrument_at song i).vibrato_delay) =
    (λ left. q.delay some) in assumption (delay, q)

long_delay : (delay : ℕ) → nat_le 2 delay ≡ true → delay ≢ 0
long_delay delay h z = (let low = leb-true 2 delay h in omega arith)

instrument_vibrato_keeps : (song : Song) (order : Order) (look : LookUps) (v : Voice) → IsSafeVoice song order v →
    IsSafeVoice song order (instrument_vibrato look v)
instrument_vibrato_keeps song order look v q =
    cond_both _ v _ (IsSafeVoice song order) (λ h. q)
    (λ h. cond_both (nat_le 2 v.vib_delay) _ (vibrato look v.param v) (IsSafeVoice song order)
    (λ h. delay_keeps song order v q (long_delay v.vib_delay h))
    (λ h. vibrato_keeps song order look v.param v q))

pub effect_keeps : (song : Song) (order : Order) (look : LookUps) (v : Voice) → IsSafeVoice song order v →
    IsSafeVoice song order (effect_step look v)
unfolding effect_step
effect_keeps song order look v q =
    cond_both (v.command == 0) _ _ safe (λ h. instrument_vibrato_keeps song order look v q)
    (λ h. cond_both (v.command == 1) _ _ safe (λ h. up_keeps song order look v.param v q)
    (λ h. cond_both (v.command == 2) _ _ safe (λ h. down_keeps song order look v.param v q)
    (λ h. cond_both (v.command == 3) _ _ safe (λ h. tone_keeps song order look v.param v q)
    (λ h. cond_both (v.command == 4) _ _ safe (λ h. vibrato_keeps song order look v.param v q) (λ h. q)))))
  where
    safe : Voice → Type 0
    safe = IsSafeVoice song order

-- ---- the wave step

wave_command_keeps : (song : Song) (order : Order) (look : LookUps) (c d : ℕ) (s : Playing) →
    (c ≡ 9 → IsSafePointer song Pulse d) → (c ≡ 0xA → IsSafePointer song Filter d) → IsSafePlaying song order s →
    IsSafePlaying song order (wave_command look c d s)
unfolding wave_command
wave_command_keeps song order look c d s pulse filter q =
    cond_both _ s _ safe (λ h. q)
    (λ h. cond_both (c == 1) _ _ safe (λ h. voice _ (up_keeps song order look d s.voice q.voice))
    (λ h. cond_both (c == 2) _ _ safe (λ h. voice _ (down_keeps song order look d s.voice q.voice))
    (λ h. cond_both (c == 3) _ _ safe (λ h. voice _ (tone_keeps song order look d s.voice q.voice))
    (λ h. cond_both (c == 4) _ _ safe (λ h. voice _ (vibrato_keeps song order look d s.voice q.voice))
    (λ h. command_keeps song order c d s pulse filter q)))))
  where
    safe : Playing → Type 0
    safe = IsSafePlaying song order

    voice : (w : Voice) → IsSafeVoice song order w → IsSafePlaying song order (record s { voice = w })
    voice w h = with_voice song order s w q h

-- the left side of a row that is this command
command_left : (left n : ℕ) → 0xF0 ≤ left → left - 0xF0 ≡ n → left ≡ 0xF0 + n
command_left left n low e = omega arith

points_at_pulse : (left : ℕ) → left ≡ 0xF9 → wave_row_table left ≡ Some Pulse
points_at_pulse left e = rw e refl

points_at_filter : (left : ℕ) → left ≡ 0xFA → wave_row_table left ≡ Some Filter
points_at_filter left e = rw e refl

left_keeps : (song : Song) (order : Order) (p : ℕ) (s : Playing) → CanBePlayed song → IsReached song Wave p →
    IsSafePlaying song order s → IsSafePlaying song order (left_done (look_ups_of song) (table_row song Wave p) s)
left_keeps song order p s play reached q =
    cond_both (nat_le 0x10 row.left && nat_le row.left 0xDF) _ _ safe (λ h. waveform row.left)
    (λ h. cond_both (nat_le 0xE0 row.left && nat_le row.left 0xEF) _ _ safe (λ h. waveform (row.left - 0xE0))
    (λ h. cond_both (is_wave_command row) (wave_command (look_ups_of song) (row.left - 0xF0) row.right s) s safe
    (λ h. command (leb-true 0xF0 row.left (and_parts _ _ h).0)) (λ h. q)))
  where
    row : TableRow
    row = table_row song Wave p

    safe : Playing → Type 0
    safe = IsSafePlaying song order

    waveform : (n : ℕ) → IsSafePlaying song order (record s { voice = record s.voice { wave = n } })
    waveform n =
        with_voice song order s (record s.voice { wave = n }) q
        (envelope_keeps song order s.voice s.voice.ad s.voice.sr n s.voice.gate q.voice)

    command : 0xF0 ≤ row.left →
        IsSafePlaying song order (wave_command (look_ups_of song) (row.left - 0xF0) row.right s)
    command low =
        wave_command_keeps song order (look_ups_of song) (row.left - 0xF0) row.right s
        (λ e. from_wave_row song Pulse p play reached (points_at_pulse row.left (command_left row.left 9 low e)))
        (λ e. from_wave_row song Filter p play reached (points_at_filter row.left (command_left row.left 0xA low e))) q

is_wave : HasPrograms Wave
is_wave e = cc

wave_moved_keeps : (song : Song) (order : Order) (p : ℕ) (s : Playing) → CanBePlayed song → IsStep song Wave p →
    IsSafePlaying song order s → IsSafePlaying song order (program_moved (look_ups_of song) p s)
wave_moved_keeps song order p s play step q =
    let n = goes_on song Wave p play is_wave step refl in
    let t = no_wait song (next_row (look_ups_of song) Wave p) in assumption (n, t, q)

right_keeps : (song : Song) (order : Order) (row : TableRow) (s : Playing) → IsSafePlaying song order s →
    IsSafePlaying song order (right_done row s).playing
right_keeps song order row s q =
    cond_both (is_wave_command row) (record { playing = s; effect = false }) _ safe (λ h. q)
    (λ h. cond_both (row.right == 0x80) (record { playing = s; effect = true })
    (record { playing = record s { voice = with_note (wave_note row.right s.voice.note) s.voice }; effect = false })
    safe (λ h. q)
    (λ h. with_voice song order s _ q
    (pitch_keeps song order s.voice (freq (wave_note row.right s.voice.note)) (wave_note row.right s.voice.note) 0
    q.voice)))
  where
    safe : Waved → Type 0
    safe w = IsSafePlaying song order w.playing

wave_time_keeps : (song : Song) (order : Order) (s : Playing) (n : ℕ) → IsSafeWait song s.voice.wave_ptr n →
    IsSafePlaying song order s → IsSafePlaying song order (record s { voice = record s.voice { wave_time = n } })
wave_time_keeps song order s n h q = assumption (h, q)

-- a delay that isn't over waits for one frame more
waits_longer : (left time : ℕ) → nat_lt left 0x10 && not (time == left) ≡ true → HasWaited left time →
    HasWaited left (byte_plus time 1)
waits_longer left time waits has =
    let short = ltb-true left 0x10 (and_parts _ _ waits).0 in
    let within = has.delay short in
    let other : time ≢ left = eqb-false time left (not-true _ (and_parts _ _ waits).1) in
    record { delay = λ low. omega (arith, within, other, short); other = λ long. absurd (omega (arith, long, short)) }

wave_row_keeps : (song : Song) (order : Order) (s : Playing) → CanBePlayed song → IsStep song Wave s.voice.wave_ptr →
    IsSafePlaying song order s →
    IsSafePlaying song order (wave_row (look_ups_of song) (table_row song Wave s.voice.wave_ptr) s).playing
wave_row_keeps song order s play step q =
    cond_both (nat_lt row.left 0x10 && not (s.voice.wave_time == row.left))
    (record {
      playing = record s { voice = record s.voice { wave_time = byte_plus s.voice.wave_time 1 } };
      effect = true;
    })
    (right_done row (program_moved (look_ups_of song) s.voice.wave_ptr (left_done (look_ups_of song) row s)))
    (λ (w : Waved). IsSafePlaying song order w.playing)
    (λ h. wave_time_keeps song order s (byte_plus s.voice.wave_time 1)
    (λ some. waits_longer row.left s.voice.wave_time h (q.voice.wave_time some)) q)
    (λ h. right_keeps song order row
    (program_moved (look_ups_of song) s.voice.wave_ptr (left_done (look_ups_of song) row s))
    (wave_moved_keeps song order s.voice.wave_ptr (left_done (look_ups_of song) row s) play step
    (left_keeps song order s.voice.wave_ptr s play step.reached q)))
  where
    row : TableRow
    row = table_row song Wave s.voice.wave_ptr

pub wave_keeps : (song : Song) (order : Order) (s : Playing) → CanBePlayed song → IsSafePlaying song order s →
    IsSafePlaying song order (wave_step (look_ups_of song) s).playing
unfolding wave_step
wave_keeps song order s play q =
    cond_both (s.voice.wave_ptr == 0) (record { playing = s; effect = true })
    (wave_row (look_ups_of song) (table_row song Wave s.voice.wave_ptr) s)
    (λ (w : Waved). IsSafePlaying song order w.playing) (λ h. q)
    (λ h. wave_row_keeps song order s play
    (is_step song Wave s.voice.wave_ptr q.voice.wave (eqb-false s.voice.wave_ptr 0 h)) q)
