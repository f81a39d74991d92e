-- Each rule of a frame keeps the ranges.
use Rattle.std.specs.Prelude.{◌==◌, if◌then◌else◌, nat_lt, min, unsigned_abs}
use Rattle.std.proofs.Common.{ℕ, ℤ, pos, negsuc, ◌+◌, ◌-◌, ◌%◌, ◌+ℤ◌, ◌<◌, lit<, arith}
use Rattle.std.specs.Int.{int_rem_euclid}
use Rattle.base.specs.Bytes.{IsByte, IsWord}
use Rattle.song_model.specs.declared.tables.TableName.{TableName}
use Rattle.play_model.specs.LookUps.{LookUps}
use Rattle.play_model.specs.State.{Voice, Playing}
use Rattle.play_model.specs.Ranges.{AreLookUps, IsVoice, IsPlaying}
use Rattle.play_model.specs.Wrap.{byte_plus, freq_plus, freq_minus}
use Rattle.play_model.specs.Freq.{freq, slide}
use Rattle.play_model.specs.Helpers.{next_row, porta_up, porta_down, at_target, towards, tone, swung, vibrato, do_command}
use Rattle.play_model.specs.FetchRow.{transposed}
use Rattle.play_model.proofs.Choices.{chosen}

pub zero_small : IsByte 0
zero_small = lit< tt

-- numbers that wrap
pub wraps : (n : ℕ) → IsByte (n % 256)
wraps n = omega arith

word_wraps : (n : ℕ) → IsWord (n % 65536)
word_wraps n = omega arith

pub smaller : (a b : ℕ) → IsByte a → IsByte (a - b)
smaller a b h = omega arith

-- a note's frequency is a word
capped : (n : ℕ) → IsWord (min 65535 n)
capped n = grind (arith)

pub freq_small : (n : ℕ) → IsWord (freq n)
unfolding freq
freq_small n = chosen IsWord (nat_lt n 96) _ 0 (capped _) (lit< tt)

-- what a transposed note is
rest_small : (z : ℤ) → IsByte (unsigned_abs (int_rem_euclid z (pos 256)))
rest_small (pos n) = omega arith
rest_small (negsuc n) = omega arith

pub transposed_small : (note : ℕ) (transpose : ℤ) → IsByte (transposed note transpose)
transposed_small note transpose = rest_small (pos note +ℤ transpose)

-- what comes after a row of a program
pub next_small : (look : LookUps) (name : TableName) (p : ℕ) → AreLookUps look → IsByte (next_row look name p)
unfolding next_row
next_small look name p a =
    chosen IsByte ((look.row name (p + 1)).left == 0xFF) _ (byte_plus p 1) (a.row name (p + 1)).right (wraps (p + 1))

-- one field of a voice
pub with_freq : (v : Voice) (n : ℕ) → IsWord n → IsVoice v → IsVoice (record v { freq = n })
with_freq v n h q = assumption (h, q)

pub up_keeps : (look : LookUps) (d : ℕ) (v : Voice) → IsVoice v → IsVoice (porta_up look d v)
unfolding porta_up
up_keeps look d v q = with_freq v _ (word_wraps _) q

pub down_keeps : (look : LookUps) (d : ℕ) (v : Voice) → IsVoice v → IsVoice (porta_down look d v)
unfolding porta_down
down_keeps look d v q = with_freq v _ (word_wraps _) q

target_keeps : (target : ℕ) (v : Voice) → IsWord target → IsVoice v → IsVoice (at_target target v)
target_keeps target v h q =
    let n : v.note % 128 < 128 = omega arith in let z : IsByte 0 = lit< tt in assumption (h, n, q, z)

towards_keeps : (target step : ℕ) (v : Voice) → IsVoice v → IsVoice (towards target step v)
towards_keeps target step v q =
    with_freq v _
    (chosen IsWord (nat_lt v.freq target) (freq_plus v.freq step) (freq_minus v.freq step) (word_wraps _)
    (word_wraps _)) q

pub tone_keeps : (look : LookUps) (d : ℕ) (v : Voice) → IsVoice v → IsVoice (tone look d v)
unfolding tone
tone_keeps look d v q =
    chosen IsVoice _ (at_target (freq v.note) v) (towards (freq v.note) (slide look d v.last_note) v)
    (target_keeps (freq v.note) v (freq_small v.note) q) (towards_keeps (freq v.note) _ v q)

swung_keeps : (time depth : ℕ) (v : Voice) → IsByte time → IsVoice v → IsVoice (swung time depth v)
swung_keeps time depth v h q =
    let f : IsWord (if time % 2 == 1 then freq_minus v.freq depth else freq_plus v.freq depth) =
    chosen IsWord (time % 2 == 1) (freq_minus v.freq depth) (freq_plus v.freq depth) (word_wraps _) (word_wraps _) in
    assumption (h, f, q)

pub vibrato_keeps : (look : LookUps) (d : ℕ) (v : Voice) → IsVoice v → IsVoice (vibrato look d v)
unfolding vibrato
vibrato_keeps look d v q = swung_keeps _ _ v (wraps _) q

-- the commands that rows and the wave table share
ad_keeps : (d : ℕ) (s : Playing) → IsByte d → IsPlaying s → IsPlaying (record s { voice = record s.voice { ad = d } })
ad_keeps d s h q = assumption (h, q)

sr_keeps : (d : ℕ) (s : Playing) → IsByte d → IsPlaying s → IsPlaying (record s { voice = record s.voice { sr = d } })
sr_keeps d s h q = assumption (h, q)

waveform_keeps : (d : ℕ) (s : Playing) → IsByte d → IsPlaying s →
    IsPlaying (record s { voice = record s.voice { wave = d } })
waveform_keeps d s h q = assumption (h, q)

pulse_program_keeps : (d : ℕ) (s : Playing) → IsByte d → IsPlaying s →
    IsPlaying (record s { voice = record s.voice { pulse_ptr = d; pulse_time = 0 } })
pulse_program_keeps d s h q = assumption (h, zero_small, q)

filter_program_keeps : (d t : ℕ) (s : Playing) → IsByte d → IsByte t → IsPlaying s →
    IsPlaying (record s { common = record s.common { filter_ptr = d; filter_time = t } })
filter_program_keeps d t s h k q = assumption (h, k, q)

control_keeps : (d p : ℕ) (s : Playing) → IsByte d → IsByte p → IsPlaying s →
    IsPlaying (record s { common = record s.common { filter_control = d; filter_ptr = p } })
control_keeps d p s h k q = assumption (h, k, q)

cutoff_keeps : (d : ℕ) (s : Playing) → IsByte d → IsPlaying s →
    IsPlaying (record s { common = record s.common { cutoff = d } })
cutoff_keeps d s h q = assumption (h, q)

volume_keeps : (d : ℕ) (s : Playing) → IsByte d → IsPlaying s →
    IsPlaying (record s { common = record s.common { volume = d } })
volume_keeps d s h q = assumption (h, q)

pub command_keeps : (c d : ℕ) (s : Playing) → IsByte d → IsPlaying s → IsPlaying (do_command c d s)
unfolding do_command
command_keeps c d s h q =
    chosen IsPlaying (c == 5) _ _ (ad_keeps d s h q)
    (chosen IsPlaying (c == 6) _ _ (sr_keeps d s h q)
    (chosen IsPlaying (c == 7) _ _ (waveform_keeps d s h q)
    (chosen IsPlaying (c == 9) _ _ (pulse_program_keeps d s h q)
    (chosen IsPlaying (c == 0xA) _ _ (filter_program_keeps d 0 s h (lit< {m = 0} {n = 256} tt) q)
    (chosen IsPlaying (c == 0xB) _ _
    (control_keeps d _ s h (chosen IsByte (d == 0) 0 s.common.filter_ptr (lit< tt) q.common.filter_ptr) q)
    (chosen IsPlaying (c == 0xC) _ _ (cutoff_keeps d s h q)
    (chosen IsPlaying (c == 0xD) _ _
    (volume_keeps _ s (chosen IsByte (nat_lt d 0x10) d s.common.volume h q.common.volume) q)
    q)))))))
