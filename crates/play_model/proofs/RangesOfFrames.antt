-- The states within a frame, its registers, and all that a song is played with keep the ranges.
use Rattle.std.specs.Prelude.{bit_and, bit_or, unsigned_abs}
use Rattle.std.proofs.Common.{◌≡◌, ℕ, zero, suc, pos, negsuc, ◌+◌, ◌-◌, ◌*◌, ◌/◌, ◌%◌}
use Rattle.std.proofs.Common.{◌+ℤ◌, ◌<◌, List, [], ◌∷◌, length, All, lit<, inl, inr, refl, ap, arith}
use Rattle.std.proofs.lemmas.Int.{int_rem_euclid_is, ints}
use Rattle.std.proofs.lemmas.Bool.{cases_lt}
use Rattle.std.proofs.lemmas.List.{get_or_past}
use Rattle.std.proofs.lemmas.List.Elements.{All-nil, All-cons, All-append, All-replicate, All-get_or}
use Rattle.std.proofs.lemmas.Nat.{or_of_8}
use Rattle.base.specs.Bytes.{IsByte, AreBytes}
use Rattle.base.proofs.Laws.{and_small, half_small}
use Rattle.song_model.proofs.Laws.{instrument_in_range, table_row_in_range, pattern_rows_in_range}
use Rattle.song_model.specs.declared.rows.Row.{Row}
use Rattle.song_model.specs.declared.orders.Subtune.{Subtune}
use Rattle.song_model.specs.declared.songs.Song.{Song}
use Rattle.song_model.specs.PatternLimits.{IsRow}
use Rattle.song_model.specs.Limits.{KeepsLimits}
use Rattle.song_model.specs.LookUp.{zero_row, pattern_row, order_of}
use Rattle.play_model.specs.declared.options.Options.{Options}
use Rattle.play_model.specs.Speeds.{IsSpeed}
use Rattle.play_model.specs.LookUps.{LookUps, look_ups_of}
use Rattle.play_model.specs.State.{Voice, Common, FrameState, Playing, start_voice, start_common, playing_of, with_playing}
use Rattle.play_model.specs.Ranges.{IsBytesRow, AreLookUps, IsVoice, IsCommon, IsPlaying, IsFrameState}
use Rattle.play_model.specs.FilterStep.{filter_step}
use Rattle.play_model.specs.Frame.{voice_step, voice_registers, filter_registers, filter_done, voice_done, voices_done}
use Rattle.play_model.specs.Frame.{framed, frame_of, subtune_at, state_after_with, trace_with}
use Rattle.play_model.specs.RangeLaws.{RangesAreKept, FrameRangesAreKept, StartIsInRange, SongRangesAreKept, TransposesWrap}
use Rattle.play_model.proofs.Choices.{by_channel}
use Rattle.play_model.proofs.RangesOfSteps.{filter_keeps, effect_keeps, pulse_keeps, fetch_keeps}
use Rattle.play_model.proofs.RangesOfVoices.{tick_keeps, wave_keeps, voice_keeps}

pub ranges_lem : RangesAreKept
ranges_lem look a = record {
  filter = λ c q. filter_keeps look c a q;
  tick = λ channel s q. tick_keeps channel look s a q;
  wave = λ s q. wave_keeps look s a q;
  effect = λ v q. effect_keeps look v q;
  pulse = λ v q. pulse_keeps look v a q;
  fetch = λ order v q. fetch_keeps look order v a q;
  voice = λ channel o order s q. voice_keeps channel o look order s a q;
}

-- the states within a frame
pub filter_done_keeps : (look : LookUps) (x : FrameState) → AreLookUps look → IsFrameState x →
    IsFrameState (filter_done look x)
filter_done_keeps look x a q =
    record { common = filter_keeps look x.common a q.common; one = q.one; two = q.two; three = q.three }

playing_in_range : (channel : ℕ) (x : FrameState) → IsFrameState x → IsPlaying (playing_of channel x)
playing_in_range channel x q = record {
  voice = by_channel IsVoice channel x.one x.two x.three q.one q.two q.three;
  common = q.common;
}

put_back_keeps : (channel : ℕ) (s : Playing) (x : FrameState) → IsPlaying s → IsFrameState x →
    IsFrameState (with_playing channel s x)
put_back_keeps channel s x p q =
    by_channel IsFrameState channel (record x { one = s.voice; common = s.common })
    (record x { two = s.voice; common = s.common }) (record x { three = s.voice; common = s.common })
    (record { common = p.common; one = p.voice; two = q.two; three = q.three })
    (record { common = p.common; one = q.one; two = p.voice; three = q.three })
    (record { common = p.common; one = q.one; two = q.two; three = p.voice })

pub voice_done_keeps : (channel : ℕ) (o : Options) (look : LookUps) (subtune : Subtune) (x : FrameState) →
    AreLookUps look → IsFrameState x →
    IsFrameState (voice_done channel o look subtune x)
voice_done_keeps channel o look subtune x a q =
    put_back_keeps channel (voice_step channel o look (order_of channel subtune) (playing_of channel x)) x
    (voice_keeps channel o look (order_of channel subtune) (playing_of channel x) a (playing_in_range channel x q)) q

voices_done_keeps : (o : Options) (look : LookUps) (subtune : Subtune) (x : FrameState) → AreLookUps look →
    IsFrameState x →
    IsFrameState (voices_done o look subtune x)
voices_done_keeps o look subtune x a q =
    voice_done_keeps 3 o look subtune (voice_done 2 o look subtune (voice_done 1 o look subtune x)) a
    (voice_done_keeps 2 o look subtune (voice_done 1 o look subtune x) a (voice_done_keeps 1 o look subtune x a q))

-- the registers
low_small : (n : ℕ) → IsByte (n % 256)
low_small n = omega arith

high_small : (n : ℕ) → n < 4096 → IsByte (n / 256)
high_small n h = omega arith

four_bytes : (a b c d : ℕ) → IsByte a → IsByte b → IsByte c → IsByte d → AreBytes (a ∷ b ∷ c ∷ d ∷ [])
four_bytes a b c d p q r s =
    All-cons IsByte a (b ∷ c ∷ d ∷ []) p
    (All-cons IsByte b (c ∷ d ∷ []) q (All-cons IsByte c (d ∷ []) r (All-cons IsByte d [] s (All-nil IsByte))))

three_more : (a b c : ℕ) (bytes : List ℕ) → IsByte a → IsByte b → IsByte c → AreBytes bytes →
    AreBytes (a ∷ b ∷ c ∷ bytes)
three_more a b c bytes p q r s =
    All-cons IsByte a (b ∷ c ∷ bytes) p (All-cons IsByte b (c ∷ bytes) q (All-cons IsByte c bytes r s))

voice_bytes : (v : Voice) → IsVoice v → AreBytes (voice_registers v)
unfolding voice_registers
voice_bytes v q =
    three_more (v.freq % 256) (v.freq / 256) (v.pulse % 256) (v.pulse / 256 ∷ bit_and v.wave v.gate ∷ v.ad ∷ v.sr ∷ [])
    (low_small v.freq) (half_small v.freq q.freq) (low_small v.pulse)
    (four_bytes (v.pulse / 256) (bit_and v.wave v.gate) v.ad v.sr (high_small v.pulse q.pulse)
    (and_small v.wave v.gate q.wave) q.ad q.sr)

filter_bytes : (c : Common) → IsCommon c → AreBytes (filter_registers c)
unfolding filter_registers
filter_bytes c q =
    four_bytes 0 c.cutoff c.filter_control (bit_or c.filter_type c.volume) (lit< tt) q.cutoff q.filter_control
    (or_of_8 c.filter_type c.volume q.filter_type q.volume)

framed_bytes : (filter : List ℕ) (x : FrameState) → AreBytes filter → IsFrameState x →
    AreBytes (framed filter x).registers
framed_bytes filter x f q =
    All-append IsByte _ filter
    (All-append IsByte _ (voice_registers x.three)
    (All-append IsByte (voice_registers x.one) (voice_registers x.two) (voice_bytes x.one q.one)
    (voice_bytes x.two q.two)) (voice_bytes x.three q.three))
    f

frame_keeps : (o : Options) (look : LookUps) (subtune : Subtune) (x : FrameState) → AreLookUps look → IsFrameState x →
    IsFrameState (frame_of o look subtune x).state
unfolding frame_of
frame_keeps o look subtune x a q =
    voices_done_keeps o look subtune (filter_done look x) a (filter_done_keeps look x a q)

frame_bytes : (o : Options) (look : LookUps) (subtune : Subtune) (x : FrameState) → AreLookUps look → IsFrameState x →
    AreBytes (frame_of o look subtune x).registers
unfolding frame_of
frame_bytes o look subtune x a q =
    let f = filter_done_keeps look x a q in
    framed_bytes (filter_registers (filter_step look x.common)) (voices_done o look subtune (filter_done look x))
    (filter_bytes (filter_step look x.common) f.common) (voices_done_keeps o look subtune (filter_done look x) a f)

pub frame_ranges_lem : FrameRangesAreKept
frame_ranges_lem o look subtune a = record {
  filter = λ x q. filter_done_keeps look x a q;
  voice = λ channel x q. voice_done_keeps channel o look subtune x a q;
  state = λ x q. frame_keeps o look subtune x a q;
  registers = λ x q. frame_bytes o look subtune x a q;
}

-- the start
start_voice_in_range : IsVoice start_voice
start_voice_in_range = record {
  row = lit< tt;
  tick = lit< tt;
  gate_timer = lit< tt;
  instrument = lit< tt;
  note = lit< tt;
  new_note = lit< tt;
  new_command = lit< tt;
  new_param = lit< tt;
  command = lit< tt;
  param = lit< tt;
  ad = lit< tt;
  sr = lit< tt;
  vib_time = lit< tt;
  vib_delay = lit< tt;
  wave = lit< tt;
  gate = lit< tt;
  freq = lit< tt;
  last_note = lit< tt;
  wave_ptr = lit< tt;
  wave_time = lit< tt;
  pulse_ptr = lit< tt;
  pulse_time = lit< tt;
  pulse = lit< tt;
}

start_common_in_range : (speed : ℕ) → IsSpeed speed → IsCommon (start_common speed)
start_common_in_range speed s =
    let most = s.most in
    record {
      tempo_one = omega arith;
      tempo_two = omega arith;
      tempo_three = omega arith;
      funk_one = omega arith;
      funk_two = omega arith;
      filter_ptr = lit< tt;
      filter_time = lit< tt;
      filter_type = lit< tt;
      filter_control = lit< tt;
      cutoff = lit< tt;
      volume = lit< tt;
    }

pub start_lem : StartIsInRange
start_lem o s = record {
  common = start_common_in_range o.speed s;
  one = start_voice_in_range;
  two = start_voice_in_range;
  three = start_voice_in_range;
}

-- what a song within its limits has under a number
row_bytes : (row : Row) → IsRow row → IsBytesRow row
row_bytes row r =
    let note = r.note_to in
    let instrument = r.instrument in
    let command = r.command in
    record { note = omega arith; instrument = omega arith; command = omega arith; param = r.param }

zero_row_bytes : IsBytesRow zero_row
zero_row_bytes = record { note = lit< tt; instrument = lit< tt; command = lit< tt; param = lit< tt }

rows_or_zero : (rows : List Row) (place : ℕ) → All IsRow rows → IsBytesRow (pattern_row rows place)
rows_or_zero rows place each =
    elim (cases_lt place (length rows)) [
      | inl inside ↦ row_bytes _ (All-get_or IsRow rows place zero_row inside each)
      | inr past ↦ rw (get_or_past rows place zero_row past) zero_row_bytes
    ]

pub song_look_ups : (song : Song) → KeepsLimits song → AreLookUps (look_ups_of song)
song_look_ups song limits = record {
  instrument = λ n. instrument_in_range song n limits;
  row = λ name p. table_row_in_range song name p limits;
  rows = λ n place. rows_or_zero _ place (pattern_rows_in_range song n limits);
}

song_state : (o : Options) (song : Song) (k n : ℕ) → IsSpeed o.speed → AreLookUps (look_ups_of song) →
    IsFrameState (state_after_with o song k n)
unfolding state_after_with
song_state o song k zero s a = start_lem o s
song_state o song k (suc n) s a =
    frame_keeps o (look_ups_of song) (subtune_at song k) (state_after_with o song k n) a (song_state o song k n s a)

song_trace : (o : Options) (song : Song) (k i : ℕ) → IsSpeed o.speed → AreLookUps (look_ups_of song) →
    AreBytes (trace_with o song k i)
song_trace o song k zero s a = All-replicate IsByte 25 0 (lit< tt)
song_trace o song k (suc n) s a =
    frame_bytes o (look_ups_of song) (subtune_at song k) (state_after_with o song k n) a (song_state o song k n s a)

pub song_ranges_lem : SongRangesAreKept
song_ranges_lem o song s limits =
    let a = song_look_ups song limits in
    record { look_ups = a; state = λ k n. song_state o song k n s a; trace = λ k i. song_trace o song k i s a }

-- a transposed note is a byte's wrapping sum
pub transposes_lem : TransposesWrap
transposes_lem note (pos t) h f = refl
transposes_lem note (negsuc t) h f =
    let sum : (pos note +ℤ negsuc t) +ℤ pos (1 * 256) ≡ pos (note + (256 - suc t)) = omega (arith, ints) in
    ap unsigned_abs (int_rem_euclid_is (pos note +ℤ negsuc t) (pos 256) 256 1 (note + (256 - suc t)) (lit< tt) refl sum)
