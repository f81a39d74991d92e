-- The tick step, the wave step, and a whole voice step keep the ranges.
use Rattle.std.specs.Prelude.{◌==◌, ◌&&◌, nat_le, nat_lt, not}
use Rattle.std.proofs.Common.{ℕ, ◌+◌, ◌-◌, ◌%◌, ◌<◌, true, false, lit<, arith}
use Rattle.base.specs.Bytes.{IsByte}
use Rattle.song_model.specs.declared.orders.Order.{Order}
use Rattle.song_model.specs.declared.instruments.Instrument.{Instrument}
use Rattle.song_model.specs.declared.tables.TableRow.{TableRow}
use Rattle.song_model.specs.declared.tables.TableName.TheVariants.{Wave, Speed}
use Rattle.song_model.specs.Limits.{IsInstrument, IsTableRow}
use Rattle.play_model.specs.declared.options.Options.{Options}
use Rattle.play_model.specs.LookUps.{LookUps}
use Rattle.play_model.specs.State.{Voice, Common, Playing}
use Rattle.play_model.specs.Ranges.{AreLookUps, IsVoice, IsCommon, IsPlaying}
use Rattle.play_model.specs.Wrap.{byte_plus, byte_minus}
use Rattle.play_model.specs.Helpers.{do_command}
use Rattle.play_model.specs.TickStep.{Ticked, tempo_of, with_tempo, with_all_tempos, reloaded, between_rows, note_taken}
use Rattle.play_model.specs.TickStep.{first_wave_set, programs_begun, taken, note_started, funk_set, funk_tempo}
use Rattle.play_model.specs.TickStep.{tempo_set, row_command, note_ended, gate_timer_set, at_row, tick_step}
use Rattle.play_model.specs.WaveStep.{Waved, wave_command, is_wave_command, left_done, program_moved, wave_note}
use Rattle.play_model.specs.WaveStep.{with_note, right_done, wave_row, wave_step}
use Rattle.play_model.specs.EffectStep.{effect_step}
use Rattle.play_model.specs.PulseStep.{pulse_step}
use Rattle.play_model.specs.FetchRow.{fetch_row}
use Rattle.play_model.specs.Frame.{effect_done, pulse_done, row_fetched, after_tick, voice_step}
use Rattle.play_model.proofs.Choices.{chosen, by_channel}
use Rattle.play_model.proofs.RangesOfRules.{zero_small, wraps, smaller, freq_small, next_small, up_keeps, down_keeps}
use Rattle.play_model.proofs.RangesOfRules.{tone_keeps, vibrato_keeps, command_keeps}
use Rattle.play_model.proofs.RangesOfSteps.{effect_keeps, pulse_keeps, fetch_keeps}

on_small : IsByte 0xFF
on_small = lit< tt

-- the tempos
tempo_fields : (c : Common) (one two three funk_one funk_two : ℕ) → IsByte one → IsByte two → IsByte three →
    IsByte funk_one → IsByte funk_two →
    IsCommon c → IsCommon
    (record c { tempo_one = one; tempo_two = two; tempo_three = three; funk_one = funk_one; funk_two = funk_two })
tempo_fields c one two three funk_one funk_two a b d e f q = assumption (a, b, d, e, f, q)

tempo_small : (channel : ℕ) (c : Common) → IsCommon c → IsByte (tempo_of channel c)
tempo_small channel c q =
    by_channel IsByte channel c.tempo_one c.tempo_two c.tempo_three q.tempo_one q.tempo_two q.tempo_three

one_tempo_keeps : (channel tempo : ℕ) (c : Common) → IsByte tempo → IsCommon c → IsCommon (with_tempo channel tempo c)
one_tempo_keeps channel tempo c h q =
    by_channel IsCommon channel (record c { tempo_one = tempo }) (record c { tempo_two = tempo })
    (record c { tempo_three = tempo }) (tempos tempo c.tempo_two c.tempo_three h q.tempo_two q.tempo_three)
    (tempos c.tempo_one tempo c.tempo_three q.tempo_one h q.tempo_three)
    (tempos c.tempo_one c.tempo_two tempo q.tempo_one q.tempo_two h)
  where
    tempos : (one two three : ℕ) → IsByte one → IsByte two → IsByte three →
        IsCommon (record c { tempo_one = one; tempo_two = two; tempo_three = three })
    tempos one two three a b d =
        tempo_fields c one two three c.funk_one c.funk_two a b d q.funk_one q.funk_two q

all_tempos_keep : (tempo : ℕ) (c : Common) → IsByte tempo → IsCommon c → IsCommon (with_all_tempos tempo c)
all_tempos_keep tempo c h q = tempo_fields c tempo tempo tempo c.funk_one c.funk_two h h h q.funk_one q.funk_two q

funk_set_keeps : (row : TableRow) (c : Common) → IsCommon c → IsCommon (funk_set row c)
funk_set_keeps row c q =
    tempo_fields c c.tempo_one c.tempo_two c.tempo_three (byte_minus row.left 1) (byte_minus row.right 1)
    q.tempo_one q.tempo_two q.tempo_three (wraps _) (wraps _) q

funk_tempo_keeps : (look : LookUps) (d : ℕ) (c : Common) → IsCommon c → IsCommon (funk_tempo look d c)
funk_tempo_keeps look d c q =
    all_tempos_keep 0 _ zero_small
    (chosen IsCommon (d == 0) c (funk_set (look.row Speed d) c) q (funk_set_keeps (look.row Speed d) c q))

tempo_set_keeps : (channel d : ℕ) (c : Common) → IsByte d → IsCommon c → IsCommon (tempo_set channel d c)
tempo_set_keeps channel d c h q =
    chosen IsCommon (nat_le d 1) _ _ (all_tempos_keep d c h q)
    (chosen IsCommon (nat_le 0x03 d && nat_le d 0x7F) _ _ (all_tempos_keep (d - 1) c (smaller d 1 h) q)
    (chosen IsCommon (nat_le 0x83 d) _ c (one_tempo_keeps channel (d - 0x81) c (smaller d 0x81 h) q) q))

-- the count of frames
tick_keeps_field : (s : Playing) (n : ℕ) → IsByte n → IsPlaying s →
    IsPlaying (record s { voice = record s.voice { tick = n } })
tick_keeps_field s n h q = assumption (h, q)

with_common : (s : Playing) (c : Common) → IsPlaying s → IsCommon c → IsPlaying (record s { common = c })
with_common s c q h = record { voice = q.voice; common = h }

with_voice : (s : Playing) (v : Voice) → IsPlaying s → IsVoice v → IsPlaying (record s { voice = v })
with_voice s v q h = record { voice = h; common = q.common }

reloaded_keeps : (channel tempo : ℕ) (s : Playing) → IsByte tempo → IsPlaying s → IsPlaying (reloaded channel tempo s)
reloaded_keeps channel tempo s h q =
    let length = chosen IsByte (tempo == 0) s.common.funk_one s.common.funk_two q.common.funk_one q.common.funk_two in
    let other : IsByte (1 - tempo) = omega arith in
    chosen IsPlaying (nat_le 2 tempo) _ _ (tick_keeps_field s tempo h q)
    (with_common _ (with_tempo channel (1 - tempo) s.common) (tick_keeps_field s _ length q)
    (one_tempo_keeps channel (1 - tempo) s.common other q.common))

between_keeps : (channel : ℕ) (s : Playing) → IsPlaying s → IsPlaying (between_rows channel s)
unfolding between_rows
between_keeps channel s q =
    chosen IsPlaying (nat_le 0x80 s.voice.tick) _ s
    (reloaded_keeps channel (tempo_of channel s.common) s (tempo_small channel s.common q.common) q) q

-- a note that starts
note_taken_keeps : (i : Instrument) (v : Voice) → IsInstrument i → IsVoice v → IsVoice (note_taken i v)
note_taken_keeps i v h q =
    let n : IsByte (byte_minus v.new_note 0x60) = wraps _ in
    assumption (n, zero_small, h.vibrato, h.vibrato_delay, q)

mask_keeps : (v : Voice) (n : ℕ) → IsByte n → IsVoice v → IsVoice (record v { gate = n })
mask_keeps v n h q = assumption (h, q)

waveform_fields : (v : Voice) (n : ℕ) → IsByte n → IsVoice v → IsVoice (record v { wave = n; gate = 0xFF })
waveform_fields v n h q = assumption (h, on_small, q)

first_wave_keeps : (wave : ℕ) (v : Voice) → IsByte wave → IsVoice v → IsVoice (first_wave_set wave v)
first_wave_keeps wave v h q =
    chosen IsVoice (nat_le 0xFE wave) _ _ (mask_keeps v wave h q)
    (chosen IsVoice (wave == 0) v _ q (waveform_fields v wave h q))

program_fields : (v : Voice) (wave pulse time ad sr : ℕ) → IsByte wave → IsByte pulse → IsByte time → IsByte ad →
    IsByte sr → IsVoice v →
    IsVoice (record v { wave_ptr = wave; wave_time = 0; pulse_ptr = pulse; pulse_time = time; ad = ad; sr = sr })
program_fields v wave pulse time ad sr a b d e f q = assumption (a, b, d, e, f, zero_small, q)

filter_begun : (c : Common) (ptr time : ℕ) → IsByte ptr → IsByte time → IsCommon c →
    IsCommon (record c { filter_ptr = ptr; filter_time = time })
filter_begun c ptr time a b q = assumption (a, b, q)

programs_keep : (i : Instrument) (s : Playing) → IsInstrument i → IsPlaying s → IsPlaying (programs_begun i s)
programs_keep i s h q = record {
  voice =
      program_fields s.voice i.wave _ _ i.ad i.sr h.wave
      (chosen IsByte (i.pulse == 0) s.voice.pulse_ptr i.pulse q.voice.pulse_ptr h.pulse)
      (chosen IsByte (i.pulse == 0) s.voice.pulse_time 0 q.voice.pulse_time zero_small) h.ad h.sr q.voice;
  common =
      filter_begun s.common _ _
      (chosen IsByte (i.filter == 0) s.common.filter_ptr i.filter q.common.filter_ptr h.filter)
      (chosen IsByte (i.filter == 0) s.common.filter_time 0 q.common.filter_time zero_small) q.common;
}

taken_keeps : (i : Instrument) (s : Playing) → IsInstrument i → IsPlaying s → IsPlaying (taken i s)
taken_keeps i s h q =
    let note = note_taken_keeps i s.voice h q.voice in
    chosen IsPlaying (s.voice.new_command == 3) _ _ (with_voice s (note_taken i s.voice) q note)
    (programs_keep i (record s { voice = first_wave_set i.first_wave (note_taken i s.voice) }) h
    (with_voice s _ q (first_wave_keeps i.first_wave (note_taken i s.voice) h.first_wave note)))

started_keeps : (i : Instrument) (s : Playing) → IsInstrument i → IsPlaying s → IsPlaying (note_started i s)
unfolding note_started
started_keeps i s h q = chosen IsPlaying (s.voice.new_note == 0) s (taken i s) q (taken_keeps i s h q)

-- the row's command
runs_keeps : (v : Voice) (c d : ℕ) → IsByte c → IsByte d → IsVoice v → IsVoice (record v { command = c; param = d })
runs_keeps v c d h k q = assumption (h, k, q)

runs_anew_keeps : (v : Voice) (c d : ℕ) → IsByte c → IsByte d → IsVoice v →
    IsVoice (record v { vib_time = 0; command = c; param = d })
runs_anew_keeps v c d h k q = assumption (zero_small, h, k, q)

wave_program_keeps : (v : Voice) (d : ℕ) → IsByte d → IsVoice v → IsVoice (record v { wave_ptr = d; wave_time = 0 })
wave_program_keeps v d h q = assumption (h, zero_small, q)

row_command_keeps : (channel : ℕ) (look : LookUps) (i : Instrument) (c d : ℕ) (s : Playing) → IsInstrument i →
    IsByte c → IsByte d → IsPlaying s →
    IsPlaying (row_command channel look i c d s)
unfolding row_command
row_command_keeps channel look i c d s h k l q =
    chosen IsPlaying (c == 0) _ _ (with_voice s _ q (runs_keeps s.voice 0 i.vibrato zero_small h.vibrato q.voice))
    (chosen IsPlaying (nat_le c 2) _ _ (with_voice s _ q (runs_anew_keeps s.voice c d k l q.voice))
    (chosen IsPlaying (nat_le c 4) _ _ (with_voice s _ q (runs_keeps s.voice c d k l q.voice))
    (chosen IsPlaying (c == 8) _ _ (with_voice s _ q (wave_program_keeps s.voice d l q.voice))
    (chosen IsPlaying (c == 0xE) _ _
    (with_common s (funk_tempo look d s.common) q (funk_tempo_keeps look d s.common q.common))
    (chosen IsPlaying (c == 0xF) _ (do_command c d s)
    (with_common s (tempo_set channel d s.common) q (tempo_set_keeps channel d s.common l q.common))
    (command_keeps c d s l q))))))

timer_keeps : (i : Instrument) (s : Playing) → IsPlaying s → IsPlaying (gate_timer_set i s)
timer_keeps i s q = let n : IsByte (i.gate_timer % 64) = omega arith in assumption (n, q)

ended_keeps : (s : Playing) → IsPlaying s → IsPlaying (note_ended s).playing
ended_keeps s q = assumption (zero_small, q)

at_row_keeps : (channel : ℕ) (look : LookUps) (i : Instrument) (s : Playing) → IsInstrument i → IsPlaying s →
    IsPlaying (at_row channel look i s).playing
unfolding at_row
at_row_keeps channel look i s h q =
    let started = started_keeps i (gate_timer_set i s) h (timer_keeps i s q) in
    ended_keeps (row_command channel look i s.voice.new_command s.voice.new_param (note_started i (gate_timer_set i s)))
    (row_command_keeps channel look i s.voice.new_command s.voice.new_param
    (note_started i (gate_timer_set i s)) h q.voice.new_command q.voice.new_param started)

pub tick_keeps : (channel : ℕ) (look : LookUps) (s : Playing) → AreLookUps look → IsPlaying s →
    IsPlaying (tick_step channel look s).playing
unfolding tick_step
tick_keeps channel look s a q =
    let next = record s { voice = record s.voice { tick = byte_minus s.voice.tick 1 } } in
    let h = tick_keeps_field s (byte_minus s.voice.tick 1) (wraps _) q in
    chosen (λ (t : Ticked). IsPlaying t.playing) (byte_minus s.voice.tick 1 == 0)
    (at_row channel look (look.instrument s.voice.instrument) next)
    (record { playing = between_rows channel next; started = false })
    (at_row_keeps channel look (look.instrument s.voice.instrument) next (a.instrument s.voice.instrument) h)
    (between_keeps channel next h)

-- the wave step
wave_command_keeps : (look : LookUps) (c d : ℕ) (s : Playing) → IsByte d → IsPlaying s →
    IsPlaying (wave_command look c d s)
unfolding wave_command
wave_command_keeps look c d s h q =
    chosen IsPlaying _ s _ q
    (chosen IsPlaying (c == 1) _ _ (with_voice s _ q (up_keeps look d s.voice q.voice))
    (chosen IsPlaying (c == 2) _ _ (with_voice s _ q (down_keeps look d s.voice q.voice))
    (chosen IsPlaying (c == 3) _ _ (with_voice s _ q (tone_keeps look d s.voice q.voice))
    (chosen IsPlaying (c == 4) _ _ (with_voice s _ q (vibrato_keeps look d s.voice q.voice))
    (command_keeps c d s h q)))))

wave_field : (v : Voice) (n : ℕ) → IsByte n → IsVoice v → IsVoice (record v { wave = n })
wave_field v n h q = assumption (h, q)

left_keeps : (look : LookUps) (row : TableRow) (s : Playing) → IsTableRow row → IsPlaying s →
    IsPlaying (left_done look row s)
left_keeps look row s r q =
    chosen IsPlaying _ _ _ (with_voice s _ q (wave_field s.voice row.left r.left q.voice))
    (chosen IsPlaying _ _ _
    (with_voice s _ q (wave_field s.voice (row.left - 0xE0) (smaller row.left 0xE0 r.left) q.voice))
    (chosen IsPlaying (is_wave_command row) (wave_command look (row.left - 0xF0) row.right s) s
    (wave_command_keeps look (row.left - 0xF0) row.right s r.right q) q))

wave_moved_keeps : (look : LookUps) (p : ℕ) (s : Playing) → AreLookUps look → IsPlaying s →
    IsPlaying (program_moved look p s)
wave_moved_keeps look p s a q = let n = next_small look Wave p a in assumption (n, zero_small, q)

note_small : (right note : ℕ) → wave_note right note < 128
note_small right note =
    chosen (λ n. n < 128) (nat_lt right 0x80) ((right + note) % 128) (right % 128) (omega arith) (omega arith)

with_note_keeps : (n : ℕ) (v : Voice) → n < 128 → IsVoice v → IsVoice (with_note n v)
with_note_keeps n v h q = let f = freq_small n in assumption (h, f, zero_small, q)

right_keeps : (row : TableRow) (s : Playing) → IsPlaying s → IsPlaying (right_done row s).playing
right_keeps row s q =
    chosen (λ (w : Waved). IsPlaying w.playing) (is_wave_command row) (record { playing = s; effect = false }) _ q
    (chosen (λ (w : Waved). IsPlaying w.playing) (row.right == 0x80) (record { playing = s; effect = true })
    (record { playing = record s { voice = with_note (wave_note row.right s.voice.note) s.voice }; effect = false }) q
    (with_voice s _ q
    (with_note_keeps (wave_note row.right s.voice.note) s.voice (note_small row.right s.voice.note) q.voice)))

wave_time_keeps : (s : Playing) (n : ℕ) → IsByte n → IsPlaying s →
    IsPlaying (record s { voice = record s.voice { wave_time = n } })
wave_time_keeps s n h q = assumption (h, q)

wave_row_keeps : (look : LookUps) (row : TableRow) (s : Playing) → AreLookUps look → IsTableRow row → IsPlaying s →
    IsPlaying (wave_row look row s).playing
wave_row_keeps look row s a r q =
    chosen (λ (w : Waved). IsPlaying w.playing) (nat_lt row.left 0x10 && not (s.voice.wave_time == row.left))
    (record {
      playing = record s { voice = record s.voice { wave_time = byte_plus s.voice.wave_time 1 } };
      effect = true;
    })
    (right_done row (program_moved look s.voice.wave_ptr (left_done look row s)))
    (wave_time_keeps s (byte_plus s.voice.wave_time 1) (wraps _) q)
    (right_keeps row (program_moved look s.voice.wave_ptr (left_done look row s))
    (wave_moved_keeps look s.voice.wave_ptr (left_done look row s) a (left_keeps look row s r q)))

pub wave_keeps : (look : LookUps) (s : Playing) → AreLookUps look → IsPlaying s → IsPlaying (wave_step look s).playing
unfolding wave_step
wave_keeps look s a q =
    chosen (λ (w : Waved). IsPlaying w.playing) (s.voice.wave_ptr == 0) (record { playing = s; effect = true })
    (wave_row look (look.row Wave s.voice.wave_ptr) s) q
    (wave_row_keeps look (look.row Wave s.voice.wave_ptr) s a (a.row Wave s.voice.wave_ptr) q)

-- the whole step of a voice
effect_done_keeps : (o : Options) (look : LookUps) (w : Waved) → IsPlaying w.playing → IsPlaying (effect_done o look w)
effect_done_keeps o look w q =
    chosen IsPlaying _ (record w.playing { voice = effect_step look w.playing.voice }) w.playing
    (with_voice w.playing (effect_step look w.playing.voice) q (effect_keeps look w.playing.voice q.voice)) q

pulse_done_keeps : (o : Options) (look : LookUps) (s : Playing) → AreLookUps look → IsPlaying s →
    IsPlaying (pulse_done o look s)
pulse_done_keeps o look s a q =
    chosen IsPlaying _ s (record s { voice = pulse_step look s.voice }) q
    (with_voice s (pulse_step look s.voice) q (pulse_keeps look s.voice a q.voice))

row_fetched_keeps : (look : LookUps) (order : Order) (s : Playing) → AreLookUps look → IsPlaying s →
    IsPlaying (row_fetched look order s)
row_fetched_keeps look order s a q =
    chosen IsPlaying (s.voice.tick == s.voice.gate_timer) (record s { voice = fetch_row look order s.voice }) s
    (with_voice s (fetch_row look order s.voice) q (fetch_keeps look order s.voice a q.voice)) q

after_tick_keeps : (o : Options) (look : LookUps) (order : Order) (t : Ticked) → AreLookUps look → IsPlaying t.playing →
    IsPlaying (after_tick o look order t)
after_tick_keeps o look order t a q =
    chosen IsPlaying t.started t.playing
    (row_fetched look order (pulse_done o look (effect_done o look (wave_step look t.playing)))) q
    (row_fetched_keeps look order (pulse_done o look (effect_done o look (wave_step look t.playing))) a
    (pulse_done_keeps o look (effect_done o look (wave_step look t.playing)) a
    (effect_done_keeps o look (wave_step look t.playing) (wave_keeps look t.playing a q))))

pub voice_keeps : (channel : ℕ) (o : Options) (look : LookUps) (order : Order) (s : Playing) → AreLookUps look →
    IsPlaying s →
    IsPlaying (voice_step channel o look order s)
unfolding voice_step
voice_keeps channel o look order s a q =
    after_tick_keeps o look order (tick_step channel look s) a (tick_keeps channel look s a q)
