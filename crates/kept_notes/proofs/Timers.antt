-- A voice's gateoff timer at its fetch: the tick step leaves one of the song, and the wave and the effect step leave it.
use Rattle.std.specs.Prelude.{◌==◌}
use Rattle.std.proofs.Common.{◌≡◌, ℕ, ◌%◌, false, rules}
use Rattle.std.proofs.lemmas.Bool.{cond_both}
use Rattle.song_model.specs.declared.instruments.Instrument.{Instrument}
use Rattle.song_model.specs.declared.tables.TableRow.{TableRow}
use Rattle.song_model.specs.declared.songs.Song.{Song}
use Rattle.song_model.specs.LookUp.{instrument_at}
use Rattle.play_model.specs.declared.options.Options.{Options}
use Rattle.play_model.specs.LookUps.{LookUps, look_ups_of}
use Rattle.play_model.specs.Wrap.{byte_minus}
use Rattle.play_model.specs.State.{Voice, Playing}
use Rattle.play_model.specs.Helpers.{porta_up, porta_down, tone, vibrato, do_command}
use Rattle.play_model.specs.TickStep.{Ticked, between_rows, note_started, row_command, at_row, tick_step}
use Rattle.play_model.specs.WaveStep.{Waved, wave_command, left_done, right_done, wave_step}
use Rattle.play_model.specs.EffectStep.{effect_step}
use Rattle.play_model.specs.Frame.{effect_done}
use Rattle.play_model.specs.Used.{IsUsedInstrument}
use Rattle.kept_notes.specs.Voices.{IsUsedTimer, KeepsNotes}
use Rattle.kept_notes.specs.NoteLaws.{TimersAreUsed}
use Rattle.kept_notes.proofs.Ticks.{timer_used}

-- ---- what leaves the timer

effect_leaves : (look : LookUps) (v : Voice) → (effect_step look v).gate_timer ≡ v.gate_timer
unfolding effect_step porta_up porta_down tone vibrato
effect_leaves look v = grind rules

command_leaves : (look : LookUps) (c d : ℕ) (s : Playing) →
    (wave_command look c d s).voice.gate_timer ≡ s.voice.gate_timer
unfolding wave_command porta_up porta_down tone vibrato do_command
command_leaves look c d s = grind rules

left_leaves : (look : LookUps) (row : TableRow) (s : Playing) →
    (left_done look row s).voice.gate_timer ≡ s.voice.gate_timer
left_leaves look row s = grind (rules, command_leaves)

right_leaves : (row : TableRow) (s : Playing) → (right_done row s).playing.voice.gate_timer ≡ s.voice.gate_timer
right_leaves row s = grind rules

wave_leaves : (look : LookUps) (s : Playing) → (wave_step look s).playing.voice.gate_timer ≡ s.voice.gate_timer
unfolding wave_step
wave_leaves look s = grind (rules, left_leaves, right_leaves)

-- ---- the tick step

between_leaves : (channel : ℕ) (s : Playing) → (between_rows channel s).voice.gate_timer ≡ s.voice.gate_timer
unfolding between_rows
between_leaves channel s = grind rules

started_leaves : (i : Instrument) (s : Playing) → (note_started i s).voice.gate_timer ≡ s.voice.gate_timer
unfolding note_started
started_leaves i s = grind rules

row_leaves : (channel : ℕ) (look : LookUps) (i : Instrument) (c d : ℕ) (s : Playing) →
    (row_command channel look i c d s).voice.gate_timer ≡ s.voice.gate_timer
unfolding row_command do_command
row_leaves channel look i c d s = grind rules

row_sets : (channel : ℕ) (look : LookUps) (i : Instrument) (s : Playing) →
    (at_row channel look i s).playing.voice.gate_timer ≡ i.gate_timer % 64
unfolding at_row
row_sets channel look i s = grind (rules, row_leaves, started_leaves)

tick_uses : (song : Song) (channel : ℕ) (s : Playing) → IsUsedInstrument song s.voice.instrument →
    KeepsNotes song s.voice → IsUsedTimer song (tick_step channel (look_ups_of song) s).playing.voice.gate_timer
unfolding tick_step
tick_uses song channel s used q =
    let look = look_ups_of song in
    let tick = byte_minus s.voice.tick 1 in
    let next = record s { voice = record s.voice { tick = tick } } in
    let i = instrument_at song s.voice.instrument in
    cond_both (tick == 0) (at_row channel look i next)
    (record { playing = between_rows channel next; started = false })
    (λ (t : Ticked). IsUsedTimer song t.playing.voice.gate_timer)
    (λ z. record { instrument = s.voice.instrument; used = used; is = row_sets channel look i next })
    (λ z. rw (between_leaves channel next) (timer_used song s.voice z q))

-- ---- a voice at its fetch

effect_done_leaves : (o : Options) (look : LookUps) (w : Waved) →
    (effect_done o look w).voice.gate_timer ≡ w.playing.voice.gate_timer
effect_done_leaves o look w = grind (rules, effect_leaves)

pub timers_are_used_lem : TimersAreUsed
timers_are_used_lem song order channel o s safe q =
    let look = look_ups_of song in
    let ticked = tick_step channel look s in
    rw (effect_done_leaves o look (wave_step look ticked.playing), wave_leaves look ticked.playing)
    (tick_uses song channel s safe.instrument q)
