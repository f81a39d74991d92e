-- The tick step keeps a voice's notes.
use Rattle.std.specs.Prelude.{nat_le, nat_eq, ◌==◌}
use Rattle.std.proofs.Common.{◌≡◌, ◌≢◌, ℕ, ◌%◌, false, refl, inl, inr, arith}
use Rattle.std.proofs.lemmas.Bool.{cond_both, eqb-true, eqb-false, cases_eq}
use Rattle.song_model.specs.declared.instruments.Instrument.{Instrument}
use Rattle.song_model.specs.declared.songs.Song.{Song}
use Rattle.song_model.specs.LookUp.{instrument_at}
use Rattle.play_model.specs.LookUps.{LookUps, look_ups_of}
use Rattle.play_model.specs.Wrap.{byte_minus}
use Rattle.play_model.specs.State.{Voice, Playing}
use Rattle.play_model.specs.TickStep.{Ticked, tempo_of, reloaded, between_rows, note_taken, first_wave_set}
use Rattle.play_model.specs.TickStep.{programs_begun, taken, note_started, row_command, note_ended, gate_timer_set}
use Rattle.play_model.specs.TickStep.{at_row, tick_step}
use Rattle.play_model.specs.Used.{IsUsedInstrument}
use Rattle.play_model.specs.Features.{HasRow, IsAny}
use Rattle.play_model.specs.Safe.{IsSafeWaiting}
use Rattle.asked_numbers.specs.Numbers.{of_pattern, of_start, IsSoundingNote}
use Rattle.kept_notes.specs.Voices.{IsKeptNote, sounding, silent, IsUsedTimer, KeepsNotes}
use Rattle.kept_notes.proofs.Keeping.{row_waits, Sounds, keeps, kept_of_notes, sounds_of_notes, command_keeps}

-- ---- the tick and the timer

-- any tick, with a timer of the song
timed_keeps : (song : Song) (v : Voice) (tick timer : ℕ) → IsUsedTimer song timer → KeepsNotes song v →
    KeepsNotes song (record v { tick = tick; gate_timer = timer })
timed_keeps song v tick timer used q = record { note = q.note; new_note = q.new_note; last = q.last; timer = inr used }

-- where no row is due, a voice has a timer of the song
pub timer_used : (song : Song) (v : Voice) → nat_eq (byte_minus v.tick 1) 0 ≡ false → KeepsNotes song v →
    IsUsedTimer song v.gate_timer
timer_used song v later q = elim q.timer [
  | inl before ↦ absurd (let passed = eqb-false (byte_minus v.tick 1) 0 later in passed (rw before.0 refl))
  | inr used ↦ used
]

-- ---- between rows

between_keeps : (song : Song) (channel : ℕ) (s : Playing) → IsUsedTimer song s.voice.gate_timer →
    KeepsNotes song s.voice → KeepsNotes song (between_rows channel s).voice
unfolding between_rows
between_keeps song channel s used q =
    cond_both (nat_le 0x80 s.voice.tick) (reloaded channel (tempo_of channel s.common) s) s such
    (λ h. cond_both (nat_le 2 (tempo_of channel s.common)) _ _ such
    (λ z. timed_keeps song s.voice _ s.voice.gate_timer used q)
    (λ z. timed_keeps song s.voice _ s.voice.gate_timer used q))
    (λ h. q)
  where
    such : Playing → Type 0
    such s = KeepsNotes song s.voice

-- ---- a note that starts

note_taken_sounds : (song : Song) (i : Instrument) (v : Voice) → v.new_note ≢ 0 → KeepsNotes song v →
    Sounds song (note_taken i v)
note_taken_sounds song i v some q =
    let note : IsSoundingNote song (byte_minus v.new_note 0x60) = of_pattern (q.new_note some) in assumption (note, q)

first_wave_sounds : (song : Song) (wave : ℕ) (v : Voice) → Sounds song v → Sounds song (first_wave_set wave v)
first_wave_sounds song wave v q =
    cond_both (nat_le 0xFE wave) _ _ (Sounds song) (λ h. (sounds_of_notes song).sound v v.ad v.sr v.wave wave q)
    (λ h. cond_both (wave == 0) v _ (Sounds song) (λ h. q)
    (λ h. (sounds_of_notes song).sound v v.ad v.sr wave 0xFF q))

begun_voice : (song : Song) (v : Voice) (wave ptr time ad sr : ℕ) → Sounds song v →
    Sounds song (record v { wave_ptr = wave; wave_time = 0; pulse_ptr = ptr; pulse_time = time; ad = ad; sr = sr })
begun_voice song v wave ptr time ad sr q = assumption q

programs_sound : (song : Song) (i : Instrument) (s : Playing) → Sounds song s.voice →
    Sounds song (programs_begun i s).voice
programs_sound song i s q = begun_voice song s.voice i.wave _ _ i.ad i.sr q

taken_sounds : (song : Song) (i : Instrument) (s : Playing) → s.voice.new_note ≢ 0 → KeepsNotes song s.voice →
    Sounds song (taken i s).voice
taken_sounds song i s some q =
    let note = note_taken_sounds song i s.voice some q in
    cond_both (s.voice.new_command == 3) _ _ (λ (s : Playing). Sounds song s.voice) (λ h. note)
    (λ h. programs_sound song i (record s { voice = first_wave_set i.first_wave (note_taken i s.voice) })
    (first_wave_sounds song i.first_wave (note_taken i s.voice) note))

started_keeps : (song : Song) (i : Instrument) (s : Playing) → KeepsNotes song s.voice →
    KeepsNotes song (note_started i s).voice
unfolding note_started
started_keeps song i s q =
    cond_both (s.voice.new_note == 0) s (taken i s) (λ (s : Playing). KeepsNotes song s.voice) (λ h. q)
    (λ h. keeps song (taken i s).voice (taken_sounds song i s (eqb-false s.voice.new_note 0 h) q))

-- ---- the row's command

-- a command that runs from now on: only 3 asks for the note
command_runs : (song : Song) (note wave_ptr old command : ℕ) → (command ≡ 3 → HasRow song 3 IsAny) →
    IsKeptNote song note wave_ptr old → IsKeptNote song note wave_ptr command
command_runs song note wave_ptr old command has (sounding h) = sounding h
command_runs song note wave_ptr old command has (silent note_is stopped quiet) = elim (cases_eq command 3) [
  | inl slides ↦ sounding (of_start note_is (inl (has slides)))
  | inr other ↦ silent note_is stopped other
]

-- a wave program that a row begins
program_begins : (song : Song) (note old command wave_ptr : ℕ) → HasRow song 8 IsAny →
    IsKeptNote song note old command → IsKeptNote song note wave_ptr command
program_begins song note old command wave_ptr has (sounding h) = sounding h
program_begins song note old command wave_ptr has (silent note_is stopped quiet) =
    sounding (of_start note_is (inr has))

runs_keeps : (song : Song) (v : Voice) (command param time : ℕ) → (command ≡ 3 → HasRow song 3 IsAny) →
    KeepsNotes song v → KeepsNotes song (record v { command = command; param = param; vib_time = time })
runs_keeps song v command param time has q =
    let note = command_runs song v.note v.wave_ptr v.command command has q.note in assumption (note, q)

wave_keeps : (song : Song) (v : Voice) (wave_ptr : ℕ) → HasRow song 8 IsAny → KeepsNotes song v →
    KeepsNotes song (record v { wave_ptr = wave_ptr; wave_time = 0 })
wave_keeps song v wave_ptr has q =
    let note = program_begins song v.note v.wave_ptr v.command wave_ptr has q.note in assumption (note, q)

row_command_keeps : (song : Song) (channel : ℕ) (look : LookUps) (i : Instrument) (c d : ℕ) (s : Playing) →
    IsSafeWaiting song c d → KeepsNotes song s.voice → KeepsNotes song (row_command channel look i c d s).voice
unfolding row_command
row_command_keeps song channel look i c d s w q =
    cond_both (c == 0) _ _ such
    (λ h. runs_keeps song s.voice 0 i.vibrato s.voice.vib_time (λ e. absurd (omega (arith, e))) q)
    (λ z. cond_both (nat_le c 2) _ _ such (λ h. runs_keeps song s.voice c d 0 slides q)
    (λ h. cond_both (nat_le c 4) _ _ such (λ h. runs_keeps song s.voice c d s.voice.vib_time slides q)
    (λ h. cond_both (c == 8) _ _ such (λ h. wave_keeps song s.voice d (begins (eqb-true c 8 h)) q)
    (λ h. cond_both (c == 0xE) _ _ such (λ h. q)
    (λ h. cond_both (c == 0xF) _ _ such (λ h. q)
    (λ h. command_keeps (KeepsNotes song) (kept_of_notes song) c d s q))))))
  where
    such : Playing → Type 0
    such s = KeepsNotes song s.voice

    slides : c ≡ 3 → HasRow song 3 IsAny
    slides e = rw e at (row_waits song c d w (λ z. omega (arith, z, e)))

    begins : c ≡ 8 → HasRow song 8 IsAny
    begins e = rw e at (row_waits song c d w (λ z. omega (arith, z, e)))

-- ---- the whole step

ended_keeps : (song : Song) (s : Playing) → KeepsNotes song s.voice → KeepsNotes song (note_ended s).playing.voice
ended_keeps song s q =
    record { note = q.note; new_note = λ some. absurd (some refl); last = q.last; timer = q.timer }

at_row_keeps : (song : Song) (channel : ℕ) (look : LookUps) (i : Instrument) (s : Playing) →
    IsSafeWaiting song s.voice.new_command s.voice.new_param → KeepsNotes song (gate_timer_set i s).voice →
    KeepsNotes song (at_row channel look i s).playing.voice
unfolding at_row
at_row_keeps song channel look i s w q =
    let started = note_started i (gate_timer_set i s) in
    ended_keeps song (row_command channel look i s.voice.new_command s.voice.new_param started)
    (row_command_keeps song channel look i s.voice.new_command s.voice.new_param started w
    (started_keeps song i (gate_timer_set i s) q))

pub tick_keeps : (song : Song) (channel : ℕ) (s : Playing) → IsUsedInstrument song s.voice.instrument →
    IsSafeWaiting song s.voice.new_command s.voice.new_param → KeepsNotes song s.voice →
    KeepsNotes song (tick_step channel (look_ups_of song) s).playing.voice
unfolding tick_step
tick_keeps song channel s used w q =
    let tick = byte_minus s.voice.tick 1 in
    let next = record s { voice = record s.voice { tick = tick } } in
    let i = instrument_at song s.voice.instrument in
    cond_both (tick == 0) (at_row channel (look_ups_of song) i next)
    (record { playing = between_rows channel next; started = false })
    (λ (t : Ticked). KeepsNotes song t.playing.voice)
    (λ z. at_row_keeps song channel (look_ups_of song) i next w
    (timed_keeps song s.voice tick (i.gate_timer % 64)
    (record { instrument = s.voice.instrument; used = used; is = refl }) q))
    (λ z. let timer = timer_used song s.voice z q in
    between_keeps song channel next timer (timed_keeps song s.voice tick s.voice.gate_timer timer q))
