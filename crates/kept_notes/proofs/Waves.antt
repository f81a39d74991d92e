-- The wave step and the effect step keep a voice's notes.
use Rattle.std.specs.Prelude.{nat_lt, nat_le, not, ◌==◌, ◌&&◌, ◌||◌}
use Rattle.std.proofs.Common.{◌≡◌, ℕ, ◌-◌, ◌≤◌, true, false, refl, inl, inr, arith}
use Rattle.std.proofs.lemmas.Bool.{cond_both, and_parts, eqb-true, eqb-false, leb-true}
use Rattle.song_model.specs.declared.tables.TableRow.{TableRow}
use Rattle.song_model.specs.declared.tables.TableName.TheVariants.{Wave}
use Rattle.song_model.specs.declared.songs.Song.{Song}
use Rattle.song_model.specs.LookUp.{table_row}
use Rattle.play_model.specs.LookUps.{LookUps, look_ups_of}
use Rattle.play_model.specs.Wrap.{byte_plus}
use Rattle.play_model.specs.Freq.{freq}
use Rattle.play_model.specs.State.{Voice, Playing}
use Rattle.play_model.specs.Helpers.{tone, vibrato}
use Rattle.play_model.specs.WaveStep.{Waved, wave_command, is_wave_command, left_done, program_moved, wave_note}
use Rattle.play_model.specs.WaveStep.{with_note, right_done, wave_row, wave_step}
use Rattle.play_model.specs.EffectStep.{instrument_vibrato, effect_step}
use Rattle.play_model.specs.Reached.{IsReached, IsStep}
use Rattle.play_model.specs.Safe.{IsSafePointer, IsSafeRunning, none, of_instrument, of_row}
use Rattle.safe_states.proofs.Laws.{is_step}
use Rattle.asked_numbers.specs.Numbers.{SlidesToNote, IsLastNumber, of_wave_row}
use Rattle.kept_notes.specs.Voices.{KeepsNotes}
use Rattle.kept_notes.proofs.Keeping.{note_of_program, note_of_slide, Sounds, sounds, keeps, IsOfNotes}
use Rattle.kept_notes.proofs.Keeping.{kept_of_notes}
use Rattle.kept_notes.proofs.Keeping.{sounds_of_notes, up_keeps, down_keeps, vibrato_keeps, command_keeps}
use Rattle.kept_notes.proofs.Keeping.{tone_sounds}

-- ---- the running command

-- a running command 3 is a row's
pub slide_runs : (song : Song) (command param : ℕ) → IsSafeRunning song command param → command ≡ 3 →
    SlidesToNote song
slide_runs song command param none e = absurd (omega (arith, e))
slide_runs song command param (of_instrument i used) e = absurd (omega (arith, e))
slide_runs song command param (of_row least most h) e =
    inl (record { row = h.row; used = h.used; command_is = rw (← e) h.command_is; is_meant = tt })

instrument_vibrato_keeps : (song : Song) (look : LookUps) (v : Voice) → KeepsNotes song v →
    KeepsNotes song (instrument_vibrato look v)
instrument_vibrato_keeps song look v q =
    cond_both _ v _ (KeepsNotes song) (λ h. q)
    (λ h. cond_both (nat_le 2 v.vib_delay) _ (vibrato look v.param v) (KeepsNotes song)
    (λ h. (kept_of_notes song).pitch v v.freq v.vib_time (v.vib_delay - 1) q)
    (λ h. vibrato_keeps (KeepsNotes song) (kept_of_notes song) look v.param v q))

pub effect_keeps : (song : Song) (look : LookUps) (v : Voice) → IsSafeRunning song v.command v.param →
    KeepsNotes song v → KeepsNotes song (effect_step look v)
unfolding effect_step
effect_keeps song look v r q =
    cond_both (v.command == 0) _ _ such (λ h. instrument_vibrato_keeps song look v q)
    (λ h. cond_both (v.command == 1) _ _ such (λ h. up_keeps such of look v.param v q)
    (λ h. cond_both (v.command == 2) _ _ such (λ h. down_keeps such of look v.param v q)
    (λ h. cond_both (v.command == 3) _ _ such (λ h. slid (eqb-true v.command 3 h))
    (λ h. cond_both (v.command == 4) _ _ such (λ h. vibrato_keeps such of look v.param v q) (λ h. q)))))
  where
    such : Voice → Type 0
    such = KeepsNotes song

    of : IsOfNotes (KeepsNotes song)
    of = kept_of_notes song

    slid : v.command ≡ 3 → KeepsNotes song (tone look v.param v)
    slid e =
        keeps song (tone look v.param v)
        (tone_sounds song look v.param v (slide_runs song v.command v.param r e)
        (sounds song v q (note_of_slide song v.note v.wave_ptr v.command q.note e)))

-- ---- the wave step

wave_command_sounds : (song : Song) (look : LookUps) (c d : ℕ) (s : Playing) → (c ≡ 3 → SlidesToNote song) →
    Sounds song s.voice → Sounds song (wave_command look c d s).voice
unfolding wave_command
wave_command_sounds song look c d s slides q =
    cond_both ((c == 0) || (c == 8) || (c == 0xE)) s _ such (λ h. q)
    (λ h. cond_both (c == 1) _ _ such (λ h. up_keeps (Sounds song) of look d s.voice q)
    (λ h. cond_both (c == 2) _ _ such (λ h. down_keeps (Sounds song) of look d s.voice q)
    (λ h. cond_both (c == 3) _ _ such (λ h. tone_sounds song look d s.voice (slides (eqb-true c 3 h)) q)
    (λ h. cond_both (c == 4) _ _ such (λ h. vibrato_keeps (Sounds song) of look d s.voice q)
    (λ h. command_keeps (Sounds song) of c d s q)))))
  where
    of : IsOfNotes (Sounds song)
    of = sounds_of_notes song

    such : Playing → Type 0
    such s = Sounds song s.voice

-- a reached row that is command 3
pub wave_slides : (song : Song) (p : ℕ) → IsReached song Wave p → (table_row song Wave p).left ≡ 0xF3 →
    SlidesToNote song
wave_slides song p reached left = inr (record { p = p; reached = reached; command_is = left; is_meant = tt })

left_three : (left : ℕ) → 0xF0 ≤ left → left - 0xF0 ≡ 3 → left ≡ 0xF3
left_three left low e = omega arith

left_sounds : (song : Song) (p : ℕ) (s : Playing) → IsReached song Wave p → Sounds song s.voice →
    Sounds song (left_done (look_ups_of song) (table_row song Wave p) s).voice
left_sounds song p s reached q =
    cond_both (nat_le 0x10 row.left && nat_le row.left 0xDF) _ _ such (λ h. waveform row.left)
    (λ h. cond_both (nat_le 0xE0 row.left && nat_le row.left 0xEF) _ _ such (λ h. waveform (row.left - 0xE0))
    (λ h. cond_both (is_wave_command row) (wave_command (look_ups_of song) (row.left - 0xF0) row.right s) s such
    (λ h. command (leb-true 0xF0 row.left (and_parts _ _ h).0)) (λ h. q)))
  where
    row : TableRow
    row = table_row song Wave p

    such : Playing → Type 0
    such s = Sounds song s.voice

    waveform : (n : ℕ) → Sounds song (record s.voice { wave = n })
    waveform n = (sounds_of_notes song).sound s.voice s.voice.ad s.voice.sr n s.voice.gate q

    command : 0xF0 ≤ row.left → Sounds song (wave_command (look_ups_of song) (row.left - 0xF0) row.right s).voice
    command low =
        wave_command_sounds song (look_ups_of song) (row.left - 0xF0) row.right s
        (λ e. wave_slides song p reached (left_three row.left low e)) q

moved_sounds : (song : Song) (look : LookUps) (p : ℕ) (s : Playing) → Sounds song s.voice →
    Sounds song (program_moved look p s).voice
moved_sounds song look p s q = assumption q

right_sounds : (song : Song) (p : ℕ) (s : Playing) → IsStep song Wave p → Sounds song s.voice →
    Sounds song (right_done (table_row song Wave p) s).playing.voice
right_sounds song p s step q =
    cond_both (is_wave_command row) (record { playing = s; effect = false }) _ such (λ h. q)
    (λ h. cond_both (row.right == 0x80) (record { playing = s; effect = true })
    (record { playing = record s { voice = with_note (wave_note row.right s.voice.note) s.voice }; effect = false })
    such (λ h. q)
    (λ z. with_number (freq (wave_note row.right s.voice.note)) 0
    (inr (of_wave_row p s.voice.note
    (record { step = step; no_command = h; sets = eqb-false row.right 0x80 z }) q.note refl))))
  where
    row : TableRow
    row = table_row song Wave p

    such : Waved → Type 0
    such w = Sounds song w.playing.voice

    with_number : (freq time : ℕ) → IsLastNumber song (wave_note row.right s.voice.note) →
        Sounds song
        (record s.voice { freq = freq; last_note = wave_note row.right s.voice.note; vib_time = time })
    with_number freq time last = assumption (last, q)

wave_time_keeps : (song : Song) (v : Voice) (n : ℕ) → Sounds song v → Sounds song (record v { wave_time = n })
wave_time_keeps song v n q = assumption q

wave_row_sounds : (song : Song) (s : Playing) → IsStep song Wave s.voice.wave_ptr → Sounds song s.voice →
    Sounds song (wave_row (look_ups_of song) (table_row song Wave s.voice.wave_ptr) s).playing.voice
wave_row_sounds song s step q =
    cond_both (nat_lt row.left 0x10 && not (s.voice.wave_time == row.left))
    (record {
      playing = record s { voice = record s.voice { wave_time = byte_plus s.voice.wave_time 1 } };
      effect = true;
    })
    (right_done row (program_moved look p (left_done look row s)))
    (λ (w : Waved). Sounds song w.playing.voice)
    (λ h. wave_time_keeps song s.voice (byte_plus s.voice.wave_time 1) q)
    (λ h. right_sounds song p (program_moved look p (left_done look row s)) step
    (moved_sounds song look p (left_done look row s) (left_sounds song p s step.reached q)))
  where
    p : ℕ
    p = s.voice.wave_ptr

    look : LookUps
    look = look_ups_of song

    row : TableRow
    row = table_row song Wave p

pub wave_keeps : (song : Song) (s : Playing) → IsSafePointer song Wave s.voice.wave_ptr → KeepsNotes song s.voice →
    KeepsNotes song (wave_step (look_ups_of song) s).playing.voice
unfolding wave_step
wave_keeps song s safe q =
    cond_both (s.voice.wave_ptr == 0) (record { playing = s; effect = true })
    (wave_row (look_ups_of song) (table_row song Wave s.voice.wave_ptr) s)
    (λ (w : Waved). KeepsNotes song w.playing.voice) (λ h. q)
    (λ h. let some = eqb-false s.voice.wave_ptr 0 h in
    keeps song (wave_row (look_ups_of song) (table_row song Wave s.voice.wave_ptr) s).playing.voice
    (wave_row_sounds song s (is_step song Wave s.voice.wave_ptr safe some)
    (sounds song s.voice q (note_of_program song s.voice.note s.voice.wave_ptr s.voice.command q.note some))))
