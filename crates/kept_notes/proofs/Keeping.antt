-- What a voice keeps of notes, numbers and timers, and what of it may change beside them.
use Rattle.std.specs.Prelude.{◌==◌}
use Rattle.std.proofs.Common.{◌≡◌, ◌≢◌, ◌⊎◌, ℕ, ◌%◌, refl, inr}
use Rattle.std.proofs.lemmas.Bool.{cond_both}
use Rattle.song_model.specs.declared.songs.Song.{Song}
use Rattle.play_model.specs.LookUps.{LookUps}
use Rattle.play_model.specs.Wrap.{byte_minus}
use Rattle.play_model.specs.Freq.{freq, slide}
use Rattle.play_model.specs.State.{Voice, Playing}
use Rattle.play_model.specs.Helpers.{porta_up, porta_down, at_target, towards, tone, vibrato, do_command}
use Rattle.play_model.specs.Features.{HasRow, IsAny}
use Rattle.play_model.specs.Safe.{IsSafeWaiting, none, of_row}
use Rattle.asked_numbers.specs.Numbers.{IsPlayedNote, IsSoundingNote, SlidesToNote, of_slide, IsLastNumber}
use Rattle.kept_notes.specs.Voices.{IsKeptNote, sounding, silent, IsUsedTimer, KeepsNotes}

-- ---- the note

-- a note that a wave program or a slide asks for may sound
pub note_of_program : (song : Song) (note wave_ptr command : ℕ) → IsKeptNote song note wave_ptr command →
    wave_ptr ≢ 0 → IsSoundingNote song note
note_of_program song note wave_ptr command (sounding h) some = h
note_of_program song note wave_ptr command (silent note_is stopped quiet) some = absurd (some stopped)

pub note_of_slide : (song : Song) (note wave_ptr command : ℕ) → IsKeptNote song note wave_ptr command →
    command ≡ 3 → IsSoundingNote song note
note_of_slide song note wave_ptr command (sounding h) slides = h
note_of_slide song note wave_ptr command (silent note_is stopped quiet) slides = absurd (quiet slides)

-- what waits is a row's
pub row_waits : (song : Song) (command param : ℕ) → IsSafeWaiting song command param → command ≢ 0 →
    HasRow song command IsAny
row_waits song command param none some = absurd (some refl)
row_waits song command param (of_row h) some =
    record { row = h.row; used = h.used; command_is = h.command_is; is_meant = tt }

-- ---- voices

-- a voice whose note may sound, whatever its wave program and its command
pub record Sounds (song : Song) (v : Voice) : Type 0 where
  pub note : IsSoundingNote song v.note
  pub new_note : v.new_note ≢ 0 → IsPlayedNote song (byte_minus v.new_note 0x60)
  pub last : IsLastNumber song v.last_note
  pub timer : ((v.tick ≡ 1) × (v.gate_timer ≡ 0)) ⊎ IsUsedTimer song v.gate_timer

pub sounds : (song : Song) (v : Voice) → KeepsNotes song v → IsSoundingNote song v.note → Sounds song v
sounds song v q h = record { note = h; new_note = q.new_note; last = q.last; timer = q.timer }

pub keeps : (song : Song) (v : Voice) → Sounds song v → KeepsNotes song v
keeps song v q = record { note = sounding q.note; new_note = q.new_note; last = q.last; timer = q.timer }

-- what is kept whatever else of a voice's sound changes
pub record IsOfNotes (IsSuch : Voice → Type 0) : Type 0 where
  pub sound : (v : Voice) (ad sr wave gate : ℕ) → IsSuch v →
      IsSuch (record v { ad = ad; sr = sr; wave = wave; gate = gate })
  pub pulse : (v : Voice) (ptr time pulse : ℕ) → IsSuch v →
      IsSuch (record v { pulse_ptr = ptr; pulse_time = time; pulse = pulse })
  pub pitch : (v : Voice) (freq time delay : ℕ) → IsSuch v →
      IsSuch (record v { freq = freq; vib_time = time; vib_delay = delay })

pub kept_of_notes : (song : Song) → IsOfNotes (KeepsNotes song)
kept_of_notes song = record {
  sound = λ v ad sr wave gate q. assumption q;
  pulse = λ v ptr time pulse q. assumption q;
  pitch = λ v freq time delay q. assumption q;
}

pub sounds_of_notes : (song : Song) → IsOfNotes (Sounds song)
sounds_of_notes song = record {
  sound = λ v ad sr wave gate q. assumption q;
  pulse = λ v ptr time pulse q. assumption q;
  pitch = λ v freq time delay q. assumption q;
}

-- ---- slides, vibratos and commands

module _ (IsSuch : Voice → Type 0) (of : IsOfNotes IsSuch) where
  pub up_keeps : (look : LookUps) (d : ℕ) (v : Voice) → IsSuch v → IsSuch (porta_up look d v)
  unfolding porta_up
  up_keeps look d v q = of.pitch v _ v.vib_time v.vib_delay q

  pub down_keeps : (look : LookUps) (d : ℕ) (v : Voice) → IsSuch v → IsSuch (porta_down look d v)
  unfolding porta_down
  down_keeps look d v q = of.pitch v _ v.vib_time v.vib_delay q

  pub vibrato_keeps : (look : LookUps) (d : ℕ) (v : Voice) → IsSuch v → IsSuch (vibrato look d v)
  unfolding vibrato
  vibrato_keeps look d v q = of.pitch v _ _ v.vib_delay q

  pub command_keeps : (c d : ℕ) (s : Playing) → IsSuch s.voice → IsSuch (do_command c d s).voice
  unfolding do_command
  command_keeps c d s q =
      cond_both (c == 5) _ _ such (λ h. of.sound v d v.sr v.wave v.gate q)
      (λ h. cond_both (c == 6) _ _ such (λ h. of.sound v v.ad d v.wave v.gate q)
      (λ h. cond_both (c == 7) _ _ such (λ h. of.sound v v.ad v.sr d v.gate q)
      (λ h. cond_both (c == 9) _ _ such (λ h. of.pulse v d 0 v.pulse q)
      (λ h. cond_both (c == 0xA) _ _ such (λ h. q)
      (λ h. cond_both (c == 0xB) _ _ such (λ h. q)
      (λ h. cond_both (c == 0xC) _ _ such (λ h. q)
      (λ h. cond_both (c == 0xD) _ _ such (λ h. q) (λ h. q))))))))
    where
      v : Voice
      v = s.voice

      such : Playing → Type 0
      such s = IsSuch s.voice

-- a slide that comes to its note leaves the note's number
pub tone_sounds : (song : Song) (look : LookUps) (d : ℕ) (v : Voice) → SlidesToNote song → Sounds song v →
    Sounds song (tone look d v)
unfolding tone
tone_sounds song look d v slides q =
    cond_both _ (at_target (freq v.note) v) (towards (freq v.note) (slide look d v.last_note) v) (Sounds song)
    (λ h. at_note (freq v.note) 0)
    (λ h. (sounds_of_notes song).pitch v _ v.vib_time v.vib_delay q)
  where
    at_note : (freq time : ℕ) →
        Sounds song (record v { freq = freq; vib_time = time; last_note = v.note % 128 })
    at_note freq time =
        let last : IsLastNumber song (v.note % 128) = inr (of_slide v.note slides q.note refl) in
        assumption (last, q)
