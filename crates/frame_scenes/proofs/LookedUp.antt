-- The frequencies that a voice's step looks up are listed: the packed song asks for their numbers.
use Rattle.std.proofs.Common.{◌≡◌, ◌≢◌, ℕ, ◌+◌, ◌%◌, ◌≤◌, arith}
use Rattle.song_model.specs.declared.features.Feature.TheVariants.{NoteDependent}
use Rattle.song_model.specs.declared.songs.Song.{Song}
use Rattle.song_model.specs.declared.tables.TableName.TheVariants.{Speed}
use Rattle.song_model.specs.LookUp.{table_row}
use Rattle.play_model.specs.declared.options.Options.{Options}
use Rattle.play_model.specs.State.{Voice, Playing}
use Rattle.play_model.specs.TickStep.{tick_step}
use Rattle.play_model.specs.WaveStep.{wave_step}
use Rattle.play_model.specs.Frame.{effect_done}
use Rattle.play_model.specs.Reached.{IsPointer}
use Rattle.play_model.specs.Features.{HasFeature}
use Rattle.asked_numbers.specs.Numbers.{IsAskedNumber}
use Rattle.asked_numbers.specs.Range.{IsInRange}
use Rattle.kept_notes.specs.NoteLaws.{LooksUpAsked}
use Rattle.kept_notes.specs.Voices.{IsUsedTimer}
use Rattle.kept_notes.proofs.Laws.{voices_look_up_asked_lem, timers_are_used_lem}
use Rattle.packed_form.specs.declared.packed_songs.PackedSong.{PackedSong}
use Rattle.packed_form.specs.Unpacked.{unpacked_song}
use Rattle.packed_form.specs.StandsFor.{StandsFor}
use Rattle.player_memory.specs.Holds.{look_of, order_in}
use Rattle.slide_code.specs.SlideBlock.{LooksUpWithin}
use Rattle.frame_scenes.proofs.Turns.{IsFine}

-- what a voice looks up is asked for
pub looks_up : (packed : PackedSong) (k voice : ℕ) (s : Playing) → IsFine packed k voice s →
    LooksUpAsked (unpacked_song packed) s.voice
looks_up packed k voice s fine =
    voices_look_up_asked_lem (unpacked_song packed) (order_in packed k voice) s.voice fine.safe.voice fine.notes

-- and its gateoff timer, where it comes to its fetch, is one of the song
pub timer_used : (packed : PackedSong) (o : Options) (k voice : ℕ) (s : Playing) → IsFine packed k voice s →
    IsUsedTimer (unpacked_song packed)
    (effect_done o (look_of packed) (wave_step (look_of packed)
    (tick_step (voice + 1) (look_of packed) s).playing)).voice.gate_timer
timer_used packed o k voice s fine =
    timers_are_used_lem (unpacked_song packed) (order_in packed k voice) (voice + 1) o s fine.safe.voice fine.notes

-- and listed
pub asked_in : (packed : PackedSong) (song : Song) (n : ℕ) → StandsFor packed song →
    IsAskedNumber (unpacked_song packed) n → IsInRange packed.numbers n
asked_in packed song n stands asked = stands.numbers.has n (stands.asks n asked)

-- a speed that is pointed at is calculated
depends : (packed : PackedSong) (p : ℕ) → (p ≢ 0 → IsPointer (unpacked_song packed) Speed p) →
    128 ≤ ((look_of packed).row Speed p).left → HasFeature (unpacked_song packed) NoteDependent
unfolding table_row
depends packed p points from =
    record { p = p; pointer = points (λ at_zero. (let l = rw at_zero at from in omega (arith, l))); from_note = from }

-- a command that moves the frequency looks up such numbers
pub looks_within : (packed : PackedSong) (song : Song) (command : ℕ) (v : Voice) → StandsFor packed song →
    (v.param ≢ 0 → IsPointer (unpacked_song packed) Speed v.param) →
    (command ≡ 3 → IsAskedNumber (unpacked_song packed) (v.note % 128)) →
    (HasFeature (unpacked_song packed) NoteDependent → IsAskedNumber (unpacked_song packed) v.last_note) →
    (HasFeature (unpacked_song packed) NoteDependent → IsAskedNumber (unpacked_song packed) (v.last_note + 1)) →
    LooksUpWithin packed.numbers (look_of packed) command v
looks_within packed song command v stands points target half_tone_from half_tone_to = record {
  target = λ is. asked_in packed song (v.note % 128) stands (target is);
  half_tone_from = λ high.
      asked_in packed song v.last_note stands (half_tone_from (depends packed v.param points high));
  half_tone_to = λ high.
      asked_in packed song (v.last_note + 1) stands (half_tone_to (depends packed v.param points high));
}
